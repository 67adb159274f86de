use Rattle.std.proofs.Common.{◌∙◌, ap, sym, take}
use Rattle.ox_outside.specs.Disk.{Disk, synced_disk}
use Rattle.ox_memsite.specs.World.{disk_step, disk_after}
use Rattle.ox_memsite.specs.declared.step.Step.{Step}
use Rattle.ox_memsite.proofs.Replayed.{disk_after_more}
use Rattle.ox_memsite.proofs.crash.replay_of.Goals as goal

pub loop-step-preserved : goal.loop-step-preserved
loop-step-preserved c =
    let step = c.step-item.result in
    c.in_ok-follow.ensures
    ∙ ap (λ (d : Disk). disk_step c.args.file d step) c.loop-step.invariant
    ∙ ap (λ (s : Step). disk_step c.args.file (disk_after c.args.file (synced_disk c.args.first.now) (take c.loop-step.step-index c.args.steps.now)) s) c.step-item.is
    ∙ sym (disk_after_more c.args.file (synced_disk c.args.first.now) c.args.steps.now c.loop-step.step-index step c.loop-step-test.true)

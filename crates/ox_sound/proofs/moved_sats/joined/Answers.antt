use Rattle.std.proofs.Common.{◌∙◌, ap, sym}
use Rattle.std.proofs.lemmas.List.{take_all}
use Rattle.ox_range.specs.Runs.{numbers_of}
use Rattle.ox_range.specs.declared.runs.Run.{Run}
use Rattle.ox_range.proofs.RunLemmas.{numbers-none}
use Rattle.ox_sound.proofs.KeepsPassLemmas.{joined_more}
use Rattle.ox_sound.proofs.moved_sats.joined.Goals as goal

pub loop-run-init : goal.loop-run-init
loop-run-init c = c.empty-list.ensures ∙ sym numbers-none

pub loop-run-preserved : goal.loop-run-preserved
loop-run-preserved c =
    let d : Run = record { first = 0; count = 0 } in
    joined_more c.args.runs.now c.loop-run.run-index d c.loop-run.list c.put_behind.new.list c.loop-run-test.true c.loop-run.invariant (c.in_ok-put_behind.ensures c.if-not-branch.false)

pub put_behind-requires : goal.put_behind-requires
put_behind-requires c = let d : Run = record { first = 0; count = 0 } in c.requires c.loop-run.run-index d c.loop-run-test.true

pub returns : goal.returns
returns c = c.loop-run.invariant ∙ ap numbers_of (take_all c.loop-run.run-index c.args.runs.now c.loop-run-test.false)

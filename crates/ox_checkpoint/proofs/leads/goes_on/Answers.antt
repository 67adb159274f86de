use Rattle.std.proofs.Common.{◌∙◌, sym}
use Rattle.ox_model.specs.Change.{redone}
use Rattle.ox_plain.specs.Plain.{index_in}
use Rattle.ox_sound.proofs.SoundLemmas.{Decides-sound}
use Rattle.ox_checkpoint.proofs.leads.goes_on.Goals as goal

pub returns-then-keeps : goal.returns-then-keeps
returns-then-keeps c = record {
  told = sym ((Decides-sound c.args.p.now (redone (index_in c.args.index.now) c.args.change.now)).1 (c.in_ok-keeps.ensures c.if-keeps.true));
  leads = rw (c.in_ok-step.ensures.told ∙ c.requires.begins) at c.in_ok-step.ensures.leads;
}

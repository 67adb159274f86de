use Rattle.ox_model.specs.Change.{redone}
use Rattle.ox_model.specs.Sound.{IsSound}
use Rattle.ox_plain.specs.Plain.{index_in}
use Rattle.ox_sound.specs.Keeps.{Keeps}
use Rattle.ox_sound.proofs.KeepsPassLemmas.{answer_weaker}
use Rattle.ox_sound.proofs.KeepsRunesLemmas.{sound_after}
use Rattle.ox_sound.proofs.keeps.keeps_sound.Goals as goal

pub returns : goal.returns
returns c =
    answer_weaker c.does_keep.result (Keeps c.args.p.now (index_in c.args.before.now) c.args.change.now) (IsSound c.args.p.now (redone (index_in c.args.before.now) c.args.change.now))
    (λ keeps. sound_after c.args.p.now (index_in c.args.before.now) c.args.change.now c.requires.sound c.requires.begins keeps) c.does_keep.ensures

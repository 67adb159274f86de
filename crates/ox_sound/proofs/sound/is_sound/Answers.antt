use Rattle.ox_plain.specs.Plain.{index_in}
use Rattle.ox_sound.specs.Sound.{sound}
use Rattle.ox_sound.proofs.PassLemmas.{answer_holds}
use Rattle.ox_sound.proofs.SoundLemmas.{Decides-sound}
use Rattle.ox_sound.proofs.sound.is_sound.Goals as goal

pub returns-clause-holds : goal.returns-clause-holds
returns-clause-holds c =
    let index = index_in c.args.index.now in
    answer_holds c.passes.result (sound c.args.p.now index) (Decides-sound c.args.p.now index) c.passes.ensures

use Rattle.std.specs.Prelude.{◌++◌}
use Rattle.ox_rules.specs.Outputs.{sats_held}
use Rattle.ox_plain.specs.Plain.{index_in}
use Rattle.ox_sound.specs.Once.{stand_once}
use Rattle.ox_sound.specs.Sound.{sats_pass}
use Rattle.ox_sound.proofs.PassLemmas.{same_answer, sats_are}
use Rattle.ox_sound.proofs.sound.are_sats_sound.Goals as goal

pub returns : goal.returns
returns c =
    let index = index_in c.args.index.now in
    same_answer c.are_once.result (stand_once c.first-first.result (sats_held index.outs ++ index.lost)) (sats_pass c.args.p.now index)
    (sats_are c.args.p.now index c.len.result c.first-first.result c.len.ensures c.first-first.ensures.value) c.are_once.ensures

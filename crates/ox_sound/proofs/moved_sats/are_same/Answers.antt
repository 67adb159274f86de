use Rattle.std.proofs.Common.{◌∙◌, sym, ap}
use Rattle.std.proofs.lemmas.Slice.Eq.{slice_eq-Decides}
use Rattle.ox_range.specs.Runs.{numbers_of}
use Rattle.ox_plain.proofs.SameLemmas.{same_run, same_run-Decides}
use Rattle.ox_sound.proofs.moved_sats.are_same.Goals as goal

pub returns : goal.returns
returns c = λ yes.
    let decides = slice_eq-Decides {E = same_run} same_run-Decides c.runs.result.now c.runs-2.result.now c.eq.result c.eq.ensures in
    sym c.runs.ensures.numbers ∙ ap numbers_of (decides.0 yes) ∙ c.runs-2.ensures.numbers

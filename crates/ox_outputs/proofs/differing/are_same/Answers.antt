use Rattle.std.proofs.Common.{◌∙◌, sym, ap}
use Rattle.std.proofs.lemmas.Slice.Eq.{slice_eq-Decides}
use Rattle.ox_range.specs.Runs.{numbers_of, runs_of}
use Rattle.ox_outputs.proofs.DifferingRows.{same_run, same_run-Decides}
use Rattle.ox_outputs.proofs.differing.are_same.Goals as goal

pub returns : goal.returns
returns c =
    let decides = slice_eq-Decides {E = same_run} same_run-Decides c.runs.result.now c.runs-2.result.now c.eq.result c.eq.ensures in (
      λ same. sym c.runs.ensures.numbers ∙ ap numbers_of (decides.0 same) ∙ c.runs-2.ensures.numbers,
      λ same. decides.1 (c.runs.ensures.exact ∙ ap runs_of same ∙ sym c.runs-2.ensures.exact),
    )

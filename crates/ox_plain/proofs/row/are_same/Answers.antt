use Rattle.std.proofs.Common.{◌∙◌, sym, ap}
use Rattle.std.specs.Prelude.{bytes_eq}
use Rattle.std.proofs.lemmas.Bool.Decides.{same_from_decides}
use Rattle.std.proofs.lemmas.Slice.Eq.{bytes_eq-Decides, slice_eq-Decides}
use Rattle.ox_range.specs.Runs.{numbers_of, runs_of}
use Rattle.ox_plain.proofs.SameLemmas.{same_run, same_run-Decides}
use Rattle.ox_plain.proofs.row.are_same.Goals as goal

pub returns : goal.returns
returns c =
    let decides = slice_eq-Decides {E = same_run} same_run-Decides c.runs.result.now c.runs-2.result.now c.eq.result c.eq.ensures in
    same_from_decides c.eq.result (bytes_eq c.args.sats.now c.args.others.now) (
      λ same. sym c.runs.ensures.numbers ∙ ap numbers_of (decides.0 same) ∙ c.runs-2.ensures.numbers,
      λ same. decides.1 (c.runs.ensures.exact ∙ ap runs_of same ∙ sym c.runs-2.ensures.exact),
    )
    (bytes_eq-Decides c.args.sats.now c.args.others.now)

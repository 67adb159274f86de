use Rattle.std.proofs.Common.{◌∙◌, ℕ, [], ap, sym}
use Rattle.std.specs.Prelude.{Result, Ok, Err}
use Rattle.std.proofs.lemmas.List.{append-nil}
use Rattle.ox_model.specs.Index.{Index}
use Rattle.ox_plain.specs.Plain.{index_in}
use Rattle.ox_rows.specs.RowSpelling.{index_rows}
use Rattle.ox_index_rows.proofs.plain.read_again.Goals as goal

-- the index that a reading gave, else another one
abbrev found_or : Index → Result (Index × ℕ) ℕ → Index
found_or other (Ok x) = x.0
found_or other (Err at) = other

pub returns-in-Ok : goal.returns-in-Ok
returns-in-Ok c =
    let index : Index = index_in c.args.index.now in
    let is = c.as_slice.ensures ∙ c.in_ok-rows.ensures.rows ∙ sym (append-nil (index_rows index)) in
    sym (ap (found_or index) (c.in-Ok.ensures.only index [] c.in_ok-rows.ensures.fits is))

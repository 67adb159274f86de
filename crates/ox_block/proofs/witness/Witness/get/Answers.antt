use Rattle.std.proofs.Common.{◌≡◌, sym, ap, ◌∙◌, List, ℕ, Bor, Result, Ok, Err}
use Rattle.std.specs.Prelude.{option_copied, slice_get}
use Rattle.std.specs.Result.{result_ok}
use Rattle.ox_bytes.specs.declared.fault.FieldFault.{FieldFault}
use Rattle.ox_bytes.specs.Reading.{Gives}
use Rattle.ox_block.specs.Witness.{strings_in, string_behind}
use Rattle.ox_block.proofs.StringsInTurn.{item_found}
use Rattle.ox_block.proofs.witness.Witness.get.Goals as goal

given : (result : Result (Bor (List ℕ)) FieldFault) (read : Result (List ℕ) ℕ) → Gives (λ (item : Bor (List ℕ)). item.now) result read → option_copied (result_ok result) ≡ result_ok read
given (Ok item) read is = ap result_ok (sym is)
given (Err fault) read is = ap result_ok (sym is)

pub returns : goal.returns
returns c =
    let items : List (List ℕ) = strings_in c.self.inside.count c.self.inside.bytes.items in
    ap option_copied c.ok.ensures.value
    ∙ given c.string_behind.result (string_behind c.args.place c.as_slice.result.now) c.string_behind.ensures
    ∙ ap (λ (t : List ℕ). result_ok (string_behind c.args.place t)) (c.as_slice.ensures.value ∙ sym c.self.invariant.spelled)
    ∙ item_found c.args.place items c.self.invariant.lengths
    ∙ ap (λ (xs : List (List ℕ)). slice_get xs c.args.place) c.self.view_is

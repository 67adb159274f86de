-- A number that is told exactly where a rune has something is the first such rune's.
use Rattle.std.proofs.Common.{◌≡◌, ◌∙◌, ◌≤◌, ◌<◌, ℕ, Bool, true, false, cond, List, length, get_or, refl, sym, ap, arith, Option, Some, None, nat_lt}
use Rattle.std.specs.Option.{IfSome}
use Rattle.std.specs.Prelude.{◌==◌, ◌↔◌, option_map, position, slice_get}
use Rattle.std.specs.List.{position_or_len}
use Rattle.std.proofs.lemmas.Bool.{ltb-false}
use Rattle.std.proofs.lemmas.Bool.Decides.{Decides-eqb}
use Rattle.std.proofs.lemmas.List.Quantifiers.{position-Some}
use Rattle.std.proofs.lemmas.List.Sums.{fails_before_first}
use Rattle.std.proofs.lemmas.Option.{get_or_from_slice_get, slice_get-get_or, slice_get_within}
use Rattle.ox_runestone.specs.declared.stone.RuneId.{RuneId}
use Rattle.ox_allocation.specs.Balances.{is_same}
use Rattle.ox_allocation.proofs.Ids.{same_id, same_itself}
use Rattle.ox_etching.specs.declared.row.RuneRow.{RuneRow}
use Rattle.ox_ledger.specs.Block.{first_rune}
use Rattle.ox_ledger.specs.Shown.{HasAt}
use Rattle.ox_model.specs.Found.{by_id, by_name}

none_past : (p : RuneRow → Bool) (runes : List RuneRow) → position p runes ≡ None → length runes ≤ position_or_len p runes
none_past p runes is = by_test (nat_lt (position_or_len p runes) (length runes)) refl is where
  by_test : (b : Bool) → nat_lt (position_or_len p runes) (length runes) ≡ b → cond b (Some (position_or_len p runes)) None ≡ None → length runes ≤ position_or_len p runes
  by_test true test none = absurd (cc none)
  by_test false test none = ltb-false _ _ test

none_passes : (p : RuneRow → Bool) (runes : List RuneRow) (n : ℕ) (row : RuneRow) → position p runes ≡ None → slice_get runes n ≡ Some row → p row ≡ false
none_passes p runes n row none there =
    let within : n < length runes = slice_get_within runes n row there in
    let fails : p (get_or runes n row) ≡ false = fails_before_first p runes n row (omega (arith, within, none_past p runes none)) in
    ap p (sym (get_or_from_slice_get runes n row row there)) ∙ fails

-- the row that has it
record Having {A : Type 0} (of : RuneRow → A) (value : A) (o : Option RuneRow) : Type 0 where
  row : RuneRow
  there : o ≡ Some row
  has : of row ≡ value

having : {A : Type 0} (of : RuneRow → A) (value : A) (o : Option RuneRow) → option_map of o ≡ Some value → Having of value o
having of value (Some row) is = record { row = row; there = refl; has = some_same (of row) value is } where
  some_same : {X : Type 0} (x y : X) → Some x ≡ Some y → x ≡ y
  some_same x y same = cc
having of value None is = absurd (cc is)

told_first : {A : Type 0} (of : RuneRow → A) (value : A) (p : RuneRow → Bool) (runes : List RuneRow) (found : Option ℕ)
    → ((row : RuneRow) → p row ≡ true → of row ≡ value) → ((row : RuneRow) → of row ≡ value → p row ≡ true)
    → ((n : ℕ) → (found ≡ Some n) ↔ HasAt of runes n value) → found ≡ position p runes
told_first of value p runes found sound whole exact = by_position (position p runes) refl where
  none_found : position p runes ≡ None → (o : Option ℕ) → found ≡ o → o ≡ None
  none_found none None is = refl
  none_found none (Some n) is =
      let has = having of value (slice_get runes n) ((exact n).0 is) in
      let fails : p has.row ≡ false = none_passes p runes n has.row none has.there in
      let passes : p has.row ≡ true = whole has.row has.has in
      absurd (cc (sym fails ∙ passes))

  by_position : (o : Option ℕ) → position p runes ≡ o → found ≡ o
  by_position (Some n) is =
      let first = position-Some p runes n first_rune is in
      let there : slice_get runes n ≡ Some (get_or runes n first_rune) = slice_get-get_or runes n first_rune (omega (arith, first.0)) in
      (exact n).1 (ap (option_map of) there ∙ ap Some (sound (get_or runes n first_rune) first.1))
  by_position None is = none_found is found refl

pub name_found : (runes : List RuneRow) (name : ℕ) (found : Option ℕ) → ((n : ℕ) → (found ≡ Some n) ↔ HasAt (λ row. row.name) runes n name) → found ≡ by_name runes name
name_found runes name found exact =
    told_first (λ (row : RuneRow). row.name) name (λ (row : RuneRow). row.name == name) runes found
    (λ row is. (Decides-eqb row.name name).0 is) (λ row is. (Decides-eqb row.name name).1 is) exact

pub id_found : (runes : List RuneRow) (id : RuneId) (found : Option ℕ) → ((n : ℕ) → (found ≡ Some n) ↔ HasAt (λ row. row.id) runes n id) → found ≡ by_id runes id
id_found runes id found exact =
    told_first (λ (row : RuneRow). row.id) id (λ (row : RuneRow). is_same row.id id) runes found
    (λ row is. same_id row.id id is) (λ row is. ap (λ (i : RuneId). is_same i id) is ∙ same_itself id) exact

-- what is told of the rune with a number that is there
pub held_there : (of : RuneRow → ℕ) (runes : List RuneRow) (n value : ℕ) → n < length runes → IfSome (slice_get runes n) (λ row. value ≡ of row)
    → option_map of (slice_get runes n) ≡ Some value
held_there of runes n value less told = by_row (slice_get runes n) (slice_get-get_or runes n first_rune less) told where
  by_row : (o : Option RuneRow) → o ≡ Some (get_or runes n first_rune) → IfSome o (λ row. value ≡ of row) → option_map of o ≡ Some value
  by_row (Some row) is told = ap Some (sym told)
  by_row None is told = absurd (cc is)

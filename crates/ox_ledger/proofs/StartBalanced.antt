-- The runes of a chain without a block are balanced.
use Rattle.std.proofs.Common.{◌≡◌, ◌∙◌, ℕ, zero, suc, Bool, true, false, List, [], ◌∷◌, refl, sym, arith, lit<, lit≤, Some, None}
use Rattle.std.specs.Prelude.{All, slice_get, if◌then◌else◌}
use Rattle.std.specs.FinMap.{empty, get, get-empty}
use Rattle.std.proofs.lemmas.List.Elements.{All-from_recursion}
use Rattle.ox_block.specs.declared.block.OutPoint.{OutPoint}
use Rattle.ox_sat.specs.declared.profiles.Profile.{Profile}
use Rattle.ox_rules.specs.Outputs.{outpoint_cmp}
use Rattle.ox_allocation.specs.Balances.{Balance}
use Rattle.ox_etching.specs.declared.row.RuneRow.{RuneRow}
use Rattle.ox_ledger.specs.Balanced.{AreDistinct, AreKnown, Balanced, IsBounded, IsSettled}
use Rattle.ox_ledger.specs.Block.{first_rune, no_runes}
use Rattle.ox_ledger.specs.Runes.{BalanceMap, Placement, Runes}
use Rattle.ox_ledger.proofs.Fresh.{none_held}
use Rattle.ox_ledger.proofs.Held.{amount_held_in}

abbrev pub no_balances : BalanceMap
no_balances = empty

abbrev pub start : List RuneRow → Runes
start runes = record { bal = no_balances; runes = runes; due = [] }

none_there : {P : Type 0} (at : OutPoint) (balances : List Balance) → get no_balances at ≡ Some balances → P
none_there at balances there = let none : None ≡ Some balances = sym (get-empty outpoint_cmp at) ∙ there in absurd (cc none)

none_due : (runes : List RuneRow) → All (λ (new : Placement). AreKnown runes new.1) []
none_due runes = All-from_recursion (λ (new : Placement). AreKnown runes new.1) [] tt

only_place : (row : RuneRow) (i : ℕ) (a : RuneRow) → slice_get (row ∷ []) i ≡ Some a → i ≡ 0
only_place row zero a is = refl
only_place row (suc i) a is = let none : None ≡ Some a = is in absurd (cc none)

one_distinct : {A : Type 0} (of : RuneRow → A) (row : RuneRow) → AreDistinct of (row ∷ [])
one_distinct of row i j a b here there same = only_place row i a here ∙ sym (only_place row j b there)

first_bounded : IsBounded first_rune
first_bounded = record {
  place = lit< tt;
  divisibility = lit≤ tt;
  spacers = lit< tt;
  reserved = λ reserved. absurd (omega arith);
  supply = lit< tt;
  mints = lit≤ tt;
}

first_settled : IsSettled (start (first_rune ∷ [])) first_rune
first_settled = let none : amount_held_in no_balances first_rune.id ≡ 0 = none_held no_balances first_rune.id (λ at balances there. none_there at balances there) in omega (arith, none)

start_by : (b : Bool) → Balanced (start (if b then first_rune ∷ [] else []))
start_by true = record {
  ids = one_distinct (λ row. row.id) first_rune;
  names = one_distinct (λ row. row.name) first_rune;
  bounded = All-from_recursion IsBounded (first_rune ∷ []) (first_bounded, tt);
  held = λ at balances there. none_there at balances there;
  due = none_due (first_rune ∷ []);
  settled = All-from_recursion (IsSettled (start (first_rune ∷ []))) (first_rune ∷ []) (first_settled, tt);
}
start_by false = record {
  ids = λ i j a b here there same. let none : None ≡ Some a = here in absurd (cc none);
  names = λ i j a b here there same. let none : None ≡ Some a = here in absurd (cc none);
  bounded = All-from_recursion IsBounded [] tt;
  held = λ at balances there. none_there at balances there;
  due = none_due [];
  settled = All-from_recursion (IsSettled (start [])) [] tt;
}

-- no runes at all
pub nothing_balanced : Balanced (start [])
nothing_balanced = start_by false

pub start_balanced : (p : Profile) → Balanced (no_runes p)
start_balanced p = start_by p.first_rune

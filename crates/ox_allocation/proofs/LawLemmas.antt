-- Nothing is lost or made, splits are even, and OP_RETURN gets nothing.
use Rattle.std.proofs.Common.{◌≡◌, ◌∙◌, ℕ, zero, suc, ◌+◌, ◌<◌, ◌≤◌, List, [], ◌∷◌, length, refl, sym, ap, arith, Bool, true, false, Some}
use Rattle.std.specs.Prelude.{◌/◌, ◌%◌, nat_lt, slice_get, slice_index, if◌then◌else◌}
use Rattle.std.specs.List.{sum_by}
use Rattle.std.proofs.lemmas.Bool.Decides.{nat_tests}
use Rattle.std.proofs.lemmas.List.Sums.{sum_by-cons}
use Rattle.ox_block.specs.declared.block.TxOut.{TxOut}
use Rattle.ox_runestone.specs.declared.stone.RuneId.{RuneId}
use Rattle.ox_script.specs.Shape.{is_return}
use Rattle.ox_allocation.specs.Balances.{Balance, amount_in, balances_by, ids_of}
use Rattle.ox_allocation.specs.Gifts.{Gift, amount_given, even_parts, heir}
use Rattle.ox_allocation.specs.Allocation.{amount_at, amount_burned, amount_in_returns, balances_from, gifts_from}
use Rattle.ox_allocation.specs.Laws.{NothingIsLostOrMade, ReturnsGetNothing, SplitsAreEven}
use Rattle.ox_allocation.proofs.Counting.{amount_at-cons, amount_at_le, gain_elsewhere, gain_here, none_at, none_given, returns_le}
use Rattle.ox_allocation.proofs.Dealt.{AreWithin, all_inside, below_from, gifts_from_le, heir_within}
use Rattle.ox_allocation.proofs.Giving.{amount_given-cons}
use Rattle.ox_allocation.proofs.Handing.{gain}
use Rattle.ox_allocation.proofs.PartLemmas.{length-parts_of, sum-parts_of_all}
use Rattle.ox_allocation.proofs.Sorting.{amount-balances_within}

-- what outputs without OP_RETURN are given, the first of all outputs at this place
unfoldable amount_held : ℕ → List TxOut → List Gift → RuneId → ℕ
amount_held k [] gifts q = 0
amount_held k (output ∷ outputs) gifts q = (if is_return output.script then 0 else amount_at k gifts q) + amount_held (k + 1) outputs gifts q

held_by_test : (b : Bool) (pool : List Balance) (f : RuneId → ℕ) (q : RuneId) → f q ≤ amount_in pool q
    → amount_in (if b then [] else balances_by f (ids_of pool)) q ≡ (if b then 0 else f q)
held_by_test true pool f q le = refl
held_by_test false pool f q le = amount-balances_within f pool q le

held_is : (pool : List Balance) (k : ℕ) (gifts : List Gift) (outputs : List TxOut) (q : RuneId) → amount_given q gifts ≤ amount_in pool q
    → sum_by (λ balances. amount_in balances q) (balances_from k (ids_of pool) gifts outputs) ≡ amount_held k outputs gifts q
unfolding balances_from amount_held
held_is pool k gifts [] q le = refl
held_is pool k gifts (output ∷ outputs) q le =
    let here : amount_at k gifts q ≤ amount_in pool q = let a = amount_at_le k gifts q in omega arith in
    sum_by-cons (λ balances. amount_in balances q) (if is_return output.script then [] else balances_by (amount_at k gifts) (ids_of pool)) (balances_from (k + 1) (ids_of pool) gifts outputs)
    ∙ (ap (λ n. n + sum_by (λ balances. amount_in balances q) (balances_from (k + 1) (ids_of pool) gifts outputs)) (held_by_test (is_return output.script) pool (amount_at k gifts) q here)
    ∙ ap (λ n. (if is_return output.script then 0 else amount_at k gifts q) + n) (held_is pool (k + 1) gifts outputs q le))

-- what all outputs are given, with OP_RETURN or without, the first of them at this place
unfoldable amount_placed : ℕ → List TxOut → List Gift → RuneId → ℕ
amount_placed k [] gifts q = 0
amount_placed k (output ∷ outputs) gifts q = amount_at k gifts q + amount_placed (k + 1) outputs gifts q

one_or_other : (b : Bool) (n : ℕ) → (if b then 0 else n) + (if b then n else 0) ≡ n
one_or_other true n = omega arith
one_or_other false n = omega arith

held_or_returned : (k : ℕ) (outputs : List TxOut) (gifts : List Gift) (q : RuneId) → amount_held k outputs gifts q + amount_in_returns k outputs gifts q ≡ amount_placed k outputs gifts q
unfolding amount_held amount_in_returns amount_placed
held_or_returned k [] gifts q = refl
held_or_returned k (output ∷ outputs) gifts q =
    let here = one_or_other (is_return output.script) (amount_at k gifts q) in
    let others = held_or_returned (k + 1) outputs gifts q in
    omega arith

placed-cons : (k : ℕ) (outputs : List TxOut) (gift : Gift) (gifts : List Gift) (q : RuneId) → amount_placed k outputs (gift ∷ gifts) q ≡ amount_placed k outputs (gift ∷ []) q + amount_placed k outputs gifts q
unfolding amount_placed
placed-cons k [] gift gifts q = refl
placed-cons k (output ∷ outputs) gift gifts q =
    let a = amount_at-cons k gift gifts q in
    let b = amount_at-cons k gift [] q in
    let n = none_at k q in
    let others = placed-cons (k + 1) outputs gift gifts q in
    omega arith

placed_past : (k : ℕ) (outputs : List TxOut) (gift : Gift) (q : RuneId) → gift.output < k → amount_placed k outputs (gift ∷ []) q ≡ 0
unfolding amount_placed
placed_past k [] gift q past = refl
placed_past k (output ∷ outputs) gift q past =
    let a = amount_at-cons k gift [] q in
    let n = none_at k q in
    let e = gain_elsewhere k gift q (λ same. omega arith) in
    let others = placed_past (k + 1) outputs gift q (omega arith) in
    omega arith

placed_one : (k j : ℕ) (outputs : List TxOut) (gift : Gift) (q : RuneId) → gift.output ≡ k + j → j < length outputs → amount_placed k outputs (gift ∷ []) q ≡ gain gift q
unfolding amount_placed
placed_one k j [] gift q at there = absurd (omega arith)
placed_one k zero (output ∷ outputs) gift q at there =
    let a = amount_at-cons k gift [] q in
    let n = none_at k q in
    let e = gain_here k gift q (omega arith) in
    let others = placed_past (k + 1) outputs gift q (omega arith) in
    omega arith
placed_one k (suc j) (output ∷ outputs) gift q at there =
    let a = amount_at-cons k gift [] q in
    let n = none_at k q in
    let e = gain_elsewhere k gift q (λ same. omega arith) in
    let others = placed_one (k + 1) j outputs gift q (omega arith) (omega arith) in
    omega arith

placed_none : (k : ℕ) (outputs : List TxOut) (q : RuneId) → amount_placed k outputs [] q ≡ 0
unfolding amount_placed
placed_none k [] q = refl
placed_none k (output ∷ outputs) q = let n = none_at k q in let others = placed_none (k + 1) outputs q in omega arith

-- all gifts are placed
placed_all : (outputs : List TxOut) (gifts : List Gift) (q : RuneId) → AreWithin (length outputs) gifts → amount_placed 0 outputs gifts q ≡ amount_given q gifts
placed_all outputs [] q within = placed_none 0 outputs q ∙ sym (none_given q)
placed_all outputs (gift ∷ gifts) q within =
    let c = placed-cons 0 outputs gift gifts q in
    let o = placed_one 0 gift.output outputs gift q (omega arith) within.0 in
    let g = amount_given-cons q gift gifts in
    let others = placed_all outputs gifts q within.1 in
    omega arith

pub lost_or_made : NothingIsLostOrMade
lost_or_made pool edicts etched pointer outputs id lawful within =
    let gifts = gifts_from pool edicts etched pointer outputs in
    let to = heir outputs pointer in
    let le : amount_given id gifts ≤ amount_in pool id = gifts_from_le outputs pool edicts etched to id lawful in
    let returns = returns_le outputs gifts id in
    let burned = amount-balances_within (amount_burned pool outputs gifts) pool id (omega arith) in
    let held = held_is pool 0 gifts outputs id le in
    let both = held_or_returned 0 outputs gifts id in
    let placed = placed_all outputs gifts id (all_inside outputs pool edicts etched to (heir_within outputs pointer within)) in
    omega arith

-- ---- splits

part_larger : (share extra count i : ℕ) → i < count → i < extra → slice_index (even_parts share extra count) i ≡ share + 1
unfolding even_parts
part_larger share zero zero i there front = absurd (omega arith)
part_larger share (suc extra) zero i there front = absurd (omega arith)
part_larger share zero (suc count) i there front = absurd (omega arith)
part_larger share (suc extra) (suc count) zero there front = refl
part_larger share (suc extra) (suc count) (suc i) there front = part_larger share extra count i (omega arith) (omega arith)

part_smaller : (share extra count i : ℕ) → i < count → extra ≤ i → slice_index (even_parts share extra count) i ≡ share
unfolding even_parts
part_smaller share zero zero i there behind = absurd (omega arith)
part_smaller share (suc extra) zero i there behind = absurd (omega arith)
part_smaller share zero (suc count) zero there behind = refl
part_smaller share zero (suc count) (suc i) there behind = part_smaller share zero count i (omega arith) (omega arith)
part_smaller share (suc extra) (suc count) zero there behind = absurd (omega arith)
part_smaller share (suc extra) (suc count) (suc i) there behind = part_smaller share extra count i (omega arith) (omega arith)

above_from : (a b : ℕ) → nat_lt a b ≡ false → b ≤ a
above_from a b is = grind (arith, nat_tests)

part_at : (share extra count i : ℕ) → i < count → (b : Bool) → nat_lt i extra ≡ b → slice_index (even_parts share extra count) i ≡ share + (if b then 1 else 0)
part_at share extra count i there true is = part_larger share extra count i there (below_from i extra is)
part_at share extra count i there false is = let e = part_smaller share extra count i there (above_from i extra is) in omega arith

parts_by_test : (share extra i j x y : ℕ) (b c : Bool) → nat_lt i extra ≡ b → nat_lt j extra ≡ c → i ≤ j → x ≡ share + (if b then 1 else 0) → y ≡ share + (if c then 1 else 0) → (y ≤ x) × (x ≤ y + 1)
parts_by_test share extra i j x y true true is is' order at at' = (omega arith, omega arith)
parts_by_test share extra i j x y true false is is' order at at' = (omega arith, omega arith)
parts_by_test share extra i j x y false true is is' order at at' = let e = above_from i extra is in let f = below_from j extra is' in absurd (omega arith)
parts_by_test share extra i j x y false false is is' order at at' = (omega arith, omega arith)

parts_close : (share extra count i j : ℕ) → i ≤ j → j < count
    → (slice_index (even_parts share extra count) j ≤ slice_index (even_parts share extra count) i) × (slice_index (even_parts share extra count) i ≤ slice_index (even_parts share extra count) j + 1)
parts_close share extra count i j order there =
    parts_by_test share extra i j _ _ (nat_lt i extra) (nat_lt j extra) refl refl order (part_at share extra count i (omega arith) (nat_lt i extra) refl) (part_at share extra count j there (nat_lt j extra) refl)

pub even_splits : SplitsAreEven
even_splits left zero some = absurd (omega arith)
even_splits left (suc count) some = record {
  one_each = length-parts_of 0 left (suc count);
  whole = sum-parts_of_all left (suc count) some;
  larger_in_front = λ i j order there. (parts_close (left / suc count) (left % suc count) (suc count) i j order there).0;
  nearly_equal = λ i j order there. (parts_close (left / suc count) (left % suc count) (suc count) i j order there).1;
}

-- ---- OP_RETURN

returns_hold_nothing : (k : ℕ) (ids : List RuneId) (gifts : List Gift) (outputs : List TxOut) (place : ℕ) (output : TxOut) → slice_get outputs place ≡ Some output → is_return output.script ≡ true
    → slice_get (balances_from k ids gifts outputs) place ≡ Some []
unfolding balances_from
returns_hold_nothing k ids gifts [] place output there is = absurd (cc there)
returns_hold_nothing k ids gifts (first ∷ outputs) zero output there is =
    let same : first ≡ output = cc there in
    let test : is_return first.script ≡ true = ap (λ (o : TxOut). is_return o.script) same ∙ is in
    ap (λ b. Some (if b then [] else balances_by (amount_at k gifts) ids)) test
returns_hold_nothing k ids gifts (first ∷ outputs) (suc place) output there is = returns_hold_nothing (k + 1) ids gifts outputs place output there is

pub returns_empty : ReturnsGetNothing
returns_empty pool edicts etched pointer outputs place output there is = returns_hold_nothing 0 (ids_of pool) (gifts_from pool edicts etched pointer outputs) outputs place output there is

-- How amounts of runes are kept.
use Rattle.std.proofs.Common.{◌≡◌, ℕ, ◌<◌, ◌≤◌, ◌-◌, List, [], ◌∷◌, length, arith, ap, ◌∙◌, Bool, true, false, cond, refl, None, Some}
use Rattle.std.specs.Prelude.{unwrap_or, ◌==◌, ◌&&◌, if◌then◌else◌}
use Rattle.std.specs.BTreeMap.{insert_entry}
use Rattle.std.specs.Ordering.{match_ordering}
use Rattle.std.specs.declared.cmp.Ordering.TheVariants.{Less, Equal, Greater}
use Rattle.std.specs.List.Sorted.{IsStrictlySortedBy}
use Rattle.ox_runestone.specs.declared.stone.RuneId.{RuneId}
use Rattle.ox_allocation.specs.declared.rune_amounts.Form.{Form}
use Rattle.ox_allocation.specs.declared.rune_amounts.Form.TheVariants.{Empty, One, Many}
use Rattle.ox_allocation.specs.Amounts.{entries_in, IsForm}
use Rattle.ox_allocation.specs.Balances.{Balance, amount_in, id_cmp, ids_of, is_same}
use Rattle.ox_allocation.specs.Dealing.{less}
use Rattle.std.proofs.lemmas.Bool.Decides.{nat_tests}
use Rattle.ox_allocation.proofs.Amounts.{ext, spent}
use Rattle.ox_allocation.proofs.Ids.{same_id}

-- the ids rise
pub ids_rise : (form : Form) → IsForm form → IsStrictlySortedBy id_cmp (ids_of (entries_in form))
unfolding IsStrictlySortedBy
ids_rise Empty is = tt
ids_rise (One id amount) is = (tt, tt)
ids_rise (Many amounts) is = is.rising

-- there is some rune after one is put in
pub some_inserted : (es : List Balance) (id : RuneId) (amount : ℕ) → 0 < length (insert_entry id_cmp es id amount)
some_inserted [] id amount = omega arith
some_inserted (e ∷ es) id amount =
    elim (id_cmp id e.0) as (λ r. 0 < length (match_ordering r ((id, amount) ∷ e ∷ es) ((e.0, amount) ∷ es) (e ∷ insert_entry id_cmp es id amount))) [
      | Less ↦ omega arith
      | Equal ↦ omega arith
      | Greater ↦ omega arith
    ]

-- the only rune is spent
pub spent_one : (held id : RuneId) (left amount : ℕ) → is_same id held ≡ true → amount_in ((held, left - amount) ∷ []) ≡ less ((held, left) ∷ []) id amount
spent_one held id left amount same =
    spent ((held, left) ∷ []) ((held, left - amount) ∷ []) id amount left (rw same refl) (rw same refl)

less_nothing : (n amount : ℕ) → amount ≡ 0 → (b : Bool) → n ≡ (if b then n - amount else n)
less_nothing n amount none true = omega arith
less_nothing n amount none false = refl

-- nothing is spent of a rune that isn't there
pub spent_nothing : (es : List Balance) (id : RuneId) (amount : ℕ) → amount ≤ amount_in es id → amount_in es id ≡ 0 → amount_in es ≡ less es id amount
spent_nothing es id amount enough none =
    ext (amount_in es) (less es id amount) (λ q. less_nothing (amount_in es q) amount (omega arith) (is_same id q))

equal_numbers : (n : ℕ) → (n == n) ≡ true
equal_numbers n = grind (arith, nat_tests)

apart_by_test : (a b : RuneId) (t : Bool) → is_same a b ≡ t → (a.block == b.block && a.tx == b.tx) ≡ false → is_same a b ≡ false
apart_by_test a b true is apart =
    let same : (a.block == a.block && a.tx == a.tx) ≡ false = ap (λ (x : RuneId). a.block == x.block && a.tx == x.tx) (same_id a b is) ∙ apart in
    absurd (cc (same, equal_numbers a.block, equal_numbers a.tx))
apart_by_test a b false is apart = is

-- another rune than the only one is spent, of which there is nothing
pub spent_other : (held id : RuneId) (left amount : ℕ) → (id.block == held.block && id.tx == held.tx) ≡ false → amount ≤ amount_in ((held, left) ∷ []) id
    → amount_in ((held, left) ∷ []) ≡ less ((held, left) ∷ []) id amount
spent_other held id left amount apart enough =
    let none : amount_in ((held, left) ∷ []) id ≡ 0 = ap (λ b. unwrap_or (cond b (Some left) None) 0) (apart_by_test id held (is_same id held) refl apart) in
    spent_nothing ((held, left) ∷ []) id amount enough none

pub ruleset spending = (spent_one, spent_nothing, spent_other)

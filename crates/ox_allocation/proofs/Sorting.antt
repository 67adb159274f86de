-- Balances are determined by how much of each rune there is.
use Rattle.std.proofs.Common.{◌≡◌, ◌∙◌, ℕ, ◌+◌, ◌<◌, ◌≤◌, List, [], ◌∷◌, refl, sym, ap, arith, Bool, true, false, cond, Some}
use Rattle.std.specs.Prelude.{unwrap_or, ◌==◌, if◌then◌else◌}
use Rattle.std.specs.declared.cmp.Ordering.TheVariants.{Less, Equal, Greater}
use Rattle.std.specs.Ordering.{match_ordering, ordering_reverse}
use Rattle.std.specs.BTreeMap.{insert_entry, is_at}
use Rattle.std.specs.Map.{keys_of, values_of}
use Rattle.std.specs.List.{AllByRecursion}
use Rattle.std.specs.List.Sorted.{IsStrictlySortedBy}
use Rattle.std.proofs.lemmas.List.Elements.{All-cons, All-head, All-nil, All-tail}
use Rattle.std.proofs.lemmas.Bool.Decides.{nat_tests}
use Rattle.std.proofs.lemmas.Map.{lookup-none}
use Rattle.std.proofs.lemmas.Map.Entries.{none_below_head}
use Rattle.std.proofs.lemmas.Map.Keys.{sorted_head, sorted_tail}
use Rattle.std.proofs.lemmas.Map.Views.{All-values-insert_entry}
use Rattle.ox_runestone.specs.declared.stone.RuneId.{RuneId}
use Rattle.ox_allocation.specs.Balances.{AreBalances, Balance, amount_in, balances_by, id_cmp, ids_of, is_same, with_more}
use Rattle.ox_allocation.proofs.Ids.{ids_exact, ids_total, same_id, same_turned}
use Rattle.ox_allocation.proofs.Amounts.{find}
use Rattle.ox_allocation.proofs.Rests.{first_alone, first_amount}
use Rattle.ox_allocation.proofs.Counting.{has}

-- an id below the first isn't there
below_absent : (q : RuneId) (e : Balance) (es : List Balance) → IsStrictlySortedBy id_cmp (ids_of (e ∷ es)) → id_cmp q e.0 ≡ Less → amount_in (e ∷ es) q ≡ 0
below_absent q e es rising below = ap (λ x. unwrap_or x 0) (lookup-none (is_at (id_cmp q)) (e ∷ es) (none_below_head ids_total q e es rising below))

pub tail_lawful : (e : Balance) (es : List Balance) → AreBalances (e ∷ es) → AreBalances es
tail_lawful e es are = record { rising = sorted_tail id_cmp e.0 (ids_of es) are.rising; some = All-tail (λ (n : ℕ). 0 < n) e.1 (values_of es) are.some }

head_some : (e : Balance) (es : List Balance) → AreBalances (e ∷ es) → 0 < e.1
head_some e es are = All-head (λ (n : ℕ). 0 < n) e.1 (values_of es) are.some

tail_by_test : (b c : Balance) (bs cs : List Balance) (q : RuneId) → b.0 ≡ c.0 → amount_in bs b.0 ≡ 0 → amount_in cs c.0 ≡ 0
    → (t : Bool) → is_same q b.0 ≡ t → unwrap_or (cond t (Some b.1) (find q bs)) 0 ≡ unwrap_or (cond t (Some c.1) (find q cs)) 0 → amount_in bs q ≡ amount_in cs q
tail_by_test b c bs cs q same none none' true is e =
    ap (amount_in bs) (same_id q b.0 is) ∙ none ∙ sym (ap (amount_in cs) (same_id q b.0 is ∙ same) ∙ none')
tail_by_test b c bs cs q same none none' false is e = e

-- the same amounts, the same balances
pub same_balances : (bs cs : List Balance) → AreBalances bs → AreBalances cs → ((q : RuneId) → amount_in bs q ≡ amount_in cs q) → bs ≡ cs
same_balances [] [] are are' same = refl
same_balances [] (c ∷ cs) are are' same = let s = same c.0 in let f = first_amount c cs in let h = head_some c cs are' in absurd (omega arith)
same_balances (b ∷ bs) [] are are' same = let s = same b.0 in let f = first_amount b bs in let h = head_some b bs are in absurd (omega arith)
same_balances (b ∷ bs) (c ∷ cs) are are' same =
    elim (id_cmp b.0 c.0) as (λ r. id_cmp b.0 c.0 ≡ r → b ∷ bs ≡ c ∷ cs) [
      | Less ↦ λ is. let s = same b.0 in let f = first_amount b bs in let h = head_some b bs are in let n = below_absent b.0 c cs are'.rising is in absurd (omega arith)
      | Equal ↦ λ is.
          let id : b.0 ≡ c.0 = ids_exact b.0 c.0 is in
          let amount : b.1 ≡ c.1 = sym (first_amount b bs) ∙ same b.0 ∙ ap (amount_in (c ∷ cs)) id ∙ first_amount c cs in
          let rest : bs ≡ cs = same_balances bs cs (tail_lawful b bs are) (tail_lawful c cs are') (λ q.
          tail_by_test b c bs cs q id (first_alone b bs are.rising) (first_alone c cs are'.rising) (is_same q b.0) refl
          (same q ∙ ap (λ t. unwrap_or (cond t (Some c.1) (find q cs)) 0) (ap (is_same q) (sym id)))) in
          λ i. (id i, amount i) ∷ rest i
      | Greater ↦ λ is.
          let below : id_cmp c.0 b.0 ≡ Less = ids_total.antisymm c.0 b.0 ∙ ap ordering_reverse is in
          let s = same c.0 in let f = first_amount c cs in let h = head_some c cs are' in let n = below_absent c.0 b bs are.rising below in absurd (omega arith)
    ] refl

-- ---- balances with more of a rune are balances

above_inserted : (x k : RuneId) (v : ℕ) (es : List Balance) → id_cmp x k ≡ Less → AllByRecursion (λ y. id_cmp x y ≡ Less) (keys_of es)
    → AllByRecursion (λ y. id_cmp x y ≡ Less) (keys_of (insert_entry id_cmp es k v))
above_inserted x k v [] below above = (below, tt)
above_inserted x k v (e ∷ es) below above =
    elim (id_cmp k e.0) as (λ r. AllByRecursion (λ y. id_cmp x y ≡ Less) (keys_of (match_ordering r ((k, v) ∷ e ∷ es) ((e.0, v) ∷ es) (e ∷ insert_entry id_cmp es k v)))) [
      | Less ↦ (below, above)
      | Equal ↦ above
      | Greater ↦ (above.0, above_inserted x k v es below above.1)
    ]

above_too : (k x : RuneId) (ids : List RuneId) → id_cmp k x ≡ Less → AllByRecursion (λ y. id_cmp x y ≡ Less) ids → AllByRecursion (λ y. id_cmp k y ≡ Less) ids
above_too k x [] below above = tt
above_too k x (y ∷ ids) below above = (ids_total.trans k x y below above.0, above_too k x ids below above.1)

rising_cons : (x : RuneId) (ids : List RuneId) → AllByRecursion (λ y. id_cmp x y ≡ Less) ids → IsStrictlySortedBy id_cmp ids → IsStrictlySortedBy id_cmp (x ∷ ids)
unfolding IsStrictlySortedBy
rising_cons x ids above rising = (above, rising)

no_ids : IsStrictlySortedBy id_cmp []
unfolding IsStrictlySortedBy
no_ids = tt

pub rising-inserted : (es : List Balance) (k : RuneId) (v : ℕ) → IsStrictlySortedBy id_cmp (keys_of es) → IsStrictlySortedBy id_cmp (keys_of (insert_entry id_cmp es k v))
rising-inserted [] k v rising = rising_cons k [] tt no_ids
rising-inserted (e ∷ es) k v rising =
    elim (id_cmp k e.0) as (λ r. id_cmp k e.0 ≡ r → IsStrictlySortedBy id_cmp (keys_of (match_ordering r ((k, v) ∷ e ∷ es) ((e.0, v) ∷ es) (e ∷ insert_entry id_cmp es k v)))) [
      | Less ↦ λ is. rising_cons k (e.0 ∷ keys_of es) (is, above_too k e.0 (keys_of es) is (sorted_head id_cmp e.0 (keys_of es) rising)) rising
      | Equal ↦ λ is. rising
      | Greater ↦ λ is.
          let below : id_cmp e.0 k ≡ Less = ids_total.antisymm e.0 k ∙ ap ordering_reverse is in
          rising_cons e.0 (keys_of (insert_entry id_cmp es k v)) (above_inserted e.0 k v es below (sorted_head id_cmp e.0 (keys_of es) rising)) (rising-inserted es k v (sorted_tail id_cmp e.0 (keys_of es) rising))
    ] refl

some_from : (n : ℕ) → (n == 0) ≡ false → 0 < n
some_from n is = grind (arith, nat_tests)

lawful_by_test : (es : List Balance) (id : RuneId) (amount : ℕ) (b : Bool) → (amount == 0) ≡ b → AreBalances es
    → AreBalances (if b then es else insert_entry id_cmp es id (amount_in es id + amount))
lawful_by_test es id amount true is are = are
lawful_by_test es id amount false is are = record {
  rising = rising-inserted es id (amount_in es id + amount) are.rising;
  some = All-values-insert_entry id_cmp id (amount_in es id + amount) (λ (n : ℕ). 0 < n) es are.some (let s = some_from amount is in omega arith);
}

pub lawful-with_more : (es : List Balance) (id : RuneId) (amount : ℕ) → AreBalances es → AreBalances (with_more es id amount)
lawful-with_more es id amount are = lawful_by_test es id amount (amount == 0) refl are

-- ---- balances by their amounts

by_test : (f : RuneId → ℕ) (id q : RuneId) (more : List Balance) (there : Bool) → amount_in more q ≡ (if there then f q else 0) → (none : Bool) → (f id == 0) ≡ none → (b : Bool) → is_same id q ≡ b
    → amount_in (if none then more else ((id, f id) ∷ more)) q ≡ (if (if b then true else there) then f q else 0)
by_test f id q more true later true none true is = later
by_test f id q more false later true none true is = let z : f id ≡ 0 = grind (arith, nat_tests, none) in let e = ap f (same_id id q is) in omega arith
by_test f id q more there later true none false is = later
by_test f id q more there later false none true is = ap (λ b. unwrap_or (cond b (Some (f id)) (find q more)) 0) (same_turned q id ∙ is) ∙ ap f (same_id id q is)
by_test f id q more there later false none false is = ap (λ b. unwrap_or (cond b (Some (f id)) (find q more)) 0) (same_turned q id ∙ is) ∙ later

pub amount-balances_by : (f : RuneId → ℕ) (ids : List RuneId) (q : RuneId) → amount_in (balances_by f ids) q ≡ (if has q ids then f q else 0)
unfolding balances_by
amount-balances_by f [] q = refl
amount-balances_by f (id ∷ ids) q = by_test f id q (balances_by f ids) (has q ids) (amount-balances_by f ids q) (f id == 0) refl (is_same id q) refl

above-balances_by : (x : RuneId) (f : RuneId → ℕ) (ids : List RuneId) → AllByRecursion (λ y. id_cmp x y ≡ Less) ids → AllByRecursion (λ y. id_cmp x y ≡ Less) (keys_of (balances_by f ids))
unfolding balances_by
above-balances_by x f [] above = tt
above-balances_by x f (id ∷ ids) above =
    elim (f id == 0) as (λ b. AllByRecursion (λ y. id_cmp x y ≡ Less) (keys_of (if b then balances_by f ids else ((id, f id) ∷ balances_by f ids)))) [
      | true ↦ above-balances_by x f ids above.1
      | false ↦ (above.0, above-balances_by x f ids above.1)
    ]

pub lawful-balances_by : (f : RuneId → ℕ) (ids : List RuneId) → IsStrictlySortedBy id_cmp ids → AreBalances (balances_by f ids)
unfolding balances_by
lawful-balances_by f [] rising = record { rising = no_ids; some = All-nil (λ (n : ℕ). 0 < n) }
lawful-balances_by f (id ∷ ids) rising =
    let later = lawful-balances_by f ids (sorted_tail id_cmp id ids rising) in
    elim (f id == 0) as (λ b. (f id == 0) ≡ b → AreBalances (if b then balances_by f ids else ((id, f id) ∷ balances_by f ids))) [
      | true ↦ λ is. later
      | false ↦ λ is. record {
        rising = rising_cons id (keys_of (balances_by f ids)) (above-balances_by id f ids (sorted_head id_cmp id ids rising)) later.rising;
        some = All-cons (λ (n : ℕ). 0 < n) (f id) (values_of (balances_by f ids)) (some_from (f id) is) later.some;
      }
    ] refl

absent_by : (e : Balance) (es : List Balance) (q : RuneId) (t : Bool) → is_same e.0 q ≡ t → (if t then true else has q (ids_of es)) ≡ false → (has q (ids_of es) ≡ false → amount_in es q ≡ 0) → amount_in (e ∷ es) q ≡ 0
absent_by e es q true is missing later = absurd (cc missing)
absent_by e es q false is missing later = ap (λ b. unwrap_or (cond b (Some e.1) (find q es)) 0) (same_turned q e.0 ∙ is) ∙ later missing

-- of a rune that isn't there is nothing
pub absent : (es : List Balance) (q : RuneId) → has q (ids_of es) ≡ false → amount_in es q ≡ 0
absent [] q missing = refl
absent (e ∷ es) q missing = absent_by e es q (is_same e.0 q) refl missing (absent es q)

within_by : (b : Bool) (n all : ℕ) → (b ≡ false → all ≡ 0) → n ≤ all → (if b then n else 0) ≡ n
within_by true n all none le = refl
within_by false n all none le = let e = none refl in omega arith

-- amounts that are in a pool
pub amount-balances_within : (f : RuneId → ℕ) (pool : List Balance) (q : RuneId) → f q ≤ amount_in pool q → amount_in (balances_by f (ids_of pool)) q ≡ f q
amount-balances_within f pool q le = amount-balances_by f (ids_of pool) q ∙ within_by (has q (ids_of pool)) (f q) (amount_in pool q) (absent pool q) le

-- balances with these amounts are those of them
pub are_balances_by : (f : RuneId → ℕ) (pool es : List Balance) → AreBalances pool → AreBalances es → ((q : RuneId) → amount_in es q ≡ f q) → ((q : RuneId) → f q ≤ amount_in pool q)
    → es ≡ balances_by f (ids_of pool)
are_balances_by f pool es lawful are is le =
    same_balances es (balances_by f (ids_of pool)) are (lawful-balances_by f (ids_of pool) lawful.rising) (λ q. is q ∙ sym (amount-balances_within f pool q (le q)))

-- How much of a rune there is, where one has more or less of it.
use Rattle.std.proofs.Common.{rules, ◌≡◌, ◌∙◌, ℕ, ◌+◌, ◌-◌, List, [], ◌∷◌, refl, sym, ap, arith, Bool, true, false, cond, Option, Some, None}
use Rattle.std.specs.Prelude.{◌==◌, unwrap_or, IsSome, if◌then◌else◌}
use Rattle.std.specs.declared.cmp.Ordering.TheVariants.{Less, Equal, Greater}
use Rattle.std.specs.Ordering.{match_ordering}
use Rattle.std.specs.BTreeMap.{insert_entry, is_at}
use Rattle.std.specs.Map.{lookup, set_value}
use Rattle.std.proofs.lemmas.Map.{lookup-set_value}
use Rattle.std.proofs.lemmas.Bool.Decides.{nat_tests}
use Rattle.ox_runestone.specs.declared.stone.RuneId.{RuneId}
use Rattle.ox_allocation.specs.Balances.{Balance, amount_in, id_cmp, is_same, with_more}
use Rattle.ox_allocation.specs.Dealing.{less}
use Rattle.ox_allocation.proofs.Ids.{ids_exact, ids_equiv, same_id, same_turned, above_differs}

pub ext : {A B : Type 0} (f g : A → B) → ((x : A) → f x ≡ g x) → f ≡ g
ext f g same = λ i x. same x i

abbrev pub find : RuneId → List Balance → Option ℕ
find id balances = lookup (is_at (id_cmp id)) balances

once_only : (b : Bool) (v w : ℕ) (rest : Option ℕ) → cond b (Some v) rest ≡ cond b (Some v) (cond b (Some w) rest)
once_only true v w rest = refl
once_only false v w rest = refl

find_behind : (k : RuneId) (v : ℕ) (q : RuneId) (e : Balance) (more es : List Balance) → id_cmp k e.0 ≡ Greater
    → find q more ≡ cond (is_same q k) (Some v) (find q es)
    → (b : Bool) → is_same q e.0 ≡ b → cond b (Some e.1) (find q more) ≡ cond (is_same q k) (Some v) (cond b (Some e.1) (find q es))
find_behind k v q e more es above later true is =
    let differs : is_same q k ≡ false = same_turned q k ∙ ap (is_same k) (same_id q e.0 is) ∙ above_differs k e.0 above in
    rw differs refl
find_behind k v q e more es above later false is = later

-- an amount set anew is found at its id
pub find-inserted : (es : List Balance) (k : RuneId) (v : ℕ) (q : RuneId) → find q (insert_entry id_cmp es k v) ≡ cond (is_same q k) (Some v) (find q es)
find-inserted [] k v q = refl
find-inserted (e ∷ es) k v q =
    elim (id_cmp k e.0) as (λ r. id_cmp k e.0 ≡ r → find q (match_ordering r ((k, v) ∷ e ∷ es) ((e.0, v) ∷ es) (e ∷ insert_entry id_cmp es k v)) ≡ cond (is_same q k) (Some v) (find q (e ∷ es))) [
      | Less ↦ λ is. refl
      | Equal ↦ λ is. let same : is_same q k ≡ is_same q e.0 = ap (is_same q) (ids_exact k e.0 is) in rw same (once_only (is_same q e.0) v e.1 (find q es))
      | Greater ↦ λ is. find_behind k v q e _ es is (find-inserted es k v q) (is_same q e.0) refl
    ] refl

pub zero_from : (n : ℕ) → (n == 0) ≡ true → n ≡ 0
zero_from n is = grind (arith, nat_tests)

more_at : (balances : List Balance) (id q : RuneId) (amount : ℕ) (b : Bool) → is_same q id ≡ b
    → unwrap_or (cond b (Some (amount_in balances id + amount)) (find q balances)) 0 ≡ amount_in balances q + (if b then amount else 0)
more_at balances id q amount true is = ap (λ x. amount_in balances x + amount) (sym (same_id q id is))
more_at balances id q amount false is = omega arith

none_more : (n amount : ℕ) (b : Bool) → amount ≡ 0 → n ≡ n + (if b then amount else 0)
none_more n amount true is = omega arith
none_more n amount false is = omega arith

more_of : (balances : List Balance) (id : RuneId) (amount : ℕ) (q : RuneId) (b : Bool) → (amount == 0) ≡ b
    → amount_in (if b then balances else insert_entry id_cmp balances id (amount_in balances id + amount)) q ≡ amount_in balances q + (if is_same id q then amount else 0)
more_of balances id amount q true is = none_more (amount_in balances q) amount (is_same id q) (zero_from amount is)
more_of balances id amount q false is =
    ap (λ x. unwrap_or x 0) (find-inserted balances id (amount_in balances id + amount) q)
    ∙ more_at balances id q amount (is_same q id) refl
    ∙ ap (λ b. amount_in balances q + (if b then amount else 0)) (same_turned q id)

-- so much more of one rune
pub amount-with_more : (balances : List Balance) (id : RuneId) (amount : ℕ) (q : RuneId) → amount_in (with_more balances id amount) q ≡ amount_in balances q + (if is_same id q then amount else 0)
amount-with_more balances id amount q = more_of balances id amount q (amount == 0) refl

some_found : (x : Option ℕ) (v : ℕ) → x ≡ Some v → IsSome x
some_found None v is = absurd (cc is)
some_found (Some w) v is = search rules

less_at : (es : List Balance) (id q : RuneId) (amount v : ℕ) → find id es ≡ Some v → (b : Bool) → is_same id q ≡ b
    → unwrap_or (cond b (Some (v - amount)) (find q es)) 0 ≡ (if b then amount_in es q - amount else amount_in es q)
less_at es id q amount v found true is =
    let there : amount_in es q ≡ v = ap (amount_in es) (sym (same_id id q is)) ∙ ap (λ x. unwrap_or x 0) found in
    ap (λ n. n - amount) (sym there)
less_at es id q amount v found false is = refl

-- so much less of one rune
pub spent : (es new : List Balance) (id : RuneId) (amount v : ℕ) → find id es ≡ Some v → new ≡ set_value (is_at (id_cmp id)) es (v - amount)
    → amount_in new ≡ less es id amount
spent es new id amount v found is = ext (amount_in new) (less es id amount) (λ q.
    ap (λ balances. amount_in balances q) is
    ∙ ap (λ x. unwrap_or x 0) (lookup-set_value ids_equiv (is_at (id_cmp id)) (λ x y t. ap (λ z. is_same z y) (same_id id x t)) q (v - amount) es (some_found _ v found))
    ∙ less_at es id q amount v found (is_same id q) refl)

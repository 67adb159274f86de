-- Tables of plain data, filled by rising outpoint from what is in memory.
use Rattle.std.proofs.Common.{◌≡◌, ◌∙◌, ℕ, ◌+◌, ◌<◌, ◌≤◌, ◌^◌, Bool, true, false, cond, eqb, List, [], ◌∷◌, ◌++◌, length, drop, append_assoc, refl, sym, ap, subst, arith, Option, Some, None, Ordering}
use Rattle.std.specs.Prelude.{All, ◌&&◌, ◌||◌, is_some, slice_get, unwrap_or}
use Rattle.std.specs.List.{AllByRecursion}
use Rattle.std.specs.List.Sorted.{IsStrictlySortedBy}
use Rattle.std.specs.Map.{keys_of, lookup, values_of}
use Rattle.std.specs.BTreeMap.{insert_entry, is_at}
use Rattle.std.specs.Ordering.{eq_by_cmp, is_eq, is_lt, ordering_reverse}
use Rattle.std.specs.declared.cmp.Ordering.TheVariants.{Less, Equal, Greater}
use Rattle.std.specs.Cmp.{IsTotalOrder, tied_itself}
use Rattle.std.specs.FinMap.{find, is_sorted}
use Rattle.std.specs.FinMap.Entries.{below_all}
use Rattle.std.proofs.lemmas.Bool.{ne_eqb}
use Rattle.std.proofs.lemmas.List.{append-nil, drop_all, drop_more}
use Rattle.std.proofs.lemmas.List.Elements.{recursion_from_All}
use Rattle.std.proofs.lemmas.Option.{get_or_from_slice_get, slice_get_within}
use Rattle.ox_runestone.specs.declared.stone.RuneId.{RuneId}
use Rattle.ox_allocation.specs.Balances.{Balance, amount_in, id_cmp, with_more}
use Rattle.ox_allocation.specs.Dealing.{IsPool}
use Rattle.ox_allocation.proofs.Ids.{ids_total}

-- ---- a list that is gone through by places

module _ {A : Type 0} (all done : List A) (n : ℕ) (so_far : done ++ drop n all ≡ all) where
  -- what comes next
  pub with_next : (e : A) → slice_get all n ≡ Some e → done ++ e ∷ drop (n + 1) all ≡ all
  with_next e there =
      let left : drop n all ≡ e ∷ drop (n + 1) all =
      drop_more all n e (slice_get_within all n e there) ∙ ap (λ (x : A). x ∷ drop (n + 1) all) (get_or_from_slice_get all n e e there) in
      ap (λ (l : List A). done ++ l) (sym left) ∙ so_far

  pub one_done : (e : A) → slice_get all n ≡ Some e → (done ++ e ∷ []) ++ drop (n + 1) all ≡ all
  one_done e there = append_assoc done (e ∷ []) (drop (n + 1) all) ∙ with_next e there

  pub none_left : length all ≤ n → done ≡ all
  none_left past = sym (append-nil done) ∙ ap (λ (l : List A). done ++ l) (sym (drop_all n all past)) ∙ so_far

-- ---- entries in order

both : (a b : Bool) → (a && b) ≡ true → (a ≡ true) × (b ≡ true)
both true b is = (refl, is)
both false b is = absurd (cc is)

less_is : (r : Ordering) → is_lt r ≡ true → r ≡ Less
less_is Less is = refl
less_is Equal is = absurd (cc is)
less_is Greater is = absurd (cc is)

above : {K : Type 0} {R : K → K → Ordering} → IsTotalOrder R → (k key : K) → R key k ≡ Less → R k key ≡ Greater
above o k key lt = o.antisymm k key ∙ ap ordering_reverse lt

-- each key is below this one
abbrev pub AreBelow : {K X : Type 0} → (K → K → Ordering) → K → List (K × X) → Type 0
AreBelow R k es = AllByRecursion (λ e. R e.0 k ≡ Less) es

module _ {K X : Type 0} (R : K → K → Ordering) where
  below_middle : (k : K) (es : List (K × X)) (e : K × X) (rest : List (K × X)) → below_all R k (es ++ e ∷ rest) ≡ true → R k e.0 ≡ Less
  below_middle k [] e rest is = less_is (R k e.0) (both (is_lt (R k e.0)) (below_all R k rest) is).0
  below_middle k (x ∷ es) e rest is = below_middle k es e rest (both (is_lt (R k x.0)) (below_all R k (es ++ e ∷ rest)) is).1

  pub below_next : (es : List (K × X)) (e : K × X) (rest : List (K × X)) → is_sorted R (es ++ e ∷ rest) ≡ true → AreBelow R e.0 es
  below_next [] e rest is = tt
  below_next (x ∷ es) e rest is =
      let parts = both (below_all R x.0 (es ++ e ∷ rest)) (is_sorted R (es ++ e ∷ rest)) is in
      (below_middle x.0 es e rest parts.0, below_next es e rest parts.1)

  below_keys : (k : K) (es : List (K × X)) → AllByRecursion (λ y. R k y ≡ Less) (keys_of es) → below_all R k es ≡ true
  below_keys k [] h = refl
  below_keys k (e ∷ es) h = rw h.0 (below_keys k es h.1)

  pub rising_sorted : (es : List (K × X)) → IsStrictlySortedBy R (keys_of es) → is_sorted R es ≡ true
  unfolding IsStrictlySortedBy
  rising_sorted [] h = refl
  rising_sorted (e ∷ es) h = rw (below_keys e.0 es h.0) (rising_sorted es h.1)

  -- std's two ways to look a key up
  pub looked_up : (q : K) (es : List (K × X)) → lookup (is_at (R q)) es ≡ find R q es
  looked_up q [] = refl
  looked_up q (e ∷ es) = ap (λ (rest : Option X). cond (eq_by_cmp R q e.0) (Some e.1) rest) (looked_up q es)

  found_behind : (b : Bool) (x : X) (whole front back : Option X) → is_some whole ≡ (is_some front || is_some back) → is_some (cond b (Some x) whole) ≡ (is_some (cond b (Some x) front) || is_some back)
  found_behind true x whole front back is = refl
  found_behind false x whole front back is = is

  pub some_found : (q : K) (es fs : List (K × X)) → is_some (find R q (es ++ fs)) ≡ (is_some (find R q es) || is_some (find R q fs))
  some_found q [] fs = refl
  some_found q (e ∷ es) fs = found_behind (eq_by_cmp R q e.0) e.1 (find R q (es ++ fs)) (find R q es) (find R q fs) (some_found q es fs)

  module _ (o : IsTotalOrder R) where
    pub put_last : (es : List (K × X)) (k : K) (x : X) → AreBelow R k es → insert_entry R es k x ≡ es ++ (k, x) ∷ []
    put_last [] k x h = refl
    put_last (e ∷ es) k x h = rw (above o k e.0 h.0) (ap (λ (rest : List (K × X)). e ∷ rest) (put_last es k x h.1))

    pub none_there : (es : List (K × X)) (k : K) → AreBelow R k es → lookup (is_at (R k)) es ≡ None
    none_there [] k h = refl
    none_there (e ∷ es) k h = rw (above o k e.0 h.0) (none_there es k h.1)

-- ---- amounts by rising ids

pub none_in : (pool : List Balance) (id : RuneId) → AreBelow id_cmp id pool → amount_in pool id ≡ 0
none_in pool id below = ap (λ (o : Option ℕ). unwrap_or o 0) (none_there id_cmp ids_total pool id below)

not_none : (n : ℕ) → 0 < n → eqb n 0 ≡ false
not_none n some = ne_eqb n 0 (λ e. omega arith)

-- so much of a rune behind all others
pub more_last : (pool : List Balance) (id : RuneId) (amount : ℕ) → AreBelow id_cmp id pool → 0 < amount → with_more pool id amount ≡ pool ++ (id, amount) ∷ []
more_last pool id amount below some =
    let sum : amount_in pool id + amount ≡ amount = omega (arith, none_in pool id below) in
    ap (λ (b : Bool). cond b pool (insert_entry id_cmp pool id (amount_in pool id + amount))) (not_none amount some)
    ∙ ap (insert_entry id_cmp pool id) sum
    ∙ put_last id_cmp ids_total pool id amount below

-- one of some balances that rise is all that they have of its rune
amount_here : (front : List Balance) (one : Balance) (rest : List Balance) → AreBelow id_cmp one.0 front → amount_in (front ++ one ∷ rest) one.0 ≡ one.1
amount_here [] one rest below = ap (λ (r : Ordering). unwrap_or (cond (is_eq r) (Some one.1) (lookup (is_at (id_cmp one.0)) rest)) 0) (tied_itself ids_total one.0)
amount_here (x ∷ front) one rest below =
    ap (λ (r : Ordering). unwrap_or (cond (is_eq r) (Some x.1) (lookup (is_at (id_cmp one.0)) (front ++ one ∷ rest))) 0) (above ids_total one.0 x.0 below.0)
    ∙ amount_here front one rest below.1

-- balances that are gone through by places, and put into a pool
module _ (held pool : List Balance) (n : ℕ) (one : Balance) (is : IsPool held) (so_far : pool ++ drop n held ≡ held) (there : slice_get held n ≡ Some one) where
  whole : pool ++ one ∷ drop (n + 1) held ≡ held
  whole = with_next held pool n so_far one there

  below : AreBelow id_cmp one.0 pool
  below = below_next id_cmp pool one (drop (n + 1) held) (ap (is_sorted id_cmp) whole ∙ rising_sorted id_cmp held is.lawful.rising)

  pub one_fits : amount_in pool one.0 + one.1 < 2 ^ 128
  one_fits = omega (arith, none_in pool one.0 below, is.small one.0, ap (λ (l : List Balance). amount_in l one.0) whole, amount_here pool one (drop (n + 1) held) below)

  some_there : (front : List Balance) (rest : List Balance) → AllByRecursion (λ (amount : ℕ). 0 < amount) (values_of (front ++ one ∷ rest)) → 0 < one.1
  some_there [] rest all = all.0
  some_there (x ∷ front) rest all = some_there front rest all.1

  some : 0 < one.1
  some = some_there pool (drop (n + 1) held) (recursion_from_All (λ (amount : ℕ). 0 < amount) (values_of (pool ++ one ∷ drop (n + 1) held))
      (subst (λ (l : List Balance). All (λ (amount : ℕ). 0 < amount) (values_of l)) (sym whole) is.lawful.some))

  pub one_put : (more : List Balance) → more ≡ with_more pool one.0 one.1 → more ++ drop (n + 1) held ≡ held
  one_put more put =
      ap (λ (l : List Balance). l ++ drop (n + 1) held) (put ∙ more_last pool one.0 one.1 below some)
      ∙ one_done held pool n so_far one there

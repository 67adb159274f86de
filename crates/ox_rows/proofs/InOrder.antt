-- Keys that come in their order go to the end.
use Rattle.std.proofs.Common.{◌≡◌, ℕ, ◌+◌, ◌<◌, Bool, false, cond, eqb, List, [], ◌∷◌, ◌++◌, length, Ok, Err, Option, Some, None, Ordering, refl, sym, ap, subst, ◌∙◌, inl, inr, ◌⊎◌, arith}
use Rattle.std.specs.Prelude.{unwrap_or}
use Rattle.std.specs.List.{AllByRecursion}
use Rattle.std.specs.Map.{lookup}
use Rattle.std.specs.BTreeMap.{insert_entry, is_at}
use Rattle.std.specs.Ordering.{ordering_reverse}
use Rattle.std.specs.declared.cmp.Ordering.TheVariants.{Less, Greater}
use Rattle.std.specs.Cmp.{IsTotalOrder}
use Rattle.std.proofs.lemmas.Bool.{ne_eqb}
use Rattle.ox_bytes.specs.Reading.{Reader, unless}
use Rattle.ox_bytes.proofs.Laws.{bind_ok, guard_ok, ok_is}
use Rattle.ox_runestone.specs.declared.stone.RuneId.{RuneId}
use Rattle.ox_allocation.specs.Balances.{Balance, amount_in, id_cmp, with_more}
use Rattle.ox_allocation.proofs.Ids.{ids_total}
use Rattle.ox_rows.specs.Reading.{falls}
use Rattle.ox_rows.proofs.RisingLaws.{less_is, lt_is}

-- no key is above the last one
abbrev pub UpTo : {K X : Type 0} → (K → K → Ordering) → Option K → List (K × X) → Type 0
UpTo cmp None es = es ≡ []
UpTo cmp (Some last) es = AllByRecursion (λ e. (cmp e.0 last ≡ Less) ⊎ (e.0 ≡ last)) es

-- each is below a key
abbrev pub AreBelowKey : {K X : Type 0} → (K → K → Ordering) → K → List (K × X) → Type 0
AreBelowKey cmp k es = AllByRecursion (λ e. cmp e.0 k ≡ Less) es

above : {K : Type 0} {R : K → K → Ordering} → IsTotalOrder R → (k key : K) → R key k ≡ Less → R k key ≡ Greater
above o k key lt = o.antisymm k key ∙ ap ordering_reverse lt

module _ {K X : Type 0} {R : K → K → Ordering} (o : IsTotalOrder R) where
  each_below : (last k : K) (es : List (K × X)) → R last k ≡ Less → UpTo R (Some last) es → AreBelowKey R k es
  each_below last k [] lt h = tt
  each_below last k (e ∷ es) lt h =
      let here : R e.0 k ≡ Less = elim h.0 [
        | inl below ↦ o.trans e.0 last k below lt
        | inr same ↦ subst (λ (x : K). R x k ≡ Less) (sym same) lt
      ] in
      (here, each_below last k es lt h.1)

  pub below_next : (last : Option K) (k : K) (es : List (K × X)) → UpTo R last es → falls R last k ≡ false → AreBelowKey R k es
  below_next None k es h rises = subst (AreBelowKey R k) (sym h) tt
  below_next (Some last) k es h rises = each_below last k es (less_is (R last k) (lt_is (R last k) rises)) h

  pub up_to_next : (k : K) (x : X) (es : List (K × X)) → AreBelowKey R k es → UpTo R (Some k) (es ++ (k, x) ∷ [])
  up_to_next k x [] h = (inr refl, tt)
  up_to_next k x (e ∷ es) h = (inl h.0, up_to_next k x es h.1)

  pub inserted_last : (es : List (K × X)) (k : K) (x : X) → AreBelowKey R k es → insert_entry R es k x ≡ es ++ (k, x) ∷ []
  inserted_last [] k x h = refl
  inserted_last (e ∷ es) k x h = rw (above o k e.0 h.0) (ap (λ (rest : List (K × X)). e ∷ rest) (inserted_last es k x h.1))

  pub nothing_there : (es : List (K × X)) (k : K) → AreBelowKey R k es → lookup (is_at (R k)) es ≡ None
  nothing_there [] k h = refl
  nothing_there (e ∷ es) k h = rw (above o k e.0 h.0) (nothing_there es k h.1)

-- what a reader gives that refuses some values
pub unless_passes : {A : Type 0} (refused : A → Bool) (read : Reader A) (bytes : List ℕ) (x : A × List ℕ) → unless refused read bytes ≡ Ok x → refused x.0 ≡ false
unless_passes {A} refused read bytes x e =
    let a = bind_ok (read bytes) (λ y. cond (refused y.0) (Err (length bytes)) (Ok y)) x e in
    let g = guard_ok (refused a.0.0) (length bytes) (Ok a.0) x a.2 in
    subst (λ (y : A × List ℕ). refused y.0 ≡ false) (ok_is {F = ℕ} a.0 x g.1) g.0

not_none : (n : ℕ) → 0 < n → eqb n 0 ≡ false
not_none n some = ne_eqb n 0 (λ e. omega arith)

pub amount_none : (pool : List Balance) (id : RuneId) → AreBelowKey id_cmp id pool → amount_in pool id ≡ 0
amount_none pool id below = ap (λ (o : Option ℕ). unwrap_or o 0) (nothing_there ids_total pool id below)

-- an amount of a rune behind all others
pub more_last : (pool : List Balance) (id : RuneId) (amount : ℕ) → AreBelowKey id_cmp id pool → 0 < amount → with_more pool id amount ≡ pool ++ (id, amount) ∷ []
more_last pool id amount below some =
    let sum : amount_in pool id + amount ≡ amount = omega (arith, amount_none pool id below) in
    ap (λ (b : Bool). cond b pool (insert_entry id_cmp pool id (amount_in pool id + amount))) (not_none amount some)
    ∙ ap (insert_entry id_cmp pool id) sum ∙ inserted_last ids_total pool id amount below

-- Tables by outpoint: as they are kept, and as finite maps.
use Rattle.std.proofs.Common.{◌≡◌, ◌∙◌, Bool, true, false, cond, List, [], ◌∷◌, map, refl, sym, ap, subst, Some, None, Ordering, T}
use Rattle.std.specs.Prelude.{Decides, All}
use Rattle.std.specs.BTreeMap.{is_at}
use Rattle.std.specs.FinMap.{FinMap, entries, entries-from_sorted, entries_sorted, find, from_entries, from_sorted, get, get-entries, get-from_entries, get-from_sorted, is_sorted, same_map, values}
use Rattle.std.specs.FinMap.Entries.{below_all}
use Rattle.std.specs.List.{AllByRecursion, list_all}
use Rattle.std.specs.List.Sorted.{IsStrictlySortedBy}
use Rattle.std.specs.Map.{keys_of, lookup, values_of}
use Rattle.std.specs.Ordering.{is_eq, is_lt, ordering_reverse}
use Rattle.std.specs.declared.cmp.Ordering.TheVariants.{Less, Equal, Greater}
use Rattle.std.specs.Cmp.{tied_itself}
use Rattle.std.proofs.lemmas.Bool.{and_from, and_parts, false≢true}
use Rattle.std.proofs.lemmas.Bool.Decides.{Decides-by_and, Decides-like}
use Rattle.std.proofs.lemmas.List.Elements.{All-from_recursion, recursion_from_All}
use Rattle.ox_block.specs.declared.block.OutPoint.{OutPoint}
use Rattle.ox_rules.specs.Outputs.{outpoint_cmp}
use Rattle.ox_rules.proofs.Orders.{outpoints_exact, outpoints_total}

tie_from : (r : Ordering) → is_eq r ≡ true → r ≡ Equal
tie_from Less is = absurd (false≢true is)
tie_from Equal is = refl
tie_from Greater is = absurd (false≢true is)

less_from : (r : Ordering) → is_lt r ≡ true → r ≡ Less
less_from Less is = refl
less_from Equal is = absurd (false≢true is)
less_from Greater is = absurd (false≢true is)

truth : (b : Bool) → T b → b ≡ true
truth true t = refl
truth false t = absurd t

module _ {X : Type 0} where
  below_from : (k : OutPoint) (es : List (OutPoint × X)) → AllByRecursion (λ (q : OutPoint). outpoint_cmp k q ≡ Less) (keys_of es) → below_all outpoint_cmp k es ≡ true
  below_from k [] all = refl
  below_from k (e ∷ es) all = and_from (is_lt (outpoint_cmp k e.0)) (below_all outpoint_cmp k es) (ap is_lt all.0) (below_from k es all.1)

  sorted_from : (es : List (OutPoint × X)) → IsStrictlySortedBy outpoint_cmp (keys_of es) → is_sorted outpoint_cmp es ≡ true
  unfolding IsStrictlySortedBy
  sorted_from [] sorted = refl
  sorted_from (e ∷ es) sorted = and_from (below_all outpoint_cmp e.0 es) (is_sorted outpoint_cmp es) (below_from e.0 es sorted.0) (sorted_from es sorted.1)

  -- a map of entries in order has them
  pub entries_back : (es : List (OutPoint × X)) → IsStrictlySortedBy outpoint_cmp (keys_of es) → entries (from_entries {R = outpoint_cmp} es) ≡ es
  entries_back es rising =
      let t : T (is_sorted outpoint_cmp es) = subst T (sym (sorted_from es rising)) tt in
      ap entries (same_map outpoints_total outpoints_exact (from_entries es) (from_sorted es) (λ q. get-from_entries outpoints_total es q ∙ sym (get-from_sorted outpoint_cmp es q t))) ∙ entries-from_sorted outpoint_cmp es t

  -- and their values
  pub values_back : (es : List (OutPoint × X)) → IsStrictlySortedBy outpoint_cmp (keys_of es) → values (from_entries {R = outpoint_cmp} es) ≡ values_of es
  values_back es rising = ap (λ (list : List (OutPoint × X)). map (λ e. e.1) list) (entries_back es rising)

  found_up : (es : List (OutPoint × X)) (q : OutPoint) → find outpoint_cmp q es ≡ lookup (is_at (outpoint_cmp q)) es
  found_up [] q = refl
  found_up (e ∷ es) q = ap (cond (is_eq (outpoint_cmp q e.0)) (Some e.1)) (found_up es q)

  -- what is found in a map of entries is found among them
  pub get_back : (es : List (OutPoint × X)) (q : OutPoint) → get (from_entries {R = outpoint_cmp} es) q ≡ lookup (is_at (outpoint_cmp q)) es
  get_back es q = get-from_entries outpoints_total es q ∙ found_up es q

  -- ---- what holds of each entry

  holds_found : (P : OutPoint → X → Type 0) (es : List (OutPoint × X)) → AllByRecursion (λ (e : OutPoint × X). P e.0 e.1) es → (at : OutPoint) (x : X) → find outpoint_cmp at es ≡ Some x → P at x
  holds_found P [] all at x found = let none : None ≡ Some x = found in absurd (cc none)
  holds_found P (e ∷ es) all at x found = by_test (λ some. holds_found P es all.1 at x some) (is_eq (outpoint_cmp at e.0)) refl found where
    by_test : (find outpoint_cmp at es ≡ Some x → P at x) → (b : Bool) → is_eq (outpoint_cmp at e.0) ≡ b → cond b (Some e.1) (find outpoint_cmp at es) ≡ Some x → P at x
    by_test later true is some =
        let same : e.1 ≡ x = cc some in
        let key : e.0 ≡ at = sym (outpoints_exact at e.0 (tie_from (outpoint_cmp at e.0) is)) in
        subst (P at) same (subst (λ (k : OutPoint). P k e.1) key all.0)
    by_test later false is some = later some

  found_behind : (e : OutPoint × X) (es some : List (OutPoint × X)) → below_all outpoint_cmp e.0 some ≡ true → AllByRecursion (λ (x : OutPoint × X). find outpoint_cmp x.0 es ≡ Some x.1) some
      → AllByRecursion (λ (x : OutPoint × X). find outpoint_cmp x.0 (e ∷ es) ≡ Some x.1) some
  found_behind e es [] below all = tt
  found_behind e es (x ∷ more) below all =
      let parts = and_parts (is_lt (outpoint_cmp e.0 x.0)) (below_all outpoint_cmp e.0 more) below in
      let less : outpoint_cmp e.0 x.0 ≡ Less = less_from (outpoint_cmp e.0 x.0) parts.0 in
      let differs : is_eq (outpoint_cmp x.0 e.0) ≡ false = apart e.0 x.0 less in
      (ap (λ (b : Bool). cond b (Some e.1) (find outpoint_cmp x.0 es)) differs ∙ all.0, found_behind e es more parts.1 all.1)
    where
      apart : (a b : OutPoint) → outpoint_cmp a b ≡ Less → is_eq (outpoint_cmp b a) ≡ false
      apart a b less = ap is_eq (outpoints_total.antisymm b a ∙ ap ordering_reverse less)

  found_each : (es : List (OutPoint × X)) → is_sorted outpoint_cmp es ≡ true → AllByRecursion (λ (x : OutPoint × X). find outpoint_cmp x.0 es ≡ Some x.1) es
  found_each [] sorted = tt
  found_each (e ∷ es) sorted =
      let parts = and_parts (below_all outpoint_cmp e.0 es) (is_sorted outpoint_cmp es) sorted in (
        ap (λ (b : Bool). cond b (Some e.1) (find outpoint_cmp e.0 es)) (ap is_eq (tied_itself outpoints_total e.0)),
        found_behind e es es parts.0 (found_each es parts.1),
      )

  each_weaker : (P Q : OutPoint × X → Type 0) → ((e : OutPoint × X) → P e → Q e) → (es : List (OutPoint × X)) → AllByRecursion P es → AllByRecursion Q es
  each_weaker P Q step [] all = tt
  each_weaker P Q step (e ∷ es) all = (step e all.0, each_weaker P Q step es all.1)

  -- a test of all entries says what holds wherever something is found
  pub Decides-each : (p : OutPoint × X → Bool) (P : OutPoint → X → Type 0) → ((e : OutPoint × X) → Decides (p e) (P e.0 e.1)) → (m : FinMap outpoint_cmp X)
      → Decides (list_all p (entries m)) ((at : OutPoint) (x : X) → get m at ≡ Some x → P at x)
  Decides-each p P each m = Decides-like (list_all p (entries m)) to from (Decides-by_and p (λ e. P e.0 e.1) (list_all p) each refl (λ _ _. refl) (entries m)) where
    to : All (λ (e : OutPoint × X). P e.0 e.1) (entries m) → (at : OutPoint) (x : X) → get m at ≡ Some x → P at x
    to all at x found = holds_found P (entries m) (recursion_from_All (λ (e : OutPoint × X). P e.0 e.1) (entries m) all) at x (sym (get-entries m at) ∙ found)

    from : ((at : OutPoint) (x : X) → get m at ≡ Some x → P at x) → All (λ (e : OutPoint × X). P e.0 e.1) (entries m)
    from holds =
        All-from_recursion (λ (e : OutPoint × X). P e.0 e.1) (entries m)
        (each_weaker (λ (e : OutPoint × X). find outpoint_cmp e.0 (entries m) ≡ Some e.1) (λ (e : OutPoint × X). P e.0 e.1) (λ e found. holds e.0 e.1 (get-entries m e.0 ∙ found)) (entries m)
        (found_each (entries m) (truth (is_sorted outpoint_cmp (entries m)) (entries_sorted m))))

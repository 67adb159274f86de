-- What stands in a map, and what it adds up to, on the other side of a difference that begins in it.
use Rattle.std.proofs.Common.{◌≡◌, ◌∙◌, ℕ, ◌+◌, Bool, true, false, cond, not, List, [], ◌∷◌, refl, sym, ap, subst, arith, Option, Some, None, Ordering}
use Rattle.std.specs.Prelude.{◌&&◌, is_some, Decides}
use Rattle.std.specs.List.{AllByRecursion, list_all}
use Rattle.std.specs.Option.{option_map_or}
use Rattle.std.specs.Ordering.{is_eq, is_lt}
use Rattle.std.specs.declared.cmp.Ordering.TheVariants.{Less, Equal, Greater}
use Rattle.std.specs.Cmp.{IsTotalOrder}
use Rattle.std.specs.FinMap.{FinMap, IsAntisymmetric, entries, find, get, is_sorted}
use Rattle.std.specs.FinMap.Entries.{below_all}
use Rattle.std.proofs.lemmas.Bool.{and_parts, false≢true}
use Rattle.ox_rules.specs.Differences.{Difference, other_end, reverse_of, with_rows, without_rows}
use Rattle.ox_rules.proofs.DifferenceLemmas.{get-with_rows, get-without_rows, or_else}
use Rattle.ox_rules.proofs.MapSums.{total, total_insert, total_remove}
use Rattle.ox_plain.specs.Ends.{difference_ends, gave_way, stands}

less_from : (r : Ordering) → is_lt r ≡ true → r ≡ Less
less_from Less is = refl
less_from Equal is = absurd (false≢true is)
less_from Greater is = absurd (false≢true is)

tie_from : (r : Ordering) → is_eq r ≡ true → r ≡ Equal
tie_from Less is = absurd (false≢true is)
tie_from Equal is = refl
tie_from Greater is = absurd (false≢true is)

-- a test of each of a list
pub each_from : {X : Type 0} (p : X → Bool) (xs : List X) → list_all p xs ≡ true → AllByRecursion (λ x. p x ≡ true) xs
each_from p [] all = tt
each_from p (x ∷ xs) all = let parts = and_parts (p x) (list_all p xs) all in (parts.0, each_from p xs parts.1)

pub each_weaker : {X : Type 0} (P Q : X → Type 0) → ((x : X) → P x → Q x) → (xs : List X) → AllByRecursion P xs → AllByRecursion Q xs
each_weaker P Q step [] all = tt
each_weaker P Q step (x ∷ xs) all = (step x all.0, each_weaker P Q step xs all.1)

module _ {K X : Type 0} {R : K → K → Ordering} (o : IsTotalOrder R) (exact : IsAntisymmetric R) where
  -- a key below all is none of theirs
  not_found : (k : K) (es : List (K × X)) → below_all R k es ≡ true → find R k es ≡ None
  not_found k [] below = refl
  not_found k (e ∷ es) below =
      let parts = and_parts (is_lt (R k e.0)) (below_all R k es) below in
      ap (λ r. cond (is_eq r) (Some e.1) (find R k es)) (less_from (R k e.0) parts.0) ∙ not_found k es parts.1

  -- what holds of each row holds of the one that is found
  pub holds_found : (P : K → X → Type 0) (es : List (K × X)) → AllByRecursion (λ (e : K × X). P e.0 e.1) es → (at : K) (x : X) → find R at es ≡ Some x → P at x
  holds_found P [] all at x found = let none : None ≡ Some x = found in absurd (cc none)
  holds_found P (e ∷ es) all at x found = by_test (λ some. holds_found P es all.1 at x some) (is_eq (R at e.0)) refl found where
    by_test : (find R at es ≡ Some x → P at x) → (b : Bool) → is_eq (R at e.0) ≡ b → cond b (Some e.1) (find R at es) ≡ Some x → P at x
    by_test later true is some =
        let same : e.1 ≡ x = cc some in
        let key : e.0 ≡ at = sym (exact at e.0 (tie_from (R at e.0) is)) in
        subst (P at) same (subst (λ (k : K). P k e.1) key all.0)
    by_test later false is some = later some

  pub get_other : (m : FinMap R X) (d : Difference K X) (at : K) → get (other_end m (reverse_of d)) at ≡ or_else (find R at d.came) (cond (is_some (find R at d.gone)) None (get m at))
  get_other m d at = get-with_rows o exact (without_rows m d.gone) d.came at ∙ ap (or_else (find R at d.came)) (get-without_rows o exact m d.gone at)

  -- what stands on the other side came, or stood and isn't gone
  pub each_other : (P : K → X → Type 0) (m : FinMap R X) (d : Difference K X) → AllByRecursion (λ (e : K × X). P e.0 e.1) d.came
      → ((at : K) (x : X) → get m at ≡ Some x → find R at d.gone ≡ None → P at x) → (at : K) (x : X) → get (other_end m (reverse_of d)) at ≡ Some x → P at x
  each_other P m d came stood at x there = by_came (find R at d.came) refl (sym (get_other m d at) ∙ there) where
    by_gone : (gone : Option X) → find R at d.gone ≡ gone → cond (is_some gone) None (get m at) ≡ Some x → P at x
    by_gone None is some = stood at x some is
    by_gone (Some y) is some = absurd (cc some)

    by_came : (found : Option X) → find R at d.came ≡ found → or_else found (cond (is_some (find R at d.gone)) None (get m at)) ≡ Some x → P at x
    by_came (Some y) is some = holds_found P d.came came at x (is ∙ some)
    by_came None is some = by_gone (find R at d.gone) refl some

  -- ---- sums

  module _ (f : X → ℕ) where
    gone_total : (m : FinMap R X) (rows : List (K × X)) → is_sorted R rows ≡ true → AllByRecursion (λ (e : K × X). get m e.0 ≡ Some e.1) rows
        → total o f (entries (without_rows m rows)) + total o f rows ≡ total o f (entries m)
    gone_total m [] sorted all = omega arith
    gone_total m (row ∷ rows) sorted all =
        let parts = and_parts (below_all R row.0 rows) (is_sorted R rows) sorted in
        let there : get (without_rows m rows) row.0 ≡ Some row.1 =
        get-without_rows o exact m rows row.0 ∙ ap (λ (found : Option X). cond (is_some found) None (get m row.0)) (not_found row.0 rows parts.0) ∙ all.0 in
        let less = total_remove o exact f (without_rows m rows) row.0 row.1 there in
        let rest = gone_total m rows parts.1 all.1 in
        omega (arith, less, rest)

    came_total : (m : FinMap R X) (rows : List (K × X)) → is_sorted R rows ≡ true → AllByRecursion (λ (e : K × X). get m e.0 ≡ None) rows
        → total o f (entries (with_rows m rows)) ≡ total o f (entries m) + total o f rows
    came_total m [] sorted all = omega arith
    came_total m (row ∷ rows) sorted all =
        let parts = and_parts (below_all R row.0 rows) (is_sorted R rows) sorted in
        let there : get (with_rows m rows) row.0 ≡ None = get-with_rows o exact m rows row.0 ∙ ap (λ (found : Option X). or_else found (get m row.0)) (not_found row.0 rows parts.0) ∙ all.0 in
        let more = total_insert o f (with_rows m rows) row.0 row.1 in
        let zero : option_map_or f (get (with_rows m rows) row.0) 0 ≡ 0 = ap (λ (found : Option X). option_map_or f found 0) there in
        let rest = came_total m rows parts.1 all.1 in
        omega (arith, more, zero, rest)

  module _ (same : X → X → Bool) (decides : (x y : X) → Decides (same x y) (x ≡ y)) where
    stands_is : (stood : Option X) (row : X) → stands same stood row ≡ true → stood ≡ Some row
    stands_is None row is = absurd (false≢true is)
    stands_is (Some x) row is = ap Some ((decides x row).0 is)

    gave_is : (stood gone : Option X) (row : X) → gave_way same stood gone row ≡ true → cond (is_some gone) None stood ≡ None
    gave_is None None row is = refl
    gave_is None (Some g) row is = refl
    gave_is (Some x) None row is = absurd (false≢true (and_parts (not (same x row)) false is).1)
    gave_is (Some x) (Some g) row is = refl

    -- what is gone and what came, where a difference begins
    pub record Begins (m : FinMap R X) (d : Difference K X) : Type 0 where
      pub gone_rise : is_sorted R d.gone ≡ true
      pub came_rise : is_sorted R d.came ≡ true
      pub gone : AllByRecursion (λ (e : K × X). get m e.0 ≡ Some e.1) d.gone
      pub came : AllByRecursion (λ (e : K × X). get (without_rows m d.gone) e.0 ≡ None) d.came

    pub begins : (m : FinMap R X) (d : Difference K X) → difference_ends same m (reverse_of d) ≡ true → Begins m d
    begins m d is =
        let stood = list_all (λ (row : K × X). stands same (get m row.0) row.1) d.gone in
        let gave = list_all (λ (row : K × X). gave_way same (get m row.0) (find R row.0 d.gone) row.1) d.came in
        let first = and_parts (is_sorted R d.came) (is_sorted R d.gone && (stood && gave)) is in
        let second = and_parts (is_sorted R d.gone) (stood && gave) first.1 in
        let third = and_parts stood gave second.1 in
        record {
          gone_rise = second.0;
          came_rise = first.0;
          gone = each_weaker (λ (e : K × X). stands same (get m e.0) e.1 ≡ true) (λ (e : K × X). get m e.0 ≡ Some e.1) (λ e is. stands_is (get m e.0) e.1 is) d.gone
              (each_from (λ (row : K × X). stands same (get m row.0) row.1) d.gone third.0);
          came = each_weaker (λ (e : K × X). gave_way same (get m e.0) (find R e.0 d.gone) e.1 ≡ true) (λ (e : K × X). get (without_rows m d.gone) e.0 ≡ None)
              (λ e is. get-without_rows o exact m d.gone e.0 ∙ gave_is (get m e.0) (find R e.0 d.gone) e.1 is) d.came
              (each_from (λ (row : K × X). gave_way same (get m row.0) (find R row.0 d.gone) row.1) d.came third.1);
        }

    -- the sum of the values on the other side
    pub exchanged : (f : X → ℕ) (m : FinMap R X) (d : Difference K X) → difference_ends same m (reverse_of d) ≡ true
        → total o f (entries (other_end m (reverse_of d))) + total o f d.gone ≡ total o f (entries m) + total o f d.came
    exchanged f m d is =
        let b = begins m d is in
        let less = gone_total f m d.gone b.gone_rise b.gone in
        let more = came_total f (without_rows m d.gone) d.came b.came_rise b.came in
        omega (arith, less, more)

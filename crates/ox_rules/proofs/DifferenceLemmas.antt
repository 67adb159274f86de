-- Two maps have one difference, which with either gives the other.
use Rattle.std.proofs.Common.{◌≡◌, ◌≢◌, ◌∙◌, Bool, true, false, cond, not, T, List, [], ◌∷◌, refl, sym, ap, subst, Option, Some, None, Ordering}
use Rattle.std.specs.Prelude.{◌↔◌, ◌==◌, ◌&&◌, bytes_eq, IsTrue, is_some}
use Rattle.std.specs.Bool.{Decides}
use Rattle.std.specs.Ordering.{eq_by_cmp}
use Rattle.std.specs.Cmp.{IsTotalOrder}
use Rattle.std.specs.FinMap.{FinMap, IsAntisymmetric, entries, entries_sorted, find, get, get-entries, get-insert, get-remove, get-retain_keys, retain_keys, same_map}
use Rattle.std.specs.FinMap.Entries.{same_entries}
use Rattle.std.proofs.lemmas.Bool.Decides.{Decides-and, Decides-eqb, Decides-like}
use Rattle.std.proofs.lemmas.Slice.Eq.{bytes_eq-Decides}
use Rattle.ox_block.specs.declared.block.OutPoint.{OutPoint}
use Rattle.ox_rules.specs.declared.rows.OutRow.{OutRow}
use Rattle.ox_rules.specs.Outputs.{Outputs}
use Rattle.ox_rules.proofs.Orders.{outpoints_total, outpoints_exact}
use Rattle.ox_rules.specs.Differences.{AreGone, Difference, Differ, without_rows, with_rows, other_end, reverse_of}

true_of : (b : Bool) → T b → IsTrue b
true_of true t = refl
true_of false t = absurd t

of_true : (b : Bool) → IsTrue b → T b
of_true b is = subst T (sym is) tt

-- the first of two rows, if any
abbrev pub or_else : {X : Type 0} → Option X → Option X → Option X
or_else (Some x) y = Some x
or_else None y = y

or_else_cond : {X : Type 0} (b : Bool) (x : X) (found rest : Option X) → cond b (Some x) (or_else found rest) ≡ or_else (cond b (Some x) found) rest
or_else_cond true x found rest = refl
or_else_cond false x found rest = refl

none_cond : {X : Type 0} (b : Bool) (x : X) (found rest : Option X) → cond b None (cond (is_some found) None rest) ≡ cond (is_some (cond b (Some x) found)) None rest
none_cond true x found rest = refl
none_cond false x found rest = refl

some_is : {X : Type 0} (x y : X) → Some x ≡ Some y → x ≡ y
some_is x y is = cc

none_some : {A : Type 0} {X : Type 0} (found : Option X) (x : X) → found ≡ None → found ≡ Some x → A
none_some found x none there = let e : None ≡ Some x = sym none ∙ there in absurd (cc e)

no_test : {A : Type 0} (b : Bool) → b ≡ false → b ≡ true → A
no_test b is_false is_true = let e : false ≡ true = sym is_false ∙ is_true in absurd (cc e)

none_is_some : {A : Type 0} {X : Type 0} (x : X) → None ≡ Some x → A
none_is_some x is = absurd (cc is)

-- whether a row is there that another one isn't
abbrev pub differs : {X : Type 0} → (X → X → Bool) → Option X → Option X → Bool
differs same None other = false
differs same (Some x) None = true
differs same (Some x) (Some y) = not (same x y)

-- a difference seen from the other end
pub from_the_other : {K X : Type 0} {R : K → K → Ordering} (before after : FinMap R X) (difference : Difference K X)
    → Differ before after difference → Differ after before (reverse_of difference)
from_the_other before after d is = record { gone = is.came; came = is.gone }

module _ {K X : Type 0} {R : K → K → Ordering} (o : IsTotalOrder R) (exact : IsAntisymmetric R) where
  pub get-with_rows : (map : FinMap R X) (rows : List (K × X)) (at : K) → get (with_rows map rows) at ≡ or_else (find R at rows) (get map at)
  get-with_rows map [] at = refl
  get-with_rows map (row ∷ rows) at =
      get-insert o (with_rows map rows) row.0 row.1 at ∙ ap (cond (eq_by_cmp R at row.0) (Some row.1)) (get-with_rows map rows at)
      ∙ or_else_cond (eq_by_cmp R at row.0) row.1 (find R at rows) (get map at)

  pub get-without_rows : (map : FinMap R X) (rows : List (K × X)) (at : K) → get (without_rows map rows) at ≡ cond (is_some (find R at rows)) None (get map at)
  get-without_rows map [] at = refl
  get-without_rows map (row ∷ rows) at =
      get-remove o (without_rows map rows) row.0 at ∙ ap (cond (eq_by_cmp R at row.0) None) (get-without_rows map rows at)
      ∙ none_cond (eq_by_cmp R at row.0) row.1 (find R at rows) (get map at)

  -- ---- there is only one

  same_found : (before after : FinMap R X) (a b : List (K × X)) → AreGone before after a → AreGone before after b → (at : K) → find R at a ≡ find R at b
  same_found before after a b is is' at = by_found (find R at a) refl where
    by_found : (found : Option X) → find R at a ≡ found → found ≡ find R at b
    by_found (Some row) there = sym ((is'.rows at row).1 ((is.rows at row).0 there))
    by_found None none = by_other (find R at b) refl where
      by_other : (other : Option X) → find R at b ≡ other → None ≡ other
      by_other None _ = refl
      by_other (Some row) there = none_some (find R at a) row none ((is.rows at row).1 ((is'.rows at row).0 there))

  pub one_gone : (before after : FinMap R X) (a b : List (K × X)) → AreGone before after a → AreGone before after b → a ≡ b
  one_gone before after a b is is' =
      same_entries R o exact a b (of_true _ is.rising) (of_true _ is'.rising) (same_found before after a b is is')

  pub one_difference : (before after : FinMap R X) (d e : Difference K X) → Differ before after d → Differ before after e → d ≡ e
  one_difference before after d e is is' =
      let gone : d.gone ≡ e.gone = one_gone before after d.gone e.gone is.gone is'.gone in
      let came : d.came ≡ e.came = one_gone after before d.came e.came is.came is'.came in
      λ i. record { gone = gone i; came = came i }

  module _ (same : X → X → Bool) (decides : (x y : X) → Decides (same x y) (x ≡ y)) where
    -- ---- there is one

    pub has_gone : (b a : Option X) (row : X) → (cond (differs same b a) b None ≡ Some row) ↔ ((b ≡ Some row) × (a ≢ Some row))
    has_gone None a row = (λ is. none_is_some row is, λ is. none_is_some row is.0)
    has_gone (Some x) None row = (λ is. (is, λ none. none_is_some row none), λ is. is.0)
    has_gone (Some x) (Some y) row = by_same (same x y) refl where
      by_same : (b : Bool) → same x y ≡ b → (cond (not b) (Some x) None ≡ Some row) ↔ ((Some x ≡ Some row) × (Some y ≢ Some row))
      by_same true is = (λ none. none_is_some row none, λ gone. absurd (gone.1 (sym (ap Some ((decides x y).0 is)) ∙ gone.0)))
      by_same false is = (λ there. (there, λ stays. no_test (same x y) is ((decides x y).1 (some_is x row there ∙ sym (some_is y row stays)))), λ gone. gone.0)

    abbrev pub gone_from : FinMap R X → FinMap R X → List (K × X)
    gone_from before after = entries (retain_keys before (λ at. differs same (get before at) (get after at)))

    found_gone : (before after : FinMap R X) (at : K) → find R at (gone_from before after) ≡ cond (differs same (get before at) (get after at)) (get before at) None
    found_gone before after at =
        sym (get-entries (retain_keys before (λ at. differs same (get before at) (get after at))) at)
        ∙ get-retain_keys before (λ at. differs same (get before at) (get after at)) at
        (λ other tie. ap (λ (k : K). differs same (get before k) (get after k)) (sym (exact at other tie)))

    pub some_gone : (before after : FinMap R X) → AreGone before after (gone_from before after)
    some_gone before after = record {
      rising = true_of _ (entries_sorted (retain_keys before (λ at. differs same (get before at) (get after at))));
      rows = λ at row. subst (λ (found : Option X). (found ≡ Some row) ↔ ((get before at ≡ Some row) × (get after at ≢ Some row)))
          (sym (found_gone before after at)) (has_gone (get before at) (get after at) row);
    }

    pub some_difference : (before after : FinMap R X) → (difference : Difference K X) × Differ before after difference
    some_difference before after =
        (record { gone = gone_from before after; came = gone_from after before }, record { gone = some_gone before after; came = some_gone after before })

    -- ---- with either map it gives the other

    stands_again : (b a gone came : Option X) → ((row : X) → (gone ≡ Some row) ↔ ((b ≡ Some row) × (a ≢ Some row)))
        → ((row : X) → (came ≡ Some row) ↔ ((a ≡ Some row) × (b ≢ Some row))) → or_else gone (cond (is_some came) None a) ≡ b
    stands_again b a (Some row) came went comes = sym ((went row).0 refl).0
    stands_again None a None (Some row) went comes = refl
    stands_again (Some x) a None (Some row) went comes =
        let there = (comes row).0 refl in
        none_is_some x ((went x).1 (refl, λ stays. there.1 (sym stays ∙ there.0)))
    stands_again None None None None went comes = refl
    stands_again None (Some y) None None went comes = none_is_some y ((comes y).1 (refl, λ none. none_is_some y none))
    stands_again (Some x) None None None went comes = none_is_some x ((went x).1 (refl, λ none. none_is_some x none))
    stands_again (Some x) (Some y) None None went comes = by_same (same x y) refl where
      by_same : (b : Bool) → same x y ≡ b → Some y ≡ Some x
      by_same true is = ap Some (sym ((decides x y).0 is))
      by_same false is = none_is_some x ((went x).1 (refl, λ stays. no_test (same x y) is ((decides x y).1 (sym (some_is y x stays)))))

    pub goes_back : (before after : FinMap R X) (difference : Difference K X) → Differ before after difference → other_end after difference ≡ before
    goes_back before after d is = same_map o exact (other_end after d) before (λ at.
        get-with_rows (without_rows after d.came) d.gone at ∙ ap (or_else (find R at d.gone)) (get-without_rows after d.came at)
        ∙ stands_again (get before at) (get after at) (find R at d.gone) (find R at d.came) (is.gone.rows at) (is.came.rows at))

-- ---- the table of outputs

abbrev pub same_row : OutRow → OutRow → Bool
same_row a b = bytes_eq a.script b.script && ((a.height == b.height) && bytes_eq a.sats b.sats)

pub same_row-Decides : (a b : OutRow) → Decides (same_row a b) (a ≡ b)
same_row-Decides a b =
    Decides-like (same_row a b)
    (λ same i. record { script = same.0 i; height = same.1.0 i; sats = same.1.1 i })
    (λ same. (ap (λ (row : OutRow). row.script) same, (ap (λ (row : OutRow). row.height) same, ap (λ (row : OutRow). row.sats) same)))
    (Decides-and (bytes_eq a.script b.script) _ (bytes_eq-Decides a.script b.script)
    (Decides-and (a.height == b.height) _ (Decides-eqb a.height b.height) (bytes_eq-Decides a.sats b.sats)))

pub some_differences : (before after : Outputs) → (difference : Difference OutPoint OutRow) × Differ before after difference
some_differences = some_difference outpoints_total outpoints_exact same_row same_row-Decides

pub go_back : (before after : Outputs) (difference : Difference OutPoint OutRow) → Differ before after difference → other_end after difference ≡ before
go_back = goes_back outpoints_total outpoints_exact same_row same_row-Decides

pub one_of_outputs : (before after : Outputs) (d e : Difference OutPoint OutRow) → Differ before after d → Differ before after e → d ≡ e
one_of_outputs = one_difference outpoints_total outpoints_exact

-- A difference ends in a map where the test says so.
use Rattle.std.proofs.Common.{◌≡◌, ◌≢◌, ◌∙◌, Bool, true, false, cond, not, List, [], ◌∷◌, refl, sym, ap, subst, Option, Some, None, Ordering}
use Rattle.std.specs.Prelude.{◌↔◌, ◌&&◌, is_some}
use Rattle.std.specs.Bool.{Decides}
use Rattle.std.specs.List.{list_all, AllByRecursion}
use Rattle.std.specs.Ordering.{eq_by_cmp, is_eq, is_lt}
use Rattle.std.specs.declared.cmp.Ordering.TheVariants.{Less, Equal, Greater}
use Rattle.std.specs.Cmp.{IsTotalOrder, tied_itself}
use Rattle.std.specs.FinMap.{FinMap, IsAntisymmetric, find, get, is_sorted}
use Rattle.std.specs.FinMap.Entries.{below_all}
use Rattle.ox_rules.specs.Differences.{Difference, Differ, without_rows, other_end}
use Rattle.ox_plain.specs.Ends.{stands, gave_way, difference_ends}
use Rattle.ox_rules.proofs.DifferenceLemmas.{or_else, get-with_rows, get-without_rows}

pub first_true : (a b : Bool) → (a && b) ≡ true → a ≡ true
first_true true b is = refl
first_true false b is = is

pub second_true : (a b : Bool) → (a && b) ≡ true → b ≡ true
second_true true b is = is
second_true false b is = absurd (cc is)

pub both_true : (a b : Bool) → a ≡ true → b ≡ true → (a && b) ≡ true
both_true true b p q = q
both_true false b p q = absurd (cc p)

equal : (r : Ordering) → is_eq r ≡ true → r ≡ Equal
equal Less p = absurd (cc p)
equal Equal p = refl
equal Greater p = absurd (cc p)

not_true : (b : Bool) → not b ≡ true → b ≡ false
not_true true is = absurd (cc is)
not_true false is = refl

some_same : {X : Type 0} (x y : X) → Some x ≡ Some y → x ≡ y
some_same x y is = cc is

no_some : {A X : Type 0} (x : X) → None ≡ Some x → A
no_some x is = absurd (cc is)

module _ {X : Type 0} (same : X → X → Bool) (decides : (x y : X) → Decides (same x y) (x ≡ y)) where
  same_is : (x y : X) → same x y ≡ true → x ≡ y
  same_is x y is = (decides x y).0 is

  differ : {A : Type 0} (x y : X) → same x y ≡ false → x ≡ y → A
  differ x y is e = let t : true ≡ false = sym ((decides x y).1 e) ∙ is in absurd (cc t)

  -- a row stands exactly where it is the one that stands
  stands_is : (stood : Option X) (row : X) → stands same stood row ≡ true → stood ≡ Some row
  stands_is None row is = absurd (cc is)
  stands_is (Some x) row is = ap Some (same_is x row is)

  is_stands : (stood : Option X) (row : X) → stood ≡ Some row → stands same stood row ≡ true
  is_stands None row is = no_some row is
  is_stands (Some x) row is = (decides x row).1 (some_same x row is)

  -- what stands before, by what stands, what is gone and what came
  abbrev earlier : Option X → Option X → Option X → Option X
  earlier stood gone came = or_else gone (cond (is_some came) None stood)

  -- what is gone at a key is what stood before alone, and what came is what stands alone
  abbrev Both : Option X → Option X → Option X → X → Type 0
  Both stood gone came row =
      ((gone ≡ Some row) ↔ ((earlier stood gone came ≡ Some row) × (stood ≢ Some row)))
      × ((came ≡ Some row) ↔ ((stood ≡ Some row) × (earlier stood gone came ≢ Some row)))

  both_ways : (stood gone came : Option X) (row : X)
      → ((s : X) → came ≡ Some s → stands same stood s ≡ true)
      → ((r : X) → gone ≡ Some r → gave_way same stood came r ≡ true) → Both stood gone came row
  both_ways None None None row stand gave = ((λ is. no_some row is, λ is. is.0), (λ is. no_some row is, λ is. is.0))
  both_ways (Some x) None None row stand gave =
      ((λ is. no_some row is, λ is. absurd (is.1 is.0)), (λ is. no_some row is, λ is. absurd (is.1 is.0)))
  both_ways stood None (Some s) row stand gave =
      let there : stood ≡ Some s = stands_is stood s (stand s refl) in
      ((λ is. no_some row is, λ is. is.0), (λ is. (there ∙ is, λ none. no_some row none), λ is. sym there ∙ is.0))
  both_ways None (Some r) None row stand gave =
      ((λ is. (is, λ none. no_some row none), λ is. is.0), (λ is. no_some row is, λ is. is.0))
  both_ways (Some x) (Some r) None row stand gave =
      let no : false ≡ true = second_true (not (same x r)) false (gave r refl) in
      absurd (cc no)
  both_ways None (Some r) (Some s) row stand gave = no_some s (stands_is None s (stand s refl))
  both_ways (Some x) (Some r) (Some s) row stand gave =
      let there : x ≡ s = same_is x s (stand s refl) in
      let other : same x r ≡ false = not_true (same x r) (first_true (not (same x r)) true (gave r refl)) in (
        (λ is. (is, λ stays. differ x r other (some_same x row stays ∙ sym (some_same r row is))), λ is. is.0),
        (
          λ is. (ap Some there ∙ is, λ stays. differ x r other (there ∙ some_same s row is ∙ sym (some_same r row stays))),
          λ is. sym (ap Some there) ∙ is.0,
        ),
      )

  gave_way_is : (stood went came before : Option X) (r : X) → before ≡ Some r → stood ≢ Some r
      → ((row : X) → (stood ≡ Some row) × (before ≢ Some row) → came ≡ Some row) → gave_way same stood came r ≡ true
  gave_way_is None went came before r there other comes = refl
  gave_way_is (Some x) went came before r there other comes = by_same (same x r) refl where
    by_same : (b : Bool) → same x r ≡ b → (not b && is_some came) ≡ true
    by_same true is = absurd (other (ap Some (same_is x r is)))
    by_same false is =
        ap is_some (comes x (refl, λ stays. differ x r is (some_same x r (sym stays ∙ there))))

module _ {K : Type 0} {R : K → K → Ordering} (o : IsTotalOrder R) (exact : IsAntisymmetric R) where
  same_key : (q at : K) → eq_by_cmp R q at ≡ true → at ≡ q
  same_key q at is = sym (exact q at (equal (R q at) is))

  tied : (at : K) → eq_by_cmp R at at ≡ true
  tied at = ap is_eq (tied_itself o at)

  apart : (at q : K) → is_lt (R at q) ≡ true → eq_by_cmp R q at ≡ false
  apart at q less = by_test (eq_by_cmp R q at) refl where
    by_test : (b : Bool) → eq_by_cmp R q at ≡ b → b ≡ false
    by_test true is =
        let key : at ≡ q = same_key q at is in
        let below : is_lt (R q q) ≡ true = ap (λ (k : K). is_lt (R k q)) (sym key) ∙ less in
        let no : false ≡ true = sym (ap is_lt (tied_itself o q)) ∙ below in
        absurd (cc no)
    by_test false is = refl

module _ {K X : Type 0} {R : K → K → Ordering} (o : IsTotalOrder R) (exact : IsAntisymmetric R) where
  -- what holds of each row holds of the one that is found
  all_found : (p : K × X → Bool) (rows : List (K × X)) → list_all p rows ≡ true → (q : K) (x : X) → find R q rows ≡ Some x → p (q, x) ≡ true
  all_found p [] all q x found = no_some x found
  all_found p (row ∷ rows) all q x found = by_test (λ there. all_found p rows (second_true (p row) (list_all p rows) all) q x there) (eq_by_cmp R q row.0) refl found where
    by_test : (find R q rows ≡ Some x → p (q, x) ≡ true) → (b : Bool) → eq_by_cmp R q row.0 ≡ b → cond b (Some row.1) (find R q rows) ≡ Some x → p (q, x) ≡ true
    by_test rest true is here =
        let key : row.0 ≡ q = same_key o exact q row.0 is in
        let value : row.1 ≡ x = some_same row.1 x here in
        ap p (λ i. (sym key i, sym value i)) ∙ first_true (p row) (list_all p rows) all
    by_test rest false is there = rest there

  -- each row of a list in order is the one that is found at its key
  found_behind : (e : K × X) (es rest : List (K × X)) → below_all R e.0 rest ≡ true → AllByRecursion (λ row. find R row.0 es ≡ Some row.1) rest
      → AllByRecursion (λ row. find R row.0 (e ∷ es) ≡ Some row.1) rest
  found_behind e es [] below all = tt
  found_behind e es (x ∷ rest) below all = (
    ap (λ (b : Bool). cond b (Some e.1) (find R x.0 es)) (apart o exact e.0 x.0 (first_true (is_lt (R e.0 x.0)) (below_all R e.0 rest) below)) ∙ all.0,
    found_behind e es rest (second_true (is_lt (R e.0 x.0)) (below_all R e.0 rest) below) all.1,
  )

  found_each : (es : List (K × X)) → is_sorted R es ≡ true → AllByRecursion (λ row. find R row.0 es ≡ Some row.1) es
  found_each [] sorted = tt
  found_each (e ∷ es) sorted = (
    ap (λ (b : Bool). cond b (Some e.1) (find R e.0 es)) (tied o exact e.0),
    found_behind e es es (first_true (below_all R e.0 es) (is_sorted R es) sorted) (found_each es (second_true (below_all R e.0 es) (is_sorted R es) sorted)),
  )

  all_of_found : (p : K × X → Bool) (whole rows : List (K × X)) → ((q : K) (x : X) → find R q whole ≡ Some x → p (q, x) ≡ true)
      → AllByRecursion (λ row. find R row.0 whole ≡ Some row.1) rows → list_all p rows ≡ true
  all_of_found p whole [] each found = refl
  all_of_found p whole (row ∷ rows) each found =
      both_true (p row) (list_all p rows) (each row.0 row.1 found.0) (all_of_found p whole rows each found.1)

  -- what holds of each row that is found holds of all, in a list in order
  found_all : (p : K × X → Bool) (rows : List (K × X)) → is_sorted R rows ≡ true → ((q : K) (x : X) → find R q rows ≡ Some x → p (q, x) ≡ true) → list_all p rows ≡ true
  found_all p rows sorted each = all_of_found p rows rows each (found_each rows sorted)

  module _ (same : X → X → Bool) (decides : (x y : X) → Decides (same x y) (x ≡ y)) where
    get-other_end : (after : FinMap R X) (d : Difference K X) (at : K)
        → get (other_end after d) at ≡ earlier same decides (get after at) (find R at d.gone) (find R at d.came)
    get-other_end after d at =
        get-with_rows o exact (without_rows after d.came) d.gone at ∙ ap (or_else (find R at d.gone)) (get-without_rows o exact after d.came at)

    pub ends_differ : (after : FinMap R X) (d : Difference K X) → difference_ends same after d ≡ true → Differ (other_end after d) after d
    ends_differ after d is =
        let gone = is_sorted R d.gone in
        let came = is_sorted R d.came in
        let stand = list_all (λ row. stands same (get after row.0) row.1) d.came in
        let gave = list_all (λ row. gave_way same (get after row.0) (find R row.0 d.came) row.1) d.gone in
        let rest : (stand && gave) ≡ true = second_true came (stand && gave) (second_true gone (came && (stand && gave)) is) in
        let ways = λ (at : K) (row : X). both_ways same decides (get after at) (find R at d.gone) (find R at d.came) row
        (λ s. all_found (λ row. stands same (get after row.0) row.1) d.came (first_true stand gave rest) at s)
        (λ r. all_found (λ row. gave_way same (get after row.0) (find R row.0 d.came) row.1) d.gone (second_true stand gave rest) at r) in
        let by_ways = λ (at : K) (row : X). subst
        (λ (before : Option X). ((find R at d.gone ≡ Some row) ↔ ((before ≡ Some row) × (get after at ≢ Some row))) × ((find R at d.came ≡ Some row) ↔ ((get after at ≡ Some row) × (before ≢ Some row))))
        (sym (get-other_end after d at)) (ways at row) in
        record {
          gone = record { rising = first_true gone (came && (stand && gave)) is; rows = λ at row. (by_ways at row).0 };
          came = record { rising = first_true came (stand && gave) (second_true gone (came && (stand && gave)) is); rows = λ at row. (by_ways at row).1 };
        }

    pub differ_ends : (before after : FinMap R X) (d : Difference K X) → Differ before after d → difference_ends same after d ≡ true
    differ_ends before after d is =
        let stand : list_all (λ row. stands same (get after row.0) row.1) d.came ≡ true =
        found_all (λ row. stands same (get after row.0) row.1) d.came is.came.rising (λ at s found. is_stands same decides (get after at) s ((is.came.rows at s).0 found).0) in
        let gave : list_all (λ row. gave_way same (get after row.0) (find R row.0 d.came) row.1) d.gone ≡ true =
        found_all (λ row. gave_way same (get after row.0) (find R row.0 d.came) row.1) d.gone is.gone.rising
        (λ at r found.
        let went = (is.gone.rows at r).0 found in
        gave_way_is same decides (get after at) (find R at d.gone) (find R at d.came) (get before at) r went.0 went.1 (λ row comes. (is.came.rows at row).1 comes)) in
        both_true _ _ is.gone.rising (both_true _ _ is.came.rising (both_true _ _ stand gave))

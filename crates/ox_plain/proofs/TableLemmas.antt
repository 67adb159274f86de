-- Tables by outpoint as finite maps, step by step.
use Rattle.std.proofs.Common.{◌≡◌, ◌∙◌, ℕ, ◌+◌, ◌<◌, ◌≤◌, Bool, true, false, cond, List, [], ◌∷◌, ◌++◌, length, drop, append_assoc, refl, sym, ap, subst, Option, Some, None, Ordering}
use Rattle.std.specs.Prelude.{◌&&◌, is_some, slice_index_or}
use Rattle.std.specs.List.{AllByRecursion, list_all}
use Rattle.std.specs.List.Sorted.{IsStrictlySortedBy}
use Rattle.std.specs.Map.{keys_of, lookup}
use Rattle.std.specs.BTreeMap.{insert_entry, is_at}
use Rattle.std.specs.Ordering.{eq_by_cmp, is_eq, is_lt, ordering_reverse}
use Rattle.std.specs.declared.cmp.Ordering.TheVariants.{Less, Equal, Greater}
use Rattle.std.specs.Cmp.{IsTotalOrder, eq_by_cmp_equiv}
use Rattle.std.specs.FinMap.{FinMap, find, get, get-from_entries, get-insert, get-remove, insert, is_sorted, remove, same_map}
use Rattle.std.specs.FinMap.Entries.{below_all}
use Rattle.std.proofs.lemmas.List.{at_drop_all, at_drop_more, nil_from_length}
use Rattle.ox_block.specs.declared.block.OutPoint.{OutPoint}
use Rattle.ox_rules.specs.Differences.{with_rows, without_rows}
use Rattle.ox_rules.specs.Outputs.{outpoint_cmp}
use Rattle.ox_rules.proofs.Orders.{outpoints_total, outpoints_exact}
use Rattle.ox_plain.specs.Tables.{is_behind, table_of}
use Rattle.ox_plain.proofs.DifferenceEnds.{both_true, first_true, second_true}

-- ---- a look-up

looked_up : {K X : Type 0} (R : K → K → Ordering) (q : K) (es : List (K × X)) → lookup (is_at (R q)) es ≡ find R q es
looked_up R q [] = refl
looked_up R q (e ∷ es) = ap (cond (is_eq (R q e.0)) (Some e.1)) (looked_up R q es)

pub got : {X : Type 0} (es : List (OutPoint × X)) (at : OutPoint) (found : Option X) → found ≡ lookup (is_at (outpoint_cmp at)) es → found ≡ get (table_of es) at
got es at found is = is ∙ looked_up outpoint_cmp at es ∙ sym (get-from_entries outpoints_total es at)

-- ---- a row that comes or goes

tied_back : (at q : OutPoint) → is_eq (outpoint_cmp at q) ≡ eq_by_cmp outpoint_cmp q at
tied_back at q = (eq_by_cmp_equiv outpoints_total).symm at q

module _ {X : Type 0} where
  get-table : (es : List (OutPoint × X)) (q : OutPoint) → get (table_of es) q ≡ lookup (is_at (outpoint_cmp q)) es
  get-table es q = get-from_entries outpoints_total es q ∙ sym (looked_up outpoint_cmp q es)

  pub put_in : (old new : List (OutPoint × X)) (at : OutPoint) (row : X)
      → ((q : OutPoint) → lookup (is_at (outpoint_cmp q)) new ≡ cond (is_at (outpoint_cmp at) q) (Some row) (lookup (is_at (outpoint_cmp q)) old))
      → table_of new ≡ insert (table_of old) at row
  put_in old new at row is = same_map outpoints_total outpoints_exact (table_of new) (insert (table_of old) at row) (λ q.
      get-table new q ∙ is q ∙ ap (λ (b : Bool). cond b (Some row) (lookup (is_at (outpoint_cmp q)) old)) (tied_back at q)
      ∙ ap (cond (eq_by_cmp outpoint_cmp q at) (Some row)) (sym (get-table old q)) ∙ sym (get-insert outpoints_total (table_of old) at row q))

  pub taken_out : (old new : List (OutPoint × X)) (at : OutPoint)
      → ((q : OutPoint) → lookup (is_at (outpoint_cmp q)) new ≡ cond (is_at (outpoint_cmp at) q) None (lookup (is_at (outpoint_cmp q)) old))
      → table_of new ≡ remove (table_of old) at
  taken_out old new at is = same_map outpoints_total outpoints_exact (table_of new) (remove (table_of old) at) (λ q.
      get-table new q ∙ is q ∙ ap (λ (b : Bool). cond b None (lookup (is_at (outpoint_cmp q)) old)) (tied_back at q)
      ∙ ap (cond (eq_by_cmp outpoint_cmp q at) None) (sym (get-table old q)) ∙ sym (get-remove outpoints_total (table_of old) at q))

-- ---- rows that come or go, the last first

module _ {K X : Type 0} {R : K → K → Ordering} where
  with_last : (map : FinMap R X) (rows : List (K × X)) (row : K × X) → with_rows map (rows ++ row ∷ []) ≡ with_rows (insert map row.0 row.1) rows
  with_last map [] row = refl
  with_last map (first ∷ rows) row = ap (λ (m : FinMap R X). insert m first.0 first.1) (with_last map rows row)

  without_last : (map : FinMap R X) (rows : List (K × X)) (row : K × X) → without_rows map (rows ++ row ∷ []) ≡ without_rows (remove map row.0) rows
  without_last map [] row = refl
  without_last map (first ∷ rows) row = ap (λ (m : FinMap R X). remove m first.0) (without_last map rows row)

  pub put_next : (now new : FinMap R X) (left before : List (K × X)) (row : K × X) (again : X) (all : FinMap R X) → left ≡ before ++ row ∷ [] → again ≡ row.1 → new ≡ insert now row.0 again → with_rows now left ≡ all
      → with_rows new before ≡ all
  put_next now new left before row again all is same more whole =
      ap (λ (m : FinMap R X). with_rows m before) (more ∙ ap (insert now row.0) same) ∙ sym (with_last now before row) ∙ sym (ap (with_rows now) is) ∙ whole

  pub take_next : (now new : FinMap R X) (left before : List (K × X)) (row : K × X) (all : FinMap R X) → left ≡ before ++ row ∷ [] → new ≡ remove now row.0 → without_rows now left ≡ all → without_rows new before ≡ all
  take_next now new left before row all is less whole =
      ap (λ (m : FinMap R X). without_rows m before) less ∙ sym (without_last now before row) ∙ sym (ap (without_rows now) is) ∙ whole

  pub all_put : (now : FinMap R X) (left : List (K × X)) (all : FinMap R X) → length left ≡ 0 → with_rows now left ≡ all → now ≡ all
  all_put now left all none whole = sym (ap (with_rows now) (nil_from_length left none)) ∙ whole

  pub all_taken : (now : FinMap R X) (left : List (K × X)) (all : FinMap R X) → length left ≡ 0 → without_rows now left ≡ all → now ≡ all
  all_taken now left all none whole = sym (ap (without_rows now) (nil_from_length left none)) ∙ whole

-- ---- keys that rise

less_is : (r : Ordering) → is_lt r ≡ true → r ≡ Less
less_is Less is = refl
less_is Equal is = absurd (cc is)
less_is Greater is = absurd (cc is)

-- each key is behind the one before, and the first behind this one
abbrev pub rises_from : {K X : Type 0} → (K → K → Ordering) → Option K → List (K × X) → Bool
rises_from R last [] = true
rises_from R last (e ∷ es) = is_behind R last e.0 && rises_from R (Some e.0) es

same_truth : (a b : Bool) → (a ≡ true → b ≡ true) → (b ≡ true → a ≡ true) → a ≡ b
same_truth true b forth back = sym (forth refl)
same_truth false true forth back = back refl
same_truth false false forth back = refl

module _ {K X : Type 0} {R : K → K → Ordering} (o : IsTotalOrder R) where
  below_more : (x y : K) (es : List (K × X)) → R x y ≡ Less → below_all R y es ≡ true → below_all R x es ≡ true
  below_more x y [] lt h = refl
  below_more x y (e ∷ es) lt h =
      let here : R y e.0 ≡ Less = less_is (R y e.0) (first_true (is_lt (R y e.0)) (below_all R y es) h) in
      both_true (is_lt (R x e.0)) (below_all R x es) (ap is_lt (o.trans x y e.0 lt here)) (below_more x y es lt (second_true (is_lt (R y e.0)) (below_all R y es) h))

  sorted_behind : (last : K) (es : List (K × X)) → rises_from R (Some last) es ≡ true → (below_all R last es && is_sorted R es) ≡ true
  sorted_behind last [] h = refl
  sorted_behind last (e ∷ es) h =
      let lt = first_true (is_lt (R last e.0)) (rises_from R (Some e.0) es) h in
      let rest = sorted_behind e.0 es (second_true (is_lt (R last e.0)) (rises_from R (Some e.0) es) h) in
      let below = first_true (below_all R e.0 es) (is_sorted R es) rest in
      both_true (is_lt (R last e.0) && below_all R last es) (below_all R e.0 es && is_sorted R es)
      (both_true (is_lt (R last e.0)) (below_all R last es) lt (below_more last e.0 es (less_is (R last e.0) lt) below)) rest

  rises_behind : (last : K) (es : List (K × X)) → below_all R last es ≡ true → is_sorted R es ≡ true → rises_from R (Some last) es ≡ true
  rises_behind last [] below sorted = refl
  rises_behind last (e ∷ es) below sorted =
      both_true (is_lt (R last e.0)) (rises_from R (Some e.0) es) (first_true (is_lt (R last e.0)) (below_all R last es) below)
      (rises_behind e.0 es (first_true (below_all R e.0 es) (is_sorted R es) sorted) (second_true (below_all R e.0 es) (is_sorted R es) sorted))

  pub rises_is : (es : List (K × X)) → rises_from R None es ≡ is_sorted R es
  rises_is [] = refl
  rises_is (e ∷ es) = same_truth (rises_from R (Some e.0) es) (below_all R e.0 es && is_sorted R es)
      (sorted_behind e.0 es) (λ h. rises_behind e.0 es (first_true (below_all R e.0 es) (is_sorted R es) h) (second_true (below_all R e.0 es) (is_sorted R es) h))

  -- one more key
  pub rises_on : (last : Option K) (es : List (K × X)) (i : ℕ) (e : K × X) (key : K) (all : Bool) → i < length es → e ≡ slice_index_or es i e → key ≡ e.0 → is_behind R last key ≡ true
      → rises_from R last (drop i es) ≡ all → rises_from R (Some key) (drop (i + 1) es) ≡ all
  rises_on last es i e key all less is named behind whole =
      let here : rises_from R last (drop i es) ≡ (is_behind R last e.0 && rises_from R (Some e.0) (drop (i + 1) es)) =
      at_drop_more (rises_from R last) es i e less ∙ ap (λ (x : K × X). is_behind R last x.0 && rises_from R (Some x.0) (drop (i + 1) es)) (sym is) in
      let passes : is_behind R last e.0 ≡ true = ap (is_behind R last) (sym named) ∙ behind in
      ap (λ (k : K). rises_from R (Some k) (drop (i + 1) es)) named ∙ sym (ap (λ (b : Bool). b && rises_from R (Some e.0) (drop (i + 1) es)) passes) ∙ sym here ∙ whole

  pub rises_not : (last : Option K) (es : List (K × X)) (i : ℕ) (e : K × X) (all : Bool) → i < length es → e ≡ slice_index_or es i e → is_behind R last e.0 ≡ false
      → rises_from R last (drop i es) ≡ all → false ≡ all
  rises_not last es i e all less is falls whole =
      let here : rises_from R last (drop i es) ≡ (is_behind R last e.0 && rises_from R (Some e.0) (drop (i + 1) es)) =
      at_drop_more (rises_from R last) es i e less ∙ ap (λ (x : K × X). is_behind R last x.0 && rises_from R (Some x.0) (drop (i + 1) es)) (sym is) in
      sym (ap (λ (b : Bool). b && rises_from R (Some e.0) (drop (i + 1) es)) falls) ∙ sym here ∙ whole

  pub rises_all : (last : Option K) (es : List (K × X)) (i : ℕ) (all : Bool) → length es ≤ i → rises_from R last (drop i es) ≡ all → true ≡ all
  rises_all last es i all past whole = sym (at_drop_all (rises_from R last) es i past) ∙ whole

-- ---- what holds of each row

module _ {X : Type 0} (p : X → Bool) where
  pub all_on : (xs : List X) (i : ℕ) (x : X) (all : Bool) → i < length xs → x ≡ slice_index_or xs i x → p x ≡ true → list_all p (drop i xs) ≡ all → list_all p (drop (i + 1) xs) ≡ all
  all_on xs i x all less is passes whole =
      let here : list_all p (drop i xs) ≡ (p x && list_all p (drop (i + 1) xs)) = at_drop_more (list_all p) xs i x less ∙ ap (λ (y : X). p y && list_all p (drop (i + 1) xs)) (sym is) in
      sym (ap (λ (b : Bool). b && list_all p (drop (i + 1) xs)) passes) ∙ sym here ∙ whole

  pub all_not : (xs : List X) (i : ℕ) (x : X) (all : Bool) → i < length xs → x ≡ slice_index_or xs i x → p x ≡ false → list_all p (drop i xs) ≡ all → false ≡ all
  all_not xs i x all less is fails whole =
      let here : list_all p (drop i xs) ≡ (p x && list_all p (drop (i + 1) xs)) = at_drop_more (list_all p) xs i x less ∙ ap (λ (y : X). p y && list_all p (drop (i + 1) xs)) (sym is) in
      sym (ap (λ (b : Bool). b && list_all p (drop (i + 1) xs)) fails) ∙ sym here ∙ whole

  pub all_done : (xs : List X) (i : ℕ) (all : Bool) → length xs ≤ i → list_all p (drop i xs) ≡ all → true ≡ all
  all_done xs i all past whole = sym (at_drop_all (list_all p) xs i past) ∙ whole

-- ---- a search by halves

greater_back : {K : Type 0} {R : K → K → Ordering} → IsTotalOrder R → (a b : K) → R a b ≡ Less → R b a ≡ Greater
greater_back o a b less = o.antisymm b a ∙ ap ordering_reverse less

less_back : {K : Type 0} {R : K → K → Ordering} → IsTotalOrder R → (a b : K) → R a b ≡ Greater → R b a ≡ Less
less_back o a b greater = o.antisymm b a ∙ ap ordering_reverse greater

module _ {K X : Type 0} {R : K → K → Ordering} (o : IsTotalOrder R) where
  skip_less : (at : K) (e : K × X) (es : List (K × X)) → R e.0 at ≡ Less → find R at (e ∷ es) ≡ find R at es
  skip_less at e es less = ap (λ (r : Ordering). cond (is_eq r) (Some e.1) (find R at es)) (greater_back o e.0 at less)

  below_in : (x : K) (front : List (K × X)) (e : K × X) (rest : List (K × X)) → below_all R x (front ++ e ∷ rest) ≡ true → R x e.0 ≡ Less
  below_in x [] e rest below = less_is (R x e.0) (first_true (is_lt (R x e.0)) (below_all R x rest) below)
  below_in x (f ∷ front) e rest below = below_in x front e rest (second_true (is_lt (R x f.0)) (below_all R x (front ++ e ∷ rest)) below)

  none_above : (at : K) (es : List (K × X)) → below_all R at es ≡ true → find R at es ≡ None
  none_above at [] below = refl
  none_above at (e ∷ es) below =
      ap (λ (r : Ordering). cond (is_eq r) (Some e.1) (find R at es)) (less_is (R at e.0) (first_true (is_lt (R at e.0)) (below_all R at es) below))
      ∙ none_above at es (second_true (is_lt (R at e.0)) (below_all R at es) below)

  below_front : (x : K) (front rest : List (K × X)) → below_all R x (front ++ rest) ≡ true → below_all R x front ≡ true
  below_front x [] rest below = refl
  below_front x (f ∷ front) rest below =
      both_true (is_lt (R x f.0)) (below_all R x front) (first_true (is_lt (R x f.0)) (below_all R x (front ++ rest)) below) (below_front x front rest (second_true (is_lt (R x f.0)) (below_all R x (front ++ rest)) below))

  sorted_front : (front rest : List (K × X)) → is_sorted R (front ++ rest) ≡ true → is_sorted R front ≡ true
  sorted_front [] rest sorted = refl
  sorted_front (f ∷ front) rest sorted =
      both_true (below_all R f.0 front) (is_sorted R front) (below_front f.0 front rest (first_true (below_all R f.0 (front ++ rest)) (is_sorted R (front ++ rest)) sorted))
      (sorted_front front rest (second_true (below_all R f.0 (front ++ rest)) (is_sorted R (front ++ rest)) sorted))

  sorted_back : (front rest : List (K × X)) → is_sorted R (front ++ rest) ≡ true → is_sorted R rest ≡ true
  sorted_back [] rest sorted = sorted
  sorted_back (f ∷ front) rest sorted = sorted_back front rest (second_true (below_all R f.0 (front ++ rest)) (is_sorted R (front ++ rest)) sorted)

  behind_middle : (at : K) (front : List (K × X)) (e : K × X) (rest : List (K × X)) → is_sorted R (front ++ e ∷ rest) ≡ true → R e.0 at ≡ Less → find R at rest ≡ find R at (front ++ e ∷ rest)
  behind_middle at [] e rest sorted below = sym (skip_less at e rest below)
  behind_middle at (f ∷ front) e rest sorted below =
      let first : R f.0 e.0 ≡ Less = below_in f.0 front e rest (first_true (below_all R f.0 (front ++ e ∷ rest)) (is_sorted R (front ++ e ∷ rest)) sorted) in
      behind_middle at front e rest (second_true (below_all R f.0 (front ++ e ∷ rest)) (is_sorted R (front ++ e ∷ rest)) sorted) below
      ∙ sym (skip_less at f (front ++ e ∷ rest) (o.trans f.0 e.0 at first below))

  before_middle : (at : K) (front : List (K × X)) (e : K × X) (rest : List (K × X)) → is_sorted R (front ++ e ∷ rest) ≡ true → R e.0 at ≡ Greater → find R at front ≡ find R at (front ++ e ∷ rest)
  before_middle at [] e rest sorted above =
      let here : R at e.0 ≡ Less = less_back o e.0 at above in
      sym (none_above at (e ∷ rest) (both_true (is_lt (R at e.0)) (below_all R at rest) (ap is_lt here) (below_more o at e.0 rest here (first_true (below_all R e.0 rest) (is_sorted R rest) sorted))))
  before_middle at (f ∷ front) e rest sorted above =
      ap (cond (is_eq (R at f.0)) (Some f.1)) (before_middle at front e rest (second_true (below_all R f.0 (front ++ e ∷ rest)) (is_sorted R (front ++ e ∷ rest)) sorted) above)

  some_cond : (b : Bool) (x : X) (found : Option X) → is_some found ≡ true → is_some (cond b (Some x) found) ≡ true
  some_cond true x found is = refl
  some_cond false x found is = is

  at_middle : (at : K) (front : List (K × X)) (e : K × X) (rest : List (K × X)) → R e.0 at ≡ Equal → is_some (find R at (front ++ e ∷ rest)) ≡ true
  at_middle at [] e rest same =
      let here : R at e.0 ≡ Equal = o.antisymm at e.0 ∙ ap ordering_reverse same in
      ap (λ (r : Ordering). is_some (cond (is_eq r) (Some e.1) (find R at rest))) here
  at_middle at (f ∷ front) e rest same = some_cond (is_eq (R at f.0)) f.1 (find R at (front ++ e ∷ rest)) (at_middle at front e rest same)

  parted : (left front back rest : List (K × X)) (e : K × X) → left ≡ front ++ back → back ≡ e ∷ rest → left ≡ front ++ e ∷ rest
  parted left front back rest e cut first = cut ∙ ap (λ (l : List (K × X)). front ++ l) first

  pub sorted_rest : (left front back rest : List (K × X)) (e : K × X) → left ≡ front ++ back → back ≡ e ∷ rest → is_sorted R left ≡ true → is_sorted R rest ≡ true
  sorted_rest left front back rest e cut first sorted =
      second_true (below_all R e.0 rest) (is_sorted R rest) (sorted_back front (e ∷ rest) (ap (is_sorted R) (sym (parted left front back rest e cut first)) ∙ sorted))

  pub sorted_before : (left front back : List (K × X)) → left ≡ front ++ back → is_sorted R left ≡ true → is_sorted R front ≡ true
  sorted_before left front back cut sorted = sorted_front front back (ap (is_sorted R) (sym cut) ∙ sorted)

  pub found_behind : (at : K) (left front back rest : List (K × X)) (e : K × X) → left ≡ front ++ back → back ≡ e ∷ rest → is_sorted R left ≡ true → R e.0 at ≡ Less → find R at rest ≡ find R at left
  found_behind at left front back rest e cut first sorted below =
      let whole = parted left front back rest e cut first in
      behind_middle at front e rest (ap (is_sorted R) (sym whole) ∙ sorted) below ∙ ap (find R at) (sym whole)

  pub found_before : (at : K) (left front back rest : List (K × X)) (e : K × X) → left ≡ front ++ back → back ≡ e ∷ rest → is_sorted R left ≡ true → R e.0 at ≡ Greater → find R at front ≡ find R at left
  found_before at left front back rest e cut first sorted above =
      let whole = parted left front back rest e cut first in
      before_middle at front e rest (ap (is_sorted R) (sym whole) ∙ sorted) above ∙ ap (find R at) (sym whole)

  pub found_here : (at : K) (left front back rest : List (K × X)) (e : K × X) → left ≡ front ++ back → back ≡ e ∷ rest → R e.0 at ≡ Equal → is_some (find R at left) ≡ true
  found_here at left front back rest e cut first same =
      ap (λ (l : List (K × X)). is_some (find R at l)) (parted left front back rest e cut first) ∙ at_middle at front e rest same

-- ---- a table once more

module _ {K X : Type 0} {R : K → K → Ordering} (o : IsTotalOrder R) where
  inserted_last : (es : List (K × X)) (k : K) (x : X) → AllByRecursion (λ e. R e.0 k ≡ Less) es → insert_entry R es k x ≡ es ++ (k, x) ∷ []
  inserted_last [] k x h = refl
  inserted_last (e ∷ es) k x h = rw (greater_back o e.0 k h.0) (ap (λ (rest : List (K × X)). e ∷ rest) (inserted_last es k x h.1))

  all_before : (front rest : List (K × X)) (e : K × X) → IsStrictlySortedBy R (keys_of (front ++ e ∷ rest)) → AllByRecursion (λ f. R f.0 e.0 ≡ Less) front
  unfolding IsStrictlySortedBy
  all_before [] rest e sorted = tt
  all_before (f ∷ front) rest e sorted = (first_before f.0 front rest e sorted.0, all_before front rest e sorted.1) where
    first_before : (k : K) (front rest : List (K × X)) (e : K × X) → AllByRecursion (λ y. R k y ≡ Less) (keys_of (front ++ e ∷ rest)) → R k e.0 ≡ Less
    first_before k [] rest e all = all.0
    first_before k (g ∷ front) rest e all = first_before k front rest e all.1

  -- the next entry goes to the end
  pub copied_next : (copy new left rest whole : List (K × X)) (e : K × X) (row : X) → IsStrictlySortedBy R (keys_of whole) → left ≡ e ∷ rest → copy ++ left ≡ whole → row ≡ e.1
      → new ≡ insert_entry R copy e.0 row → new ++ rest ≡ whole
  copied_next copy new left rest whole e row sorted next are same is =
      let all : copy ++ e ∷ rest ≡ whole = ap (λ (l : List (K × X)). copy ++ l) (sym next) ∙ are in
      let before = all_before copy rest e (subst (λ (l : List (K × X)). IsStrictlySortedBy R (keys_of l)) (sym all) sorted) in
      ap (λ (l : List (K × X)). l ++ rest) (is ∙ ap (insert_entry R copy e.0) same ∙ inserted_last copy e.0 e.1 before) ∙ append_assoc copy (e ∷ []) rest ∙ all

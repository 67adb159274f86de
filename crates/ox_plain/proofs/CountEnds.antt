-- Changed counts are those between runes and the runes at the changes' other side where the test
-- says so.
use Rattle.std.proofs.Common.{◌≡◌, ◌∙◌, ℕ, zero, suc, ◌+◌, ◌-◌, ◌≤◌, Bool, true, false, cond, not, List, [], ◌∷◌, ◌++◌, length, refl, sym, ap, subst, Option, Some, None, arith}
use Rattle.std.specs.Prelude.{◌==◌, ◌&&◌, nat_le, slice_get, slice_set, IfNone}
use Rattle.std.specs.Option.{IfSome}
use Rattle.std.proofs.lemmas.List.{nil_from_length}
use Rattle.std.specs.Bool.{Decides}
use Rattle.std.specs.List.{list_all, AllByRecursion}
use Rattle.std.proofs.lemmas.Bool.Decides.{Decides-eqb, nat_tests}
use Rattle.ox_etching.specs.declared.row.RuneRow.{RuneRow}
use Rattle.ox_ledger.specs.declared.part.CountChange.{CountChange}
use Rattle.ox_ledger.specs.declared.part.Counts.{Counts}
use Rattle.ox_ledger.specs.Part.{counts_of, with_counts, Continues, counts_alike, changes_from, change_at, row_at_end, rows_at_end, counts_at}
use Rattle.ox_plain.specs.Same.{same_counts}
use Rattle.ox_plain.specs.Ends.{places_rise, has_counts, counts_stand}
use Rattle.ox_ledger.proofs.PartLemmas.{skips}
use Rattle.ox_ledger.proofs.MoveLemmas.{recounted, rows_last, rows_none}
use Rattle.ox_plain.proofs.SameLemmas.{same_counts-Decides}
use Rattle.ox_plain.proofs.DifferenceEnds.{first_true, second_true, both_true}

not_true : (b : Bool) → not b ≡ true → b ≡ false
not_true true is = absurd (cc is)
not_true false is = refl

not_false : (b : Bool) → b ≡ false → not b ≡ true
not_false true is = absurd (cc is)
not_false false is = refl

le_is : (a b : ℕ) → nat_le a b ≡ true → a ≤ b
le_is a b is = grind (arith, nat_tests)

is_le : (a b : ℕ) → a ≤ b → nat_le a b ≡ true
is_le a b is = grind (arith, nat_tests)

same_cons : {A : Type 0} (x y : A) (xs ys : List A) → x ≡ y → xs ≡ ys → x ∷ xs ≡ y ∷ ys
same_cons x y xs ys first rest = λ i. first i ∷ rest i

-- ---- what each change says

-- a rune of these, the first of which is at a place, has the counts at one side of a change
pub record Stands (side : CountChange → Counts) (p : ℕ) (rows : List RuneRow) (change : CountChange) : Type 0 where
  pub from : p ≤ change.place
  pub has : has_counts (slice_get rows (change.place - p)) (side change) ≡ true
  pub differ : same_counts change.before change.after ≡ false

abbrev AllStand : (CountChange → Counts) → ℕ → List RuneRow → List CountChange → Type 0
AllStand side p rows changes = AllByRecursion (Stands side p rows) changes

rise_from : (p q : ℕ) (changes : List CountChange) → p ≤ q → places_rise q changes ≡ true → places_rise p changes ≡ true
rise_from p q [] less rise = refl
rise_from p q (change ∷ changes) less rise =
    let first = le_is q change.place (first_true (nat_le q change.place) (places_rise (change.place + 1) changes) rise) in
    both_true (nat_le p change.place) (places_rise (change.place + 1) changes) (is_le p change.place (omega (arith, first, less))) (second_true (nat_le q change.place) (places_rise (change.place + 1) changes) rise)

module _ (side : CountChange → Counts) where
  -- the rune behind the first
  stands_next : (p : ℕ) (row : RuneRow) (rows : List RuneRow) (change : CountChange) → p + 1 ≤ change.place → Stands side p (row ∷ rows) change → Stands side (p + 1) rows change
  stands_next p row rows change behind is =
      let same : change.place - p ≡ suc (change.place - (p + 1)) = omega (arith, behind) in
      record {
        from = behind;
        has = ap (λ (k : ℕ). has_counts (slice_get (row ∷ rows) k) (side change)) (sym same) ∙ is.has;
        differ = is.differ;
      }

  next_stands : (p : ℕ) (row : RuneRow) (rows : List RuneRow) (change : CountChange) → Stands side (p + 1) rows change → Stands side p (row ∷ rows) change
  next_stands p row rows change is =
      let behind : p + 1 ≤ change.place = is.from in
      let same : change.place - p ≡ suc (change.place - (p + 1)) = omega (arith, behind) in
      record {
        from = omega (arith, behind);
        has = ap (λ (k : ℕ). has_counts (slice_get (row ∷ rows) k) (side change)) same ∙ is.has;
        differ = is.differ;
      }

  all_next : (p : ℕ) (row : RuneRow) (rows : List RuneRow) (changes : List CountChange) → places_rise (p + 1) changes ≡ true → AllStand side p (row ∷ rows) changes → AllStand side (p + 1) rows changes
  all_next p row rows [] rise all = tt
  all_next p row rows (change ∷ changes) rise all =
      let first = le_is (p + 1) change.place (first_true (nat_le (p + 1) change.place) (places_rise (change.place + 1) changes) rise) in
      let later = rise_from (p + 1) (change.place + 1) changes (omega (arith, first)) (second_true (nat_le (p + 1) change.place) (places_rise (change.place + 1) changes) rise) in
      (stands_next p row rows change first all.0, all_next p row rows changes later all.1)

  next_all : (p : ℕ) (row : RuneRow) (rows : List RuneRow) (changes : List CountChange) → AllStand side (p + 1) rows changes → AllStand side p (row ∷ rows) changes
  next_all p row rows [] all = tt
  next_all p row rows (change ∷ changes) all = (next_stands p row rows change all.0, next_all p row rows changes all.1)

  -- no rune, no change
  none_stand : (p : ℕ) (changes : List CountChange) → AllStand side p [] changes → changes ≡ []
  none_stand p [] all = refl
  none_stand p (change ∷ changes) all = let no : false ≡ true = all.0.has in absurd (cc no)

  from_all : (rows : List RuneRow) (changes : List CountChange) → list_all (λ change. has_counts (slice_get rows change.place) (side change) && not (same_counts change.before change.after)) changes ≡ true
      → AllStand side 0 rows changes
  from_all rows [] all = tt
  from_all rows (change ∷ changes) all =
      let p = λ (change : CountChange). has_counts (slice_get rows change.place) (side change) && not (same_counts change.before change.after) in
      let here : (has_counts (slice_get rows change.place) (side change) && not (same_counts change.before change.after)) ≡ true = first_true (p change) (list_all p changes) all in
      let has = first_true (has_counts (slice_get rows change.place) (side change)) (not (same_counts change.before change.after)) here in
      let other = second_true (has_counts (slice_get rows change.place) (side change)) (not (same_counts change.before change.after)) here in
      let zero_less : change.place ≡ change.place - 0 = omega arith in
      (record { from = omega arith; has = ap (λ (k : ℕ). has_counts (slice_get rows k) (side change)) (sym zero_less) ∙ has; differ = not_true (same_counts change.before change.after) other }, from_all rows changes (second_true (p change) (list_all p changes) all))

  to_all : (rows : List RuneRow) (changes : List CountChange) → AllStand side 0 rows changes
      → list_all (λ change. has_counts (slice_get rows change.place) (side change) && not (same_counts change.before change.after)) changes ≡ true
  to_all rows [] all = refl
  to_all rows (change ∷ changes) all =
      let zero_less : change.place ≡ change.place - 0 = omega arith in
      let has : has_counts (slice_get rows change.place) (side change) ≡ true = ap (λ (k : ℕ). has_counts (slice_get rows k) (side change)) zero_less ∙ all.0.has in
      both_true _ _ (both_true _ _ has (not_false (same_counts change.before change.after) all.0.differ)) (to_all rows changes all.1)

-- ---- the changes from one list to another

-- the rune at the first place has no change where changes begin behind it
none_here : (p : ℕ) (changes : List CountChange) → places_rise (p + 1) changes ≡ true → change_at changes p ≡ None
none_here p [] rise = refl
none_here p (change ∷ changes) rise = by_test (none_here p changes later) (change.place == p) refl where
  first : p + 1 ≤ change.place
  first = le_is (p + 1) change.place (first_true (nat_le (p + 1) change.place) (places_rise (change.place + 1) changes) rise)

  later : places_rise (p + 1) changes ≡ true
  later = rise_from (p + 1) (change.place + 1) changes (omega (arith, first)) (second_true (nat_le (p + 1) change.place) (places_rise (change.place + 1) changes) rise)

  by_test : change_at changes p ≡ None → (b : Bool) → (change.place == p) ≡ b → cond b (Some change) (change_at changes p) ≡ None
  by_test none true is = let e : change.place ≡ p = (Decides-eqb change.place p).0 is in absurd (omega (arith, e, first))
  by_test none false is = none

here_at : (p : ℕ) (change : CountChange) (changes : List CountChange) → change.place ≡ p → change_at (change ∷ changes) p ≡ Some change
here_at p change changes is = ap (λ (b : Bool). cond b (Some change) (change_at changes p)) ((Decides-eqb change.place p).1 is)

alike_itself : (row : RuneRow) → counts_alike row row ≡ true
alike_itself row = (same_counts-Decides (counts_of row) (counts_of row)).1 refl

has_is : (row : RuneRow) (counts : Counts) → has_counts (Some row) counts ≡ true → counts_of row ≡ counts
has_is row counts is = (same_counts-Decides (counts_of row) counts).0 is

cases : (p q : ℕ) → p ≤ q → (q == p) ≡ false → p + 1 ≤ q
cases p q less is = grind (arith, nat_tests)

-- a head of the changes
head_change : (p : ℕ) (old new : RuneRow) (before after : List RuneRow) (change : CountChange) (rest : List CountChange)
    → change.place ≡ p → counts_of old ≡ change.before → counts_of new ≡ change.after → same_counts change.before change.after ≡ false
    → changes_from (p + 1) before after ≡ rest → changes_from p (old ∷ before) (new ∷ after) ≡ change ∷ rest
unfolding changes_from
head_change p old new before after change rest place was is differ more =
    let other : counts_alike old new ≡ false = ap (λ (x : Counts). same_counts x (counts_of new)) was ∙ ap (same_counts change.before) is ∙ differ in
    ap (λ (b : Bool). cond b (changes_from (p + 1) before after) (record { place = p; before = counts_of old; after = counts_of new } ∷ changes_from (p + 1) before after)) other
    ∙ same_cons _ _ _ _ (λ i. record { place = sym place i; before = was i; after = is i }) more

no_change : (p : ℕ) (row : RuneRow) (before after : List RuneRow) → changes_from p (row ∷ before) (row ∷ after) ≡ changes_from (p + 1) before after
unfolding changes_from
no_change p row before after =
    ap (λ (b : Bool). cond b (changes_from (p + 1) before after) (record { place = p; before = counts_of row; after = counts_of row } ∷ changes_from (p + 1) before after)) (alike_itself row)

abbrev earlier : CountChange → Counts
earlier change = change.before

abbrev later : CountChange → Counts
later change = change.after

-- from the runes at the one side to these, at the other
abbrev Backward : ℕ → List RuneRow → List CountChange → Type 0
Backward p rows changes = changes_from p (rows_at_end earlier changes p rows) rows ≡ changes

abbrev Forward : ℕ → List RuneRow → List CountChange → Type 0
Forward p rows changes = changes_from p rows (rows_at_end later changes p rows) ≡ changes

-- where the first rune has no change
back_skips : (p : ℕ) (row : RuneRow) (rows : List RuneRow) (changes : List CountChange) → places_rise (p + 1) changes ≡ true → Backward (p + 1) rows changes → Backward p (row ∷ rows) changes
unfolding rows_at_end
back_skips p row rows changes rise rest =
    ap (λ (o : Option CountChange). changes_from p (row_at_end earlier o row ∷ rows_at_end earlier changes (p + 1) rows) (row ∷ rows)) (none_here p changes rise)
    ∙ no_change p row (rows_at_end earlier changes (p + 1) rows) rows ∙ rest

forth_skips : (p : ℕ) (row : RuneRow) (rows : List RuneRow) (changes : List CountChange) → places_rise (p + 1) changes ≡ true → Forward (p + 1) rows changes → Forward p (row ∷ rows) changes
unfolding rows_at_end
forth_skips p row rows changes rise rest =
    ap (λ (o : Option CountChange). changes_from p (row ∷ rows) (row_at_end later o row ∷ rows_at_end later changes (p + 1) rows)) (none_here p changes rise)
    ∙ no_change p row rows (rows_at_end later changes (p + 1) rows) ∙ rest

-- where it has one
back_changes : (p : ℕ) (row : RuneRow) (rows : List RuneRow) (change : CountChange) (changes : List CountChange) → change.place ≡ p → Stands later p (row ∷ rows) change
    → Backward (p + 1) rows changes → Backward p (row ∷ rows) (change ∷ changes)
unfolding rows_at_end
back_changes p row rows change changes at stands rest =
    let zero_is : change.place - p ≡ 0 = omega (arith, at) in
    let has : counts_of row ≡ change.after = has_is row change.after (ap (λ (k : ℕ). has_counts (slice_get (row ∷ rows) k) change.after) (sym zero_is) ∙ stands.has) in
    ap (λ (o : Option CountChange). changes_from p (row_at_end earlier o row ∷ rows_at_end earlier (change ∷ changes) (p + 1) rows) (row ∷ rows)) (here_at p change changes at)
    ∙ head_change p (with_counts row change.before) row (rows_at_end earlier (change ∷ changes) (p + 1) rows) rows change changes at refl has stands.differ
    (ap (λ (before : List RuneRow). changes_from (p + 1) before rows) (skips earlier change changes (p + 1) (omega (arith, at)) rows) ∙ rest)

forth_changes : (p : ℕ) (row : RuneRow) (rows : List RuneRow) (change : CountChange) (changes : List CountChange) → change.place ≡ p → Stands earlier p (row ∷ rows) change
    → Forward (p + 1) rows changes → Forward p (row ∷ rows) (change ∷ changes)
unfolding rows_at_end
forth_changes p row rows change changes at stands rest =
    let zero_is : change.place - p ≡ 0 = omega (arith, at) in
    let has : counts_of row ≡ change.before = has_is row change.before (ap (λ (k : ℕ). has_counts (slice_get (row ∷ rows) k) change.before) (sym zero_is) ∙ stands.has) in
    ap (λ (o : Option CountChange). changes_from p (row ∷ rows) (row_at_end later o row ∷ rows_at_end later (change ∷ changes) (p + 1) rows)) (here_at p change changes at)
    ∙ head_change p row (with_counts row change.after) rows (rows_at_end later (change ∷ changes) (p + 1) rows) change changes at has refl stands.differ
    (ap (λ (after : List RuneRow). changes_from (p + 1) rows after) (skips later change changes (p + 1) (omega (arith, at)) rows) ∙ rest)

behind : (p : ℕ) (change : CountChange) (changes : List CountChange) → (change.place == p) ≡ false → places_rise p (change ∷ changes) ≡ true → places_rise (p + 1) (change ∷ changes) ≡ true
behind p change changes is rise =
    let first = le_is p change.place (first_true (nat_le p change.place) (places_rise (change.place + 1) changes) rise) in
    both_true (nat_le (p + 1) change.place) (places_rise (change.place + 1) changes) (is_le (p + 1) change.place (cases p change.place first is)) (second_true (nat_le p change.place) (places_rise (change.place + 1) changes) rise)

after_first : (p : ℕ) (change : CountChange) (changes : List CountChange) → change.place ≡ p → places_rise p (change ∷ changes) ≡ true → places_rise (p + 1) changes ≡ true
after_first p change changes at rise =
    ap (λ (q : ℕ). places_rise (q + 1) changes) (sym at) ∙ second_true (nat_le p change.place) (places_rise (change.place + 1) changes) rise

leads_back : (rows : List RuneRow) (p : ℕ) (changes : List CountChange) → places_rise p changes ≡ true → AllStand later p rows changes → Backward p rows changes
unfolding changes_from rows_at_end
leads_back [] p changes rise all = sym (none_stand later p changes all)
leads_back (row ∷ rows) p [] rise all = back_skips p row rows [] refl (leads_back rows (p + 1) [] refl tt)
leads_back (row ∷ rows) p (change ∷ changes) rise all =
    by_test (leads_back rows (p + 1) (change ∷ changes)) (leads_back rows (p + 1) changes) (change.place == p) refl where
      by_test : (places_rise (p + 1) (change ∷ changes) ≡ true → AllStand later (p + 1) rows (change ∷ changes) → Backward (p + 1) rows (change ∷ changes))
          → (places_rise (p + 1) changes ≡ true → AllStand later (p + 1) rows changes → Backward (p + 1) rows changes)
          → (b : Bool) → (change.place == p) ≡ b → Backward p (row ∷ rows) (change ∷ changes)
      by_test whole rest true is =
          let at : change.place ≡ p = (Decides-eqb change.place p).0 is in
          let rises = after_first p change changes at rise in
          back_changes p row rows change changes at all.0 (rest rises (all_next later p row rows changes rises all.1))
      by_test whole rest false is =
          let rises = behind p change changes is rise in
          back_skips p row rows (change ∷ changes) rises (whole rises (all_next later p row rows (change ∷ changes) rises all))

leads_forth : (rows : List RuneRow) (p : ℕ) (changes : List CountChange) → places_rise p changes ≡ true → AllStand earlier p rows changes → Forward p rows changes
unfolding changes_from rows_at_end
leads_forth [] p changes rise all = sym (none_stand earlier p changes all)
leads_forth (row ∷ rows) p [] rise all = forth_skips p row rows [] refl (leads_forth rows (p + 1) [] refl tt)
leads_forth (row ∷ rows) p (change ∷ changes) rise all =
    by_test (leads_forth rows (p + 1) (change ∷ changes)) (leads_forth rows (p + 1) changes) (change.place == p) refl where
      by_test : (places_rise (p + 1) (change ∷ changes) ≡ true → AllStand earlier (p + 1) rows (change ∷ changes) → Forward (p + 1) rows (change ∷ changes))
          → (places_rise (p + 1) changes ≡ true → AllStand earlier (p + 1) rows changes → Forward (p + 1) rows changes)
          → (b : Bool) → (change.place == p) ≡ b → Forward p (row ∷ rows) (change ∷ changes)
      by_test whole rest true is =
          let at : change.place ≡ p = (Decides-eqb change.place p).0 is in
          let rises = after_first p change changes at rise in
          forth_changes p row rows change changes at all.0 (rest rises (all_next earlier p row rows changes rises all.1))
      by_test whole rest false is =
          let rises = behind p change changes is rise in
          forth_skips p row rows (change ∷ changes) rises (whole rises (all_next earlier p row rows (change ∷ changes) rises all))

-- ---- the converse

change_rise : (p : ℕ) (before after : List RuneRow) → places_rise p (changes_from p before after) ≡ true
unfolding changes_from
change_rise p [] after = refl
change_rise p (old ∷ before) [] = refl
change_rise p (old ∷ before) (new ∷ after) = by_test (change_rise (p + 1) before after) (counts_alike old new) where
  by_test : places_rise (p + 1) (changes_from (p + 1) before after) ≡ true → (b : Bool)
      → places_rise p (cond b (changes_from (p + 1) before after) (record { place = p; before = counts_of old; after = counts_of new } ∷ changes_from (p + 1) before after)) ≡ true
  by_test rest true = rise_from p (p + 1) (changes_from (p + 1) before after) (omega arith) rest
  by_test rest false = both_true (nat_le p p) (places_rise (p + 1) (changes_from (p + 1) before after)) (is_le p p (omega arith)) rest

has_itself : (p : ℕ) (row : RuneRow) (rows : List RuneRow) → has_counts (slice_get (row ∷ rows) (p - p)) (counts_of row) ≡ true
has_itself p row rows =
    let zero_is : p - p ≡ 0 = omega arith in
    ap (λ (k : ℕ). has_counts (slice_get (row ∷ rows) k) (counts_of row)) zero_is ∙ (same_counts-Decides (counts_of row) (counts_of row)).1 refl

changes_stand : (p : ℕ) (before after : List RuneRow) → AllStand earlier p before (changes_from p before after) × AllStand later p after (changes_from p before after)
unfolding changes_from
changes_stand p [] after = (tt, tt)
changes_stand p (old ∷ before) [] = (tt, tt)
changes_stand p (old ∷ before) (new ∷ after) = by_test (changes_stand (p + 1) before after) (counts_alike old new) refl where
  by_test : AllStand earlier (p + 1) before (changes_from (p + 1) before after) × AllStand later (p + 1) after (changes_from (p + 1) before after) → (b : Bool) → counts_alike old new ≡ b
      → AllStand earlier p (old ∷ before) (cond b (changes_from (p + 1) before after) (record { place = p; before = counts_of old; after = counts_of new } ∷ changes_from (p + 1) before after))
      × AllStand later p (new ∷ after) (cond b (changes_from (p + 1) before after) (record { place = p; before = counts_of old; after = counts_of new } ∷ changes_from (p + 1) before after))
  by_test rest true is = (next_all earlier p old before (changes_from (p + 1) before after) rest.0, next_all later p new after (changes_from (p + 1) before after) rest.1)
  by_test rest false is = (
    (record { from = omega arith; has = has_itself p old before; differ = is }, next_all earlier p old before (changes_from (p + 1) before after) rest.0),
    (record { from = omega arith; has = has_itself p new after; differ = is }, next_all later p new after (changes_from (p + 1) before after) rest.1),
  )

-- runes behind those before have no changes
pub changes_within_front : (p : ℕ) (before after tail : List RuneRow) → length before ≡ length after → changes_from p before (after ++ tail) ≡ changes_from p before after
unfolding changes_from
changes_within_front p [] after tail is = refl
changes_within_front p (old ∷ before) [] tail is = absurd (omega (arith, is))
changes_within_front p (old ∷ before) (new ∷ after) tail is =
    ap (λ (rest : List CountChange). cond (counts_alike old new) rest (record { place = p; before = counts_of old; after = counts_of new } ∷ rest)) (changes_within_front (p + 1) before after tail (omega (arith, is)))

-- ---- both ways

pub stand_after : (rows : List RuneRow) (changes : List CountChange) → Decides (counts_stand (counts_at false) rows changes) (changes ≡ changes_from 0 (rows_at_end (counts_at true) changes 0 rows) rows)
stand_after rows changes = (
  λ is. sym (leads_back rows 0 changes (first_true (places_rise 0 changes) _ is) (from_all later rows changes (second_true (places_rise 0 changes) _ is))),
  λ is.
      let before = rows_at_end earlier changes 0 rows in
      both_true _ _ (ap (places_rise 0) is ∙ change_rise 0 before rows) (to_all later rows changes (subst (AllStand later 0 rows) (sym is) (changes_stand 0 before rows).1)),
)

pub stand_before : (rows : List RuneRow) (changes : List CountChange) → Decides (counts_stand (counts_at true) rows changes) (changes ≡ changes_from 0 rows (rows_at_end (counts_at false) changes 0 rows))
stand_before rows changes = (
  λ is. sym (leads_forth rows 0 changes (first_true (places_rise 0 changes) _ is) (from_all earlier rows changes (second_true (places_rise 0 changes) _ is))),
  λ is.
      let after = rows_at_end later changes 0 rows in
      both_true _ _ (ap (places_rise 0) is ∙ change_rise 0 rows after) (to_all earlier rows changes (subst (AllStand earlier 0 rows) (sym is) (changes_stand 0 rows after).0)),
)

-- ---- runes go on

row_goes_on : (change : Option CountChange) (row : RuneRow) → row ≡ with_counts (row_at_end earlier change row) (counts_of row)
row_goes_on None row = refl
row_goes_on (Some change) row = refl

row_came_on : (change : Option CountChange) (row : RuneRow) → row_at_end later change row ≡ with_counts row (counts_of (row_at_end later change row))
row_came_on None row = refl
row_came_on (Some change) row = refl

pub goes_on_after : (p : ℕ) (changes : List CountChange) (rows tail : List RuneRow) → Continues (rows_at_end (counts_at true) changes p rows) (rows ++ tail)
unfolding rows_at_end
goes_on_after p changes [] tail = tt
goes_on_after p changes (row ∷ rows) tail = (row_goes_on (change_at changes p) row, goes_on_after (p + 1) changes rows tail)

pub goes_on_before : (p : ℕ) (changes : List CountChange) (rows tail : List RuneRow) → Continues rows (rows_at_end (counts_at false) changes p rows ++ tail)
unfolding rows_at_end
goes_on_before p changes [] tail = tt
goes_on_before p changes (row ∷ rows) tail = (row_came_on (change_at changes p) row, goes_on_before (p + 1) changes rows tail)

-- ---- counts that are put

-- a change of a rune that isn't there changes none
unmoved : (side : CountChange → Counts) (change : CountChange) (p k : ℕ) (rows : List RuneRow) → change.place ≡ p + k → slice_get rows k ≡ None → rows_at_end side (change ∷ []) p rows ≡ rows
unfolding rows_at_end
unmoved side change p k [] is none = refl
unmoved side change p zero (row ∷ rows) is none = let no : Some row ≡ None = none in absurd (cc no)
unmoved side change p (suc k) (row ∷ rows) is none =
    let behind : places_rise (p + 1) (change ∷ []) ≡ true = both_true (nat_le (p + 1) change.place) true (is_le (p + 1) change.place (omega (arith, is))) refl in
    same_cons _ _ _ _ (ap (λ (o : Option CountChange). row_at_end side o row) (none_here p (change ∷ []) behind)) (unmoved side change (p + 1) k rows (omega (arith, is)) none)

-- what puts other counts of the rune at a place
pub put_counts : (side : CountChange → Counts) (change : CountChange) (counts : Counts) (now new : List RuneRow) → counts ≡ side change
    → IfSome (slice_get now change.place) (λ row. new ≡ slice_set now change.place (with_counts row counts)) → IfNone (slice_get now change.place) (new ≡ now)
    → new ≡ rows_at_end side (change ∷ []) 0 now
put_counts side change counts now new are there beyond = by_row (slice_get now change.place) refl there beyond where
  by_row : (row : Option RuneRow) → slice_get now change.place ≡ row → IfSome row (λ row. new ≡ slice_set now change.place (with_counts row counts)) → IfNone row (new ≡ now) → new ≡ rows_at_end side (change ∷ []) 0 now
  by_row None none there beyond = beyond ∙ sym (unmoved side change 0 change.place now (omega arith) none)
  by_row (Some row) is there beyond = there ∙ ap (λ (c : Counts). slice_set now change.place (with_counts row c)) are ∙ recounted side change now row is

-- the last of the changes that are left
pub recount_next : (side : CountChange → Counts) (now new : List RuneRow) (left before : List CountChange) (change : CountChange) (all : List RuneRow) → left ≡ before ++ change ∷ []
    → new ≡ rows_at_end side (change ∷ []) 0 now → rows_at_end side left 0 now ≡ all → rows_at_end side before 0 new ≡ all
recount_next side now new left before change all is put whole =
    ap (rows_at_end side before 0) put ∙ sym (rows_last side before change 0 now) ∙ sym (ap (λ (l : List CountChange). rows_at_end side l 0 now) is) ∙ whole

pub recount_done : (side : CountChange → Counts) (now : List RuneRow) (left : List CountChange) (all : List RuneRow) → length left ≡ 0 → rows_at_end side left 0 now ≡ all → now ≡ all
recount_done side now left all none whole = sym (ap (λ (l : List CountChange). rows_at_end side l 0 now) (nil_from_length left none) ∙ rows_none side 0 now) ∙ whole

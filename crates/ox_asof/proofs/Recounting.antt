-- Rows of runes with the counts before the oldest change that names them.
use Rattle.std.proofs.Common.{◌≡◌, ◌∙◌, ℕ, ◌<◌, ◌==◌, Bool, true, false, cond, List, [], ◌∷◌, ◌++◌, refl, sym, ap, arith, Option, Some, None, is_some, slice_get, option_map, nat_lt, eqb-true, lt-ltb, ltb-true, true≢false}
use Rattle.std.specs.Prelude.{◌||◌, not}
use Rattle.std.specs.Option.{option_or}
use Rattle.ox_etching.specs.declared.row.RuneRow.{RuneRow}
use Rattle.ox_ledger.specs.Part.{change_at, with_counts}
use Rattle.ox_ledger.specs.declared.part.CountChange.{CountChange}
use Rattle.ox_ledger.specs.declared.part.Counts.{Counts}
use Rattle.ox_asof.specs.Past.{AreRecounted, counted_before}

or_none : {A : Type 0} (o : Option A) → option_or o None ≡ o
or_none None = refl
or_none (Some x) = refl

or_or : {A : Type 0} (a b c : Option A) → option_or (option_or a b) c ≡ option_or a (option_or b c)
or_or None b c = refl
or_or (Some x) b c = refl

-- rows of counts that are told alike
pub recounted_alike : (runes : List RuneRow) (end : ℕ) (f g : ℕ → Option Counts) (rows : ℕ → Option RuneRow) → ((place : ℕ) → f place ≡ g place) → AreRecounted runes end f rows → AreRecounted runes end g rows
recounted_alike runes end f g rows same are = λ place row less there. are place row less there ∙ ap (option_map (with_counts row)) (same place)

-- ---- one change of counts

counted_once : (change : CountChange) (place : ℕ) → counted_before (change ∷ []) place ≡ cond (change.place == place) (Some change.before) None
counted_once change place = by_test (change.place == place) where
  by_test : (b : Bool) → option_map (λ (c : CountChange). c.before) (cond b (Some change) None) ≡ cond b (Some change.before) None
  by_test true = refl
  by_test false = refl

before_push : (changes : List CountChange) (change : CountChange) (place : ℕ) → counted_before (changes ++ change ∷ []) place ≡ option_or (counted_before changes place) (counted_before (change ∷ []) place)
before_push [] change place = refl
before_push (first ∷ changes) change place = by_test (first.place == place) (before_push changes change place) where
  by_test : (b : Bool) → counted_before (changes ++ change ∷ []) place ≡ option_or (counted_before changes place) (counted_before (change ∷ []) place)
      → option_map (λ (c : CountChange). c.before) (cond b (Some first) (change_at (changes ++ change ∷ []) place))
      ≡ option_or (option_map (λ (c : CountChange). c.before) (cond b (Some first) (change_at changes place))) (counted_before (change ∷ []) place)
  by_test true rest = refl
  by_test false rest = rest

-- behind some changes and one more
pub one_further : (counts : ℕ → Option Counts) (before after : List CountChange) (change : CountChange) (place : ℕ) → after ≡ before ++ change ∷ []
    → option_or (option_or (counts place) (counted_before before place)) (counted_before (change ∷ []) place) ≡ option_or (counts place) (counted_before after place)
one_further counts before after change place is =
    or_or (counts place) (counted_before before place) (counted_before (change ∷ []) place)
    ∙ ap (option_or (counts place)) (sym (before_push before change place) ∙ ap (λ (l : List CountChange). counted_before l place) (sym is))

module _ (runes : List RuneRow) (end : ℕ) (change : CountChange) (counts : ℕ → Option Counts) (old : ℕ → Option RuneRow) (are : AreRecounted runes end counts old) where
  abbrev more : ℕ → Option Counts
  more place = option_or (counts place) (counted_before (change ∷ []) place)

  other_place : (place : ℕ) → (change.place == place) ≡ false → counts place ≡ more place
  other_place place other =
      sym (or_none (counts place))
      ∙ ap (option_or (counts place)) (sym (counted_once change place ∙ ap (λ (b : Bool). cond b (Some change.before) None) other))

  -- it isn't below the end
  pub past_end : nat_lt change.place end ≡ false → AreRecounted runes end more old
  past_end past = λ place row less there. are place row less there ∙ ap (option_map (with_counts row)) (by_test place less (change.place == place) refl) where
    by_test : (place : ℕ) → place < end → (b : Bool) → (change.place == place) ≡ b → counts place ≡ more place
    by_test place less false other = other_place place other
    by_test place less true same =
        let is : change.place ≡ place = eqb-true change.place place same in
        absurd (true≢false (sym (lt-ltb change.place end (omega (arith, is, less))) ∙ past))

  -- its row is kept already
  pub kept_already : is_some (old change.place) ≡ true → AreRecounted runes end more old
  kept_already kept = λ place row less there. are place row less there ∙ ap (option_map (with_counts row)) (by_test place row (are place row less there) (change.place == place) refl) where
    some_first : (row : RuneRow) (o : Option Counts) (other : Option Counts) → is_some (option_map (with_counts row) o) ≡ true → o ≡ option_or o other
    some_first row (Some x) other is = refl
    some_first row None other is = absurd (cc is)

    by_test : (place : ℕ) (row : RuneRow) → old place ≡ option_map (with_counts row) (counts place) → (b : Bool) → (change.place == place) ≡ b → counts place ≡ more place
    by_test place row is false other = other_place place other
    by_test place row is true same =
        let here : change.place ≡ place = eqb-true change.place place same in
        some_first row (counts place) (counted_before (change ∷ []) place) (ap is_some (sym is ∙ ap old (sym here)) ∙ kept)

  -- its row is put
  pub put_row : (new : ℕ → Option RuneRow) (kept : RuneRow) → is_some (old change.place) ≡ false → slice_get runes change.place ≡ Some kept
      → ((place : ℕ) → new place ≡ cond (change.place == place) (Some (with_counts kept change.before)) (old place)) → AreRecounted runes end more new
  put_row new kept none is put = λ place row less there. put place ∙ by_test place row less there (change.place == place) refl where
    none_first : (o : Option Counts) (row : RuneRow) (other : Option Counts) → is_some (option_map (with_counts row) o) ≡ false → option_or o other ≡ other
    none_first None row other is = refl
    none_first (Some x) row other is = absurd (cc is)

    by_test : (place : ℕ) (row : RuneRow) → place < end → slice_get runes place ≡ Some row → (b : Bool) → (change.place == place) ≡ b
        → cond b (Some (with_counts kept change.before)) (old place) ≡ option_map (with_counts row) (more place)
    by_test place row less there false other = are place row less there ∙ ap (option_map (with_counts row)) (other_place place other)
    by_test place row less there true same =
        let here : change.place ≡ place = eqb-true change.place place same in
        let one : kept ≡ row = same_some kept row (sym is ∙ ap (slice_get runes) here ∙ there) in
        let absent : is_some (option_map (with_counts row) (counts place)) ≡ false = ap is_some (sym (are place row less there) ∙ ap old (sym here)) ∙ none in
        ap (λ (r : RuneRow). Some (with_counts r change.before)) one
        ∙ ap (option_map (with_counts row))
        (sym (none_first (counts place) row (counted_before (change ∷ []) place) absent
        ∙ counted_once change place ∙ ap (λ (b : Bool). cond b (Some change.before) None) same))
      where
        same_some : (x y : RuneRow) → Some x ≡ Some y → x ≡ y
        same_some x y e = cc e

  -- so none is put
  pub none_put : (not (nat_lt change.place end) || is_some (old change.place)) ≡ true → AreRecounted runes end more old
  none_put done = by_test (nat_lt change.place end) refl done where
    by_test : (b : Bool) → nat_lt change.place end ≡ b → (not b || is_some (old change.place)) ≡ true → AreRecounted runes end more old
    by_test false past is = past_end past
    by_test true less is = kept_already is

  -- or one is
  pub one_put : (new : ℕ → Option RuneRow) (kept : RuneRow) → (not (nat_lt change.place end) || is_some (old change.place)) ≡ false → slice_get runes change.place ≡ Some kept
      → ((place : ℕ) → new place ≡ cond (change.place == place) (Some (with_counts kept change.before)) (old place)) → AreRecounted runes end more new
  one_put new kept done there put = put_row new kept (by_test (nat_lt change.place end) done) there put where
    by_test : (b : Bool) → (not b || is_some (old change.place)) ≡ false → is_some (old change.place) ≡ false
    by_test false is = absurd (cc is)
    by_test true is = is

-- a place that isn't done with is below the end
pub below_end : (place end : ℕ) (other : Bool) → (not (nat_lt place end) || other) ≡ false → place < end
below_end place end other done = ltb-true place end (by_test (nat_lt place end) done) where
  by_test : (b : Bool) → (not b || other) ≡ false → b ≡ true
  by_test false is = absurd (cc is)
  by_test true is = refl

-- what a map has at each place once a row is put
pub row_put : (old new : ℕ → Option RuneRow) (at : ℕ) (row : RuneRow) (same : ℕ → Bool) → ((place : ℕ) → same place ≡ (at == place)) → ((place : ℕ) → new place ≡ cond (same place) (Some row) (old place))
    → (place : ℕ) → new place ≡ cond (at == place) (Some row) (old place)
row_put old new at row same alike put place = put place ∙ ap (λ (b : Bool). cond b (Some row) (old place)) (alike place)

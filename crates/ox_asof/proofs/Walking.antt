-- A walk over the satoshis that bear inscriptions, past those whose inscriptions are all too new.
use Rattle.std.proofs.Common.{inl, inr, ◌≡◌, ◌≢◌, ◌∙◌, ◌<◌, ◌≤◌, ◌^◌, ◌+◌, ℕ, Bool, true, false, cond, List, [], ◌∷◌, length, filter, refl, sym, ap, subst, arith, Option, Some, None, nat_lt, IfSome, true≢false}
use Rattle.std.specs.Prelude.{◌⊎◌, ◌==◌, All}
use Rattle.std.specs.Option.{option_map_or}
use Rattle.std.proofs.lemmas.Bool.{cases_lt, eqb-true}
use Rattle.std.proofs.lemmas.List.Elements.{All-head, All-tail}
use Rattle.ox_sat.specs.Profiles.{IsProfile}
use Rattle.ox_sat.specs.declared.profiles.Profile.{Profile}
use Rattle.ox_sat.specs.Heights.{first_at}
use Rattle.ox_sat.proofs.Epochs.{Counts, counts, first_most}
use Rattle.ox_inscribe.specs.Inscriptions.{is_on, next_on, numbers_where, on}
use Rattle.ox_inscribe.specs.Numbers.{IsFirstOn, IsNextOn}
use Rattle.ox_inscribe.specs.declared.row.InsRow.{InsRow}
use Rattle.ox_inscribe.proofs.NextKeyLaws.{one_next}
use Rattle.ox_inscribe.proofs.NextLaws.{next_shown}
use Rattle.ox_model.specs.Index.{Index}
use Rattle.ox_model.specs.Sound.{IsSound}
use Rattle.ox_asof.proofs.Fronts.{IsFront}
use Rattle.ox_asof.proofs.Numbering.{on_front}

abbrev Below : ℕ → InsRow → Type 0
Below limit row = IfSome row.sat (λ s. s < limit)

-- a satoshi with a row is below the bound of all
on_below : (sat limit from : ℕ) (rows : List InsRow) → All (Below limit) rows → numbers_where (is_on sat) from rows ≢ [] → sat < limit
unfolding numbers_where
on_below sat limit from [] all some = absurd (some refl)
on_below sat limit from (row ∷ rows) all some =
    by_sat row.sat (All-head (Below limit) row rows all) some (on_below sat limit (from + 1) rows (All-tail (Below limit) row rows all))
  where
    by_same : (s : ℕ) → s < limit → (b : Bool) → (s == sat) ≡ b → cond b (from ∷ numbers_where (is_on sat) (from + 1) rows) (numbers_where (is_on sat) (from + 1) rows) ≢ []
        → (numbers_where (is_on sat) (from + 1) rows ≢ [] → sat < limit) → sat < limit
    by_same s less true same some rest = let is : s ≡ sat = eqb-true s sat same in omega (arith, is, less)
    by_same s less false same some rest = rest some

    by_sat : (o : Option ℕ) → IfSome o (λ s. s < limit)
        → cond (option_map_or (λ s. s == sat) o false) (from ∷ numbers_where (is_on sat) (from + 1) rows) (numbers_where (is_on sat) (from + 1) rows) ≢ []
        → (numbers_where (is_on sat) (from + 1) rows ≢ [] → sat < limit) → sat < limit
    by_sat None less some rest = rest some
    by_sat (Some s) less some rest = by_same s less (s == sat) refl some rest

-- no satoshi from the first up to another bears one of these
abbrev pub NoneTo : List InsRow → ℕ → ℕ → Type 0
NoneTo front sat from = (s : ℕ) → sat ≤ s → s < from → on front s ≡ []

module _ (front whole : List InsRow) (end sat : ℕ) (is : IsFront front whole) (long : end ≡ length front) where
  none_on : (s : ℕ) → on whole s ≡ [] → on front s ≡ []
  none_on s none = sym (on_front front whole end s is long) ∙ ap (filter (λ k. nat_lt k end)) none

  module _ (from found : ℕ) (all : List ℕ) (low : sat ≤ from) (none : NoneTo front sat from) (next : Some (found, all) ≡ next_on whole from) where
    first : IsFirstOn whole from (found, all)
    first = subst (IsNextOn whole from) (sym next) (next_shown whole from)

    pub all_on : all ≡ on whole found
    all_on = first.numbers

    pub further_on : from ≤ found
    further_on = first.from

    pub low_on : sat ≤ found
    low_on = omega (arith, low, first.from)

    none_between : (s : ℕ) → sat ≤ s → s < found → on front s ≡ []
    none_between s above less = by_order (cases_lt s from) where
      by_order : (s < from) ⊎ (from ≤ s) → on front s ≡ []
      by_order (inl under) = none s above under
      by_order (inr over) = none_on s (first.first s over less)

    cut : filter (λ k. nat_lt k end) all ≡ on front found
    cut = ap (filter (λ k. nat_lt k end)) all_on ∙ on_front front whole end found is long

    -- those on this one are all too new
    pub none_further : (numbers : List ℕ) → numbers ≡ filter (λ k. nat_lt k end) all → numbers ≡ [] → NoneTo front sat (found + 1)
    none_further numbers are empty = λ s above less. by_order s above less (cases_lt s found) where
      by_order : (s : ℕ) → sat ≤ s → s < found + 1 → (s < found) ⊎ (found ≤ s) → on front s ≡ []
      by_order s above less (inl under) = none_between s above under
      by_order s above less (inr over) =
          let same : s ≡ found = omega (arith, less, over) in
          ap (on front) same ∙ sym cut ∙ sym are ∙ empty

    -- or not
    pub found_first : (numbers : List ℕ) → numbers ≡ filter (λ k. nat_lt k end) all → numbers ≢ [] → Some (found, numbers) ≡ next_on front sat
    found_first numbers are some =
        one_next front sat (Some (found, numbers)) (next_on front sat)
        (record { from = low_on; numbers = are ∙ cut; some = some; first = none_between }) (next_shown front sat)

    -- one satoshi further there is room
    pub room : (p : Profile) (index : Index) → IsProfile p → IsSound p index → index.inscriptions ≡ whole → found + 1 < 2 ^ 64
    room p index known sound of =
        let c : Counts p = counts p known in
        let some : on whole found ≢ [] = λ no. first.some (first.numbers ∙ no) in
        let minted = subst (All (λ (row : InsRow). IfSome row.sat (λ s. s < first_at p (length index.hashes)))) of sound.inscriptions.minted in
        let below : found < first_at p (length index.hashes) = on_below found (first_at p (length index.hashes)) 0 whole minted some in
        omega (arith, below, first_most p (length index.hashes) c, c.few)

  -- there is no next one
  pub none_next : (from : ℕ) → NoneTo front sat from → None ≡ next_on whole from → None ≡ next_on front sat
  none_next from none next =
      one_next front sat None (next_on front sat) (λ s above. by_order s above (cases_lt s from)) (next_shown front sat)
    where
      nowhere : (s : ℕ) → from ≤ s → on whole s ≡ []
      nowhere = subst (IsNextOn whole from) (sym next) (next_shown whole from)

      by_order : (s : ℕ) → sat ≤ s → (s < from) ⊎ (from ≤ s) → on front s ≡ []
      by_order s above (inl under) = none s above under
      by_order s above (inr over) = none_on s (nowhere s over)

-- ---- whether there is a number

pub some_is : (numbers : List ℕ) (empty : Bool) → empty ≡ (length numbers == 0) → empty ≡ false → numbers ≢ []
some_is numbers empty is some none = true≢false (sym (ap (λ (l : List ℕ). length l == 0) none) ∙ sym is ∙ some)

pub empty_is : (numbers : List ℕ) (empty : Bool) → empty ≡ (length numbers == 0) → empty ≡ true → numbers ≡ []
empty_is numbers empty is none = no_more numbers (eqb-true (length numbers) 0 (sym is ∙ none)) where
  no_more : (l : List ℕ) → length l ≡ 0 → l ≡ []
  no_more [] long = refl
  no_more (n ∷ l) long = absurd (omega (arith, long))

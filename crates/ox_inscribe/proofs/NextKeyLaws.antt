-- The next satoshi that a map has is the next that bears an inscription.
use Rattle.std.proofs.Common.{inl, inr, ◌≡◌, ◌≢◌, ◌∙◌, ◌<◌, ◌≤◌, ℕ, ◌+◌, Bool, true, false, cond, List, [], ◌∷◌, take, refl, sym, ap, arith, Option, Some, None, nat_lt}
use Rattle.std.specs.Prelude.{◌⊎◌, filter}
use Rattle.std.specs.BTreeMap.{BTreeMap}
use Rattle.std.specs.Ordering.{nat_cmp}
use Rattle.std.proofs.lemmas.Bool.{cases_lt, cond-false, cond-true, ltb-false}
use Rattle.ox_inscribe.specs.Inscriptions.{is_on, numbers_where, on}
use Rattle.ox_inscribe.specs.Numbers.{IsNextOn}
use Rattle.ox_inscribe.specs.Shelved.{at, starts_below, IsLeastBelow, IsNextBelow}
use Rattle.ox_inscribe.specs.declared.row.InsRow.{InsRow}
use Rattle.ox_inscribe.proofs.ShelfLaws.{none_before, numbers_cut}

-- ---- numbers of rows that are shown

shown_some : (end : ℕ) (numbers : List ℕ) → starts_below end numbers ≡ true → filter (λ n. nat_lt n end) numbers ≢ []
shown_some end [] starts = absurd (cc starts)
shown_some end (n ∷ numbers) starts = λ none. cc (sym (cond-true (nat_lt n end) (n ∷ filter (λ n. nat_lt n end) numbers) (filter (λ n. nat_lt n end) numbers) starts) ∙ none)

shown_none : (passes : InsRow → Bool) (from end : ℕ) (rows : List InsRow) → starts_below end (numbers_where passes from rows) ≡ false → filter (λ n. nat_lt n end) (numbers_where passes from rows) ≡ []
unfolding numbers_where
shown_none passes from end [] starts = refl
shown_none passes from end (row ∷ rows) starts = by_test (passes row) starts (none_before passes (from + 1) end rows) (shown_none passes (from + 1) end rows) where
  by_test : (passed : Bool) → starts_below end (cond passed (from ∷ numbers_where passes (from + 1) rows) (numbers_where passes (from + 1) rows)) ≡ false → (end ≤ from + 1 → filter (λ n. nat_lt n end) (numbers_where passes (from + 1) rows) ≡ []) → (starts_below end (numbers_where passes (from + 1) rows) ≡ false → filter (λ n. nat_lt n end) (numbers_where passes (from + 1) rows) ≡ []) → filter (λ n. nat_lt n end) (cond passed (from ∷ numbers_where passes (from + 1) rows) (numbers_where passes (from + 1) rows)) ≡ []
  by_test true starts above later = let low : end ≤ from = ltb-false from end starts in cond-false _ _ _ starts ∙ above (omega arith)
  by_test false starts above later = later starts

shown_on : (rows : List InsRow) (shown sat : ℕ) → filter (λ n. nat_lt n shown) (on rows sat) ≡ on (take shown rows) sat
shown_on rows shown sat = numbers_cut (is_on sat) 0 shown shown rows (omega arith)

hidden_on : (rows : List InsRow) (sats : BTreeMap ℕ (List ℕ)) (shown sat : ℕ) → at nat_cmp sats sat ≡ on rows sat → starts_below shown (at nat_cmp sats sat) ≡ false → on (take shown rows) sat ≡ []
hidden_on rows sats shown sat is starts =
    sym (shown_on rows shown sat) ∙ shown_none (is_on sat) 0 shown rows (sym (ap (starts_below shown) is) ∙ starts)

pub none_on_shown : (rows : List InsRow) (sats : BTreeMap ℕ (List ℕ)) (shown low : ℕ) → ((sat : ℕ) → at nat_cmp sats sat ≡ on rows sat) → IsNextBelow sats low shown None → IsNextOn (take shown rows) low None
none_on_shown rows sats shown low are none = λ sat from. hidden_on rows sats shown sat (are sat) (none sat from)

pub next_on_shown : (rows : List InsRow) (sats : BTreeMap ℕ (List ℕ)) (shown low sat : ℕ) (numbers : List ℕ) → ((sat : ℕ) → at nat_cmp sats sat ≡ on rows sat) → IsLeastBelow sats low shown (sat, numbers) → IsNextOn (take shown rows) low (Some (sat, filter (λ n. nat_lt n shown) numbers))
next_on_shown rows sats shown low sat numbers are is = record {
  from = is.from;
  numbers = ap (λ (some : List ℕ). filter (λ n. nat_lt n shown) some) (is.numbers ∙ are sat) ∙ shown_on rows shown sat;
  some = shown_some shown numbers is.starts;
  first = λ other from under. hidden_on rows sats shown other (are other) (is.first other from under);
}

-- ---- there is one next satoshi

pub one_next : (rows : List InsRow) (low : ℕ) (one other : Option (ℕ × List ℕ)) → IsNextOn rows low one → IsNextOn rows low other → one ≡ other
one_next rows low None None is also = refl
one_next rows low None (Some other) is also = absurd (also.some (also.numbers ∙ is other.0 also.from))
one_next rows low (Some one) None is also = absurd (is.some (is.numbers ∙ also one.0 is.from))
one_next rows low (Some one) (Some other) is also = by_order (cases_lt one.0 other.0) (cases_lt other.0 one.0) where
  by_order : (one.0 < other.0) ⊎ (other.0 ≤ one.0) → (other.0 < one.0) ⊎ (one.0 ≤ other.0) → Some one ≡ Some other
  by_order (inl under) second = absurd (is.some (is.numbers ∙ also.first one.0 is.from under))
  by_order (inr over) (inl under) = absurd (also.some (also.numbers ∙ is.first other.0 also.from under))
  by_order (inr over) (inr under) =
      let same : one.0 ≡ other.0 = omega arith in
      ap (λ (numbers : List ℕ). Some (one.0, numbers)) (is.numbers ∙ ap (on rows) same ∙ sym also.numbers)
      ∙ ap (λ (sat : ℕ). Some (sat, other.1)) same

-- Between two satoshis that bear inscriptions there are none.
use Rattle.std.proofs.Common.{◌≡◌, ◌⊎◌, inl, inr, true≢false, ℕ, zero, suc, ◌+◌, ◌-◌, ◌<◌, ◌≤◌, Bool, true, false, cond, ltb, ltb-true, List, [], ◌∷◌, ◌++◌, Option, Some, None, refl, sym, ap, ap₂, ◌∙◌, arith}
use Rattle.std.specs.List.{flat_map}
use Rattle.std.proofs.lemmas.Bool.{cases_lt, lt-ltb}
use Rattle.std.proofs.lemmas.Grind.{flat_map-append}
use Rattle.ox_range.specs.Numbers.{numbers_from}
use Rattle.ox_range.proofs.RunLemmas.{numbers_from-add}
use Rattle.ox_inscribe.specs.Inscriptions.{next_on, on}
use Rattle.ox_inscribe.specs.Numbers.{IsFirstOn, IsNextOn}
use Rattle.ox_inscribe.specs.declared.row.InsRow.{InsRow}
use Rattle.ox_inscribe.proofs.NextLaws.{next_shown}
use Rattle.ox_replies.specs.Walk.{on_between, walk_of}

module _ (rows : List InsRow) where
  none_on : (first count : ℕ) → ((sat : ℕ) → first ≤ sat → sat < first + count → on rows sat ≡ []) → flat_map (on rows) (numbers_from first count) ≡ []
  unfolding numbers_from
  none_on first zero none = refl
  none_on first (suc count) none =
      ap₂ (λ a b. a ++ b) (none first (omega arith) (omega arith)) (none_on (first + 1) count (λ sat low high. none sat (omega (arith, low)) (omega (arith, high))))

  -- up to the satoshi that is next there are none
  split : (first end sat : ℕ) → first ≤ sat → sat < end → numbers_from first (end - first) ≡ numbers_from first (sat - first) ++ (sat ∷ numbers_from (sat + 1) (end - (sat + 1)))
  unfolding numbers_from
  split first end sat low high =
      let rest = end - (sat + 1) in
      let count : end - first ≡ (sat - first) + suc rest = omega (arith, low, high) in
      let place : first + (sat - first) ≡ sat = omega (arith, low) in
      ap (numbers_from first) count ∙ numbers_from-add first (sat - first) (suc rest) ∙ ap (λ s. numbers_from first (sat - first) ++ numbers_from s (suc rest)) place

  within : (first end : ℕ) (next : ℕ × List ℕ) → IsFirstOn rows first next → (test : Bool) → ltb next.0 end ≡ test
      → on_between rows first end ≡ cond test (next.1 ++ on_between rows (next.0 + 1) end) []
  within first end next is true e =
      let less : next.0 < end = ltb-true next.0 end e in
      let low : first ≤ next.0 = is.from in
      ap (flat_map (on rows)) (split first end next.0 low less)
      ∙ flat_map-append (on rows) (numbers_from first (next.0 - first)) (next.0 ∷ numbers_from (next.0 + 1) (end - (next.0 + 1)))
      ∙ ap₂ (λ a b. a ++ (b ++ on_between rows (next.0 + 1) end))
      (none_on first (next.0 - first) (λ sat from to. is.first sat from (omega (arith, from, to, low)))) (sym is.numbers)
  within first end next is false e =
      none_on first (end - first) (λ sat from to. is.first sat from (past sat from to (cases_lt next.0 end)))
    where
      past : (sat : ℕ) → first ≤ sat → sat < first + (end - first) → (next.0 < end) ⊎ (end ≤ next.0) → sat < next.0
      past sat from to (inl less) = absurd (true≢false (sym (lt-ltb next.0 end less) ∙ e))
      past sat from to (inr le) = omega (arith, from, to, le)

  pub all_walked : (first end : ℕ) → on_between rows first end ≡ walk_of rows end (next_on rows first)
  all_walked first end = by (next_on rows first) (next_shown rows first)
    where
      by : (next : Option (ℕ × List ℕ)) → IsNextOn rows first next → on_between rows first end ≡ walk_of rows end next
      by None none = none_on first (end - first) (λ sat from to. none sat from)
      by (Some next) is = within first end next is (ltb next.0 end) refl

-- The next satoshi that bears inscriptions, and those on it and behind it.
use Rattle.std.proofs.Common.{◌≡◌, ◌∙◌, ℕ, suc, ◌+◌, ◌<◌, ◌≤◌, Bool, true, false, cond, ltb, lt-ltb, ltb-true, List, [], ◌∷◌, ◌++◌, length, Some, None, refl, sym, ap, subst, arith}
use Rattle.std.specs.Prelude.{All}
use Rattle.std.proofs.lemmas.List.Elements.{All-cons, All-nil, All-weaker}
use Rattle.ox_inscribe.specs.Inscriptions.{is_on, next_on, numbers_where, on}
use Rattle.ox_inscribe.specs.Numbers.{IsFirstOn, IsNextOn}
use Rattle.ox_inscribe.specs.declared.row.InsRow.{InsRow}
use Rattle.ox_inscribe.proofs.NextLaws.{next_shown}
use Rattle.ox_replies.specs.Walk.{on_between, walk_of}
use Rattle.ox_replies.proofs.Walks.{all_walked}

-- numbers that pass a test are those of rows
pub below : (passes : InsRow → Bool) (from : ℕ) (rows : List InsRow) → All (λ n. n < from + length rows) (numbers_where passes from rows)
unfolding numbers_where
below passes from [] = All-nil (λ n. n < from + 0)
below passes from (row ∷ rows) = by (passes row) (below passes (from + 1) rows)
  where
    by : (passed : Bool) → All (λ n. n < from + 1 + length rows) (numbers_where passes (from + 1) rows)
        → All (λ n. n < from + suc (length rows)) (cond passed (from ∷ numbers_where passes (from + 1) rows) (numbers_where passes (from + 1) rows))
    by true later =
        All-cons (λ n. n < from + suc (length rows)) from (numbers_where passes (from + 1) rows) (omega arith)
        (All-weaker (λ n. n < from + 1 + length rows) (λ n. n < from + suc (length rows)) (λ n less. omega (arith, less)) (numbers_where passes (from + 1) rows) later)
    by false later =
        All-weaker (λ n. n < from + 1 + length rows) (λ n. n < from + suc (length rows)) (λ n less. omega (arith, less)) (numbers_where passes (from + 1) rows) later

pub on_below : (rows : List InsRow) (sat : ℕ) → All (λ n. n < length rows) (on rows sat)
on_below rows sat =
    All-weaker (λ n. n < 0 + length rows) (λ n. n < length rows) (λ n less. omega (arith, less)) (on rows sat) (below (is_on sat) 0 rows)

module _ (rows : List InsRow) (first end sat : ℕ) (numbers : List ℕ) (e : Some (sat, numbers) ≡ next_on rows first) where
  pub is_first : IsFirstOn rows first (sat, numbers)
  is_first = subst (IsNextOn rows first) (sym e) (next_shown rows first)

  pub from_first : first ≤ sat
  from_first = is_first.from

  pub there_between : All (λ n. n < length rows) numbers
  there_between = subst (All (λ n. n < length rows)) (sym is_first.numbers) (on_below rows sat)

  pub one_between : sat < end → on_between rows first end ≡ numbers ++ on_between rows (sat + 1) end
  one_between less =
      all_walked rows first end ∙ ap (walk_of rows end) (sym e)
      ∙ ap (λ (test : Bool). cond test (numbers ++ on_between rows (sat + 1) end) []) (lt-ltb sat end less)

  pub past_end : end ≤ sat → on_between rows first end ≡ []
  past_end past =
      all_walked rows first end ∙ ap (walk_of rows end) (sym e)
      ∙ ap (λ (test : Bool). cond test (numbers ++ on_between rows (sat + 1) end) []) (not_less (ltb sat end) refl)
    where
      not_less : (test : Bool) → ltb sat end ≡ test → ltb sat end ≡ false
      not_less true is = let less : sat < end = ltb-true sat end is in absurd (omega (arith, less, past))
      not_less false is = is

pub none_between : (rows : List InsRow) (first end : ℕ) → None ≡ next_on rows first → on_between rows first end ≡ []
none_between rows first end e = all_walked rows first end ∙ ap (walk_of rows end) (sym e)

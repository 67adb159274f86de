-- Two states have one part, and with either it gives the other.
use Rattle.std.proofs.Common.{◌≡◌, ◌∙◌, ℕ, ◌+◌, ◌-◌, ◌<◌, ◌≤◌, Bool, true, false, cond, List, [], ◌∷◌, ◌++◌, length, take, drop, refl, sym, ap, arith, Option, Some, None, length-drop}
use Rattle.std.specs.Prelude.{◌==◌, ◌&&◌}
use Rattle.std.specs.Bool.{Decides}
use Rattle.std.specs.Cmp.Lexicographic.{pointwise}
use Rattle.std.proofs.lemmas.Slice.Eq.{slice_eq-Decides}
use Rattle.std.proofs.lemmas.Bool.Decides.{Decides-and, Decides-eqb, Decides-like}
use Rattle.ox_block.specs.declared.block.OutPoint.{OutPoint}
use Rattle.ox_rules.specs.Differences.{Difference, Differ, other_end, reverse_of}
use Rattle.ox_rules.proofs.DifferenceLemmas.{some_difference, one_difference, goes_back, from_the_other}
use Rattle.ox_rules.proofs.Orders.{outpoints_total, outpoints_exact}
use Rattle.ox_allocation.specs.Balances.{Balance}
use Rattle.ox_etching.specs.declared.row.RuneRow.{RuneRow}
use Rattle.ox_ledger.specs.Runes.{BalanceMap, Runes}
use Rattle.ox_ledger.specs.Part.{Counts, CountChange, RunePart, balances_of, counts_of, with_counts, Continues, counts_alike, changes_from, IsPart, change_at, row_at_end, rows_at_end, earlier_end, later_end, LeadsBothWays}

-- ---- balances are told apart

pub balance_eq : Balance → Balance → Bool
balance_eq a b = (a.0.block == b.0.block) && ((a.0.tx == b.0.tx) && (a.1 == b.1))

balance_eq-Decides : (a b : Balance) → Decides (balance_eq a b) (a ≡ b)
unfolding balance_eq
balance_eq-Decides a b =
    Decides-like (balance_eq a b)
    (λ same i. (record { block = same.0 i; tx = same.1.0 i }, same.1.1 i))
    (λ same. (ap (λ (x : Balance). x.0.block) same, (ap (λ (x : Balance). x.0.tx) same, ap (λ (x : Balance). x.1) same)))
    (Decides-and (a.0.block == b.0.block) _ (Decides-eqb a.0.block b.0.block)
    (Decides-and (a.0.tx == b.0.tx) _ (Decides-eqb a.0.tx b.0.tx) (Decides-eqb a.1 b.1)))

abbrev pub same_balances : List Balance → List Balance → Bool
same_balances a b = pointwise balance_eq a b

pub same_balances-Decides : (a b : List Balance) → Decides (same_balances a b) (a ≡ b)
same_balances-Decides a b = slice_eq-Decides balance_eq-Decides a b (same_balances a b) refl

-- ---- the runes of two states

eq_itself : (n : ℕ) → (n == n) ≡ true
eq_itself n = (Decides-eqb n n).1 refl

not_below : (q p : ℕ) → q < p → (p == q) ≡ false
not_below q p below = by_test (p == q) refl where
  by_test : (b : Bool) → (p == q) ≡ b → b ≡ false
  by_test true is = let e : p ≡ q = (Decides-eqb p q).0 is in absurd (omega arith)
  by_test false is = refl

not_above : (q p : ℕ) → q < p → (q == p) ≡ false
not_above q p below = by_test (q == p) refl where
  by_test : (b : Bool) → (q == p) ≡ b → b ≡ false
  by_test true is = let e : q ≡ p = (Decides-eqb q p).0 is in absurd (omega arith)
  by_test false is = refl

abbrev pub change_of : ℕ → RuneRow → RuneRow → CountChange
change_of p old new = record { place = p; before = counts_of old; after = counts_of new }

-- the changes behind a place have none there
none_at : (q p : ℕ) → q < p → (before after : List RuneRow) → change_at (changes_from p before after) q ≡ None
unfolding changes_from
none_at q p below [] after = refl
none_at q p below (old ∷ before) [] = refl
none_at q p below (old ∷ before) (new ∷ after) = by_test (none_at q (p + 1) (omega arith) before after) (counts_alike old new) where
  by_test : change_at (changes_from (p + 1) before after) q ≡ None → (b : Bool)
      → change_at (cond b (changes_from (p + 1) before after) (change_of p old new ∷ changes_from (p + 1) before after)) q ≡ None
  by_test none true = none
  by_test none false = ap (λ (b : Bool). cond b (Some (change_of p old new)) (change_at (changes_from (p + 1) before after) q)) (not_below q p below) ∙ none

same_cons : {A : Type 0} (x y : A) (xs ys : List A) → x ≡ y → xs ≡ ys → x ∷ xs ≡ y ∷ ys
same_cons x y xs ys first rest = λ i. first i ∷ rest i

-- a change before the runes' places changes none of them
pub skips : (side : CountChange → Counts) (change : CountChange) (changes : List CountChange) (p : ℕ) → change.place < p
    → (rows : List RuneRow) → rows_at_end side (change ∷ changes) p rows ≡ rows_at_end side changes p rows
unfolding rows_at_end
skips side change changes p below [] = refl
skips side change changes p below (row ∷ rows) =
    same_cons _ _ _ _
    (ap (λ (b : Bool). row_at_end side (cond b (Some change) (change_at changes p)) row) (not_above change.place p below))
    (skips side change changes (p + 1) (omega arith) rows)

alike_counts : (old new : RuneRow) → counts_alike old new ≡ true → counts_of new ≡ counts_of old
alike_counts old new is =
    let both = (Decides-and (old.mints == new.mints) (old.burned == new.burned) (Decides-eqb old.mints new.mints) (Decides-eqb old.burned new.burned)).0 is in
    λ i. record { mints = sym both.0 i; burned = sym both.1 i }

-- a rune that goes on with the same counts is the same
stays : (old new : RuneRow) → new ≡ with_counts old (counts_of new) → counts_alike old new ≡ true → new ≡ old
stays old new goes_on alike = goes_on ∙ ap (with_counts old) (alike_counts old new alike)

there_at : (p : ℕ) (change : CountChange) (rest : Option CountChange) → cond (p == p) (Some change) rest ≡ Some change
there_at p change rest = ap (λ (b : Bool). cond b (Some change) rest) (eq_itself p)

abbrev earlier : CountChange → Counts
earlier change = change.before

abbrev later : CountChange → Counts
later change = change.after

rows_back : (p : ℕ) (before after : List RuneRow) → Continues before after
    → rows_at_end earlier (changes_from p before after) p (take (length before) after) ≡ before
unfolding changes_from rows_at_end
rows_back p [] after go_on = refl
rows_back p (old ∷ before) [] go_on = absurd go_on
rows_back p (old ∷ before) (new ∷ after) go_on = by_test (rows_back (p + 1) before after go_on.1) (counts_alike old new) refl where
  by_test : rows_at_end earlier (changes_from (p + 1) before after) (p + 1) (take (length before) after) ≡ before → (b : Bool) → counts_alike old new ≡ b
      → rows_at_end earlier (cond b (changes_from (p + 1) before after) (change_of p old new ∷ changes_from (p + 1) before after)) p (new ∷ take (length before) after) ≡ old ∷ before
  by_test rest true alike =
      same_cons _ _ _ _
      (ap (λ found. row_at_end earlier found new) (none_at p (p + 1) (omega arith) before after) ∙ stays old new go_on.0 alike)
      rest
  by_test rest false other =
      same_cons _ _ _ _
      (ap (λ found. row_at_end earlier found new) (there_at p (change_of p old new) (change_at (changes_from (p + 1) before after) p))
      ∙ ap (λ (row : RuneRow). with_counts row (counts_of old)) go_on.0)
      (skips earlier (change_of p old new) (changes_from (p + 1) before after) (p + 1) (omega arith) (take (length before) after) ∙ rest)

rows_forth : (p : ℕ) (before after : List RuneRow) → Continues before after
    → rows_at_end later (changes_from p before after) p before ++ drop (length before) after ≡ after
unfolding changes_from rows_at_end
rows_forth p [] after go_on = refl
rows_forth p (old ∷ before) [] go_on = absurd go_on
rows_forth p (old ∷ before) (new ∷ after) go_on = by_test (rows_forth (p + 1) before after go_on.1) (counts_alike old new) refl where
  by_test : rows_at_end later (changes_from (p + 1) before after) (p + 1) before ++ drop (length before) after ≡ after → (b : Bool) → counts_alike old new ≡ b
      → rows_at_end later (cond b (changes_from (p + 1) before after) (change_of p old new ∷ changes_from (p + 1) before after)) p (old ∷ before)
      ++ drop (length before) after ≡ new ∷ after
  by_test rest true alike =
      same_cons _ _ _ _
      (ap (λ found. row_at_end later found old) (none_at p (p + 1) (omega arith) before after) ∙ sym (stays old new go_on.0 alike))
      rest
  by_test rest false other =
      same_cons _ _ _ _
      (ap (λ found. row_at_end later found old) (there_at p (change_of p old new) (change_at (changes_from (p + 1) before after) p)) ∙ sym go_on.0)
      (ap (λ (rows : List RuneRow). rows ++ drop (length before) after)
      (skips later (change_of p old new) (changes_from (p + 1) before after) (p + 1) (omega arith) before)
      ∙ rest)

pub goes_on_longer : (before after : List RuneRow) → Continues before after → length before ≤ length after
goes_on_longer [] after go_on = omega arith
goes_on_longer (old ∷ before) [] go_on = absurd go_on
goes_on_longer (old ∷ before) (new ∷ after) go_on = let h = goes_on_longer before after go_on.1 in omega arith

-- how many runes there were
pub count_before : (before after : List RuneRow) → Continues before after → length after - length (drop (length before) after) ≡ length before
count_before before after go_on = let h = goes_on_longer before after go_on in omega (arith, length-drop (length before) after)

-- ---- the law

balances_back : (before after : BalanceMap) (d : Difference OutPoint (List Balance)) → Differ before after d → other_end after d ≡ before
balances_back = goes_back outpoints_total outpoints_exact same_balances same_balances-Decides

pub some_part : (before after : Runes) → (part : RunePart) × IsPart before after part
some_part before after =
    let d = some_difference outpoints_total outpoints_exact same_balances same_balances-Decides before.bal after.bal in (
      record {
        before = d.0.gone;
        after = d.0.came;
        counts = changes_from 0 before.runes after.runes;
        appended = drop (length before.runes) after.runes;
      },
      record { balances = d.1; counts = refl; appended = refl },
    )

pub one_part : (before after : Runes) (a b : RunePart) → IsPart before after a → IsPart before after b → a ≡ b
one_part before after a b is is' =
    let d : balances_of a ≡ balances_of b = one_difference outpoints_total outpoints_exact before.bal after.bal (balances_of a) (balances_of b) is.balances is'.balances in
    let counts : a.counts ≡ b.counts = is.counts ∙ sym is'.counts in
    let appended : a.appended ≡ b.appended = is.appended ∙ sym is'.appended in
    λ i. record { before = (d i).gone; after = (d i).came; counts = counts i; appended = appended i }

pub part_back : (before after : Runes) (part : RunePart) → Continues before.runes after.runes → before.due ≡ []
    → IsPart before after part → earlier_end after part ≡ before
part_back before after part go_on none is =
    let bal : other_end after.bal (balances_of part) ≡ before.bal = balances_back before.bal after.bal (balances_of part) is.balances in
    let count : length after.runes - length part.appended ≡ length before.runes =
    ap (λ (rows : List RuneRow). length after.runes - length rows) is.appended ∙ count_before before.runes after.runes go_on in
    let runes : rows_at_end earlier part.counts 0 (take (length after.runes - length part.appended) after.runes) ≡ before.runes =
    ap (λ (changes : List CountChange). rows_at_end earlier changes 0 (take (length after.runes - length part.appended) after.runes)) is.counts
    ∙ ap (λ (n : ℕ). rows_at_end earlier (changes_from 0 before.runes after.runes) 0 (take n after.runes)) count
    ∙ rows_back 0 before.runes after.runes go_on in
    λ i. record { bal = bal i; runes = runes i; due = sym none i }

pub part_forth : (before after : Runes) (part : RunePart) → Continues before.runes after.runes → after.due ≡ []
    → IsPart before after part → later_end before part ≡ after
part_forth before after part go_on none is =
    let bal : other_end before.bal (reverse_of (balances_of part)) ≡ after.bal =
    balances_back after.bal before.bal (reverse_of (balances_of part)) (from_the_other before.bal after.bal (balances_of part) is.balances) in
    let runes : rows_at_end later part.counts 0 before.runes ++ part.appended ≡ after.runes =
    ap (λ (changes : List CountChange). rows_at_end later changes 0 before.runes ++ part.appended) is.counts
    ∙ ap (λ (rows : List RuneRow). rows_at_end later (changes_from 0 before.runes after.runes) 0 before.runes ++ rows) is.appended
    ∙ rows_forth 0 before.runes after.runes go_on in
    λ i. record { bal = bal i; runes = runes i; due = sym none i }

pub lead_both_ways : LeadsBothWays
lead_both_ways = record { some = some_part; one = one_part; back = part_back; forth = part_forth }

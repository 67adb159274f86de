-- The counts of runes that changed since a mark.
use Rattle.std.proofs.Common.{◌≡◌, ◌∙◌, ℕ, suc, ◌+◌, ◌-◌, ◌<◌, ◌≤◌, Bool, true, false, true≢false, cond, List, [], ◌∷◌, ◌++◌, length, refl, sym, ap, subst, Option, Some, None, Bor, arith, append_assoc, append-nil, drop}
use Rattle.std.specs.Prelude.{◌==◌, ◌||◌, All, slice_get, slice_index_or}
use Rattle.std.specs.Map.{keys_of}
use Rattle.std.specs.Option.{IfSome, option_copied}
use Rattle.std.proofs.lemmas.List.{at_drop_all, at_drop_more, get_or-map, length-map}
use Rattle.std.proofs.lemmas.Option.{slice_get_past, slice_get_within}
use Rattle.ox_ledger.specs.Indexed.{indexed_by}
use Rattle.std.specs.List.{AllByRecursion, list_any}
use Rattle.std.specs.List.Sorted.{IsStrictlySortedBy}
use Rattle.std.specs.Ordering.{nat_cmp}
use Rattle.std.specs.declared.cmp.Ordering.TheVariants.{Less}
use Rattle.std.proofs.lemmas.Bool.Decides.{Decides-and, Decides-eqb, nat_tests}
use Rattle.ox_etching.specs.declared.row.RuneRow.{RuneRow}
use Rattle.ox_ledger.specs.Part.{CountChange, change_in, changes_from, counts_alike}
use Rattle.ox_ledger.proofs.PartLemmas.{change_of}

-- the changes at these places, where the runes' first is at that place
abbrev pub changes_among : ℕ → List RuneRow → List RuneRow → List ℕ → List CountChange
changes_among first before after [] = []
changes_among first before after (place ∷ places) =
    change_in place (slice_get before (place - first)) (slice_get after (place - first)) ++ changes_among first before after places

-- places that rise, from one on
abbrev Rises : ℕ → List ℕ → Type 0
Rises first [] = Unit {0}
Rises first (place ∷ places) = (first ≤ place) × Rises (place + 1) places

-- elsewhere nothing changed
abbrev StaysBeside : ℕ → List RuneRow → List RuneRow → List ℕ → Type 0
StaysBeside first before after places =
    (k : ℕ) (old new : RuneRow) → slice_get before k ≡ Some old → slice_get after k ≡ Some new → list_any (λ p. p == first + k) places ≡ false → old ≡ new

alike_itself : (row : RuneRow) → counts_alike row row ≡ true
alike_itself row = (Decides-and (row.mints == row.mints) (row.burned == row.burned) (Decides-eqb row.mints row.mints) (Decides-eqb row.burned row.burned)).1 (refl, refl)

alike_same : (old new : RuneRow) → old ≡ new → counts_alike old new ≡ true
alike_same old new same = ap (counts_alike old) (sym same) ∙ alike_itself old

weaker : (a b : ℕ) (places : List ℕ) → a ≤ b → Rises b places → Rises a places
weaker a b [] less rises = tt
weaker a b (place ∷ places) less rises = (let h = rises.0 in omega (arith, h, less), rises.1)

-- a place that is before all of these isn't one of them
not_among : (place q : ℕ) (places : List ℕ) → q < place → Rises place places → list_any (λ p. p == q) places ≡ false
not_among place q [] less rises = refl
not_among place q (p ∷ places) less rises = by_test (let h = rises.0 in not_among (p + 1) q places (omega (arith, h, less)) rises.1) (p == q) refl where
  by_test : list_any (λ r. r == q) places ≡ false → (b : Bool) → (p == q) ≡ b → (b || list_any (λ r. r == q) places) ≡ false
  by_test rest true is = let e : p ≡ q = (Decides-eqb p q).0 is in let h = rises.0 in absurd (omega (arith, e, h, less))
  by_test rest false is = rest

none_there : (first : ℕ) (after : List RuneRow) (places : List ℕ) → changes_among first [] after places ≡ []
none_there first after [] = refl
none_there first after (place ∷ places) = none_there first after places

no_change : (place : ℕ) (old : Option RuneRow) → change_in place old None ≡ []
no_change place None = refl
no_change place (Some old) = refl

none_here : (first : ℕ) (before : List RuneRow) (places : List ℕ) → changes_among first before [] places ≡ []
none_here first before [] = refl
none_here first before (place ∷ places) =
    ap (λ (l : List CountChange). l ++ changes_among first before [] places) (no_change place (slice_get before (place - first))) ∙ none_here first before places

later_get : (x : RuneRow) (rows : List RuneRow) (first place : ℕ) → first < place → slice_get (x ∷ rows) (place - first) ≡ slice_get rows (place - (first + 1))
later_get x rows first place less = ap (slice_get (x ∷ rows)) (let e : place - first ≡ suc (place - (first + 1)) = omega (arith, less) in e)

-- the first rune has none of these places
shifted : (old new : RuneRow) (before after : List RuneRow) (first : ℕ) (places : List ℕ) → Rises (first + 1) places
    → changes_among first (old ∷ before) (new ∷ after) places ≡ changes_among (first + 1) before after places
shifted old new before after first [] rises = refl
shifted old new before after first (place ∷ places) rises =
    let less : first < place = let h = rises.0 in omega (arith, h) in
    let here : change_in place (slice_get (old ∷ before) (place - first)) (slice_get (new ∷ after) (place - first)) ≡ change_in place (slice_get before (place - (first + 1))) (slice_get after (place - (first + 1))) =
    λ i. change_in place (later_get old before first place less i) (later_get new after first place less i) in
    let rest = shifted old new before after first places (weaker (first + 1) (place + 1) places (omega (arith, less)) rises.1) in
    λ i. here i ++ rest i

next_beside : (old new : RuneRow) (before after : List RuneRow) (first : ℕ) (places : List ℕ) → StaysBeside first (old ∷ before) (new ∷ after) places → StaysBeside (first + 1) before after places
next_beside old new before after first places stays k x y was is none =
    stays (suc k) x y was is (ap (λ (n : ℕ). list_any (λ p. p == n) places) (let e : first + suc k ≡ first + 1 + k = omega arith in e) ∙ none)

first_alike : (old new : RuneRow) (before after : List RuneRow) (first : ℕ) (places : List ℕ) → Rises (first + 1) places → StaysBeside first (old ∷ before) (new ∷ after) places
    → counts_alike old new ≡ true
first_alike old new before after first places rises stays =
    alike_same old new
    (stays 0 old new refl refl (ap (λ (n : ℕ). list_any (λ p. p == n) places) (let e : first + 0 ≡ first = omega arith in e) ∙ not_among (first + 1) first places (omega arith) rises))

drop_first : {first place : ℕ} (places : List ℕ) (before after : List RuneRow) → first ≡ place → Rises (place + 1) places → StaysBeside (first + 1) before after (place ∷ places) → StaysBeside (first + 1) before after places
drop_first {first} {place} places before after here rises stays k x y was is none =
    stays k x y was is (by_test (place == first + 1 + k) refl) where
      by_test : (b : Bool) → (place == first + 1 + k) ≡ b → (b || list_any (λ p. p == first + 1 + k) places) ≡ false
      by_test true e = let same : place ≡ first + 1 + k = (Decides-eqb place (first + 1 + k)).0 e in absurd (omega (arith, same, here))
      by_test false e = none

front : (b : Bool) (change : CountChange) (rest : List CountChange) → cond b [] (change ∷ []) ++ rest ≡ cond b rest (change ∷ rest)
front true change rest = refl
front false change rest = refl

here : (old new : RuneRow) (before after : List RuneRow) (first place : ℕ) → place ≡ first
    → change_in place (slice_get (old ∷ before) (place - first)) (slice_get (new ∷ after) (place - first)) ≡ cond (counts_alike old new) [] (change_of first old new ∷ [])
here old new before after first place same =
    let none : place - first ≡ 0 = omega (arith, same) in
    λ i. change_in (same i) (slice_get (old ∷ before) (none i)) (slice_get (new ∷ after) (none i))

skip : (b : Bool) (change : CountChange) (rest : List CountChange) → b ≡ true → rest ≡ cond b rest (change ∷ rest)
skip b change rest is = ap (λ (x : Bool). cond x rest (change ∷ rest)) (sym is)

whole : (before after : List RuneRow) (first : ℕ) (places : List ℕ) → Rises first places → StaysBeside first before after places → changes_among first before after places ≡ changes_from first before after
unfolding changes_from
whole [] after first places rises stays = none_there first after places
whole (old ∷ before) [] first places rises stays = none_here first (old ∷ before) places
whole (old ∷ before) (new ∷ after) first [] rises stays =
    whole before after (first + 1) [] tt (next_beside old new before after first [] stays)
    ∙ skip (counts_alike old new) (change_of first old new) (changes_from (first + 1) before after) (first_alike old new before after first [] tt stays)
whole (old ∷ before) (new ∷ after) first (place ∷ places) rises stays =
    by_place (whole before after (first + 1) places) (whole before after (first + 1) (place ∷ places)) (place == first) refl where
      by_place : (Rises (first + 1) places → StaysBeside (first + 1) before after places → changes_among (first + 1) before after places ≡ changes_from (first + 1) before after)
          → (Rises (first + 1) (place ∷ places) → StaysBeside (first + 1) before after (place ∷ places) → changes_among (first + 1) before after (place ∷ places) ≡ changes_from (first + 1) before after)
          → (b : Bool) → (place == first) ≡ b
          → changes_among first (old ∷ before) (new ∷ after) (place ∷ places) ≡ cond (counts_alike old new) (changes_from (first + 1) before after) (change_of first old new ∷ changes_from (first + 1) before after)
      by_place without with true is =
          let same : place ≡ first = (Decides-eqb place first).0 is in
          let later : Rises (first + 1) places = weaker (first + 1) (place + 1) places (omega (arith, same)) rises.1 in
          let rest = shifted old new before after first places later
          ∙ without later (drop_first places before after (sym same) rises.1 (next_beside old new before after first (place ∷ places) stays)) in
          (λ i. here old new before after first place same i ++ rest i) ∙ front (counts_alike old new) (change_of first old new) (changes_from (first + 1) before after)
      by_place without with false is =
          let other : place ≡ first → ⊥ = λ same. true≢false (sym ((Decides-eqb place first).1 same) ∙ is) in
          let h = rises.0 in
          let later : Rises (first + 1) (place ∷ places) = (omega (arith, h, other), rises.1) in
          shifted old new before after first (place ∷ places) later ∙ with later (next_beside old new before after first (place ∷ places) stays)
          ∙ skip (counts_alike old new) (change_of first old new) (changes_from (first + 1) before after) (first_alike old new before after first (place ∷ places) later stays)

nat_cmp-less : (a b : ℕ) → nat_cmp a b ≡ Less → a < b
nat_cmp-less a b is = grind (arith, nat_tests)

all_rise : (first : ℕ) (places : List ℕ) → AllByRecursion (λ p. first ≤ p) places → IsStrictlySortedBy nat_cmp places → Rises first places
unfolding IsStrictlySortedBy
all_rise first [] all sorted = tt
all_rise first (place ∷ places) all sorted = (all.0, all_rise (place + 1) places (above places sorted.0) sorted.1) where
  above : (rest : List ℕ) → AllByRecursion (λ p. nat_cmp place p ≡ Less) rest → AllByRecursion (λ p. place + 1 ≤ p) rest
  above [] less = tt
  above (p ∷ rest) less = (let h : place < p = nat_cmp-less place p less.0 in omega (arith, h), above rest less.1)

from_zero : (places : List ℕ) → AllByRecursion (λ p. 0 ≤ p) places
from_zero [] = tt
from_zero (place ∷ places) = (omega arith, from_zero places)

-- what changed is what is counted at the places that were touched
pub all_changes : (before after : List RuneRow) (places : List ℕ) → IsStrictlySortedBy nat_cmp places
    → ((k : ℕ) (old new : RuneRow) → slice_get before k ≡ Some old → slice_get after k ≡ Some new → list_any (λ p. p == k) places ≡ false → old ≡ new)
    → changes_among 0 before after places ≡ changes_from 0 before after
all_changes before after places sorted stays =
    whole before after 0 places (all_rise 0 places (from_zero places) sorted)
    (λ k old new was is none. stays k old new was is (ap (λ (n : ℕ). list_any (λ p. p == n) places) (let e : k ≡ 0 + k = omega arith in e) ∙ none))

-- ---- one place

no_new : (place : ℕ) (old : Option RuneRow) → change_in place old None ≡ []
no_new place None = refl
no_new place (Some old) = refl

pub past_then : (mark : Option (List RuneRow)) (now : List RuneRow) (counts : List CountChange) (place n : ℕ) → IfSome mark (λ list. n ≡ length list) → n ≤ place
    → IfSome mark (λ before. counts ≡ counts ++ change_in place (slice_get before place) (slice_get now place))
past_then None now counts place n long past = tt
past_then (Some before) now counts place n long past =
    sym (ap (λ (o : Option RuneRow). counts ++ change_in place o (slice_get now place)) (slice_get_past before place (omega (arith, long, past))) ∙ append-nil counts)

pub past_now : (mark : Option (List RuneRow)) (now : List RuneRow) (counts : List CountChange) (place n : ℕ) → n ≡ length now → n ≤ place
    → IfSome mark (λ before. counts ≡ counts ++ change_in place (slice_get before place) (slice_get now place))
past_now None now counts place n long past = tt
past_now (Some before) now counts place n long past =
    sym (ap (λ (o : Option RuneRow). counts ++ change_in place (slice_get before place) o) (slice_get_past now place (omega (arith, long, past))) ∙ ap (λ (l : List CountChange). counts ++ l) (no_new place (slice_get before place)) ∙ append-nil counts)

pub if_indexed : {A B : Type 0} (P : List RuneRow → Type 0) (m : Option (List RuneRow)) (i : Option A) (n : Option B) → IfSome m P → IfSome (indexed_by m i n) P
if_indexed P m None n is = tt
if_indexed P m (Some i) None is = tt
if_indexed P m (Some i) (Some n) is = is

-- one place more
pub change_next : (mark : Option (List RuneRow)) (now : List RuneRow) (places : List ℕ) (i : ℕ) (d : ℕ) (counts new : List CountChange) → i < length places
    → IfSome mark (λ before. counts ++ changes_among 0 before now (drop i places) ≡ changes_among 0 before now places)
    → IfSome mark (λ before. new ≡ counts ++ change_in (slice_index_or places i d) (slice_get before (slice_index_or places i d)) (slice_get now (slice_index_or places i d)))
    → IfSome mark (λ before. new ++ changes_among 0 before now (drop (i + 1) places) ≡ changes_among 0 before now places)
change_next None now places i d counts new less so_far more = tt
change_next (Some before) now places i d counts new less so_far more =
    let place = slice_index_or places i d in
    let same : place ≡ place - 0 = omega arith in
    ap (λ (l : List CountChange). l ++ changes_among 0 before now (drop (i + 1) places)) (more ∙ (λ k. counts ++ change_in place (slice_get before (same k)) (slice_get now (same k))))
    ∙ append_assoc counts (change_in place (slice_get before (place - 0)) (slice_get now (place - 0))) (changes_among 0 before now (drop (i + 1) places))
    ∙ ap (λ (l : List ℕ). counts ++ changes_among 0 before now l) (sym (at_drop_more (λ l. l) places i d less)) ∙ so_far

same_rows : (old new : RuneRow) (o n : Option RuneRow) → o ≡ Some old → n ≡ Some new → n ≡ o → old ≡ new
same_rows old new o n was is same = let e : Some old ≡ Some new = sym was ∙ sym same ∙ is in cc e

-- all places
pub change_all : (mark : Option (List RuneRow)) (now : List RuneRow) (places : List ℕ) (i : ℕ) (counts : List CountChange) → length places ≤ i → IsStrictlySortedBy nat_cmp places
    → IfSome mark (λ before. counts ++ changes_among 0 before now (drop i places) ≡ changes_among 0 before now places)
    → IfSome mark (λ before. (place : ℕ) → place < length now → place < length before → list_any (λ p. p == place) places ≡ false → slice_get now place ≡ slice_get before place)
    → IfSome mark (λ before. counts ≡ changes_from 0 before now)
change_all None now places i counts past rising so_far others = tt
change_all (Some before) now places i counts past rising so_far others =
    sym (append-nil counts) ∙ ap (λ (l : List ℕ). counts ++ changes_among 0 before now l) (sym (at_drop_all (λ l. l) places i past)) ∙ so_far
    ∙ all_changes before now places rising
    (λ k old new was is none. same_rows old new (slice_get before k) (slice_get now k) was is (others k (slice_get_within now k new is) (slice_get_within before k old was) none))

-- ---- places with the runes that there were at the mark

abbrev pub Pairs : Type 0
Pairs = List (ℕ × Option (Bor RuneRow))

abbrev pub Then : List RuneRow → ℕ × Option (Bor RuneRow) → Type 0
Then list pair = pair.0 < length list → slice_get list pair.0 ≡ option_copied pair.1

pub then_at : (mark : Option (List RuneRow)) (pairs : Pairs) (i : ℕ) (d : ℕ × Option (Bor RuneRow)) → i < length pairs → IfSome mark (λ list. All (Then list) pairs) → IfSome mark (λ list. Then list (slice_index_or pairs i d))
then_at None pairs i d less all = tt
then_at (Some list) pairs i d less all = all i d less

pub pair_next : (mark : Option (List RuneRow)) (now : List RuneRow) (pairs : Pairs) (i : ℕ) (d : ℕ × Option (Bor RuneRow)) (counts new : List CountChange) → i < length pairs
    → IfSome mark (λ before. counts ++ changes_among 0 before now (drop i (keys_of pairs)) ≡ changes_among 0 before now (keys_of pairs))
    → IfSome mark (λ before. new ≡ counts ++ change_in (slice_index_or pairs i d).0 (slice_get before (slice_index_or pairs i d).0) (slice_get now (slice_index_or pairs i d).0))
    → IfSome mark (λ before. new ++ changes_among 0 before now (drop (i + 1) (keys_of pairs)) ≡ changes_among 0 before now (keys_of pairs))
pair_next mark now pairs i d counts new less so_far more =
    let at : slice_index_or (keys_of pairs) i d.0 ≡ (slice_index_or pairs i d).0 = get_or-map (λ e. e.0) pairs i d d.0 less in
    let long = length-map pairs (λ e. e.0) in
    change_next mark now (keys_of pairs) i d.0 counts new (omega (arith, less, long)) so_far
    (subst (λ (k : ℕ). IfSome mark (λ before. new ≡ counts ++ change_in k (slice_get before k) (slice_get now k))) (sym at) more)

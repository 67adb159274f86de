-- What is found among rising starts, and what an edit of them leaves.
use Rattle.std.proofs.Common.{◌≡◌, ◌∙◌, ℕ, zero, suc, ◌+◌, ◌-◌, ◌/◌, ◌<◌, ◌≤◌, ◌≢◌, eqb, [], ◌∷◌, ◌++◌, length, get_or, set, take, drop, if◌then◌else◌, Option, Some, None, Result, Ok, Err, IfOk, IfErr, refl, sym, ap, subst, inl, inr, arith}
use Rattle.std.specs.Prelude.{IsSome}
use Rattle.std.specs.List.{insert, remove}
use Rattle.std.specs.List.Sorted.{IsSearchInRange, IsBinarySearchResult, IsNonDecreasingBy}
use Rattle.std.specs.Ordering.{nat_cmp, ordering_index}
use Rattle.std.proofs.lemmas.Bool.{cases_eq}
use Rattle.std.proofs.lemmas.Bool.Decides.{nat_tests}
use Rattle.std.proofs.lemmas.Cmp.{ranked}
use Rattle.std.proofs.lemmas.Nat.{div_below, le-div}
use Rattle.std.proofs.lemmas.Grind.{common_steps}
use Rattle.std.proofs.lemmas.List.{get_or_default, get_or-take, get_or-drop, length-take-le, length-drop, take-append-drop}
use Rattle.std.proofs.lemmas.List.Edits.{length-insert, get_or-insert_below, get_or-insert_at, get_or-insert_above, length-remove, get_or-remove_below, get_or-remove_above}
use Rattle.std.proofs.lemmas.List.Sorted.{IsNonDecreasingBy-from_default}
use Rattle.ox_outputs.specs.Cells.{StartList, start_at, first_at, AreRising, IsAt, IsGapFor, SetsAt, IsLastTo, IsCut}

-- no start before a place has the number
abbrev pub NoneBefore : StartList → ℕ → ℕ → Type 0
NoneBefore l k i = (j : ℕ) → j < i → first_at l j ≢ k

none_in_tail : (x : ℕ × Option ℕ) (l : StartList) (k i : ℕ) → NoneBefore (x ∷ l) k (suc i) → NoneBefore l k i
none_in_tail x l k i none j lt = none (suc j) (omega arith)

is_in_tail : (x : ℕ × Option ℕ) (l : StartList) (k i : ℕ) → IsAt (x ∷ l) k (suc i) → IsAt l k i
is_in_tail x l k i at = record { within = omega (arith, at.within); is = at.is }

-- a number that no start has is not found
pub absent : (l : StartList) (k : ℕ) → NoneBefore l k (length l) → start_at l k ≡ None
absent [] k none = refl
absent (x ∷ l) k none = grind (arith, nat_tests, none 0 (omega arith), absent l k (none_in_tail x l k _ none))

-- the first start that has the number gives its slot
pub present : (l : StartList) (k i : ℕ) → IsAt l k i → NoneBefore l k i → start_at l k ≡ Some (get_or l i (0, None)).1
present [] k i at none = absurd (omega (arith, at.within))
present (x ∷ l) k zero at none = grind (arith, nat_tests, at.is)
present (x ∷ l) k (suc i) at none = grind (arith, nat_tests, none 0 (omega arith), present l k i (is_in_tail x l k i at) (none_in_tail x l k i none))

-- what stands at each number when this stands at one
abbrev pub FindsSet : StartList → StartList → ℕ → Option (Option ℕ) → Type 0
FindsSet old new k w = (q : ℕ) → start_at new q ≡ (if eqb k q then w else start_at old q)

found_set : (l : StartList) (k : ℕ) (v : Option ℕ) (i : ℕ) → IsAt l k i → NoneBefore l k i → FindsSet l (set l i (k, v)) k (Some v)
found_set [] k v i at none q = absurd (omega (arith, at.within))
found_set (x ∷ l) k v zero at none q = grind (arith, nat_tests, at.is)
found_set (x ∷ l) k v (suc i) at none q = grind (arith, nat_tests, none 0 (omega arith), found_set l k v i (is_in_tail x l k i at) (none_in_tail x l k i none) q)

found_inserted : (l : StartList) (k : ℕ) (v : Option ℕ) (i : ℕ) → NoneBefore l k i → FindsSet l (insert l i (k, v)) k (Some v)
found_inserted l k v zero none q = refl
found_inserted [] k v (suc i) none q = refl
found_inserted (x ∷ l) k v (suc i) none q = grind (arith, nat_tests, none 0 (omega arith), found_inserted l k v i (none_in_tail x l k i none) q)

without : (l : StartList) (k q : ℕ) (x : ℕ × Option ℕ) → x.0 ≡ k → start_at l k ≡ None → start_at l q ≡ (if eqb k q then None else start_at (x ∷ l) q)
without l k q x is none = grind (arith, nat_tests, is, λ (e : k ≡ q). sym (ap (start_at l) e) ∙ none)

found_removed : (l : StartList) (k i : ℕ) → IsAt l k i → NoneBefore l k i → start_at (drop (suc i) l) k ≡ None → FindsSet l (remove l i) k None
found_removed [] k i at none behind q = absurd (omega (arith, at.within))
found_removed (x ∷ l) k zero at none behind q = without l k q x at.is behind
found_removed (x ∷ l) k (suc i) at none behind q = grind (arith, nat_tests, none 0 (omega arith), found_removed l k i (is_in_tail x l k i at) (none_in_tail x l k i none) behind q)

-- so one number is set
set_only : (old new : StartList) (k : ℕ) (w : Option (Option ℕ)) → FindsSet old new k w → SetsAt (start_at old) (start_at new) k w
set_only old new k w finds = record { here = grind (arith, nat_tests, finds k); others = λ q apart. grind (arith, nat_tests, finds q) }

past : (x : ℕ × Option ℕ) (l : StartList) (q : ℕ) → x.0 ≢ q → start_at (x ∷ l) q ≡ start_at l q
past x l q other = grind (arith, nat_tests, other)

-- where a number that is found stands
pub place_of : (l : StartList) (q : ℕ) → IsSome (start_at l q) → (j : ℕ) × (j < length l) × (first_at l j ≡ q)
place_of [] q is = absurd (cc is)
place_of (x ∷ l) q is = elim (cases_eq x.0 q) [
  | inl same ↦ (0, omega arith, same)
  | inr other ↦ (let rest = place_of l q (subst IsSome (past x l q other) is) in (suc rest.0, omega (arith, rest.1), rest.2))
]

-- ---- a search

module _ (l : StartList) (rising : AreRising l) (k : ℕ) where
  comparisons_rise : IsNonDecreasingBy (λ start. ordering_index (nat_cmp start.0 k)) l
  comparisons_rise = IsNonDecreasingBy-from_default (λ start. ordering_index (nat_cmp start.0 k)) l (0, None) (λ i j le within.
      let firsts_rise : first_at l i ≤ first_at l j = grind (arith, rising i j, λ (same : i ≡ j). ap (first_at l) same) in
      grind (arith, nat_tests))

  -- a search ends at the number, or at the gap for it
  pub searched : (r : Result ℕ ℕ) → IsSearchInRange r (length l) → IsBinarySearchResult (λ start. nat_cmp start.0 k) l r → record { found : IfOk r (IsAt l k); absent : IfErr r (IsGapFor l k) }
  searched (Ok at) within equal = record { found = record { within = within; is = ranked _ k _ (sym (equal (0, None))) }; absent = tt }
  searched (Err at) within parted = record {
    found = tt;
    absent = record {
      within = within;
      below = λ j lt. ranked _ k _ (sym ((parted comparisons_rise).0 j (0, None) (omega arith) lt));
      above = λ j le lt. ranked _ k _ (sym ((parted comparisons_rise).1 j (0, None) le lt));
    };
  }

-- ---- edits at a number's place

module _ (l : StartList) (rising : AreRising l) (k at : ℕ) (is_at : IsAt l k at) where
  none_before : NoneBefore l k at
  none_before j lt same = omega (arith, rising j at lt is_at.within, is_at.is)

  pub found_at : start_at l k ≡ Some (get_or l at (0, None)).1
  found_at = present l k at is_at none_before

  pub set_at : (v : Option ℕ) → SetsAt (start_at l) (start_at (set l at (k, v))) k (Some v)
  set_at v = set_only _ _ k (Some v) (found_set l k v at is_at none_before)

  pub rising_set : (v : Option ℕ) → AreRising (set l at (k, v))
  rising_set v i j lt within = grind (arith, common_steps, rising i j, rising i at, rising at j, is_at.within, is_at.is)

  none_behind : start_at (drop (suc at) l) k ≡ None
  none_behind = absent (drop (suc at) l) k (λ j lt same.
      let here : first_at l (suc at + j) ≡ k = sym (ap (λ (x : ℕ × Option ℕ). x.0) (get_or-drop (suc at) l j (0, None))) ∙ same in
      omega (arith, rising at (suc at + j) (omega arith) (omega (arith, length-drop (suc at) l)), is_at.is, here))

  pub removed_at : SetsAt (start_at l) (start_at (remove l at)) k None
  removed_at = set_only _ _ k None (found_removed l k at is_at none_before none_behind)

  pub rising_removed : AreRising (remove l at)
  rising_removed i j lt within =
      let new = remove l at in
      let first = λ (x : ℕ × Option ℕ). x.0 in
      let length_new = length-remove l at is_at.within in
      let below : (i : ℕ) → i < at → first_at new i ≡ first_at l i = λ i low. ap first (get_or-remove_below l at (0, None) i low is_at.within) in
      let above : (i : ℕ) → at ≤ i → first_at new i ≡ first_at l (i + 1) = λ i high. ap first (get_or-remove_above l at (0, None) i high is_at.within) in
      grind (arith, below i, above i, below j, above j, rising i j, rising i (j + 1), rising (i + 1) (j + 1))

-- ---- edits at the gap for a number

module _ (l : StartList) (k at : ℕ) (gap : IsGapFor l k at) where
  pub none_in_gap : start_at l k ≡ None
  none_in_gap = absent l k (λ j lt same. grind (arith, gap.below j, gap.above j))

  pub inserted_at : (v : Option ℕ) → SetsAt (start_at l) (start_at (insert l at (k, v))) k (Some v)
  inserted_at v = set_only _ _ k (Some v) (found_inserted l k v at (λ j lt same. omega (arith, gap.below j lt)))

  pub rising_inserted : (v : Option ℕ) → AreRising l → AreRising (insert l at (k, v))
  rising_inserted v rising i j lt within =
      let new = insert l at (k, v) in
      let first = λ (x : ℕ × Option ℕ). x.0 in
      let length_new = length-insert l at (k, v) gap.within in
      let below : (i : ℕ) → i < at → first_at new i ≡ first_at l i = λ i low. ap first (get_or-insert_below l at (k, v) (0, None) i low gap.within) in
      let here : (i : ℕ) → i ≡ at → first_at new i ≡ k = λ i same. rw same (ap first (get_or-insert_at l at (k, v) (0, None) gap.within)) in
      let above : (i : ℕ) → at < i → first_at new i ≡ first_at l (i - 1) = λ i high. subst (λ q. first_at new q ≡ first_at l (i - 1)) {x = i - 1 + 1} (omega arith) (ap first (get_or-insert_above l at (k, v) (0, None) (i - 1) (omega arith) gap.within)) in
      grind (arith, below i, here i, above i, below j, here j, above j, rising i j, rising i (j - 1), rising (i - 1) (j - 1), gap.below i, gap.above (j - 1))

  -- the start before the gap is the last at the number or before
  pub last_below : (last : ℕ) (start : ℕ × Option ℕ) → AreRising l → last + 1 ≡ at → start ≡ get_or l last (0, None) → IsLastTo (start_at l) k start
  last_below last start rising next is =
      let inside : last < length l = omega (arith, gap.within) in
      let first : start.0 ≡ first_at l last = ap (λ (x : ℕ × Option ℕ). x.0) is in
      let there : IsAt l start.0 last = record { within = inside; is = sym first } in record {
        low = omega (arith, gap.below last (omega arith), first);
        is = found_at l rising start.0 last there ∙ ap (λ (x : ℕ × Option ℕ). Some x.1) (sym is);
        last = λ q some low.
            let p = place_of l q some in
            grind (arith, p.1, p.2, gap.above p.0, rising p.0 last, first, λ (same : p.0 ≡ last). ap (first_at l) same);
      }

  -- before the first start there is none
  pub none_below : at ≡ 0 → (q : ℕ) → IsSome (start_at l q) → k < q
  none_below none q some =
      let p = place_of l q some in
      let above : k < first_at l p.0 = gap.above p.0 (omega arith) p.1 in
      omega (arith, above, p.2)

-- ---- parts

-- half of two or more is some, and less
pub halved : (n : ℕ) → 1 < n → (0 < n / 2) × (n / 2 < n)
halved n more = (le-div 1 n 2 (omega arith) (omega (arith, more)), div_below n 2 n (omega arith) (omega (arith, more)))

-- the first start of some
pub first_seen : (l : StartList) (start : ℕ × Option ℕ) → start ≡ get_or l 0 start → 0 < length l → start.0 ≡ first_at l 0
first_seen l start is some = ap (λ (x : ℕ × Option ℕ). x.0) (is ∙ get_or_default l 0 start (0, None) some)

behind_none : (a b : StartList) (q : ℕ) → start_at b q ≡ None → start_at (a ++ b) q ≡ start_at a q
behind_none [] b q none = none
behind_none (x ∷ a) b q none = grind (arith, nat_tests, behind_none a b q none)

before_none : (a b : StartList) (q : ℕ) → start_at a q ≡ None → start_at (a ++ b) q ≡ start_at b q
before_none [] b q none = refl
before_none (x ∷ a) b q none = grind (arith, nat_tests, before_none a b q)

module _ (l low high : StartList) (n : ℕ) (rising : AreRising l) (some : 0 < n) (more : n < length l) (front : low ≡ take n l) (back : high ≡ drop n l) (whole : l ≡ low ++ high) where
  low_length : length low ≡ n
  low_length = ap (λ (s : StartList). length s) front ∙ length-take-le n l (omega arith)

  low_at : (j : ℕ) → j < n → first_at low j ≡ first_at l j
  low_at j lt = ap (λ (s : StartList). first_at s j) front ∙ ap (λ (x : ℕ × Option ℕ). x.0) (get_or-take n l j (0, None) lt)

  high_at : (j : ℕ) → first_at high j ≡ first_at l (n + j)
  high_at j = ap (λ (s : StartList). first_at s j) back ∙ ap (λ (x : ℕ × Option ℕ). x.0) (get_or-drop n l j (0, None))

  high_length : length high + n ≡ length l
  high_length = let long = ap (λ (s : StartList). length s) back ∙ length-drop n l in omega (arith, long)

  pub rising_low : AreRising low
  rising_low i j lt within = grind (arith, low_at i, low_at j, low_length, rising i j)

  pub rising_high : AreRising high
  rising_high i j lt within = grind (arith, high_at i, high_at j, high_length, rising (n + i) (n + j))

  pub cut_at : (from : ℕ) → from ≡ first_at l n → IsCut l low from high
  cut_at from is =
      let lowest : first_at l 0 < from = omega (arith, rising 0 n some more, is) in
      let low_none : (q : ℕ) → from ≤ q → start_at low q ≡ None = λ q le. absent low q (λ j lt same. omega (arith, low_at j (omega (arith, low_length)), rising j n (omega (arith, low_length)) more, same, is)) in
      let high_none : (q : ℕ) → q < from → start_at high q ≡ None = λ q below. absent high q (λ j lt same. grind (arith, high_at j, high_length, rising n (n + j), same, is, λ (none : j ≡ 0). ap (λ (i : ℕ). first_at l (n + i)) none)) in record {
        below = λ q lt. (sym (ap (λ (s : StartList). start_at s q) whole ∙ behind_none low high q (high_none q lt)), high_none q lt);
        above = λ q le. (sym (ap (λ (s : StartList). start_at s q) whole ∙ before_none low high q (low_none q le)), low_none q le);
        first = subst IsSome (sym (found_at l rising from n (record { within = more; is = sym is }))) refl;
        lower = first_at l 0;
        lower_low = lowest;
        lower_is = subst IsSome (sym (found_at l rising (first_at l 0) 0 (record { within = omega arith; is = refl }))) refl;
      }

-- ---- the same of a list that is seen as another

pub none_some : {X : Type 0} (o : Option X) → o ≡ None → IsSome o → ⊥
none_some None is some = cc some
none_some (Some x) is some = cc is

module _ (l s : StartList) (same : s ≡ l) (rising : AreRising s) (k at : ℕ) where
  risen : AreRising l
  risen = subst AreRising same rising

  read_at : (start : ℕ × Option ℕ) → at < length l → start ≡ get_or s at start → start ≡ get_or l at (0, None)
  read_at start within is = is ∙ ap (λ (x : StartList). get_or x at start) same ∙ get_or_default l at start (0, None) within

  pub seen_found : IsAt l k at → (start : ℕ × Option ℕ) → start ≡ get_or s at start → start_at l k ≡ Some start.1
  seen_found here start is = found_at l risen k at here ∙ ap (λ (x : ℕ × Option ℕ). Some x.1) (sym (read_at start here.within is))

  pub seen_here : IsAt l k at → (start : ℕ × Option ℕ) → start ≡ get_or s at start → IsLastTo (start_at l) k (k, start.1)
  seen_here here start is = record { low = omega arith; is = seen_found here start is; last = λ q some low. low }

  pub seen_set : IsAt l k at → (v : Option ℕ) → SetsAt (start_at l) (start_at (set s at (k, v))) k (Some v)
  seen_set here v = subst (λ (x : StartList). SetsAt (start_at l) (start_at (set x at (k, v))) k (Some v)) (sym same) (set_at l risen k at here v)

  pub seen_removed : IsAt l k at → (new : StartList) → new ≡ remove s at → SetsAt (start_at l) (start_at new) k None
  seen_removed here new is = subst (λ (x : StartList). SetsAt (start_at l) (start_at x) k None) (sym (is ∙ ap (λ (x : StartList). remove x at) same)) (removed_at l risen k at here)

  pub still_rising : IsAt l k at → (new : StartList) → new ≡ remove s at → AreRising new
  still_rising here new is = subst AreRising (sym (is ∙ ap (λ (x : StartList). remove x at) same)) (rising_removed l risen k at here)

  pub seen_inserted : IsGapFor l k at → (t new : StartList) → t ≡ s → (v : Option ℕ) → new ≡ insert t at (k, v) → SetsAt (start_at l) (start_at new) k (Some v)
  seen_inserted gap t new grown v is = subst (λ (x : StartList). SetsAt (start_at l) (start_at x) k (Some v)) (sym (is ∙ ap (λ (x : StartList). insert x at (k, v)) (grown ∙ same))) (inserted_at l k at gap v)

  pub then_rising : IsGapFor l k at → (t new : StartList) → t ≡ s → (v : Option ℕ) → new ≡ insert t at (k, v) → AreRising new
  then_rising gap t new grown v is = subst AreRising (sym (is ∙ ap (λ (x : StartList). insert x at (k, v)) (grown ∙ same))) (rising_inserted l k at gap v risen)

-- a number with a gap isn't there
pub gap_empty : (l : StartList) (k at : ℕ) → IsGapFor l k at → IsSome (start_at l k) → ⊥
gap_empty l k at gap some = none_some (start_at l k) (none_in_gap l k at gap) some

pub nothing_removed : (l : StartList) (k at : ℕ) → IsGapFor l k at → SetsAt (start_at l) (start_at l) k None
nothing_removed l k at gap = record { here = none_in_gap l k at gap; others = λ q apart. refl }

-- the start before the gap
pub seen_below : (l s : StartList) → s ≡ l → AreRising s → (k at : ℕ) → IsGapFor l k at → (last : ℕ) (start : ℕ × Option ℕ) → last + 1 ≡ at → start ≡ get_or s last start → IsLastTo (start_at l) k start
seen_below l s same rising k at gap last start next is =
    last_below l k at gap last start (subst AreRising same rising) next (read_at l s same rising k last start (omega (arith, gap.within)) is)

-- the parts of a list that is seen as another
pub seen_cut : (l s low high : StartList) (n from : ℕ) → s ≡ l → AreRising s → 0 < n → n < length l → low ≡ take n s → high ≡ drop n s → from ≡ first_at high 0 → IsCut l low from high
seen_cut l s low high n from same rising some more front back is =
    let front' : low ≡ take n l = front ∙ ap (λ (x : StartList). take n x) same in
    let back' : high ≡ drop n l = back ∙ ap (λ (x : StartList). drop n x) same in
    let whole : l ≡ low ++ high = sym (ap (λ (x : StartList). x ++ high) front' ∙ ap (λ (x : StartList). take n l ++ x) back' ∙ take-append-drop n l) in
    let place : n + 0 ≡ n = omega arith in
    cut_at l low high n (subst AreRising same rising) some more front' back' whole from (is ∙ high_at l low high n (subst AreRising same rising) some more front' back' whole 0 ∙ ap (first_at l) place)

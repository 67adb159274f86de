use Rattle.std.proofs.Common.{◌≡◌, ℕ, zero, suc, ◌+◌, ◌-◌, ◌^◌, ◌<◌, ◌≤◌, ◌==◌, ◌⊎◌, List, [], ◌∷◌, ◌++◌, length, get_or, take, drop, inl, inr, refl, sym, ap, ap₂, ◌∙◌, arith, lit<, add-zero, zero-add, suc-add, length-append, append_assoc, append-nil, ⊎_elim, true, false, Some, None, nat_lt}
use Rattle.std.specs.List.{position_or_len, position}
use Rattle.std.proofs.lemmas.Bool.{cases_lt, cases_eq, ne_eqb, eq-eqb, lt-leb, le-leb}
use Rattle.std.proofs.lemmas.List.{drop_more, drop_all, get_or_append_left, get_or-append_right, append_cancel_left}
use Rattle.ox_range.specs.declared.runs.Run.{Run}
use Rattle.ox_range.specs.Numbers.{numbers_from}
use Rattle.ox_range.specs.Runs.{numbers_of, EndsBefore, AreMaximal, AreRunsOf, runs_with, runs_of}

pub numbers-none : numbers_of [] ≡ []
unfolding numbers_of
numbers-none = refl

pub numbers-cons : (r : Run) (rs : List Run) → numbers_of (r ∷ rs) ≡ numbers_from r.first r.count ++ numbers_of rs
unfolding numbers_of
numbers-cons r rs = refl

pub numbers-append : (xs ys : List Run) → numbers_of (xs ++ ys) ≡ numbers_of xs ++ numbers_of ys
unfolding numbers_of
numbers-append [] ys = refl
numbers-append (x ∷ xs) ys = rw (numbers-append xs ys) (sym (append_assoc (numbers_from x.first x.count) (numbers_of xs) (numbers_of ys)))

pub length-numbers_from : (first count : ℕ) → length (numbers_from first count) ≡ count
unfolding numbers_from
length-numbers_from first zero = refl
length-numbers_from first (suc count) = ap suc (length-numbers_from (first + 1) count)

pub numbers_from-add : (first a b : ℕ) → numbers_from first (a + b) ≡ numbers_from first a ++ numbers_from (first + a) b
unfolding numbers_from
numbers_from-add first zero b = rw (zero-add, add-zero) refl
numbers_from-add first (suc a) b =
    let on : first + suc a ≡ first + 1 + a = omega arith in
    rw (suc-add a b, on) (ap (λ ns. first ∷ ns) (numbers_from-add (first + 1) a b))

pub get_or-numbers_from : (first count k : ℕ) → k < count → get_or (numbers_from first count) k 0 ≡ first + k
unfolding numbers_from
get_or-numbers_from first zero k h = absurd (omega (arith, h))
get_or-numbers_from first (suc count) zero h = sym (add-zero first)
get_or-numbers_from first (suc count) (suc k) h = get_or-numbers_from (first + 1) count k (omega arith) ∙ (omega arith)

-- what a run of maximal runs is
pub maximal-at : (runs : List Run) (i : ℕ) (d : Run) → AreMaximal runs → i < length runs → (0 < (get_or runs i d).count) × ((get_or runs i d).first + (get_or runs i d).count < 2 ^ 64)
unfolding AreMaximal
maximal-at [] i d m h = absurd (omega (arith, h))
maximal-at (x ∷ xs) zero d m h = (m.0, m.1)
maximal-at (x ∷ xs) (suc i) d m h = maximal-at xs i d m.3 (omega arith)

pub maximal-drop : (i : ℕ) (runs : List Run) → AreMaximal runs → AreMaximal (drop i runs)
unfolding AreMaximal
maximal-drop zero runs m = m
maximal-drop (suc i) [] m = m
maximal-drop (suc i) (x ∷ xs) m = maximal-drop i xs m.3

ends-take : (i : ℕ) (x : Run) (xs : List Run) → EndsBefore x xs → EndsBefore x (take i xs)
unfolding EndsBefore
ends-take zero x xs e = tt
ends-take (suc i) x [] e = tt
ends-take (suc i) x (y ∷ ys) e = e

pub maximal-take : (i : ℕ) (runs : List Run) → AreMaximal runs → AreMaximal (take i runs)
unfolding AreMaximal
maximal-take zero runs m = tt
maximal-take (suc i) [] m = tt
maximal-take (suc i) (x ∷ xs) m = (m.0, m.1, ends-take i x xs m.2, maximal-take i xs m.3)

ends_more : (x : Run) (xs : List Run) (r : Run) (ys : List Run) → EndsBefore x (xs ++ r ∷ []) → EndsBefore x (xs ++ r ∷ ys)
unfolding EndsBefore
ends_more x [] r ys e = e
ends_more x (y ∷ xs) r ys e = e

pub maximal_join : (xs : List Run) (r : Run) (ys : List Run) → AreMaximal (xs ++ r ∷ []) → AreMaximal (r ∷ ys) → AreMaximal (xs ++ r ∷ ys)
unfolding AreMaximal
maximal_join [] r ys m n = n
maximal_join (x ∷ xs) r ys m n = (m.0, m.1, ends_more x xs r ys m.2, maximal_join xs r ys m.3 n)

ends_same : (x : Run) (xs : List Run) (r s : Run) → s.first ≡ r.first → EndsBefore x (xs ++ r ∷ []) → EndsBefore x (xs ++ s ∷ [])
unfolding EndsBefore
ends_same x [] r s same e = λ h. e (h ∙ same)
ends_same x (y ∷ xs) r s same e = e

pub maximal_last : (xs : List Run) (r s : Run) → s.first ≡ r.first → 0 < s.count → s.first + s.count < 2 ^ 64 → AreMaximal (xs ++ r ∷ []) → AreMaximal (xs ++ s ∷ [])
unfolding AreMaximal EndsBefore
maximal_last [] r s same some fits m = (some, fits, tt, tt)
maximal_last (x ∷ xs) r s same some fits m = (m.0, m.1, ends_same x xs r s same m.2, maximal_last xs r s same some fits m.3)

ends_as : (r s : Run) (ys : List Run) → s.first + s.count ≡ r.first + r.count → EndsBefore r ys → EndsBefore s ys
unfolding EndsBefore
ends_as r s [] same e = tt
ends_as r s (y ∷ ys) same e = λ h. e (sym same ∙ h)

pub maximal_first : (r s : Run) (ys : List Run) → s.first + s.count ≡ r.first + r.count → 0 < s.count → AreMaximal (r ∷ ys) → AreMaximal (s ∷ ys)
unfolding AreMaximal
maximal_first r s ys same some m = (some, let fits : r.first + r.count < 2 ^ 64 = m.1 in omega (arith, fits, same), ends_as r s ys same m.2, m.3)

-- the runs from an index on, as its run and those behind it
pub record Step (runs : List Run) (i : ℕ) (r : Run) : Type 0 where
  pub some : 0 < r.count
  pub fits : r.first + r.count < 2 ^ 64
  pub rest : AreMaximal (drop (i + 1) runs)
  pub numbers : numbers_of (drop i runs) ≡ numbers_from r.first r.count ++ numbers_of (drop (i + 1) runs)
  pub long : length (numbers_of (drop i runs)) ≡ r.count + length (numbers_of (drop (i + 1) runs))

step_of : (runs : List Run) (i : ℕ) (r : Run) → drop i runs ≡ r ∷ drop (i + 1) runs → AreMaximal (drop i runs) → Step runs i r
unfolding AreMaximal
step_of runs i r split m =
    let n = rw split at m in
    let numbers : numbers_of (drop i runs) ≡ numbers_from r.first r.count ++ numbers_of (drop (i + 1) runs) = ap numbers_of split ∙ numbers-cons r (drop (i + 1) runs) in
    record {
      some = n.0;
      fits = n.1;
      rest = n.3;
      numbers = numbers;
      long = ap length numbers ∙ length-append (numbers_from r.first r.count) (numbers_of (drop (i + 1) runs)) ∙ ap (λ n. n + length (numbers_of (drop (i + 1) runs))) (length-numbers_from r.first r.count);
    }

pub step : (runs : List Run) (i : ℕ) (d : Run) → i < length runs → AreMaximal (drop i runs) → Step runs i (get_or runs i d)
step runs i d h m = step_of runs i (get_or runs i d) (drop_more runs i d h) m

-- a place in the first run, and one behind it
pub number_here : (runs : List Run) (i : ℕ) (r : Run) (left : ℕ) → Step runs i r → left < r.count → get_or (numbers_of (drop i runs)) left 0 ≡ r.first + left
number_here runs i r left s h =
    let long : length (numbers_from r.first r.count) ≡ r.count = length-numbers_from r.first r.count in
    ap (λ ns. get_or ns left 0) s.numbers ∙ get_or_append_left (numbers_from r.first r.count) (numbers_of (drop (i + 1) runs)) 0 left (omega (arith, long, h)) ∙ get_or-numbers_from r.first r.count left h

pub number_behind : (runs : List Run) (i : ℕ) (r : Run) (left : ℕ) → Step runs i r → r.count ≤ left → get_or (numbers_of (drop i runs)) left 0 ≡ get_or (numbers_of (drop (i + 1) runs)) (left - r.count) 0
number_behind runs i r left s h =
    ap (λ ns. get_or ns left 0) s.numbers ∙ get_or-append_right (numbers_from r.first r.count) (numbers_of (drop (i + 1) runs)) r.count left 0 (length-numbers_from r.first r.count) h

pub none_behind : (runs : List Run) (i : ℕ) → length runs ≤ i → length (numbers_of (drop i runs)) ≡ 0
none_behind runs i h = ap (λ rs. length (numbers_of rs)) (drop_all i runs h) ∙ ap length numbers-none

abbrev pub zero_run : Run
zero_run = record { first = 0; count = 0 }

-- the first place of a number that stands in a run, and of one that doesn't
place_in : (first count number : ℕ) (rest : List ℕ) → first ≤ number → number < first + count → position_or_len (λ x. x == number) (numbers_from first count ++ rest) + first ≡ number
unfolding numbers_from
place_in first zero number rest low high = absurd (omega (arith, low, high))
place_in first (suc count) number rest low high =
    elim (cases_lt first number) [
      | inl below ↦
          let other : (first == number) ≡ false = ne_eqb first number (λ e. absurd (omega (arith, e, below))) in
          let more : position_or_len (λ x. x == number) (numbers_from (first + 1) count ++ rest) + (first + 1) ≡ number = place_in (first + 1) count number rest (omega arith) (omega (arith, high)) in
          rw other (omega (arith, more))
      | inr here ↦
          let same : (first == number) ≡ true = eq-eqb first number (omega (arith, here, low)) in
          rw same (omega (arith, here, low))
    ]

place_behind : (first count number : ℕ) (rest : List ℕ) → (number < first) ⊎ (first + count ≤ number) → position_or_len (λ x. x == number) (numbers_from first count ++ rest) ≡ count + position_or_len (λ x. x == number) rest
unfolding numbers_from
place_behind first zero number rest out = sym (zero-add _)
place_behind first (suc count) number rest out =
    let other : (first == number) ≡ false = ne_eqb first number (λ e. ⊎_elim (λ below. absurd (omega (arith, e, below))) (λ above. absurd (omega (arith, e, above))) out) in
    let more : position_or_len (λ x. x == number) (numbers_from (first + 1) count ++ rest) ≡ count + position_or_len (λ x. x == number) rest = place_behind (first + 1) count number rest (⊎_elim (λ below. inl (omega (arith, below))) (λ above. inr (omega (arith, above))) out) in
    rw other (omega (arith, more))

pub place_here : (runs : List Run) (i : ℕ) (r : Run) (number : ℕ) → Step runs i r → r.first ≤ number → number - r.first < r.count → position_or_len (λ x. x == number) (numbers_of (drop i runs)) ≡ number - r.first
place_here runs i r number s low high =
    let at : position_or_len (λ x. x == number) (numbers_of (drop i runs)) + r.first ≡ number = ap (λ ns. position_or_len (λ x. x == number) ns + r.first) s.numbers ∙ place_in r.first r.count number (numbers_of (drop (i + 1) runs)) low (omega (arith, low, high)) in
    omega (arith, at, low)

pub place_later : (runs : List Run) (i : ℕ) (r : Run) (number : ℕ) → Step runs i r → (number < r.first) ⊎ (r.first + r.count ≤ number) → position_or_len (λ x. x == number) (numbers_of (drop i runs)) ≡ r.count + position_or_len (λ x. x == number) (numbers_of (drop (i + 1) runs))
place_later runs i r number s out = ap (position_or_len (λ x. x == number)) s.numbers ∙ place_behind r.first r.count number (numbers_of (drop (i + 1) runs)) out

pub position_some : (numbers : List ℕ) (number place : ℕ) → position_or_len (λ x. x == number) numbers ≡ place → place < length numbers → Some place ≡ position (λ x. x == number) numbers
position_some numbers number place at within =
    let inside : nat_lt (position_or_len (λ x. x == number) numbers) (length numbers) ≡ true = rw at (le-leb (suc place) (length numbers) within) in
    rw (inside, at) refl

pub position_none : (numbers : List ℕ) (number : ℕ) → position_or_len (λ x. x == number) numbers ≡ length numbers → None ≡ position (λ x. x == number) numbers
position_none numbers number at =
    let outside : nat_lt (position_or_len (λ x. x == number) numbers) (length numbers) ≡ false = rw at (lt-leb (suc (length numbers)) (length numbers) (omega arith)) in
    rw outside refl

pub no_place : (runs : List Run) (i number : ℕ) → length runs ≤ i → position_or_len (λ x. x == number) (numbers_of (drop i runs)) ≡ 0
no_place runs i number h = ap (λ rs. position_or_len (λ x. x == number) (numbers_of rs)) (drop_all i runs h) ∙ ap (position_or_len (λ x. x == number)) numbers-none

-- maximal runs with equal numbers are equal
first_number : (r : Run) (rs : List Run) → 0 < r.count → get_or (numbers_of (r ∷ rs)) 0 0 ≡ r.first
first_number r rs some =
    let long : length (numbers_from r.first r.count) ≡ r.count = length-numbers_from r.first r.count in
    ap (λ ns. get_or ns 0 0) (numbers-cons r rs) ∙ get_or_append_left (numbers_from r.first r.count) (numbers_of rs) 0 0 (omega (arith, long, some)) ∙ get_or-numbers_from r.first r.count 0 some ∙ add-zero r.first

length_cons : (r : Run) (rs : List Run) → length (numbers_of (r ∷ rs)) ≡ r.count + length (numbers_of rs)
length_cons r rs = ap length (numbers-cons r rs) ∙ length-append (numbers_from r.first r.count) (numbers_of rs) ∙ ap (λ n. n + length (numbers_of rs)) (length-numbers_from r.first r.count)

next_number : (r : Run) (rs : List Run) → get_or (numbers_of (r ∷ rs)) r.count 0 ≡ get_or (numbers_of rs) 0 0
next_number r rs =
    ap (λ ns. get_or ns r.count 0) (numbers-cons r rs) ∙ get_or-append_right (numbers_from r.first r.count) (numbers_of rs) r.count r.count 0 (length-numbers_from r.first r.count) (omega arith) ∙ ap (λ k. get_or (numbers_of rs) k 0) (let e : r.count - r.count ≡ 0 = omega arith in e)

not_shorter : (r : Run) (rs : List Run) (s : Run) (ss : List Run) → AreMaximal (r ∷ rs) → r.first ≡ s.first → numbers_of (r ∷ rs) ≡ numbers_of (s ∷ ss) → r.count < s.count → ⊥
unfolding AreMaximal EndsBefore
not_shorter r [] s ss m same equal less =
    absurd (omega (arith, less, length_cons r [], length_cons s ss, ap length equal, ap length numbers-none))
not_shorter r (t ∷ ts) s ss m same equal less =
    let here : get_or (numbers_of (s ∷ ss)) r.count 0 ≡ s.first + r.count =
    ap (λ ns. get_or ns r.count 0) (numbers-cons s ss) ∙ get_or_append_left (numbers_from s.first s.count) (numbers_of ss) 0 r.count (let long : length (numbers_from s.first s.count) ≡ s.count = length-numbers_from s.first s.count in omega (arith, long, less)) ∙ get_or-numbers_from s.first s.count r.count less in
    let there : get_or (numbers_of (r ∷ t ∷ ts)) r.count 0 ≡ t.first = next_number r (t ∷ ts) ∙ first_number t ts m.3.0 in
    let across : get_or (numbers_of (r ∷ t ∷ ts)) r.count 0 ≡ get_or (numbers_of (s ∷ ss)) r.count 0 = ap (λ ns. get_or ns r.count 0) equal in
    m.2 (omega (arith, here, there, across, same))

pub determined : (a b : List Run) → AreMaximal a → AreMaximal b → numbers_of a ≡ numbers_of b → a ≡ b
unfolding AreMaximal
determined [] [] m n equal = refl
determined [] (s ∷ ss) m n equal = absurd (omega (arith, n.0, length_cons s ss, ap length equal, ap length numbers-none))
determined (r ∷ rs) [] m n equal = absurd (omega (arith, m.0, length_cons r rs, ap length equal, ap length numbers-none))
determined (r ∷ rs) (s ∷ ss) m n equal =
    let first : r.first ≡ s.first = sym (first_number r rs m.0) ∙ ap (λ ns. get_or ns 0 0) equal ∙ first_number s ss n.0 in
    let count : r.count ≡ s.count = elim (cases_lt r.count s.count) [
      | inl less ↦ absurd (not_shorter r rs s ss m first equal less)
      | inr most ↦ elim (cases_lt s.count r.count) [
        | inl less ↦ absurd (not_shorter s ss r rs n (sym first) (sym equal) less)
        | inr least ↦ omega (arith, most, least)
      ]
    ] in
    let run : r ≡ s = ap₂ (λ (f c : ℕ). let made : Run = record { first = f; count = c } in made) first count in
    let cut : numbers_from r.first r.count ++ numbers_of rs ≡ numbers_from r.first r.count ++ numbers_of ss = sym (numbers-cons r rs) ∙ equal ∙ numbers-cons s ss ∙ rw (first, count) refl in
    let rest : rs ≡ ss = determined rs ss m.3 n.3 (append_cancel_left (numbers_from r.first r.count) (numbers_of rs) (numbers_of ss) cut) in
    ap₂ (λ (x : Run) (xs : List Run). x ∷ xs) run rest

pub kept_none : AreRunsOf [] 0
unfolding AreMaximal
kept_none = record { maximal = tt; len = ap length numbers-none; fits = lit< tt }

pub numbers_of_one : (first count : ℕ) → numbers_of (record { first = first; count = count } ∷ []) ≡ numbers_from first count
numbers_of_one first count = numbers-cons (record { first = first; count = count }) [] ∙ ap (λ ns. numbers_from first count ++ ns) numbers-none ∙ append-nil (numbers_from first count)

one_long : (first count : ℕ) → length (numbers_of (record { first = first; count = count } ∷ [])) ≡ count
one_long first count = ap length (numbers_of_one first count) ∙ length-numbers_from first count

pub numbers_from-zero : (first : ℕ) → numbers_from first 0 ≡ []
unfolding numbers_from
numbers_from-zero first = refl

pub kept_one : (first count : ℕ) → 0 < count → first + count < 2 ^ 64 → AreRunsOf (record { first = first; count = count } ∷ []) count
unfolding AreMaximal EndsBefore
kept_one first count some fits = record { maximal = (some, fits, tt, tt); len = one_long first count; fits = omega (arith, fits) }

-- a number in front of runs stands in front of their numbers
numbers_of-runs_with : (n : ℕ) (rs : List Run) → numbers_of (runs_with n rs) ≡ n ∷ numbers_of rs
unfolding numbers_of numbers_from
numbers_of-runs_with n [] = refl
numbers_of-runs_with n (r ∷ rs) =
    elim (cases_eq (n + 1) r.first) [
      | inl meets ↦
          let same : (n + 1 == r.first) ≡ true = eq-eqb (n + 1) r.first meets in
          let more : r.count + 1 ≡ suc r.count = omega arith in
          rw (same, more) (ap (λ first. n ∷ (numbers_from first r.count ++ numbers_of rs)) meets)
      | inr apart ↦
          let other : (n + 1 == r.first) ≡ false = ne_eqb (n + 1) r.first apart in
          rw other refl
    ]

pub numbers_of-runs_of : (numbers : List ℕ) → numbers_of (runs_of numbers) ≡ numbers
unfolding runs_of
numbers_of-runs_of [] = numbers-none
numbers_of-runs_of (n ∷ ns) =
    numbers_of-runs_with n (runs_of ns) ∙ ap (λ numbers. n ∷ numbers) (numbers_of-runs_of ns)

-- a number that the first run doesn't go on behind is a run of its own
runs_with-apart : (first : ℕ) (rs : List Run) → EndsBefore (record { first = first; count = 1 }) rs
    → runs_with first rs ≡ record { first = first; count = 1 } ∷ rs
unfolding EndsBefore
runs_with-apart first [] ends = refl
runs_with-apart first (r ∷ rs) ends = rw (ne_eqb (first + 1) r.first ends) refl

runs_with-meets : (first count : ℕ) (rs : List Run)
    → runs_with first (record { first = first + 1; count = count } ∷ rs) ≡ record { first = first; count = suc count } ∷ rs
runs_with-meets first count rs =
    let more : count + 1 ≡ suc count = omega arith in
    rw (eq-eqb (first + 1) (first + 1) refl, more) refl

-- consecutive numbers in front are one run, where the runs behind don't go on with it
runs_of-run : (first count : ℕ) (rs : List Run) (ns : List ℕ) → runs_of ns ≡ rs → 0 < count
    → EndsBefore (record { first = first; count = count }) rs
    → runs_of (numbers_from first count ++ ns) ≡ record { first = first; count = count } ∷ rs
unfolding runs_of numbers_from
runs_of-run first zero rs ns is some ends = absurd (omega (arith, some))
runs_of-run first (suc zero) rs ns is some ends = ap (runs_with first) is ∙ runs_with-apart first rs ends
runs_of-run first (suc (suc count)) rs ns is some ends =
    let long : Run = record { first = first; count = suc (suc count) } in
    let short : Run = record { first = first + 1; count = suc count } in
    let behind : EndsBefore short rs = ends_as long short rs (omega arith) ends in
    ap (runs_with first) (runs_of-run (first + 1) (suc count) rs ns is (omega arith) behind)
    ∙ runs_with-meets first (suc count) rs

runs_of-none : runs_of [] ≡ []
unfolding runs_of
runs_of-none = refl

-- maximal runs are the runs of their numbers
pub runs_of-numbers_of : (runs : List Run) → AreMaximal runs → runs_of (numbers_of runs) ≡ runs
unfolding AreMaximal
runs_of-numbers_of [] m = ap runs_of numbers-none ∙ runs_of-none
runs_of-numbers_of (r ∷ rs) m =
    ap runs_of (numbers-cons r rs)
    ∙ runs_of-run r.first r.count rs (numbers_of rs) (runs_of-numbers_of rs m.3) m.0 m.2

-- Runs that stand in the order of their first numbers tile a stretch of numbers exactly where each
-- number of it stands in them once and no other does.
use Rattle.std.proofs.Common.{◌≡◌, ◌≢◌, ◌∙◌, ℕ, zero, suc, ◌+◌, ◌<◌, ◌≤◌, true, cond, List, [], ◌∷◌, ◌++◌, refl, sym, ap, inl, inr, arith, ◌⊎◌}
use Rattle.std.specs.Prelude.{◌==◌, nat_lt, sum_by, All}
use Rattle.std.specs.List.Sorted.{IsPermutation, IsNonDecreasingBy}
use Rattle.std.proofs.lemmas.Bool.{cases_lt, cases_eq, ne_eqb, eq-eqb, eqb-true, and_parts, and_from, lt-ltb, le-ltb}
use Rattle.std.proofs.lemmas.List.Sums.{sum_by-append, sum_by-cons}
use Rattle.std.proofs.lemmas.List.Sorted.{sum_by-IsPermutation}
use Rattle.std.proofs.lemmas.List.Elements.{All-head, All-tail}
use Rattle.ox_range.specs.declared.runs.Run.{Run}
use Rattle.ox_range.specs.Numbers.{numbers_from}
use Rattle.ox_range.specs.Runs.{numbers_of}
use Rattle.ox_rules.specs.Outputs.{times}
use Rattle.ox_sound.specs.Once.{tiles}
use Rattle.ox_range.proofs.RunLemmas.{numbers-cons, numbers-none}

-- ---- how often a number stands in runs

-- 1 within a stretch, and 0 elsewhere
abbrev pub within : ℕ → ℕ → ℕ → ℕ
within from end sat = cond (nat_lt sat from) 0 (cond (nat_lt sat end) 1 0)

times-append : (sat : ℕ) (xs ys : List ℕ) → times sat (xs ++ ys) ≡ times sat xs + times sat ys
times-append sat xs ys = sum_by-append (λ s. cond (s == sat) 1 0) xs ys

pub times-cons : (sat x : ℕ) (xs : List ℕ) → times sat (x ∷ xs) ≡ cond (x == sat) 1 0 + times sat xs
times-cons sat x xs = sum_by-cons (λ s. cond (s == sat) 1 0) x xs

within_below : (from end sat : ℕ) → sat < from → within from end sat ≡ 0
within_below from end sat h = rw (lt-ltb sat from h) refl

within_inside : (from end sat : ℕ) → from ≤ sat → sat < end → within from end sat ≡ 1
within_inside from end sat h k = rw (le-ltb sat from h, lt-ltb sat end k) refl

within_above : (from end sat : ℕ) → from ≤ sat → end ≤ sat → within from end sat ≡ 0
within_above from end sat h k = rw (le-ltb sat from h, le-ltb sat end k) refl

-- a number is below a stretch, in it, or beyond it
abbrev Side : ℕ → ℕ → ℕ → Type 0
Side from end sat = (sat < from) ⊎ (((from ≤ sat) × (sat < end)) ⊎ ((from ≤ sat) × (end ≤ sat)))

side : (from end sat : ℕ) → Side from end sat
side from end sat =
    elim (cases_lt sat from) [
      | inl below ↦ inl below
      | inr not_below ↦ elim (cases_lt sat end) [
        | inl inside ↦ inr (inl (not_below, inside))
        | inr above ↦ inr (inr (not_below, above))
      ]
    ]

times_in_none : (first sat : ℕ) → 0 ≡ within first (first + 0) sat
times_in_none first sat =
    elim (side first (first + 0) sat) [
      | inl below ↦ sym (within_below first (first + 0) sat below)
      | inr (inl inside) ↦ absurd (omega (arith, inside.0, inside.1))
      | inr (inr above) ↦ sym (within_above first (first + 0) sat above.0 above.1)
    ]

-- one number in front of a stretch
within_more : (first end sat : ℕ) → first < end → cond (first == sat) 1 0 + within (first + 1) end sat ≡ within first end sat
within_more first end sat h =
    elim (cases_eq first sat) [
      | inl same ↦ rw (eq-eqb first sat same, within_below (first + 1) end sat (omega (arith, same)), within_inside first end sat (omega (arith, same)) (omega (arith, same, h))) refl
      | inr other ↦ rw (ne_eqb first sat other) (apart (side first end sat) other)
    ] where
      apart : Side first end sat → first ≢ sat → 0 + within (first + 1) end sat ≡ within first end sat
      apart (inl below) other = rw (within_below (first + 1) end sat (omega (arith, below)), within_below first end sat below) refl
      apart (inr (inl inside)) other = rw (within_inside (first + 1) end sat (omega (arith, inside.0, other)) inside.1, within_inside first end sat inside.0 inside.1) refl
      apart (inr (inr above)) other = rw (within_above (first + 1) end sat (omega (arith, above.0, other)) above.1, within_above first end sat above.0 above.1) refl

pub times_in_run : (first count sat : ℕ) → times sat (numbers_from first count) ≡ within first (first + count) sat
unfolding numbers_from
times_in_run first zero sat = times_in_none first sat
times_in_run first (suc count) sat =
    let end : first + 1 + count ≡ first + suc count = omega arith in
    let rest : times sat (numbers_from (first + 1) count) ≡ within (first + 1) (first + suc count) sat = times_in_run (first + 1) count sat ∙ ap (λ e. within (first + 1) e sat) end in
    times-cons sat first (numbers_from (first + 1) count) ∙ ap (λ n. cond (first == sat) 1 0 + n) rest ∙ within_more first (first + suc count) sat (omega arith)

-- a stretch in two parts
within_parts : (from middle end sat : ℕ) → from ≤ middle → middle ≤ end → within from middle sat + within middle end sat ≡ within from end sat
within_parts from middle end sat h k = parts (side from middle sat) (side middle end sat) where
  parts : Side from middle sat → Side middle end sat → within from middle sat + within middle end sat ≡ within from end sat
  parts (inl below) _ = rw (within_below from middle sat below, within_below middle end sat (omega (arith, below, h)), within_below from end sat below) refl
  parts (inr (inl inside)) _ = rw (within_inside from middle sat inside.0 inside.1, within_below middle end sat inside.1, within_inside from end sat inside.0 (omega (arith, inside.1, k))) refl
  parts (inr (inr above)) (inl below) = absurd (omega (arith, above.1, below))
  parts (inr (inr above)) (inr (inl inside)) = rw (within_above from middle sat above.0 above.1, within_inside middle end sat inside.0 inside.1, within_inside from end sat above.0 inside.1) refl
  parts (inr (inr above)) (inr (inr beyond)) = rw (within_above from middle sat above.0 above.1, within_above middle end sat beyond.0 beyond.1, within_above from end sat above.0 beyond.1) refl

-- how often a number stands in a run and in those behind it
pub times_in_runs : (sat : ℕ) (r : Run) (rs : List Run) → times sat (numbers_of (r ∷ rs)) ≡ within r.first (r.first + r.count) sat + times sat (numbers_of rs)
times_in_runs sat r rs =
    ap (times sat) (numbers-cons r rs) ∙ times-append sat (numbers_from r.first r.count) (numbers_of rs) ∙ ap (λ n. n + times sat (numbers_of rs)) (times_in_run r.first r.count sat)

-- ---- runs in the order of their first numbers

-- no number below the first numbers of runs stands in them
none_below : (low sat : ℕ) (rs : List Run) → All (λ (r : Run). low ≤ r.first) rs → sat < low → times sat (numbers_of rs) ≡ 0
none_below low sat [] from below = ap (times sat) numbers-none
none_below low sat (r ∷ rs) from below =
    let here : low ≤ r.first = All-head (λ (s : Run). low ≤ s.first) r rs from in
    let behind : times sat (numbers_of rs) ≡ 0 = none_below low sat rs (All-tail (λ (s : Run). low ≤ s.first) r rs from) below in
    times_in_runs sat r rs ∙ rw (within_below r.first (r.first + r.count) sat (omega (arith, here, below)), behind) refl

-- each number of a stretch stands in the runs once, and no other does
abbrev pub HoldOnce : ℕ → List Run → ℕ → Type 0
HoldOnce from rs end = (sat : ℕ) → times sat (numbers_of rs) ≡ within from end sat

pub once_from_tiles : (from : ℕ) (rs : List Run) (end : ℕ) → tiles from rs end ≡ true → (from ≤ end) × HoldOnce from rs end
unfolding tiles
once_from_tiles from [] end h =
    let same : from ≡ end = eqb-true from end h in
    (omega (arith, same), λ sat. ap (times sat) numbers-none ∙ times_in_none from sat ∙ ap (λ e. within from e sat) (omega (arith, same)))
once_from_tiles from (r ∷ rs) end h =
    let both = and_parts (r.first == from) (tiles (from + r.count) rs end) h in
    let same : r.first ≡ from = eqb-true r.first from both.0 in
    let rest : (from + r.count ≤ end) × HoldOnce (from + r.count) rs end = once_from_tiles (from + r.count) rs end both.1 in
    let most : from + r.count ≤ end = rest.0 in
    (omega (arith, most), λ sat. times_in_runs sat r rs ∙ ap (λ f. within f (f + r.count) sat + times sat (numbers_of rs)) same ∙ ap (λ n. within from (from + r.count) sat + n) (rest.1 sat) ∙ within_parts from (from + r.count) end sat (omega arith) most)

-- where a run stands first, and what its numbers leave for those behind it
record First (from end : ℕ) (r : Run) : Type 0 where
  begins : r.first ≡ from
  ends : from + r.count ≤ end

first_run : (from : ℕ) (r : Run) (rs : List Run) (end : ℕ) → All (λ (s : Run). r.first ≤ s.first) rs → 0 < r.count → HoldOnce from (r ∷ rs) end → First from end r
first_run from r rs end rising some once =
    let inside : (from ≤ r.first) × (r.first < end) = here (side from end r.first) in
    let begins : r.first ≡ from = begin inside (cases_lt from r.first) in
    record { begins = begins; ends = last inside begins (cases_lt end (from + r.count)) }
  where
    at : (sat : ℕ) → within r.first (r.first + r.count) sat + times sat (numbers_of rs) ≡ within from end sat
    at sat = sym (times_in_runs sat r rs) ∙ once sat

    one : within r.first (r.first + r.count) r.first ≡ 1
    one = within_inside r.first (r.first + r.count) r.first (omega arith) (omega (arith, some))

    here : Side from end r.first → (from ≤ r.first) × (r.first < end)
    here (inl below) = absurd (omega (arith, at r.first, one, within_below from end r.first below))
    here (inr (inl inside)) = inside
    here (inr (inr above)) = absurd (omega (arith, at r.first, one, within_above from end r.first above.0 above.1))

    begin : (from ≤ r.first) × (r.first < end) → (from < r.first) ⊎ (r.first ≤ from) → r.first ≡ from
    begin inside (inl late) = absurd (omega (arith, at from, within_below r.first (r.first + r.count) from late, none_below r.first from rs rising late, within_inside from end from (omega arith) (omega (arith, late, inside.1))))
    begin inside (inr early) = omega (arith, inside.0, early)

    last : (from ≤ r.first) × (r.first < end) → r.first ≡ from → (end < from + r.count) ⊎ (from + r.count ≤ end) → from + r.count ≤ end
    last inside same (inl far) = absurd (omega (arith, at end, within_inside r.first (r.first + r.count) end (omega (arith, inside.1)) (omega (arith, far, same)), within_above from end end (omega (arith, inside.0, inside.1)) (omega arith)))
    last inside same (inr near) = near

pub tiles_from_once : (from : ℕ) (rs : List Run) (end : ℕ) → from ≤ end → IsNonDecreasingBy (λ (r : Run). r.first) rs → All (λ (r : Run). 0 < r.count) rs → HoldOnce from rs end → tiles from rs end ≡ true
unfolding tiles
tiles_from_once from [] end h up some once =
    elim (cases_lt from end) [
      | inl less ↦ absurd (omega (arith, once from, ap (times from) numbers-none, within_inside from end from (omega arith) less))
      | inr not_less ↦ eq-eqb from end (omega (arith, h, not_less))
    ]
tiles_from_once from (r ∷ rs) end h up some once =
    let rising : All (λ (s : Run). r.first ≤ s.first) rs = λ k d l. up 0 (suc k) d (omega arith) (omega (arith, l)) in
    let first : First from end r = first_run from r rs end rising (All-head (λ (s : Run). 0 < s.count) r rs some) once in
    let same : r.first ≡ from = first.begins in
    let rest : HoldOnce (from + r.count) rs end = λ sat.
    let all = sym (times_in_runs sat r rs) ∙ once sat in
    let parts = within_parts from (from + r.count) end sat (omega arith) first.ends in
    let here : within r.first (r.first + r.count) sat ≡ within from (from + r.count) sat = ap (λ f. within f (f + r.count) sat) same in
    omega (arith, all, parts, here) in
    and_from (r.first == from) (tiles (from + r.count) rs end) (eq-eqb r.first from same)
    (tiles_from_once (from + r.count) rs end first.ends (λ i j d a b. up (suc i) (suc j) d (omega (arith, a)) (omega (arith, b))) (All-tail (λ (s : Run). 0 < s.count) r rs some) rest)

-- ---- runs in another order

times_by_runs : (sat : ℕ) (rs : List Run) → times sat (numbers_of rs) ≡ sum_by (λ (r : Run). within r.first (r.first + r.count) sat) rs
times_by_runs sat [] = ap (times sat) numbers-none
times_by_runs sat (r ∷ rs) =
    times_in_runs sat r rs ∙ ap (λ n. within r.first (r.first + r.count) sat + n) (times_by_runs sat rs) ∙ sym (sum_by-cons (λ (s : Run). within s.first (s.first + s.count) sat) r rs)

-- their order doesn't matter
pub times_permuted : (sat : ℕ) (rs ss : List Run) → IsPermutation rs ss → times sat (numbers_of ss) ≡ times sat (numbers_of rs)
times_permuted sat rs ss moved =
    times_by_runs sat ss ∙ sum_by-IsPermutation (λ (r : Run). within r.first (r.first + r.count) sat) rs ss moved ∙ sym (times_by_runs sat rs)

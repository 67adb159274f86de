-- What the test of satoshis says, and that runs in order answer it.
use Rattle.std.proofs.Common.{◌≡◌, ◌≢◌, ◌∙◌, ℕ, ◌+◌, ◌<◌, ◌≤◌, false, cond, List, [], ◌∷◌, ◌++◌, length, get_or, drop, refl, sym, ap, subst, arith, inl, inr}
use Rattle.std.specs.Prelude.{◌&&◌, ◌==◌, nat_lt, if◌then◌else◌, All, Decides}
use Rattle.std.specs.List.{list_all}
use Rattle.std.specs.List.Sorted.{IsPermutation, IsNonDecreasingBy}
use Rattle.std.proofs.lemmas.Bool.{cases_lt, ne_eqb, eq-eqb, lt-ltb, le-ltb, cond-true, cond-false}
use Rattle.std.proofs.lemmas.Bool.Decides.{Decides-and, Decides-by_and, Decides-eqb, Decides-like, Decides-ltb, same_from_decides}
use Rattle.std.proofs.lemmas.List.{append_assoc, append-nil, drop_more, drop_all}
use Rattle.std.proofs.lemmas.List.Concat.{flat_map-cons}
use Rattle.std.proofs.lemmas.List.Elements.{All-append, All-from_get_or, All-head, All-nil, All-tail, All-cons, All-weaker}
use Rattle.std.proofs.lemmas.List.Sorted.{All-permutation}
use Rattle.std.proofs.lemmas.List.Sums.{get_or-le-sum_by}
use Rattle.ox_range.specs.declared.runs.Run.{Run}
use Rattle.ox_range.specs.Numbers.{numbers_from}
use Rattle.ox_range.specs.Runs.{AreMaximal, numbers_of}
use Rattle.ox_range.proofs.RunLemmas.{get_or-numbers_from, length-numbers_from, numbers-append, numbers-none}
use Rattle.ox_rules.specs.Outputs.{sats_of, times}
use Rattle.ox_rules.specs.declared.rows.OutRow.{OutRow}
use Rattle.ox_sound.specs.Once.{IsRun, stand_once, tiles}
use Rattle.ox_sound.proofs.TileLemmas.{once_from_tiles, tiles_from_once, times-cons, times_permuted, within}

-- each number below a bound stands in a list once, and no other does
abbrev pub Once : ℕ → List ℕ → Type 0
Once bound sats = (sat : ℕ) → times sat sats ≡ (if nat_lt sat bound then 1 else 0)

times_beyond : (bound sat : ℕ) (sats : List ℕ) → All (λ s. s < bound) sats → bound ≤ sat → times sat sats ≡ 0
times_beyond bound sat [] below far = refl
times_beyond bound sat (x ∷ xs) below far =
    let here : x < bound = All-head (λ s. s < bound) x xs below in
    let rest : times sat xs ≡ 0 = times_beyond bound sat xs (All-tail (λ s. s < bound) x xs below) far in
    times-cons sat x xs ∙ rw (ne_eqb x sat (λ same. absurd (omega (arith, here, far, same))), rest) refl

times_there : (sats : List ℕ) (k d : ℕ) → k < length sats → 0 < times (get_or sats k d) sats
times_there sats k d h =
    let sat = get_or sats k d in
    let one : cond (sat == sat) 1 0 ≤ times sat sats = get_or-le-sum_by (λ s. cond (s == sat) 1 0) sats k d h in
    let same : ◌≡◌ {A = ℕ} (cond (sat == sat) 1 0) 1 = cond-true (sat == sat) 1 0 (eq-eqb sat sat refl) in
    omega (arith, one, same)

-- the two parts of the test
abbrev Parts : ℕ → List ℕ → Type 0
Parts bound sats = All (λ s. s < bound) sats × All (λ s. times s sats ≡ 1) (numbers_from 0 bound)

once_from_parts : (bound : ℕ) (sats : List ℕ) → Parts bound sats → Once bound sats
once_from_parts bound sats parts sat =
    elim (cases_lt sat bound) [
      | inl below ↦
          let at : get_or (numbers_from 0 bound) sat 0 ≡ 0 + sat = get_or-numbers_from 0 bound sat below in
          let long : length (numbers_from 0 bound) ≡ bound = length-numbers_from 0 bound in
          let is : times (get_or (numbers_from 0 bound) sat 0) sats ≡ 1 = parts.1 sat 0 (omega (arith, long, below)) in
          let here : get_or (numbers_from 0 bound) sat 0 ≡ sat = omega (arith, at) in
          ap (λ s. times s sats) (sym here) ∙ is ∙ sym (cond-true (nat_lt sat bound) 1 0 (lt-ltb sat bound below))
      | inr far ↦ times_beyond bound sat sats parts.0 far ∙ sym (cond-false (nat_lt sat bound) 1 0 (le-ltb sat bound far))
    ]

below_from_once : (bound : ℕ) (sats : List ℕ) → Once bound sats → (k d : ℕ) → k < length sats → get_or sats k d < bound
below_from_once bound sats once k d h =
    let sat = get_or sats k d in
    let some : 0 < times sat sats = times_there sats k d h in
    elim (cases_lt sat bound) [
      | inl below ↦ below
      | inr far ↦
          let none : times sat sats ≡ 0 = once sat ∙ cond-false (nat_lt sat bound) 1 0 (le-ltb sat bound far) in
          absurd (omega (arith, some, none))
    ]

parts_from_once : (bound : ℕ) (sats : List ℕ) → Once bound sats → Parts bound sats
parts_from_once bound sats once = (
  below_from_once bound sats once,
  All-from_get_or (λ s. times s sats ≡ 1) (numbers_from 0 bound) 0 (λ k h.
      let long : length (numbers_from 0 bound) ≡ bound = length-numbers_from 0 bound in
      let below : k < bound = omega (arith, long, h) in
      let at : get_or (numbers_from 0 bound) k 0 ≡ 0 + k = get_or-numbers_from 0 bound k below in
      let here : get_or (numbers_from 0 bound) k 0 ≡ k = omega (arith, at) in
      ap (λ s. times s sats) here ∙ once k ∙ cond-true (nat_lt k bound) 1 0 (lt-ltb k bound below)),
)

pub Decides-stand_once : (bound : ℕ) (sats : List ℕ) → Decides (stand_once bound sats) (Once bound sats)
unfolding stand_once
Decides-stand_once bound sats =
    Decides-like (stand_once bound sats) (once_from_parts bound sats) (parts_from_once bound sats)
    (Decides-and (list_all (λ sat. nat_lt sat bound) sats) (list_all (λ sat. times sat sats == 1) (numbers_from 0 bound))
    (Decides-by_and (λ sat. nat_lt sat bound) (λ sat. sat < bound) (list_all (λ sat. nat_lt sat bound)) (λ sat. Decides-ltb sat bound) refl (λ _ _. refl) sats)
    (Decides-by_and (λ sat. times sat sats == 1) (λ sat. times sat sats ≡ 1) (list_all (λ sat. times sat sats == 1)) (λ sat. Decides-eqb (times sat sats) 1) refl (λ _ _. refl) (numbers_from 0 bound)))

-- ---- runs in order answer the test

from_zero : (bound sat : ℕ) → within 0 bound sat ≡ (if nat_lt sat bound then 1 else 0)
from_zero bound sat = cond-false (nat_lt sat 0) 0 (cond (nat_lt sat bound) 1 0) (le-ltb sat 0 (omega arith))

pub sorted_tile : (runs sorted : List Run) (sats : List ℕ) (end : ℕ) → numbers_of runs ≡ sats → All IsRun runs → IsPermutation runs sorted
    → IsNonDecreasingBy (λ (r : Run). r.first) sorted → tiles 0 sorted end ≡ stand_once end sats
sorted_tile runs sorted sats end numbers each moved up =
    same_from_decides (tiles 0 sorted end) (stand_once end sats) by_runs (Decides-stand_once end sats)
  where
    same_times : (sat : ℕ) → times sat (numbers_of sorted) ≡ times sat sats
    same_times sat = times_permuted sat runs sorted moved ∙ ap (times sat) numbers

    some : All (λ (r : Run). 0 < r.count) sorted
    some = All-weaker IsRun (λ (r : Run). 0 < r.count) (λ r is. is.some) sorted (All-permutation IsRun runs sorted moved each)

    by_runs : Decides (tiles 0 sorted end) (Once end sats)
    by_runs = (
      λ tile sat. sym (same_times sat) ∙ (once_from_tiles 0 sorted end tile).1 sat ∙ from_zero end sat,
      λ once. tiles_from_once 0 sorted end (omega arith) up some (λ sat. same_times sat ∙ once sat ∙ sym (from_zero end sat)),
    )

-- ---- runs one by one

pub no_tile : (from : ℕ) (runs : List Run) (i : ℕ) (d : Run) (end : ℕ) → i < length runs → (get_or runs i d).first ≢ from → tiles from (drop i runs) end ≡ false
unfolding tiles
no_tile from runs i d end h other =
    ap (λ rs. tiles from rs end) (drop_more runs i d h) ∙ ap (λ b. b && tiles (from + (get_or runs i d).count) (drop (i + 1) runs) end) (ne_eqb (get_or runs i d).first from other)

pub tiles_on : (from : ℕ) (runs : List Run) (i : ℕ) (d : Run) (end : ℕ) → i < length runs → (get_or runs i d).first ≡ from
    → tiles from (drop i runs) end ≡ tiles (from + (get_or runs i d).count) (drop (i + 1) runs) end
unfolding tiles
tiles_on from runs i d end h same =
    ap (λ rs. tiles from rs end) (drop_more runs i d h) ∙ ap (λ b. b && tiles (from + (get_or runs i d).count) (drop (i + 1) runs) end) (eq-eqb (get_or runs i d).first from same)

pub tiles_end : (from : ℕ) (runs : List Run) (i end : ℕ) → length runs ≤ i → tiles from (drop i runs) end ≡ (from == end)
unfolding tiles
tiles_end from runs i end h = ap (λ rs. tiles from rs end) (drop_all i runs h)

-- ---- the runs of a list

pub maximal_are_runs : (runs : List Run) → AreMaximal runs → All IsRun runs
unfolding AreMaximal
maximal_are_runs [] maximal = All-nil IsRun
maximal_are_runs (run ∷ runs) maximal =
    All-cons IsRun run runs (record { some = maximal.0; fits = maximal.1 }) (maximal_are_runs runs maximal.3)

-- before the first output
pub no_rows : (runs : List Run) (left rows : List OutRow) → runs ≡ [] → left ≡ rows → numbers_of runs ++ sats_of left ≡ sats_of rows
no_rows runs left rows none start = ap (λ (rs : List Run). numbers_of rs ++ sats_of left) none ∙ ap (λ (ns : List ℕ). ns ++ sats_of left) numbers-none ∙ ap sats_of start

-- the runs of one more output
pub one_more_row : (runs own new : List Run) (row : OutRow) (left more : List OutRow) (all : List ℕ) → new ≡ runs ++ own → numbers_of own ≡ row.sats → left ≡ row ∷ more
    → numbers_of runs ++ sats_of left ≡ all → numbers_of new ++ sats_of more ≡ all
one_more_row runs own new row left more all items numbers split before =
    ap (λ (rs : List Run). numbers_of rs ++ sats_of more) items
    ∙ ap (λ (ns : List ℕ). ns ++ sats_of more) (numbers-append runs own ∙ ap (λ (ns : List ℕ). numbers_of runs ++ ns) numbers)
    ∙ append_assoc (numbers_of runs) row.sats (sats_of more)
    ∙ ap (λ (ns : List ℕ). numbers_of runs ++ ns) (sym (flat_map-cons (λ (r : OutRow). r.sats) row more))
    ∙ ap (λ (rs : List OutRow). numbers_of runs ++ sats_of rs) (sym split)
    ∙ before

-- the runs of all outputs, and of lost satoshis behind them
pub all_rows : (runs own new : List Run) (left : List OutRow) (lost all : List ℕ) → new ≡ runs ++ own → numbers_of own ≡ lost → left ≡ []
    → numbers_of runs ++ sats_of left ≡ all → numbers_of new ≡ all ++ lost
all_rows runs own new left lost all items numbers none before =
    ap numbers_of items ∙ numbers-append runs own ∙ ap (λ (ns : List ℕ). numbers_of runs ++ ns) numbers
    ∙ ap (λ (ns : List ℕ). ns ++ lost) (sym (append-nil (numbers_of runs)) ∙ ap (λ (rs : List OutRow). numbers_of runs ++ sats_of rs) (sym none) ∙ before)

pub more_are_runs : (runs own new : List Run) → new ≡ runs ++ own → All IsRun runs → AreMaximal own → All IsRun new
more_are_runs runs own new items each maximal =
    subst (All IsRun) (sym items) (All-append IsRun runs own each (maximal_are_runs own maximal))

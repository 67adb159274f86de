-- Where each satoshi is in one place, lists of them are short, and rows may stand.
use Rattle.std.proofs.Common.{◌≡◌, ◌∙◌, ◌≤◌, ◌^◌, ℕ, zero, suc, ◌+◌, Bool, true, false, cond, List, [], ◌∷◌, ◌++◌, length, refl, sym, ap, subst, arith, Option, Some, None}
use Rattle.std.specs.Prelude.{◌==◌}
use Rattle.std.specs.Option.{option_map_or}
use Rattle.std.specs.FinMap.{get, insert, remove, entries, empty, len-empty, len-entries}
use Rattle.std.proofs.lemmas.List.Sums.{sum_by-cons}
use Rattle.std.proofs.lemmas.Bool.Decides.{nat_tests}
use Rattle.ox_block.specs.declared.block.OutPoint.{OutPoint}
use Rattle.ox_rules.specs.declared.rows.OutRow.{OutRow}
use Rattle.ox_rules.specs.Outputs.{Outputs, outpoint_cmp, sats_of, sats_held, times, MayStand}
use Rattle.ox_rules.specs.Transfer.{as_list}
use Rattle.ox_rules.proofs.MapSums.{total, total_insert, total_remove}
use Rattle.ox_rules.proofs.Orders.{outpoints_total, outpoints_exact}
use Rattle.ox_rules.proofs.Conservation.{times-append, times_in, times_held}
use Rattle.ox_transfer.specs.Apart.{at_most, HoldsOnce, Apart}

pub times-cons : (sat x : ℕ) (xs : List ℕ) → times sat (x ∷ xs) ≡ cond (x == sat) 1 0 + times sat xs
times-cons sat x xs = sum_by-cons (λ s. cond (s == sat) 1 0) x xs

-- ---- how long a list is

without : ℕ → List ℕ → List ℕ
without n [] = []
without n (x ∷ xs) = cond (x == n) (without n xs) (x ∷ without n xs)

one_long : (b : Bool) (x t all : ℕ) (xs rest : List ℕ) → all ≡ cond b 1 0 + t → length xs ≡ t + length rest → length (x ∷ xs) ≡ all + length (cond b rest (x ∷ rest))
one_long true x t all xs rest is h = omega arith
one_long false x t all xs rest is h = omega arith

long_without : (n : ℕ) (xs : List ℕ) → length xs ≡ times n xs + length (without n xs)
unfolding without
long_without n [] = refl
long_without n (x ∷ xs) = one_long (x == n) x (times n xs) _ xs (without n xs) (times-cons n x xs) (long_without n xs)

one_less : (b : Bool) (sat x : ℕ) (xs rest : List ℕ) → times sat rest ≤ times sat xs → times sat (cond b rest (x ∷ rest)) ≤ times sat (x ∷ xs)
one_less true sat x xs rest h = omega (arith, times-cons sat x xs)
one_less false sat x xs rest h = omega (arith, times-cons sat x xs, times-cons sat x rest)

less_without : (sat n : ℕ) (xs : List ℕ) → times sat (without n xs) ≤ times sat xs
unfolding without
less_without sat n [] = omega arith
less_without sat n (x ∷ xs) = one_less (x == n) sat x xs (without n xs) (less_without sat n xs)

one_gone : (b : Bool) (n x : ℕ) (rest : List ℕ) → (x == n) ≡ b → times n rest ≡ 0 → times n (cond b rest (x ∷ rest)) ≡ 0
one_gone true n x rest is h = h
one_gone false n x rest is h =
    let not_here : cond (x == n) 1 0 ≡ 0 = ap {B = ℕ} (λ (b : Bool). cond b 1 0) is in
    omega (arith, times-cons n x rest, not_here)

gone_without : (n : ℕ) (xs : List ℕ) → times n (without n xs) ≡ 0
unfolding without
gone_without n [] = refl
gone_without n (x ∷ xs) = one_gone (x == n) n x (without n xs) refl (gone_without n xs)

lower : (sat n few all : ℕ) → few ≤ all → all ≤ at_most (suc n) sat → (sat ≡ n → few ≡ 0) → few ≤ at_most n sat
lower sat n few all less most none = grind (arith, nat_tests)

none_below : (x many rest : ℕ) → many ≡ cond (x == x) 1 0 + rest → many ≤ at_most 0 x → 1 ≤ 0
none_below x many rest is most = grind (arith, nat_tests)

-- numbers below a bound, none of them twice, are no more than the bound
pub fits : (bound : ℕ) (xs : List ℕ) → ((sat : ℕ) → times sat xs ≤ at_most bound sat) → length xs ≤ bound
fits zero [] h = omega arith
fits zero (x ∷ xs) h = absurd (omega (arith, none_below x (times x (x ∷ xs)) (times x xs) (times-cons x x xs) (h x)))
fits (suc n) xs h =
    let few : length (without n xs) ≤ n = fits n (without n xs) (λ sat. lower sat n _ _ (less_without sat n xs) (h sat) (λ is. subst (λ (m : ℕ). times m (without n xs) ≡ 0) (sym is) (gone_without n xs))) in
    let one : times n xs ≤ 1 = once n (times n xs) (h n) in
    omega (arith, long_without n xs, few, one) where
      once : (n many : ℕ) → many ≤ at_most (suc n) n → many ≤ 1
      once n many most = grind (arith, nat_tests)

pub at_most_one : (bound sat : ℕ) → at_most bound sat ≤ 1
at_most_one bound sat = grind (arith, nat_tests)

-- a higher bound is no harder
pub at_most_more : (low high sat : ℕ) → low ≤ high → at_most low sat ≤ at_most high sat
at_most_more low high sat le = grind (arith, nat_tests)

-- ---- the table and what is in hand

pub apart_fits : (bound : ℕ) (outs : Outputs) (hand : List ℕ) → Apart bound outs hand → length hand ≤ bound
apart_fits bound outs hand apart = fits bound hand (λ sat. omega (arith, apart.once sat))

pub apart_less : (bound : ℕ) (outs : Outputs) (hand less : List ℕ) → ((sat : ℕ) → times sat less ≤ times sat hand) → Apart bound outs hand → Apart bound outs less
apart_less bound outs hand less fewer apart = record { once = λ sat. omega (arith, apart.once sat, fewer sat) }

pub apart_first : (first : ℕ) (outs : Outputs) → first ≤ 2 ^ 63 → HoldsOnce first outs → Apart (2 ^ 63) outs []
apart_first first outs few holds = record { once = λ sat. omega (arith, holds.once sat, at_most_more first (2 ^ 63) sat few) }

-- a row that is there counts in what the table holds
pub row_held : (sat : ℕ) (outs : Outputs) (at : OutPoint) (row : OutRow) → get outs at ≡ Some row → times sat row.sats ≤ times sat (sats_held outs)
row_held sat outs at row there = omega (arith, times_held sat outs, total_remove outpoints_total outpoints_exact (λ (row : OutRow). times sat row.sats) outs at row there)

-- a row that is taken comes to hand
pub apart_take : (bound : ℕ) (outs : Outputs) (hand : List ℕ) (at : OutPoint) (row : OutRow) → Apart bound outs hand → get outs at ≡ Some row → Apart bound (remove outs at) (hand ++ row.sats)
apart_take bound outs hand at row apart there = record {
  once = λ sat. omega (arith, apart.once sat, times_held sat outs, times_held sat (remove outs at), total_remove outpoints_total outpoints_exact (λ (row : OutRow). times sat row.sats) outs at row there, times-append sat hand row.sats);
}

-- what is in hand may be placed
pub may_stand : (bound : ℕ) (outs : Outputs) (sats lost : List ℕ) (at : OutPoint) → Apart bound outs (sats ++ lost) → MayStand at sats outs
may_stand bound outs sats lost at apart = record {
  once = λ sat. omega (arith, apart.once sat, times-append sat sats lost, at_most_one bound sat);
  apart = λ other row sat apart_from there. omega (arith, apart.once sat, times-append sat sats lost, at_most_one bound sat, row_held sat outs other row there);
}

pub times_as_list : (sat : ℕ) (row : Option OutRow) → times sat (sats_of (as_list row)) ≡ option_map_or (λ (row : OutRow). times sat row.sats) row 0
times_as_list sat None = refl
times_as_list sat (Some row) = times-append sat row.sats [] ∙ omega arith

-- a row that is placed comes out of hand, and what it displaces comes to hand
pub apart_place : (bound : ℕ) (outs : Outputs) (rest lost : List ℕ) (at : OutPoint) (row : OutRow) → Apart bound outs ((row.sats ++ rest) ++ lost) → Apart bound (insert outs at row) (rest ++ (lost ++ sats_of (as_list (get outs at))))
apart_place bound outs rest lost at row apart = record {
  once = λ sat. omega (arith, apart.once sat, times_held sat outs, times_held sat (insert outs at row), total_insert outpoints_total (λ (row : OutRow). times sat row.sats) outs at row, times_as_list sat (get outs at), times-append sat (row.sats ++ rest) lost, times-append sat row.sats rest, times-append sat rest (lost ++ sats_of (as_list (get outs at))), times-append sat lost (sats_of (as_list (get outs at))));
}

nothing_there : {A : Type 0} (es : List A) → length es ≡ 0 → es ≡ []
nothing_there [] is = refl
nothing_there (e ∷ es) is = absurd (cc is)

-- no outputs hold no satoshi
pub empty_once : (bound : ℕ) → HoldsOnce bound empty
empty_once bound = record {
  once = λ sat.
      let none : times_in sat empty ≡ 0 = ap (total outpoints_total (λ (row : OutRow). times sat row.sats)) (nothing_there (entries empty) (sym (len-entries {R = outpoint_cmp} empty) ∙ len-empty outpoint_cmp OutRow)) in
      omega (arith, none, times_held sat empty);
}

-- The parts of a sum, one after the other.
use Rattle.std.proofs.Common.{◌≡◌, ◌∙◌, ℕ, suc, zero, ◌+◌, ◌-◌, ◌*◌, ◌/◌, ◌%◌, ◌<◌, ◌≤◌, List, [], ◌∷◌, refl, sym, ap, arith, sum, length}
use Rattle.std.specs.Prelude.{min, Bool, true, false, ◌==◌, if◌then◌else◌}
use Rattle.std.proofs.lemmas.List.Sums.{sum_by-cons}
use Rattle.ox_allocation.specs.Gifts.{even_parts, parts_while, parts_of}
use Rattle.ox_allocation.specs.Dealing.{next_parts}
use Rattle.ox_allocation.specs.declared.parts.Parts.{Parts}
use Rattle.ox_allocation.specs.declared.parts.Parts.TheVariants.{Even, Each}

pub sum-cons : (n : ℕ) (ns : List ℕ) → sum (n ∷ ns) ≡ n + sum ns
sum-cons n ns = sum_by-cons (λ (x : ℕ). x) n ns

either : {A : Type 0} (P : A → Type 0) (b : Bool) (x y : A) → P x → P y → P (if b then x else y)
either P true x y p q = p
either P false x y p q = q

pub next_share : (share count : ℕ) → even_parts share 0 (suc count) ≡ share ∷ even_parts share 0 count
unfolding even_parts
next_share share count = refl

pub next_more : (share extra count : ℕ) → 0 < extra → even_parts share extra (suc count) ≡ (share + 1) ∷ even_parts share (extra - 1) count
unfolding even_parts
next_more share zero count some = absurd (omega arith)
next_more share (suc extra) count some = let less : extra ≡ suc extra - 1 = omega arith in ap (λ n. (share + 1) ∷ even_parts share n count) less

pub next_each : (amount left part count : ℕ) → part ≡ min amount left → parts_while amount left (suc count) ≡ part ∷ parts_while amount (left - part) count
unfolding parts_while
next_each amount left part count is =
    let less : left - amount ≡ left - part = omega arith in
    ap (λ (n : ℕ). n ∷ parts_while amount (left - amount) count) (sym is) ∙ ap (λ n. part ∷ parts_while amount n count) less

-- the first part is one of all
pub first_part : (parts : Parts) (count : ℕ) → sum (next_parts parts 1) ≤ sum (next_parts parts (suc count))
unfolding even_parts parts_while
first_part (Even share zero) count = omega (arith, sum-cons share (even_parts share 0 count), sum-cons share [])
first_part (Even share (suc extra)) count = omega (arith, sum-cons (share + 1) (even_parts share extra count), sum-cons (share + 1) [])
first_part (Each amount left) count =
    omega (arith, sum-cons (min amount left) (parts_while amount (left - amount) count), sum-cons (min amount left) [])

one_more : (share count : ℕ) → suc count * share ≡ share + count * share
one_more share count = grind arith

-- even parts and the ones on top of them
pub sum-even_parts : (share extra count : ℕ) → extra ≤ count → sum (even_parts share extra count) ≡ count * share + extra
unfolding even_parts
sum-even_parts share zero zero le = omega arith
sum-even_parts share (suc extra) zero le = absurd (omega arith)
sum-even_parts share zero (suc count) le =
    omega (arith, sum-cons share (even_parts share 0 count), sum-even_parts share zero count (omega arith), one_more share count)
sum-even_parts share (suc extra) (suc count) le =
    omega (arith, sum-cons (share + 1) (even_parts share extra count), sum-even_parts share extra count (omega arith), one_more share count)

-- parts in order never take more than there is
pub sum-parts_while : (amount left count : ℕ) → sum (parts_while amount left count) ≤ left
unfolding parts_while
sum-parts_while amount left zero = omega arith
sum-parts_while amount left (suc count) =
    omega (arith, sum-cons (min amount left) (parts_while amount (left - amount) count), sum-parts_while amount (left - amount) count)

pub length-even_parts : (share extra count : ℕ) → length (even_parts share extra count) ≡ count
unfolding even_parts
length-even_parts share zero zero = refl
length-even_parts share (suc extra) zero = refl
length-even_parts share zero (suc count) = let e = length-even_parts share zero count in omega arith
length-even_parts share (suc extra) (suc count) = let e = length-even_parts share extra count in omega arith

pub length-parts_while : (amount left count : ℕ) → length (parts_while amount left count) ≡ count
unfolding parts_while
length-parts_while amount left zero = refl
length-parts_while amount left (suc count) = let e = length-parts_while amount (left - amount) count in omega arith

split_whole : (left count : ℕ) → sum (even_parts (left / suc count) (left % suc count) (suc count)) ≡ left
split_whole left count = let e = sum-even_parts (left / suc count) (left % suc count) (suc count) (omega arith) in omega arith

-- parts never come to more than there is
pub sum-parts_of : (amount left count : ℕ) → sum (parts_of amount left count) ≤ left
sum-parts_of amount left zero = omega arith
sum-parts_of amount left (suc count) =
    either (λ (parts : List ℕ). sum parts ≤ left) (amount == 0) _ _ (let e = split_whole left count in omega arith) (sum-parts_while amount left (suc count))

-- split evenly, nothing is left
pub sum-parts_of_all : (left count : ℕ) → 0 < count → sum (parts_of 0 left count) ≡ left
sum-parts_of_all left zero some = absurd (omega arith)
sum-parts_of_all left (suc count) some = split_whole left count

pub length-parts_of : (amount left count : ℕ) → length (parts_of amount left count) ≡ count
length-parts_of amount left zero = refl
length-parts_of amount left (suc count) =
    either (λ (parts : List ℕ). length parts ≡ suc count) (amount == 0) _ _ (length-even_parts (left / suc count) (left % suc count) (suc count)) (length-parts_while amount left (suc count))

pub first_more : (share extra : ℕ) → 0 < extra → sum (next_parts (Even share extra) 1) ≡ share + 1
unfolding even_parts
first_more share zero some = absurd (omega arith)
first_more share (suc extra) some = omega (arith, sum-cons (share + 1) [])

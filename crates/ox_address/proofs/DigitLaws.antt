-- Digits and numbers, both ways.
use Rattle.std.proofs.Common.{◌≡◌, ℕ, zero, suc, ◌+◌, ◌-◌, ◌*◌, ◌/◌, ◌%◌, ◌^◌, ◌<◌, List, [], ◌∷◌, ◌++◌, length, All, refl, sym, ap, ◌∙◌, arith, get_or, take}
use Rattle.std.proofs.lemmas.List.{length_push, nil_from_length, take_all, take_more, length-take-le}
use Rattle.std.proofs.lemmas.List.Sums.{fold-append}
use Rattle.std.proofs.lemmas.List.Elements.{All-nil, All-push, All-take}
use Rattle.std.proofs.lemmas.Nat.{div-mul-add, mod-mul-add, mod_below, div-add-mod', div_below}
use Rattle.std.proofs.Math.Nat.{pow-suc, pow-zero}
use Rattle.ox_address.specs.Digits.{number, digits}

pub number-push : (base : ℕ) (xs : List ℕ) (x : ℕ) → number base (xs ++ x ∷ []) ≡ number base xs * base + x
unfolding number
number-push base xs x = fold-append (λ n digit. n * base + digit) 0 xs (x ∷ [])

pub length-digits : (base count n : ℕ) → length (digits base count n) ≡ count
unfolding digits
length-digits base zero n = refl
length-digits base (suc count) n = length_push (digits base count (n / base)) (n % base) ∙ omega (arith, length-digits base count (n / base))

pub digits-below : (base count n : ℕ) → 0 < base → All (λ d. d < base) (digits base count n)
unfolding digits
digits-below base zero n some = All-nil (λ d. d < base)
digits-below base (suc count) n some =
    All-push (λ d. d < base) (digits base count (n / base)) (n % base) (digits-below base count (n / base) some) (mod_below n base some)

-- the digits of the number that they spell
digits-number-by :
    (count base : ℕ) (xs : List ℕ) → length xs ≡ count → All (λ d. d < base) xs →
    digits base count (number base xs) ≡ xs
unfolding digits number
digits-number-by zero base xs none below = sym (nil_from_length xs none)
digits-number-by (suc count) base xs long below =
    let x : ℕ = get_or xs count 0 in
    let front : List ℕ = take count xs in
    let inside : count < length xs = omega arith in
    let low : x < base = below count 0 inside in
    let whole : xs ≡ front ++ x ∷ [] = sym (take_all (count + 1) xs (omega arith)) ∙ take_more xs count 0 inside in
    let n : number base xs ≡ number base front * base + x = ap (number base) whole ∙ number-push base front x in
    let high : number base xs / base ≡ number base front = ap (λ m. m / base) n ∙ div-mul-add (number base front) base x low in
    let last : number base xs % base ≡ x = ap (λ m. m % base) n ∙ mod-mul-add (number base front) base x low in
    let ih : digits base count (number base front) ≡ front =
    digits-number-by count base front (length-take-le count xs (omega arith)) (All-take (λ d. d < base) count xs below) in
    ap (λ m. digits base count m ++ (number base xs % base) ∷ []) high
    ∙ ap (λ ds. ds ++ (number base xs % base) ∷ []) ih
    ∙ ap (λ m. front ++ m ∷ []) last
    ∙ sym whole

pub digits-number :
    (base count : ℕ) (xs : List ℕ) → length xs ≡ count → All (λ d. d < base) xs →
    digits base count (number base xs) ≡ xs
digits-number base count xs = digits-number-by count base xs

pub number-nil : (base : ℕ) → number base [] ≡ 0
unfolding number
number-nil base = refl

-- the number that its digits spell
pub number-digits : (base count n : ℕ) → 0 < base → n < base ^ count → number base (digits base count n) ≡ n
unfolding digits
number-digits base zero n some fits = number-nil base ∙ omega (arith, pow-zero base)
number-digits base (suc count) n some fits =
    let e : base ^ suc count ≡ base ^ count * base = pow-suc base count in
    let high : n / base < base ^ count = div_below n base (base ^ count) some (omega (arith, e)) in
    number-push base (digits base count (n / base)) (n % base)
    ∙ ap (λ m. m * base + n % base) (number-digits base count (n / base) some high)
    ∙ div-add-mod' n base

-- as many digits of one number are the same
pub same_from_number :
    (base : ℕ) (xs ys : List ℕ) → length xs ≡ length ys → All (λ d. d < base) xs → All (λ d. d < base) ys →
    number base xs ≡ number base ys → xs ≡ ys
same_from_number base xs ys long below_x below_y e =
    sym (digits-number base (length ys) xs long below_x) ∙ ap (digits base (length ys)) e ∙ digits-number base (length ys) ys refl below_y

-- the six symbols of a number, place by place
pub six-at : (n i : ℕ) → i < 6 → get_or (digits 32 6 n) i 0 ≡ n / 2 ^ (25 - 5 * i) % 32
unfolding digits
six-at n zero low = let e : n / 32 / 32 / 32 / 32 / 32 ≡ n / 33554432 = omega arith in ap (λ q. q % 32) e
six-at n (suc zero) low = let e : n / 32 / 32 / 32 / 32 ≡ n / 1048576 = omega arith in ap (λ q. q % 32) e
six-at n (suc (suc zero)) low = let e : n / 32 / 32 / 32 ≡ n / 32768 = omega arith in ap (λ q. q % 32) e
six-at n (suc (suc (suc zero))) low = let e : n / 32 / 32 ≡ n / 1024 = omega arith in ap (λ q. q % 32) e
six-at n (suc (suc (suc (suc zero)))) low = refl
six-at n (suc (suc (suc (suc (suc zero))))) low = let e : n ≡ n / 1 = omega arith in ap (λ q. q % 32) e
six-at n (suc (suc (suc (suc (suc (suc i)))))) low = absurd (omega arith)

-- A program and its groups, one to one.
use Rattle.std.proofs.Common.{◌≡◌, ℕ, zero, suc, ◌+◌, ◌-◌, ◌*◌, ◌^◌, ◌<◌, ◌≤◌, List, [], ◌∷◌, length, All, sym, ap, ◌∙◌, arith, lit<}
use Rattle.std.specs.Prelude.{fold}
use Rattle.std.proofs.Math.Nat.{pow-suc, pow-zero}
use Rattle.std.proofs.lemmas.Nat.{pow-add, pow_pos, same_from_place, mul-le}
use Rattle.std.proofs.lemmas.List.Elements.{All-head, All-tail}
use Rattle.ox_address.specs.Digits.{number}
use Rattle.ox_address.specs.Address.{groups, group_count}
use Rattle.ox_address.proofs.DigitLaws.{number-digits, length-digits, digits-below, same_from_number}

-- so many bytes have eight times as many bits
bytes-bits : (n : ℕ) → 256 ^ n ≡ 2 ^ (8 * n)
bytes-bits zero = pow-zero 256
bytes-bits (suc n) =
    let e : 8 * suc n ≡ 8 * n + 8 = omega arith in
    pow-suc 256 n ∙ ap (λ m. m * 256) (bytes-bits n) ∙ sym (ap (λ m. 2 ^ m) e ∙ pow-add 2 (8 * n) 8)

groups-bits : (n : ℕ) → 32 ^ n ≡ 2 ^ (5 * n)
groups-bits zero = pow-zero 32
groups-bits (suc n) =
    let e : 5 * suc n ≡ 5 * n + 5 = omega arith in
    pow-suc 32 n ∙ ap (λ m. m * 32) (groups-bits n) ∙ sym (ap (λ m. 2 ^ m) e ∙ pow-add 2 (5 * n) 5)

fold-below : (xs : List ℕ) (n : ℕ) → All (λ d. d < 256) xs → fold (λ m digit. m * 256 + digit) n xs < (n + 1) * 256 ^ length xs
fold-below [] n below = omega (arith, pow-zero 256, ap (λ m. (n + 1) * m) (pow-zero 256))
fold-below (x ∷ xs) n below =
    let ih = fold-below xs (n * 256 + x) (All-tail (λ d. d < 256) x xs below) in
    let low : x < 256 = All-head (λ d. d < 256) x xs below in
    let p : ℕ = 256 ^ length xs in
    let wide : (n * 256 + x + 1) * p ≤ ((n + 1) * 256) * p = mul-le (n * 256 + x + 1) p ((n + 1) * 256) p (omega arith) (omega arith) in
    let e : (n + 1) * 256 ^ suc (length xs) ≡ (n + 1) * (p * 256) = ap (λ m. (n + 1) * m) (pow-suc 256 (length xs)) in
    omega (arith, ih, wide, e)

pub number-below : (xs : List ℕ) → All (λ d. d < 256) xs → number 256 xs < 256 ^ length xs
unfolding number
number-below xs below = omega (arith, fold-below xs 0 below)

-- the zeros behind so many bytes
abbrev pub fill_of : ℕ → ℕ
fill_of n = 5 * group_count n - 8 * n

pub length-groups : (bytes : List ℕ) → length (groups bytes) ≡ group_count (length bytes)
unfolding groups
length-groups bytes = length-digits 32 (group_count (length bytes)) (number 256 bytes * 2 ^ fill_of (length bytes))

pub groups-below : (bytes : List ℕ) → All (λ d. d < 32) (groups bytes)
unfolding groups
groups-below bytes = digits-below 32 (group_count (length bytes)) (number 256 bytes * 2 ^ fill_of (length bytes)) (lit< tt)

pub number-groups : (bytes : List ℕ) → All (λ d. d < 256) bytes → number 32 (groups bytes) ≡ number 256 bytes * 2 ^ fill_of (length bytes)
unfolding groups
number-groups bytes below =
    let n : ℕ = length bytes in
    let f : ℕ = fill_of n in
    let c : ℕ = group_count n in
    let bits : 5 * c ≡ 8 * n + f = omega arith in
    let all : 32 ^ c ≡ 256 ^ n * 2 ^ f =
    groups-bits c ∙ ap (λ m. 2 ^ m) bits ∙ pow-add 2 (8 * n) f ∙ ap (λ m. m * 2 ^ f) (sym (bytes-bits n)) in
    let low : (number 256 bytes + 1) * 2 ^ f ≤ 256 ^ n * 2 ^ f =
    mul-le (number 256 bytes + 1) (2 ^ f) (256 ^ n) (2 ^ f) (omega (arith, number-below bytes below)) (omega arith) in
    number-digits 32 c (number 256 bytes * 2 ^ f) (lit< tt) (omega (arith, all, low, pow_pos f))

-- As many bits from two programs with zeros behind them are the same program.
pub same_program :
    (p q : List ℕ) (fill count value : ℕ) → All (λ d. d < 256) p → All (λ d. d < 256) q →
    fill < 5 → count < 8 → value < 2 ^ count → 8 * length p + fill ≡ 8 * length q + count →
    number 256 p * 2 ^ fill ≡ number 256 q * 2 ^ count + value →
    (value ≡ 0) × (count ≡ fill) × (p ≡ q)
same_program p q fill count value below_p below_q few some within bits same =
    let long : length p ≡ length q = omega arith in
    let f : fill ≡ count = omega arith in
    let e : number 256 p * 2 ^ count + 0 ≡ number 256 q * 2 ^ count + value =
    (let z : number 256 p * 2 ^ count + 0 ≡ number 256 p * 2 ^ count = omega arith in z)
    ∙ ap (λ n. number 256 p * 2 ^ n) (sym f) ∙ same in
    let both = same_from_place (number 256 p) 0 (number 256 q) value (2 ^ count) (pow_pos count) within e in
    (sym both.1, sym f, same_from_number 256 p q long below_p below_q both.0)

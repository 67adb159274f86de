-- Numbers of one byte and of sixteen have the laws that those of two, four and eight have.
use Rattle.std.proofs.Common.{◌≡◌, ℕ, zero, suc, ◌+◌, ◌*◌, ◌/◌, ◌%◌, ◌^◌, ◌<◌, List, [], ◌∷◌, length, refl, sym, ap, subst, ◌∙◌, arith}
use Rattle.std.specs.Int.{w8, w128, byte_at, bytes_low_first, from_le_bytes, to_le_bytes}
use Rattle.std.proofs.Math.Nat as nat
use Rattle.ox_bytes.proofs.Laws.{IsBytes, IsBytes-rest, IsWide}

-- so many bytes of a number, the low one first
abbrev low_bytes : ℕ → ℕ → List ℕ
low_bytes zero n = []
low_bytes (suc k) n = (n % 256) ∷ low_bytes k (n / 256)

-- the number of these bytes, the low one first
abbrev value : List ℕ → ℕ
value [] = 0
value (b ∷ bytes) = b + 256 * value bytes

value-low_bytes : (k n : ℕ) → n < 256 ^ k → value (low_bytes k n) ≡ n
value-low_bytes zero n lt = omega arith
value-low_bytes (suc k) n lt = omega (arith, value-low_bytes k (n / 256) (omega (arith, nat.pow-suc 256 k)))

low_bytes-value : (bytes : List ℕ) → IsBytes bytes → low_bytes (length bytes) (value bytes) ≡ bytes
low_bytes-value [] fits = refl
low_bytes-value (b ∷ bytes) fits =
    let small : b < 256 = fits 0 in
    let low : (b + 256 * value bytes) % 256 ≡ b = omega arith in
    let high : (b + 256 * value bytes) / 256 ≡ value bytes = omega arith in
    rw (low, high) (ap (λ (bs : List ℕ). b ∷ bs) (low_bytes-value bytes (IsBytes-rest b bytes fits)))

byte_is : (i n : ℕ) → byte_at i n ≡ n / 256 ^ i % 256
byte_is zero n = omega arith
byte_is (suc i) n = refl

low_first_are : (i k n : ℕ) → bytes_low_first i k n ≡ low_bytes k (n / 256 ^ i)
low_first_are i zero n = refl
low_first_are i (suc k) n =
    let next : n / 256 ^ suc i ≡ n / 256 ^ i / 256 = ap (λ p. n / p) (nat.pow-suc 256 i) ∙ sym (nat.div-div-eq-div-mul n (256 ^ i) 256) in
    λ j. byte_is i n j ∷ (low_first_are (suc i) k n ∙ ap (low_bytes k) next) j

value_16 : (bytes : List ℕ) → length bytes ≡ 16 → from_le_bytes w128 bytes ≡ value bytes
value_16 [] l = absurd (omega arith)
value_16 (b0 ∷ []) l = absurd (omega arith)
value_16 (b0 ∷ b1 ∷ []) l = absurd (omega arith)
value_16 (b0 ∷ b1 ∷ b2 ∷ []) l = absurd (omega arith)
value_16 (b0 ∷ b1 ∷ b2 ∷ b3 ∷ []) l = absurd (omega arith)
value_16 (b0 ∷ b1 ∷ b2 ∷ b3 ∷ b4 ∷ []) l = absurd (omega arith)
value_16 (b0 ∷ b1 ∷ b2 ∷ b3 ∷ b4 ∷ b5 ∷ []) l = absurd (omega arith)
value_16 (b0 ∷ b1 ∷ b2 ∷ b3 ∷ b4 ∷ b5 ∷ b6 ∷ []) l = absurd (omega arith)
value_16 (b0 ∷ b1 ∷ b2 ∷ b3 ∷ b4 ∷ b5 ∷ b6 ∷ b7 ∷ []) l = absurd (omega arith)
value_16 (b0 ∷ b1 ∷ b2 ∷ b3 ∷ b4 ∷ b5 ∷ b6 ∷ b7 ∷ b8 ∷ []) l = absurd (omega arith)
value_16 (b0 ∷ b1 ∷ b2 ∷ b3 ∷ b4 ∷ b5 ∷ b6 ∷ b7 ∷ b8 ∷ b9 ∷ []) l = absurd (omega arith)
value_16 (b0 ∷ b1 ∷ b2 ∷ b3 ∷ b4 ∷ b5 ∷ b6 ∷ b7 ∷ b8 ∷ b9 ∷ b10 ∷ []) l = absurd (omega arith)
value_16 (b0 ∷ b1 ∷ b2 ∷ b3 ∷ b4 ∷ b5 ∷ b6 ∷ b7 ∷ b8 ∷ b9 ∷ b10 ∷ b11 ∷ []) l = absurd (omega arith)
value_16 (b0 ∷ b1 ∷ b2 ∷ b3 ∷ b4 ∷ b5 ∷ b6 ∷ b7 ∷ b8 ∷ b9 ∷ b10 ∷ b11 ∷ b12 ∷ []) l = absurd (omega arith)
value_16 (b0 ∷ b1 ∷ b2 ∷ b3 ∷ b4 ∷ b5 ∷ b6 ∷ b7 ∷ b8 ∷ b9 ∷ b10 ∷ b11 ∷ b12 ∷ b13 ∷ []) l = absurd (omega arith)
value_16 (b0 ∷ b1 ∷ b2 ∷ b3 ∷ b4 ∷ b5 ∷ b6 ∷ b7 ∷ b8 ∷ b9 ∷ b10 ∷ b11 ∷ b12 ∷ b13 ∷ b14 ∷ []) l = absurd (omega arith)
value_16 (b0 ∷ b1 ∷ b2 ∷ b3 ∷ b4 ∷ b5 ∷ b6 ∷ b7 ∷ b8 ∷ b9 ∷ b10 ∷ b11 ∷ b12 ∷ b13 ∷ b14 ∷ b15 ∷ []) l = omega arith
value_16 (b0 ∷ b1 ∷ b2 ∷ b3 ∷ b4 ∷ b5 ∷ b6 ∷ b7 ∷ b8 ∷ b9 ∷ b10 ∷ b11 ∷ b12 ∷ b13 ∷ b14 ∷ b15 ∷ more ∷ bytes) l = absurd (omega arith)

low_bytes_are : (n : ℕ) → to_le_bytes w128 n ≡ low_bytes 16 n
low_bytes_are n = low_first_are 0 16 n ∙ ap (low_bytes 16) (omega arith)

pub wide128 : IsWide w128 (2 ^ 128)
wide128 = record {
  len = λ n. refl;
  back = λ bytes len fits.
      low_bytes_are (from_le_bytes w128 bytes) ∙ ap (low_bytes 16) (value_16 bytes len)
      ∙ subst (λ (k : ℕ). low_bytes k (value bytes) ≡ bytes) len (low_bytes-value bytes fits);
  again = λ n lt. value_16 (to_le_bytes w128 n) refl ∙ ap value (low_bytes_are n) ∙ value-low_bytes 16 n lt;
  below = λ bytes fits. omega (arith, fits 0, fits 1, fits 2, fits 3, fits 4, fits 5, fits 6, fits 7, fits 8, fits 9, fits 10, fits 11, fits 12, fits 13, fits 14, fits 15);
}

one_byte : (bytes : List ℕ) → length bytes ≡ 1 → IsBytes bytes → to_le_bytes w8 (from_le_bytes w8 bytes) ≡ bytes
one_byte [] l fits = absurd (omega arith)
one_byte (b ∷ []) l fits = let small : b < 256 = fits 0 in ap (λ (x : ℕ). x ∷ []) (omega arith)
one_byte (b ∷ c ∷ bytes) l fits = absurd (omega arith)

pub wide8 : IsWide w8 (2 ^ 8)
wide8 = record {
  len = λ n. refl;
  back = one_byte;
  again = λ n lt. omega arith;
  below = λ bytes fits. omega (arith, fits 0);
}

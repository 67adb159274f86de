-- Exclusive or.
use Rattle.std.proofs.Common.{◌≡◌, ℕ, ◌+◌, ◌*◌, ◌<◌, refl, ap, ◌∙◌, arith, bit_xor, lit<, add-zero}
use Rattle.std.proofs.lemmas.Nat.{xor_comm, xor_block}
use Rattle.std.proofs.lemmas.Nat.Bits.{bit_at_xor, bit_at-lt, bit_at-zero, same_from_bits}

pub xor_assoc : (a b c : ℕ) → bit_xor (bit_xor a b) c ≡ bit_xor a (bit_xor b c)
xor_assoc a b c =
    same_from_bits _ _ (λ i. omega (
      arith,
      bit_at_xor (bit_xor a b) c i,
      bit_at_xor a b i,
      bit_at_xor a (bit_xor b c) i,
      bit_at_xor b c i,
      bit_at-lt a i,
      bit_at-lt b i,
      bit_at-lt c i,
    ))

-- b again is a
pub xor_undo : (a b : ℕ) → bit_xor (bit_xor a b) b ≡ a
xor_undo a b =
    same_from_bits _ _ (λ i. omega (
      arith,
      bit_at_xor (bit_xor a b) b i,
      bit_at_xor a b i,
      bit_at-lt a i,
      bit_at-lt b i,
    ))

pub xor_zero : (a : ℕ) → bit_xor a 0 ≡ a
xor_zero a = same_from_bits _ _ (λ i. omega (arith, bit_at_xor a 0 i, bit_at-zero i, bit_at-lt a i))

-- five bits up
pub xor_times : (a b : ℕ) → bit_xor a b * 32 ≡ bit_xor (a * 32) (b * 32)
xor_times a b =
    let e : bit_xor (a * 32 + 0) (b * 32 + 0) ≡ bit_xor a b * 32 + bit_xor 0 0 = xor_block 5 a b 0 0 (lit< tt) (lit< tt) in
    let f : bit_xor (a * 32 + 0) (b * 32 + 0) ≡ bit_xor (a * 32) (b * 32) =
    ap (λ n. bit_xor n (b * 32 + 0)) (add-zero (a * 32)) ∙ ap (λ n. bit_xor (a * 32) n) (add-zero (b * 32)) in
    let z : bit_xor 0 0 ≡ 0 = refl in
    omega (arith, e, f, z)

-- a number above five bits, and these
pub xor_below : (n value : ℕ) → value < 32 → bit_xor (n * 32) value ≡ n * 32 + value
xor_below n value low =
    let e : bit_xor (n * 32 + 0) (0 * 32 + value) ≡ bit_xor n 0 * 32 + bit_xor 0 value = xor_block 5 n 0 0 value (lit< tt) low in
    let f : bit_xor (n * 32 + 0) (0 * 32 + value) ≡ bit_xor (n * 32) value =
    ap (λ m. bit_xor m (0 * 32 + value)) (add-zero (n * 32)) ∙ ap (λ m. bit_xor (n * 32) m) (let z : 0 * 32 + value ≡ value = omega arith in z) in
    let z : bit_xor 0 value ≡ value = xor_comm 0 value ∙ xor_zero value in
    omega (arith, e, f, z, xor_zero n)

-- The loop of `read`: what was read so far, in front of what the rest of the bytes gives.
use Rattle.std.proofs.Common.{◌≡◌, ℕ, zero, suc, ◌+◌, ◌-◌, ◌*◌, ◌%◌, ◌^◌, ◌<◌, ◌≤◌, List, [], ◌∷◌, length, get_or, drop, Result, Ok, Err, refl, sym, ap, subst, ◌∙◌, lit<, arith, inl, inr}
use Rattle.std.proofs.lemmas.Bool.{lt-ltb, le-ltb, le-leb, lt-leb, cases_eq}
use Rattle.std.proofs.lemmas.List.{drop_more, drop_all}
use Rattle.std.proofs.lemmas.Nat.{pow-add, shl_whole}
use Rattle.std.proofs.Math.Nat.{pow-le-pow_right}
use Rattle.ox_varint.specs.declared.VarintFault.{VarintFault}
use Rattle.ox_varint.specs.declared.VarintFault.TheVariants.{Truncated, Overflow}
use Rattle.ox_varint.specs.Varint.{with_byte, varint_within}

abbrev pub with_front : ℕ → ℕ → Result (ℕ × ℕ) VarintFault → Result (ℕ × ℕ) VarintFault
with_front value place (Ok x) = Ok (value + x.0 * 2 ^ (7 * place), place + x.1)
with_front value place (Err fault) = Err fault

pub scale_more : (place : ℕ) → 2 ^ (7 * (place + 1)) ≡ 128 * 2 ^ (7 * place)
scale_more place =
    let e : 7 * (place + 1) ≡ 7 * place + 7 = omega arith in
    ap (λ n. 2 ^ n) e ∙ pow-add 2 (7 * place) 7 ∙ omega arith

-- one byte more was read
with_front-behind : (value place b : ℕ) (r : Result (ℕ × ℕ) VarintFault) → 128 ≤ b → b < 256 → with_front value place (with_byte b r) ≡ with_front (value + b % 128 * 2 ^ (7 * place)) (place + 1) r
with_front-behind value place b (Err fault) low high = refl
with_front-behind value place b (Ok x) low high =
    let p : 2 ^ (7 * (place + 1)) ≡ 128 * 2 ^ (7 * place) = scale_more place in
    let m : b % 128 ≡ b - 128 = omega arith in
    let v : value + (b - 128 + 128 * x.0) * 2 ^ (7 * place) ≡ value + b % 128 * 2 ^ (7 * place) + x.0 * 2 ^ (7 * (place + 1)) = rw (p, m) (omega arith) in
    let k : place + (x.1 + 1) ≡ place + 1 + x.1 = omega arith in
    rw (v, k) refl

-- a byte that another follows
pub reads_on : (bytes : List ℕ) (value place b : ℕ) (target : Result (ℕ × ℕ) VarintFault) → place < 18 → place < length bytes → get_or bytes place 0 ≡ b → 128 ≤ b → b < 256 → with_front value place (varint_within (18 - place) (drop place bytes)) ≡ target → with_front (value + b % 128 * 2 ^ (7 * place)) (place + 1) (varint_within (18 - (place + 1)) (drop (place + 1) bytes)) ≡ target
reads_on bytes value place b target room within is low high before =
    let more : 18 - place ≡ suc (18 - (place + 1)) = omega arith in
    let rest : drop place bytes ≡ b ∷ drop (place + 1) bytes = drop_more bytes place 0 within ∙ ap (λ x. x ∷ drop (place + 1) bytes) is in
    let on : varint_within (suc (18 - (place + 1))) (b ∷ drop (place + 1) bytes) ≡ with_byte b (varint_within (18 - (place + 1)) (drop (place + 1) bytes)) = rw (le-ltb b 128 low) refl in
    let here : varint_within (18 - place) (drop place bytes) ≡ with_byte b (varint_within (18 - (place + 1)) (drop (place + 1) bytes)) = rw (more, rest) on in
    sym (with_front-behind value place b (varint_within (18 - (place + 1)) (drop (place + 1) bytes)) low high) ∙ ap (with_front value place) (sym here) ∙ before

-- the last byte, below the greatest length
ends : (bytes : List ℕ) (value place b : ℕ) (target : Result (ℕ × ℕ) VarintFault) → place < 18 → place < length bytes → get_or bytes place 0 ≡ b → b < 128 → with_front value place (varint_within (18 - place) (drop place bytes)) ≡ target → target ≡ Ok (value + b % 128 * 2 ^ (7 * place), place + 1)
ends bytes value place b target room within is low before =
    let more : 18 - place ≡ suc (18 - (place + 1)) = omega arith in
    let rest : drop place bytes ≡ b ∷ drop (place + 1) bytes = drop_more bytes place 0 within ∙ ap (λ x. x ∷ drop (place + 1) bytes) is in
    let on : varint_within (suc (18 - (place + 1))) (b ∷ drop (place + 1) bytes) ≡ Ok (b, 1) = rw (lt-ltb b 128 low) refl in
    let here : varint_within (18 - place) (drop place bytes) ≡ Ok (b, 1) = rw (more, rest) on in
    let m : b % 128 ≡ b = omega arith in
    rw m (sym before ∙ ap (with_front value place) here)

-- the nineteenth byte
ends_last : (bytes : List ℕ) (value b : ℕ) (target : Result (ℕ × ℕ) VarintFault) → 18 < length bytes → get_or bytes 18 0 ≡ b → b ≤ 3 → with_front value 18 (varint_within 0 (drop 18 bytes)) ≡ target → target ≡ Ok (value + b % 128 * 2 ^ (7 * 18), 19)
ends_last bytes value b target within is low before =
    let rest : drop 18 bytes ≡ b ∷ drop 19 bytes = drop_more bytes 18 0 within ∙ ap (λ x. x ∷ drop 19 bytes) is in
    let on : varint_within 0 (b ∷ drop 19 bytes) ≡ Ok (b, 1) = rw (le-leb b 3 low) refl in
    let m : b % 128 ≡ b = omega arith in
    rw m (sym before ∙ ap (with_front value 18) (ap (varint_within 0) rest ∙ on))

pub overflows : (bytes : List ℕ) (value b : ℕ) (target : Result (ℕ × ℕ) VarintFault) → 18 < length bytes → get_or bytes 18 0 ≡ b → 3 < b → with_front value 18 (varint_within 0 (drop 18 bytes)) ≡ target → target ≡ Err Overflow
overflows bytes value b target within is high before =
    let rest : drop 18 bytes ≡ b ∷ drop 19 bytes = drop_more bytes 18 0 within ∙ ap (λ x. x ∷ drop 19 bytes) is in
    let on : varint_within 0 (b ∷ drop 19 bytes) ≡ Err Overflow = rw (lt-leb b 3 high) refl in
    sym before ∙ ap (with_front value 18) (ap (varint_within 0) rest ∙ on)

varint_within-nil : (more : ℕ) → varint_within more [] ≡ Err Truncated
varint_within-nil zero = refl
varint_within-nil (suc more) = refl

pub is_cut : (bytes : List ℕ) (value place : ℕ) (target : Result (ℕ × ℕ) VarintFault) → length bytes ≤ place → with_front value place (varint_within (18 - place) (drop place bytes)) ≡ target → target ≡ Err Truncated
is_cut bytes value place target end before =
    let rest : drop place bytes ≡ [] = drop_all place bytes end in
    sym before ∙ ap (with_front value place) (ap (varint_within (18 - place)) rest ∙ varint_within-nil (18 - place))

-- what a byte adds: all of its bits, and of a nineteenth byte the low two
pub shifted : (b place : ℕ) → place ≤ 18 → (place ≡ 18 → b ≤ 3) → (b % 128 * 2 ^ (7 * place)) % 2 ^ 128 ≡ b % 128 * 2 ^ (7 * place)
shifted b place room last =
    elim (cases_eq place 18) [
      | inl at ↦ let low : b ≤ 3 = last at in rw at (shl_whole (b % 128) 2 126 128 (omega arith) (omega arith))
      | inr ne ↦ shl_whole (b % 128) 7 (7 * place) 128 (omega arith) (omega arith)
    ]

-- the number so far stays below its bits
pub below_more : (value b place : ℕ) → value < 2 ^ (7 * place) → value + b % 128 * 2 ^ (7 * place) < 2 ^ (7 * (place + 1))
below_more value b place lt =
    let p : 2 ^ (7 * (place + 1)) ≡ 128 * 2 ^ (7 * place) = scale_more place in
    let m : b % 128 ≤ 127 = omega arith in
    let k : b % 128 * 2 ^ (7 * place) ≤ 127 * 2 ^ (7 * place) = grind arith in
    rw p (omega arith)

pub below_all : (value b place : ℕ) → place ≤ 18 → (place ≡ 18 → b ≤ 3) → value < 2 ^ (7 * place) → value + b % 128 * 2 ^ (7 * place) < 2 ^ 128
below_all value b place room last lt =
    elim (cases_eq place 18) [
      | inl at ↦
          let low : b ≤ 3 = last at in
          let v : value < 2 ^ 126 = subst (λ (p : ℕ). value < 2 ^ (7 * p)) at lt in
          rw at (omega arith)
      | inr ne ↦
          let up : 2 ^ (7 * (place + 1)) ≤ 2 ^ 126 = pow-le-pow_right {n = 2} (omega arith) {i = 7 * (place + 1)} {j = 126} (omega arith) in
          let big : 2 ^ 126 < 2 ^ 128 = lit< tt in
          omega (arith, below_more value b place lt)
    ]

-- the last byte
pub ends_here : (bytes : List ℕ) (value place b : ℕ) (target : Result (ℕ × ℕ) VarintFault) → place ≤ 18 → (place ≡ 18 → b ≤ 3) → place < length bytes → get_or bytes place 0 ≡ b → b < 128 → with_front value place (varint_within (18 - place) (drop place bytes)) ≡ target → target ≡ Ok (value + b % 128 * 2 ^ (7 * place), place + 1)
ends_here bytes value place b target room last within is low before =
    elim (cases_eq place 18) [
      | inl at ↦
          let P : ℕ → Type 0 = λ (p : ℕ). target ≡ Ok (value + b % 128 * 2 ^ (7 * p), p + 1) in
          subst P (sym at) (ends_last bytes value b target (omega arith) (subst (λ (p : ℕ). get_or bytes p 0 ≡ b) at is) (last at) (subst (λ (p : ℕ). with_front value p (varint_within (18 - p) (drop p bytes)) ≡ target) at before))
      | inr ne ↦ ends bytes value place b target (omega arith) within is low before
    ]

pub reads_none : (bytes : List ℕ) (r : Result (ℕ × ℕ) VarintFault) → with_front 0 0 r ≡ r
reads_none bytes (Ok x) = let v : 0 + x.0 * 2 ^ (7 * 0) ≡ x.0 = omega arith in let k : 0 + x.1 ≡ x.1 = omega arith in rw (v, k) refl
reads_none bytes (Err fault) = refl

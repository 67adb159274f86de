-- Bits that come in one width and go in another.
use Rattle.std.proofs.Common.{◌≡◌, ℕ, ◌+◌, ◌-◌, ◌*◌, ◌^◌, ◌<◌, List, [], ◌∷◌, ◌++◌, length, All, refl, sym, ap, ◌∙◌, arith}
use Rattle.std.proofs.lemmas.List.{length_push}
use Rattle.std.proofs.lemmas.List.Elements.{All-push, All-nil}
use Rattle.std.proofs.lemmas.Nat.{pow-add}
use Rattle.ox_address.specs.Digits.{number, digits}
use Rattle.ox_address.specs.Address.{groups, group_count}
use Rattle.ox_address.specs.Passes.{Carries}
use Rattle.ox_address.proofs.DigitLaws.{number-push, number-nil, digits-number}

pub carries-none : (width : ℕ) → Carries width [] 0 0 0 0
carries-none width =
    record {
      number_is = let e : number (2 ^ width) [] ≡ 0 = number-nil (2 ^ width) in ap (λ n. n * 2 ^ 0 + 0) (sym e) ∙ refl;
      bits = omega arith;
      below = All-nil (λ d. d < 2 ^ width);
    }

-- some bits more
pub carries-with :
    (width : ℕ) (out : List ℕ) (whole total value count w digit value' count' : ℕ) →
    value' ≡ value * 2 ^ w + digit → count' ≡ count + w → Carries width out whole total value count →
    Carries width out (whole * 2 ^ w + digit) (total + w) value' count'
carries-with width out whole total value count w digit value' count' v c carries =
    let g : ℕ = number (2 ^ width) out in
    let e : g * 2 ^ count' ≡ g * (2 ^ count * 2 ^ w) = ap (λ k. g * 2 ^ k) c ∙ ap (λ t. g * t) (pow-add 2 count w) in
    let n : whole * 2 ^ w ≡ (g * 2 ^ count + value) * 2 ^ w = ap (λ m. m * 2 ^ w) carries.number_is in
    record {
      number_is = omega (arith, e, n, v);
      bits = omega (arith, carries.bits, c);
      below = carries.below;
    }

taken :
    (g next whole value d rest p base unit : ℕ) → next ≡ g * base + d → value ≡ d * p + rest → unit ≡ p * base →
    whole ≡ g * unit + value → whole ≡ next * p + rest
taken g next whole value d rest p base unit n v u w =
    let e : g * unit ≡ g * (p * base) = ap (λ t. g * t) u in
    let f : next * p ≡ (g * base + d) * p = ap (λ m. m * p) n in
    omega (arith, e, f, v, w)

-- one digit less
pub carries-take :
    (width : ℕ) (out : List ℕ) (whole total value count d rest k : ℕ) → k + width ≡ count →
    value ≡ d * 2 ^ k + rest → d < 2 ^ width → Carries width out whole total value count →
    Carries width (out ++ d ∷ []) whole total rest k
carries-take width out whole total value count d rest k some split low carries =
    record {
      number_is = taken (number (2 ^ width) out) (number (2 ^ width) (out ++ d ∷ [])) whole value d rest (2 ^ k) (2 ^ width) (2 ^ count)
          (number-push (2 ^ width) out d) split (ap (λ n. 2 ^ n) (sym some) ∙ pow-add 2 k width) carries.number_is;
      bits = omega (arith, carries.bits, some, ap (λ n. width * n) (length_push out d));
      below = All-push (λ d. d < 2 ^ width) out d carries.below low;
    }

-- Symbols that spell some bytes' number with fewer than five zeros behind it are the bytes' groups.
pub groups_are :
    (bytes out : List ℕ) (fill : ℕ) → fill < 5 → All (λ d. d < 32) out → 5 * length out ≡ 8 * length bytes + fill →
    number 32 out ≡ number 256 bytes * 2 ^ fill → out ≡ groups bytes
unfolding groups
groups_are bytes out fill few below bits same =
    let n : ℕ = length bytes in
    let m : length out ≡ group_count n = omega arith in
    let f : fill ≡ 5 * group_count n - 8 * n = omega arith in
    sym (digits-number 32 (length out) out refl below)
    ∙ ap (digits 32 (length out)) same
    ∙ ap (λ c. digits 32 c (number 256 bytes * 2 ^ fill)) m
    ∙ ap (λ z. digits 32 (group_count n) (number 256 bytes * 2 ^ z)) f

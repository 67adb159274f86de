use Rattle.std.proofs.Common.{◌≡◌, ◌+◌, ◌-◌, ◌*◌, ◌/◌, ◌%◌, ◌^◌, ◌<◌, ◌≤◌, ℕ, sym, ap, subst, ◌∙◌, arith, bit_and, lit<}
use Rattle.std.proofs.lemmas.Nat.{shr_below, and_mask, one_shl, shr_split}
use Rattle.std.proofs.Math.Nat.{pow-le-pow_right}
use Rattle.ox_address.proofs.bits.Bits.take_front.Goals as goal

-- the front of so many bits has that width
front-below : (value count width : ℕ) → value < 2 ^ count → width ≤ count → value / 2 ^ (count - width) < 2 ^ width
front-below value count width within some =
    let P : ℕ → Type 0 = λ n. value < 2 ^ n in
    shr_below value width (count - width) (subst P (let e : count ≡ width + (count - width) = omega arith in e) within)

pub overflow_cast-result : goal.overflow_cast-result
overflow_cast-result c =
    let low = front-below c.args.self.now.value c.args.self.now.count c.args.width c.requires.within c.requires.some in
    let wide : 2 ^ c.args.width ≤ 2 ^ 8 = pow-le-pow_right (lit< tt) c.requires.narrow in
    omega (arith, low, wide)

pub returns-clause-narrow : goal.returns-clause-narrow
returns-clause-narrow c = front-below c.args.self.now.value c.args.self.now.count c.args.width c.requires.within c.requires.some

pub returns-clause-split : goal.returns-clause-split
returns-clause-split c =
    let k : ℕ = c.args.self.now.count - c.args.width in
    let v : ℕ = c.args.self.now.value in
    let few : k < 32 = omega (arith, c.requires.few) in
    let low : bit_and v (1 * 2 ^ k % 2 ^ 32 - 1) ≡ v % 2 ^ k = ap (λ n. bit_and v (n - 1)) (one_shl k 32 few) ∙ and_mask v k in
    sym (shr_split v k) ∙ ap (λ r. v / 2 ^ k * 2 ^ k + r) (sym low)

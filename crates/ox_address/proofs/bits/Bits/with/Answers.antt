use Rattle.std.proofs.Common.{◌≡◌, ◌+◌, ◌*◌, ◌%◌, ◌^◌, ◌<◌, ℕ, arith}
use Rattle.std.proofs.lemmas.Nat.{shl_whole, mul-add-lt, pow-add}
use Rattle.ox_address.proofs.bits.Bits.with.Goals as goal

pub returns-clause-within : goal.returns-clause-within
returns-clause-within c =
    let v : ℕ = c.args.self.value in
    let w : ℕ = c.args.width in
    let n : ℕ = c.args.self.count in
    let whole : (v * 2 ^ w) % 2 ^ 32 ≡ v * 2 ^ w = shl_whole v n w 32 c.requires.within (omega (arith, c.requires.few)) in
    let low : v * 2 ^ w + c.args.digit < 2 ^ w * 2 ^ n = mul-add-lt v (2 ^ w) c.args.digit (2 ^ n) c.requires.within c.requires.fits in
    let e : 2 ^ (n + w) ≡ 2 ^ n * 2 ^ w = pow-add 2 n w in
    omega (arith, whole, low, e)

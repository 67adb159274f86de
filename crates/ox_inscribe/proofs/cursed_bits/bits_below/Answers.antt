use Rattle.std.proofs.Common.{◌≡◌, ◌∙◌, ◌*◌, ◌^◌, ◌%◌, ◌-◌, ap, arith, ℕ, bit_and}
use Rattle.std.proofs.Math.Nat.{mod-eq_of_lt}
use Rattle.std.proofs.Math.Pow.{pow-lt}
use Rattle.std.proofs.lemmas.Nat.{and_mask}
use Rattle.ox_inscribe.proofs.cursed_bits.bits_below.Goals as goal

pub returns : goal.returns
returns c =
    let n = c.args.place % 64 in
    let fits = pow-lt {i = n} {j = 64} (omega arith) in
    let one : 1 * 2 ^ n % 2 ^ 64 ≡ 2 ^ n = ap (λ (k : ℕ). k % 2 ^ 64) (omega arith) ∙ mod-eq_of_lt fits in
    ap (λ (k : ℕ). bit_and c.args.word (k - 1)) one ∙ and_mask c.args.word n

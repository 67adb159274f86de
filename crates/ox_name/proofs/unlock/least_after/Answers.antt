use Rattle.std.proofs.Common.{ℕ, ◌-◌, ◌*◌, ◌/◌, ◌%◌, ◌^◌, ◌<◌, ◌≤◌, lit<, arith}
use Rattle.std.proofs.lemmas.Nat.{mul-le, mod_below}
use Rattle.ox_name.specs.Name.{first_of}
use Rattle.ox_name.proofs.NamesAreOneToOne.{first_of-mono}
use Rattle.ox_name.proofs.unlock.least_after.Goals as goal

pub overflow_sub-result : goal.overflow_sub-result
overflow_sub-result c =
    let more : ℕ = 12 - c.args.passed / c.args.interval in
    rw (c.shortest-low.ensures, c.shortest-high.ensures) (first_of-mono (more - 1) more (omega arith))

pub overflow_mul-result : goal.overflow_mul-result
overflow_mul-result c =
    let more : ℕ = 12 - c.args.passed / c.args.interval in
    let up : first_of more ≤ 99246114928149462 = first_of-mono more 12 (omega arith) in
    let high : c.shortest-high.result ≤ 99246114928149462 = rw c.shortest-high.ensures up in
    let place : c.args.passed % c.args.interval < c.args.interval = mod_below c.args.passed c.args.interval (omega arith) in
    let both : (c.shortest-high.result - c.shortest-low.result) * (c.args.passed % c.args.interval) ≤ 99246114928149462 * 18446744073709551616 = mul-le (c.shortest-high.result - c.shortest-low.result) (c.args.passed % c.args.interval) 99246114928149462 18446744073709551616 (omega arith) (omega arith) in
    let room : 99246114928149462 * 18446744073709551616 < 2 ^ 128 = lit< tt in
    omega arith

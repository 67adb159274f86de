use Rattle.std.proofs.Common.{◌≡◌, ◌+◌, ◌<◌, ◌^◌, ◌∙◌, ℕ, List, length, ap, arith}
use Rattle.ox_range.proofs.RunLemmas.{length-numbers_from}
use Rattle.ox_sound.proofs.moved_sats.put_behind.Goals as goal

pub join-requires : goal.join-requires
join-requires c =
    let many : length c.in_ok-numbers.numbers ≡ c.args.run.now.count = ap (λ (ns : List ℕ). length ns) c.in_ok-numbers.ensures ∙ length-numbers_from c.args.run.now.first c.args.run.now.count in
    let long : c.len.result ≡ length c.args.list.now = c.len.ensures in
    let fits : c.len.result + c.args.run.now.count < 2 ^ 64 = c.in-Some.ensures.0 in
    omega (arith, many, long, fits)

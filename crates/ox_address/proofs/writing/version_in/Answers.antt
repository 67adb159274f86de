use Rattle.std.proofs.Common.{◌≤◌, inl, inr, arith, sym, get_or, ap}
use Rattle.ox_address.specs.Address.{version_of}
use Rattle.ox_address.proofs.Scripts.{segwit_from, version_of-above}
use Rattle.ox_address.proofs.writing.version_in.Goals as goal

pub returns-in-0-eq20 : goal.returns-in-0-eq20
returns-in-0-eq20 c = (
  segwit_from c.args.script.now c.in-len2-up.len_at_least (inl (c.in-0-eq20.is-0, c.in-0-eq20.is-1)) c.if-size-program.false (λ i. omega (arith, c.type_inv.script i)),
  sym (ap version_of c.in-0-eq20.is-0),
)

pub returns-in-81-to-96-2-to-40 : goal.returns-in-81-to-96-2-to-40
returns-in-81-to-96-2-to-40 c =
    let low : 81 ≤ get_or c.args.script.now 0 0 = omega arith in
    let high : get_or c.args.script.now 0 0 ≤ 96 = omega arith in
    let some : 2 ≤ get_or c.args.script.now 1 0 = omega arith in
    let few : get_or c.args.script.now 1 0 ≤ 40 = omega arith in (
      segwit_from c.args.script.now c.in-len2-up.len_at_least (inr ((low, high), (some, few))) c.if-size-program.false (λ i. omega (arith, c.type_inv.script i)),
      sym (version_of-above (get_or c.args.script.now 0 0) low),
    )

use Rattle.std.proofs.Common.{arith, sym, refl, ◌/◌}
use Rattle.std.specs.Fmt.{decimal}
use Rattle.ox_name.specs.Amount.{amount_text}
use Rattle.ox_name.proofs.Decimals.{ten_pos, unit_fits, whole_short, text_whole, begins, goes_on, some_left, ends}
use Rattle.ox_name.proofs.AmountValue.{says-front}
use Rattle.ox_name.proofs.amounts.write_amount.Goals as goal

pub pow-unit-requires : goal.pow-unit-requires
pow-unit-requires c = unit_fits c.args.divisibility (omega arith)

pub nonzero_rem-part : goal.nonzero_rem-part
nonzero_rem-part c = rw c.pow-unit.ensures (ten_pos c.args.divisibility)

pub nonzero_div-amount : goal.nonzero_div-amount
nonzero_div-amount c = rw c.pow-unit.ensures (ten_pos c.args.divisibility)

pub returns-then-part-eq0-clause-length : goal.returns-then-part-eq0-clause-length
returns-then-part-eq0-clause-length c = rw (text_whole c.args.amount c.args.divisibility c.pow-unit.result c.pow-unit.ensures c.if-part-eq0.true) c.write_whole-len.ensures.length

pub returns-then-part-eq0-clause-written : goal.returns-then-part-eq0-clause-written
returns-then-part-eq0-clause-written c = rw (text_whole c.args.amount c.args.divisibility c.pow-unit.result c.pow-unit.ensures c.if-part-eq0.true) c.write_whole-len.ensures.written

pub bounds-into-len : goal.bounds-into-len
bounds-into-len c =
    let u = c.pow-unit.ensures in
    let l = rw u at c.write_whole-len.ensures.length in
    omega (arith, l, whole_short c.args.amount c.args.divisibility (omega arith) (omega arith))

pub loop-part-init : goal.loop-part-init
loop-part-init c = begins c.args.amount c.args.divisibility c.pow-unit.result c.write_whole-len.result c.write_whole-len.new.into c.args.into.now (omega arith) (omega arith) c.pow-unit.ensures (omega arith) c.write_whole-len.ensures.length c.write_whole-len.ensures.written c.write_whole-len.array_long

pub loop-part-smaller : goal.loop-part-smaller
loop-part-smaller c =
    let s = some_left (amount_text c.args.amount c.args.divisibility) c.loop-part.into c.args.into.now c.loop-part.unit c.loop-part.part c.loop-part.len c.loop-part.invariant (omega arith) in
    omega (arith, s.2, ten_pos s.0)

pub loop-part-preserved : goal.loop-part-preserved
loop-part-preserved c = goes_on (amount_text c.args.amount c.args.divisibility) c.loop-part.into c.args.into.now c.loop-part.unit c.loop-part.part c.loop-part.len c.loop-part.invariant (omega arith)

pub returns-then-part-eq0-clause-says : goal.returns-then-part-eq0-clause-says
returns-then-part-eq0-clause-says c =
    let text = text_whole c.args.amount c.args.divisibility c.pow-unit.result c.pow-unit.ensures c.if-part-eq0.true in
    says-front c.args.amount c.args.divisibility c.write_whole-len.result c.write_whole-len.new.into c.args.into.now (decimal (c.args.amount / c.pow-unit.result)) (omega arith) (sym text) c.write_whole-len.ensures.length c.write_whole-len.ensures.written

pub returns-clause-says : goal.returns-clause-says
returns-clause-says c =
    let end = ends (amount_text c.args.amount c.args.divisibility) c.loop-part.into c.args.into.now c.loop-part.unit c.loop-part.part c.loop-part.len c.loop-part.invariant c.loop-part-test.false in
    says-front c.args.amount c.args.divisibility c.loop-part.len c.loop-part.into c.args.into.now (amount_text c.args.amount c.args.divisibility) (omega arith) refl end.1 end.0

use Rattle.std.proofs.Common.{IsTrue}
use Rattle.ox_sat.specs.Spellings.{IsPlain}
use Rattle.ox_sat.proofs.Numbers.{plain_decimal, number_reads, number_small, number_none}
use Rattle.ox_sat.proofs.spellings.read_number.Goals as goal

pub returns-then-not-begins_plainly-clause-none : goal.returns-then-not-begins_plainly-clause-none
returns-then-not-begins_plainly-clause-none c = λ n small same.
    let plain : IsPlain c.as_bytes.result.now = rw (c.as_bytes.ensures.value, same) (plain_decimal n small) in
    let begins : IsTrue c.begins_plainly.result = c.begins_plainly.ensures.1 plain in
    absurd (cc (c.if-not-begins_plainly.true))

pub returns-clause-reads : goal.returns-clause-reads
returns-clause-reads c = number_reads c.args.text.now c.parse.result c.ok.result (rw (← c.as_bytes.ensures.value) (c.begins_plainly.ensures.0 c.if-not-begins_plainly.false)) c.parse.ensures.value.0 c.ok.ensures.value

pub returns-clause-small : goal.returns-clause-small
returns-clause-small c = number_small c.args.text.now c.parse.result c.ok.result (rw (← c.as_bytes.ensures.value) (c.begins_plainly.ensures.0 c.if-not-begins_plainly.false)) c.parse.ensures.value.0 c.ok.ensures.value

pub returns-clause-none : goal.returns-clause-none
returns-clause-none c = number_none c.args.text.now c.parse.result c.ok.result c.parse.ensures.value.0 c.ok.ensures.value

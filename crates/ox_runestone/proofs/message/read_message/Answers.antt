use Rattle.std.proofs.lemmas.List.Elements.{All-from_get_or}
use Rattle.std.proofs.Common.{◌<◌, ◌^◌, ◌∙◌, arith}
use Rattle.std.proofs.lemmas.List.{take_rest}
use Rattle.ox_runestone.proofs.MessageLoops.{passed_none, passed_more, ends_at_body, ends_at_end}
use Rattle.ox_runestone.proofs.message.read_message.Goals as goal

pub loop-rest-init : goal.loop-rest-init
loop-rest-init c = passed_none c.args.integers.now c.args.fields.now c.requires

pub loop-rest-preserved : goal.loop-rest-preserved
loop-rest-preserved c = rw c.add.ensures (passed_more c.args.integers.now c.loop-rest.rest.now _ c.loop-rest.fields c.loop-rest.invariant (omega arith) (omega arith) (take_rest c.loop-rest.rest.now 2))

pub returns-then-tag-eq0-clause-fields : goal.returns-then-tag-eq0-clause-fields
returns-then-tag-eq0-clause-fields c = (ends_at_body c.args.integers.now c.loop-rest.rest.now c.loop-rest.fields c.loop-rest.invariant (omega arith) (omega arith)).fields-are

pub returns-then-tag-eq0-clause-lone : goal.returns-then-tag-eq0-clause-lone
returns-then-tag-eq0-clause-lone c = (ends_at_body c.args.integers.now c.loop-rest.rest.now c.loop-rest.fields c.loop-rest.invariant (omega arith) (omega arith)).lone-is

pub returns-then-tag-eq0-clause-body : goal.returns-then-tag-eq0-clause-body
returns-then-tag-eq0-clause-body c = c.split_at.ensures.back ∙ (ends_at_body c.args.integers.now c.loop-rest.rest.now c.loop-rest.fields c.loop-rest.invariant (omega arith) (omega arith)).body-is

pub returns-clause-fields : goal.returns-clause-fields
returns-clause-fields c = (ends_at_end c.args.integers.now c.loop-rest.rest.now c.loop-rest.fields c.loop-rest.invariant (omega arith)).fields-are

pub returns-clause-lone : goal.returns-clause-lone
returns-clause-lone c = c.is_tag.ensures ∙ (ends_at_end c.args.integers.now c.loop-rest.rest.now c.loop-rest.fields c.loop-rest.invariant (omega arith)).lone-is

pub returns-clause-body : goal.returns-clause-body
returns-clause-body c = (ends_at_end c.args.integers.now c.loop-rest.rest.now c.loop-rest.fields c.loop-rest.invariant (omega arith)).body-is

pub returns-then-tag-eq0-clause-small : goal.returns-then-tag-eq0-clause-small
returns-then-tag-eq0-clause-small c = All-from_get_or (λ n. n < 2 ^ 128) c.args.integers.now 0 (λ i lt. omega (arith, c.type_inv.integers i))

pub returns-clause-small : goal.returns-clause-small
returns-clause-small c = All-from_get_or (λ n. n < 2 ^ 128) c.args.integers.now 0 (λ i lt. omega (arith, c.type_inv.integers i))

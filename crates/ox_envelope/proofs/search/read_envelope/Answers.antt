use Rattle.std.proofs.Common.{length, sym, ap, ◌∙◌, arith}
use Rattle.ox_script.specs.Script.{instruction_of}
use Rattle.ox_envelope.specs.Opening.{envelopes_within}
use Rattle.ox_envelope.proofs.SearchLemmas.{bytes_step, number_step, end_step, void_step, envelopes_within-nil, envelopes_among-nil}
use Rattle.ox_envelope.specs.Envelope.{envelopes_among}
use Rattle.ox_envelope.proofs.search.read_envelope.Goals as goal

pub loop-item-preserved-in-Continue-1 : goal.loop-item-preserved-in-Continue-1
loop-item-preserved-in-Continue-1 c =
    let loop = c.loop-item in
    let pushed = c.in_ok-push-in-Push.ensures in
    record {
      all = bytes_step loop.envelope c.push.new.self (instruction_of c.in-Some.item) c.in-Push.bytes.now loop.items.left c.next.new.self.left _ loop.invariant.all c.in-Some.ensures.steps.0 (ap instruction_of c.in-Push.is) pushed.pushes pushed.number;
      fewer = omega (arith, ap length c.in-Some.ensures.steps.0, loop.invariant.fewer);
      ends = c.in-Some.ensures.steps.1 ∙ loop.invariant.ends;
    }

pub loop-item-preserved : goal.loop-item-preserved
loop-item-preserved c =
    let loop = c.loop-item in
    let pushed = c.in_ok-push_number-in-Some-number_pushed.ensures in
    record {
      all = number_step loop.envelope c.push_number.new.self (instruction_of c.in-Some.item) c.in-Op.op c.in-Some-number_pushed.byte.now loop.items.left c.next.new.self.left _ loop.invariant.all c.in-Some.ensures.steps.0 (ap instruction_of c.in-Op.is) c.in-Some-number_pushed.ensures pushed.pushes pushed.number;
      fewer = omega (arith, ap length c.in-Some.ensures.steps.0, loop.invariant.fewer);
      ends = c.in-Some.ensures.steps.1 ∙ loop.invariant.ends;
    }

pub returns-in-None-clause-found : goal.returns-in-None-clause-found
returns-in-None-clause-found c =
    let loop = c.loop-item in
    end_step loop.envelope (instruction_of c.in-Some.item) c.in-Op.op loop.items.left c.next.new.self.left _ loop.invariant.all c.in-Some.ensures.steps.0 (ap instruction_of c.in-Op.is) c.if-op-eq-OP_ENDIF.true

pub returns-in-None-2-clause-found : goal.returns-in-None-2-clause-found
returns-in-None-2-clause-found c =
    let loop = c.loop-item in
    void_step loop.envelope (instruction_of c.in-Some.item) c.in-Op.op loop.items.left c.next.new.self.left _ loop.invariant.all c.in-Some.ensures.steps.0 (ap instruction_of c.in-Op.is) c.in-None-2.ensures c.if-op-eq-OP_ENDIF.false

pub returns-clause-found : goal.returns-clause-found
returns-clause-found c =
    let loop = c.loop-item in
    let none = ap envelopes_among c.in_default.ensures.steps.1 ∙ envelopes_among-nil in
    sym loop.invariant.all ∙ ap (envelopes_within loop.envelope) c.in_default.ensures.steps.0 ∙ envelopes_within-nil loop.envelope ∙ sym none

use Rattle.std.proofs.Common.{◌++◌, length, sym, ap, ◌∙◌, arith}
use Rattle.ox_script.specs.Script.{instruction_of}
use Rattle.ox_envelope.specs.Envelope.{envelopes_among}
use Rattle.ox_envelope.proofs.SearchLemmas.{read_so_far}
use Rattle.ox_envelope.proofs.SearchLemmas.{read_step, read_all, envelopes_among-opening}
use Rattle.ox_envelope.proofs.search.find_opening.Goals as goal

pub returns-in-Whole-clause-found : goal.returns-in-Whole-clause-found
returns-in-Whole-clause-found c =
    let loop = c.loop-item in
    let step = read_step loop.opened _ (instruction_of c.in-Some.item) loop.items.left c.next.new.self.left _ loop.invariant.all c.in-Some.ensures.steps.0 loop.invariant.part c.in-Whole.ensures in
    sym step ∙ envelopes_among-opening c.next.new.self.left

pub loop-item-preserved : goal.loop-item-preserved
loop-item-preserved c =
    let loop = c.loop-item in
    record {
      all = read_step loop.opened _ (instruction_of c.in-Some.item) loop.items.left c.next.new.self.left _ loop.invariant.all c.in-Some.ensures.steps.0 loop.invariant.part c.next_opened-opened.ensures;
      part = c.in_default-opened.not-Whole;
      fewer = omega (arith, ap length c.in-Some.ensures.steps.0, loop.invariant.fewer);
      ends = c.in-Some.ensures.steps.1 ∙ loop.invariant.ends;
    }

pub returns-clause-none : goal.returns-clause-none
returns-clause-none c =
    let loop = c.loop-item in
    sym loop.invariant.all ∙ ap (λ left. envelopes_among (read_so_far loop.opened ++ left)) c.in_default.ensures.steps.0 ∙ read_all loop.opened loop.invariant.part

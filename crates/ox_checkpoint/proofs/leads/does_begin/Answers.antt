use Rattle.std.proofs.Common.{◌∙◌, sym}
use Rattle.ox_plain.specs.Plain.{index_in}
use Rattle.ox_checkpoint.proofs.StepLemmas.{back_again, ends_after}
use Rattle.ox_checkpoint.proofs.leads.does_begin.Goals as goal

pub returns : goal.returns
returns c =
    let index = index_in c.args.index.now in
    let mid = index_in c.step.new.self in
    let begin = sym c.in_ok-step.ensures.told ∙ c.if-not-branch.false in
    let is = rw c.if-not-branch.false at c.in_ok-step.ensures.leads in
    let end = ends_after index mid c.args.change.now begin is in record {
      told = sym begin;
      stays = back_again index mid (index_in c.step-2.new.self) c.args.change.now begin is (rw (c.in_ok-step-2.ensures.told ∙ end) at c.in_ok-step-2.ensures.leads);
    }

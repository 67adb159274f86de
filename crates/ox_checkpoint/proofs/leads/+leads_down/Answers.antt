use Rattle.std.proofs.Common.{◌≡◌, ◌∙◌, Bool, subst, sym}
use Rattle.std.specs.Bool.{OnTrue}
use Rattle.std.specs.Prelude.{IfOk}
use Rattle.std.proofs.lemmas.Bool.{OnTrue_from}
use Rattle.std.proofs.lemmas.Result.{IfOk-weaker}
use Rattle.ox_plain.specs.Plain.{index_in}
use Rattle.ox_checkpoint.proofs.StepLemmas.{Again, begins_again, here_again, newest_tells, sound_again}
use Rattle.ox_checkpoint.proofs.leads.+leads_down.Goals as goal

again : (t : _) (c : goal.After-goes_on-arg-1 t)
    → Again c.args.p.now (index_in c.args.index.now) (index_in c.step.new.self) (index_in c.leads_down.new.index) c.in-Some.older.now c.in-Some.change.now
again t c = record {
  end = sym c.in_ok-step.ensures.told ∙ c.if-not-branch.false;
  back = rw c.if-not-branch.false at c.in_ok-step.ensures.leads;
  lead = sym c.in_ok-leads_down.ensures.told ∙ c.if-not-branch-2.false;
  same = rw c.if-not-branch-2.false at c.in_ok-leads_down.ensures.stays;
}

pub goes_on-requires : goal.goes_on-requires
goes_on-requires t c = record {
  profile = c.requires;
  sound = sound_again (again t c);
  begins = begins_again (again t c);
}

pub returns : goal.returns
returns t c =
    let a = again t c.before in
    let here = index_in c.args.index.now in
    let new = index_in c.goes_on.new.index in
    let lead = c.goes_on.result in record {
      told = subst (λ (b : Bool). IfOk lead (λ is. is ≡ b)) (newest_tells a c.args.changes.now c.in-Some.ensures.cases.0) c.goes_on.ensures.told;
      stays = IfOk-weaker lead (λ is. _) (λ is. OnTrue is (new ≡ here)) (λ is led. OnTrue_from is (new ≡ here) (λ _. led ∙ here_again a)) c.goes_on.ensures.leads;
    }

use Rattle.std.proofs.Common.{◌∙◌, List, ap, sym, take}
use Rattle.ox_model.specs.declared.change.Change.{Change}
use Rattle.ox_plain.specs.Plain.{index_in}
use Rattle.ox_checkpoint.proofs.StackLemmas.{NotOn, PutOn, accepted_on, refused_on, stands_off, stands_on}
use Rattle.ox_checkpoint.proofs.standing.Standing.put_on.Goals as goal

off : (c : goal.Then-not-branch)
    → NotOn c.self.inside.profile (index_in c.self.inside.index) (index_in c.leads_on.new.index) c.args.change
off c = record {
  fails = sym c.if-not-branch.true ∙ c.in_ok-leads_on.ensures.told;
  same = rw c.if-not-branch.true at c.in_ok-leads_on.ensures.stays;
}

pub invariant_of-result : goal.invariant_of-result
invariant_of-result c = let s = c.self.inside in stands_off (off c) s.depth s.changes.items c.self.invariant

pub returns-then-not-branch : goal.returns-then-not-branch
returns-then-not-branch c = let s = c.self.inside in refused_on (off c.before) s.depth s.changes.items c.args.self c.self.view_is

put : (c : goal.After-truncate)
    → PutOn c.self.inside.profile c.self.inside.depth (index_in c.self.inside.index) (index_in c.leads_on.new.index) c.args.change c.self.inside.changes.items c.truncate.new.self.items
put c = record {
  lead = sym c.if-not-branch.false ∙ c.in_ok-leads_on.ensures.told;
  is = rw c.if-not-branch.false at c.in_ok-leads_on.ensures.leads;
  items = c.truncate.ensures.items ∙ ap (λ (l : List Change). take c.self.inside.depth l) c.in_ok-push_front.ensures.items;
}

pub invariant_of-result-2 : goal.invariant_of-result-2
invariant_of-result-2 c = stands_on (put c) c.self.invariant

pub returns : goal.returns
returns c = accepted_on (put c) c.args.self c.self.view_is

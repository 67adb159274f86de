use Rattle.std.proofs.Common.{◌∙◌, sym}
use Rattle.ox_plain.specs.Plain.{index_in}
use Rattle.ox_checkpoint.proofs.StackLemmas.{TakenBack, accepted_back, does_end, no_items, refused_back, stands_back, stands_still}
use Rattle.ox_checkpoint.proofs.standing.Standing.back.Goals as goal

pub invariant_of-result : goal.invariant_of-result
invariant_of-result c =
    let s = c.self.inside in stands_still s.profile s.depth (index_in s.index) s.changes.items c.pop_front.new.self.items c.in_default.ensures.items c.self.invariant

pub returns-in_default : goal.returns-in_default
returns-in_default c =
    let s = c.self.inside in refused_back s.profile s.depth (index_in s.index) s.changes.items c.pop_front.new.self.items c.in_default.ensures.items c.args.self c.self.view_is (no_items s.changes.items (sym s.changes.ok.0 ∙ c.in_default.ensures.cases.0))

back : (c : goal.In_ok-step) → TakenBack (index_in c.self.inside.index) (index_in c.step.new.self) c.self.inside.changes.items c.pop_front.new.self.items c.in-Some.change
back c =
    let s = c.self.inside in
    let end = does_end s.profile (index_in s.index) s.changes.items c.pop_front.new.self.items c.in-Some.change c.self.invariant.end c.in-Some.ensures.items in record {
      items = c.in-Some.ensures.items;
      is = rw (c.in_ok-step.ensures.told ∙ end) at c.in_ok-step.ensures.leads;
    }

pub invariant_of-result-2 : goal.invariant_of-result-2
invariant_of-result-2 c = let s = c.self.inside in stands_back (back c) s.profile s.depth c.self.invariant

pub returns : goal.returns
returns c = let s = c.self.inside in accepted_back (back c.before) s.profile s.depth c.args.self c.self.view_is

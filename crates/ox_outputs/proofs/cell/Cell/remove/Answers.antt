use Rattle.std.proofs.Common.{◌∙◌, ◌^◌, sym, subst}
use Rattle.ox_outputs.proofs.CellLemmas.{seen_removed, still_rising, nothing_removed}
use Rattle.ox_outputs.proofs.OffsetLemmas.{AreBelow, below_removed}
use Rattle.ox_outputs.proofs.cell.Cell.remove.Goals as goal

pub invariant_of-self : goal.invariant_of-self
invariant_of-self c =
    let s = c.self.inside.starts.items in
    let is = c.give_back.ensures ∙ c.remove-start.ensures.items in (
      still_rising c.args.self.now c.self.inside.starts.items c.self.view_is c.self.invariant.0 c.args.offset c.in-Ok.at c.in-Ok.ensures.found c.give_back.new.starts.items is,
      subst (AreBelow (2 ^ 32)) (sym is) (below_removed s c.in-Ok.at (2 ^ 32) c.self.invariant.1),
    )

pub returns-in-Ok : goal.returns-in-Ok
returns-in-Ok c = seen_removed c.args.self.now c.self.inside.starts.items c.self.view_is c.self.invariant.0 c.args.offset c.in-Ok.at c.in-Ok.ensures.found c.give_back.new.starts.items (c.give_back.ensures ∙ c.remove-start.ensures.items)

pub returns-in-Err : goal.returns-in-Err
returns-in-Err c = nothing_removed c.args.self.now c.args.offset _ c.in-Err.ensures.absent

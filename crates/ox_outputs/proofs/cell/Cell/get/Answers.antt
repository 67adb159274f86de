use Rattle.std.proofs.Common.{◌∙◌, ℕ, Option, Some, sym, ap}
use Rattle.ox_outputs.proofs.CellLemmas.{seen_found, none_in_gap}
use Rattle.ox_outputs.proofs.cell.Cell.get.Goals as goal

pub returns-in-Ok : goal.returns-in-Ok
returns-in-Ok c = ap (λ (x : Option ℕ). Some x) c.slot.ensures.is ∙ sym (seen_found c.args.self.now c.self.inside.starts.items c.self.view_is c.self.invariant.0 c.args.offset c.in-Ok.at c.in-Ok.ensures.found c.index.result.now c.index.ensures)

pub returns-in-Err : goal.returns-in-Err
returns-in-Err c = sym (none_in_gap _ _ _ c.in-Err.ensures.absent)

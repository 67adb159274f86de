use Rattle.std.proofs.Common.{◌∙◌, ◌^◌, ℕ, Option, Some, set, sym, ap, subst}
use Rattle.std.specs.List.{insert}
use Rattle.ox_outputs.specs.Cells.{start_at, SetsAt}
use Rattle.ox_outputs.proofs.CellLemmas.{seen_found, seen_set, seen_inserted, then_rising, gap_empty, none_in_gap}
use Rattle.ox_outputs.proofs.OffsetLemmas.{AreBelow, below_inserted}
use Rattle.ox_outputs.proofs.cell.Cell.put.Goals as goal

pub returns-in_err-grow-in-Err-clause-kept : goal.returns-in_err-grow-in-Err-clause-kept
returns-in_err-grow-in-Err-clause-kept c = λ some. absurd (gap_empty _ _ _ c.in-Err.ensures.absent some)

pub invariant_of-self-in-Err : goal.invariant_of-self-in-Err
invariant_of-self-in-Err c =
    let g = c.grow.new.starts.items in
    let is = c.in_ok-insert-in-Err.ensures.items ∙ ap (λ (x : ℕ × Option ℕ). insert g c.in-Err.at x) c.new-in-Err.ensures in (
      then_rising c.args.self.now c.self.inside.starts.items c.self.view_is c.self.invariant.0 c.args.offset c.in-Err.at c.in-Err.ensures.absent c.grow.new.starts.items c.insert.new.self.items c.grow.ensures c.args.slot is,
      subst (AreBelow (2 ^ 32)) (sym is) (below_inserted g c.in-Err.at c.args.offset (2 ^ 32) c.args.slot c.ranges.offset.fits (subst (AreBelow (2 ^ 32)) (sym c.grow.ensures) c.self.invariant.1)),
    )

pub returns-in-Ok-clause-ok : goal.returns-in-Ok-clause-ok
returns-in-Ok-clause-ok c =
    subst (λ (x : ℕ × Option ℕ). SetsAt (start_at c.args.self.now) (start_at (set c.self.inside.starts.items c.in-Ok.at x)) c.args.offset (Some c.args.slot)) (sym c.new.ensures)
    (seen_set c.args.self.now c.self.inside.starts.items c.self.view_is c.self.invariant.0 c.args.offset c.in-Ok.at c.in-Ok.ensures.found c.args.slot)

pub returns-in-Ok-clause-stood : goal.returns-in-Ok-clause-stood
returns-in-Ok-clause-stood c = ap (λ (slot : Option ℕ). Some slot) c.slot-stood.ensures.is ∙ sym (seen_found c.args.self.now c.self.inside.starts.items c.self.view_is c.self.invariant.0 c.args.offset c.in-Ok.at c.in-Ok.ensures.found c.index.result.now c.index.ensures)

pub returns-in_ok-insert-in-Err-clause-ok : goal.returns-in_ok-insert-in-Err-clause-ok
returns-in_ok-insert-in-Err-clause-ok c = seen_inserted c.args.self.now c.self.inside.starts.items c.self.view_is c.self.invariant.0 c.args.offset c.in-Err.at c.in-Err.ensures.absent c.grow.new.starts.items c.insert.new.self.items c.grow.ensures c.args.slot
    (c.in_ok-insert-in-Err.ensures.items ∙ ap (λ (x : ℕ × Option ℕ). insert c.grow.new.starts.items c.in-Err.at x) c.new-in-Err.ensures)

pub returns-in_ok-insert-in-Err-clause-stood : goal.returns-in_ok-insert-in-Err-clause-stood
returns-in_ok-insert-in-Err-clause-stood c = sym (none_in_gap _ _ _ c.in-Err.ensures.absent)

pub returns-in_err-insert-in-Err-clause-kept : goal.returns-in_err-insert-in-Err-clause-kept
returns-in_err-insert-in-Err-clause-kept c = λ some. absurd (gap_empty _ _ _ c.in-Err.ensures.absent some)

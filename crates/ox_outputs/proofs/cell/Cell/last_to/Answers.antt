use Rattle.std.proofs.Common.{◌≡◌, ℕ, ◌+◌, Option, sym, subst, arith}
use Rattle.ox_outputs.specs.Cells.{start_at, IsLastTo}
use Rattle.ox_outputs.proofs.CellLemmas.{seen_here, seen_below, none_below}
use Rattle.ox_outputs.proofs.cell.Cell.last_to.Goals as goal

pub returns-in-Ok-clause-some : goal.returns-in-Ok-clause-some
returns-in-Ok-clause-some c =
    subst (λ (slot : Option ℕ). IsLastTo (start_at c.args.self.now) c.args.offset (c.args.offset, slot)) (sym c.slot.ensures.is)
    (seen_here c.args.self.now c.self.inside.starts.items c.self.view_is c.self.invariant.0 c.args.offset c.in-Ok.at c.in-Ok.ensures.found c.index.result.now c.index.ensures)

pub returns-in-Some-clause-some : goal.returns-in-Some-clause-some
returns-in-Some-clause-some c =
    let next : c.in-Some.last + 1 ≡ c.in-Err.at = omega (arith, c.in-Some.ensures) in
    let start : ℕ × Option ℕ = c.index-in-Some.result.now in
    let parts : ◌≡◌ {A = ℕ × Option ℕ} (c.offset.result, c.slot-in-Some.result) start = λ i. (c.offset.ensures i, c.slot-in-Some.ensures.is i) in
    subst (λ (s : ℕ × Option ℕ). IsLastTo (start_at c.args.self.now) c.args.offset s) (sym parts)
    (seen_below c.args.self.now c.self.inside.starts.items c.self.view_is c.self.invariant.0 c.args.offset c.in-Err.at c.in-Err.ensures.absent c.in-Some.last start next c.index-in-Some.ensures)

pub returns-in-None-clause-none : goal.returns-in-None-clause-none
returns-in-None-clause-none c =
    let least : c.in-Err.at ≡ 0 = omega (arith, c.in-None.ensures) in
    none_below c.args.self.now c.args.offset c.in-Err.at c.in-Err.ensures.absent least

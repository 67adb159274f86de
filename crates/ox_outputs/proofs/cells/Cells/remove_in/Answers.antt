use Rattle.std.proofs.Common.{◌-◌, refl, subst, None}
use Rattle.std.specs.Prelude.{IsSome}
use Rattle.ox_outputs.proofs.CellsLemmas.{back_from, cell_put, cell_put_home}
use Rattle.ox_outputs.proofs.cells.Cells.remove_in.Goals as goal

pub invariant_of-self : goal.invariant_of-self
invariant_of-self c =
    let there = subst IsSome c.in-Some.ensures.value refl in
    let changed = (c.get_mut.follows.holds c.remove.new.self).3 there in
    cell_put_home c.self.inside.cells.entries c.args.self.now (c.get_mut.follows.lender c.remove.new.self).entries c.args.from (c.args.first - c.args.from) c.args.first c.in-Some.cell.now c.remove.new.self None c.self.view_is c.self.invariant.0 c.in-Some.ensures.value c.requires.home (back_from c.args.from c.args.first c.requires.home.low) changed.0 c.remove.ensures c.ranges.first.fits c.self.invariant.1

pub returns-clause-set : goal.returns-clause-set
returns-clause-set c =
    let there = subst IsSome c.in-Some.ensures.value refl in
    let changed = (c.get_mut.follows.holds c.remove.new.self).3 there in
    cell_put c.self.inside.cells.entries c.args.self.now (c.get_mut.follows.lender c.remove.new.self).entries c.args.from (c.args.first - c.args.from) c.args.first c.in-Some.cell.now c.remove.new.self None c.self.view_is c.self.invariant.0 c.in-Some.ensures.value c.requires.home (back_from c.args.from c.args.first c.requires.home.low) changed.0 c.remove.ensures

use Rattle.std.proofs.Common.{◌∙◌, ◌-◌, refl, sym, subst, Some}
use Rattle.std.specs.Prelude.{IsSome}
use Rattle.ox_outputs.proofs.CellsLemmas.{on_ok, if_ok, back_from, set_either, cell_put, cell_put_home, cell_start}
use Rattle.ox_outputs.proofs.cells.Cells.put_in.Goals as goal

pub invariant_of-self : goal.invariant_of-self
invariant_of-self c =
    let there = subst IsSome c.in-Some.ensures.value refl in
    let changed = (c.get_mut.follows.holds c.put.new.self).3 there in
    let set = set_either c.put.result c.in-Some.cell.now c.put.new.self (c.args.first - c.args.from) (Some c.args.slot) c.put.ensures.ok c.put.ensures.err in
    cell_put_home c.self.inside.cells.entries c.args.self.now (c.get_mut.follows.lender c.put.new.self).entries c.args.from (c.args.first - c.args.from) c.args.first c.in-Some.cell.now c.put.new.self set.0 c.self.view_is c.self.invariant.0 c.in-Some.ensures.value c.requires.home (back_from c.args.from c.args.first c.requires.home.low) changed.0 set.1 c.ranges.first.fits c.self.invariant.1

pub returns-clause-ok : goal.returns-clause-ok
returns-clause-ok c =
    let there = subst IsSome c.in-Some.ensures.value refl in
    let changed = (c.get_mut.follows.holds c.put.new.self).3 there in
    on_ok c.put.result c.put.ensures.ok (λ set. cell_put c.self.inside.cells.entries c.args.self.now (c.get_mut.follows.lender c.put.new.self).entries c.args.from (c.args.first - c.args.from) c.args.first c.in-Some.cell.now c.put.new.self (Some c.args.slot) c.self.view_is c.self.invariant.0 c.in-Some.ensures.value c.requires.home (back_from c.args.from c.args.first c.requires.home.low) changed.0 set)

pub returns-clause-stood : goal.returns-clause-stood
returns-clause-stood c =
    let same = cell_start c.self.inside.cells.entries c.args.self.now c.args.from (c.args.first - c.args.from) c.args.first c.in-Some.cell.now c.self.view_is c.in-Some.ensures.value c.requires.home (back_from c.args.from c.args.first c.requires.home.low) in
    if_ok c.put.result c.put.ensures.stood (λ stood is. is ∙ sym same)

pub returns-clause-kept : goal.returns-clause-kept
returns-clause-kept c = λ some.
    let same = cell_start c.self.inside.cells.entries c.args.self.now c.args.from (c.args.first - c.args.from) c.args.first c.in-Some.cell.now c.self.view_is c.in-Some.ensures.value c.requires.home (back_from c.args.from c.args.first c.requires.home.low) in
    c.put.ensures.kept (subst IsSome same some)

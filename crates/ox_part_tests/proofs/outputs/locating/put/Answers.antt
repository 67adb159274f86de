use Rattle.std.proofs.Common.{◌+◌, ℕ, List, sym, subst, arith}
use Rattle.ox_rules.specs.Outputs.{MayStand}
use Rattle.ox_part_tests.proofs.Rising.{may_stand}
use Rattle.ox_part_tests.proofs.outputs.locating.put.Goals as goal

pub place-requires : goal.place-requires
place-requires g c =
    let low = c.args.first in
    let held = g.O.OutTable.contents c.args.table.now in
    subst (λ (l : List ℕ). MayStand c.outpoint.result l held) (sym c.row_of-row.ensures)
    (may_stand held c.outpoint.result c.run-sats.result low (low + c.args.count) low c.run-sats.ensures.within c.requires.below (omega arith))

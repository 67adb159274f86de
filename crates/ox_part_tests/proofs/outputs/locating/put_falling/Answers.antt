use Rattle.std.proofs.Common.{◌^◌, ℕ, List, sym, subst, arith}
use Rattle.ox_rules.specs.Outputs.{MayStand}
use Rattle.ox_outputs.specs.Table.{rows_in}
use Rattle.ox_part_tests.proofs.Rising.{may_stand}
use Rattle.ox_part_tests.proofs.outputs.locating.put_falling.Goals as goal

pub place-requires : goal.place-requires
place-requires g c =
    let held = rows_in c.args.table.now in
    subst (λ (l : List ℕ). MayStand c.outpoint.result l held) (sym c.row_of-row.ensures)
    (may_stand held c.outpoint.result c.falling-sats.result 0 (2 ^ 36) 0 c.falling-sats.ensures c.requires (omega arith))

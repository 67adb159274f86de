-- A transaction adds its mint's amount and its etching's premine to runes, and nothing else.
use Rattle.std.proofs.Common.{◌≡◌, List, Some}
use Rattle.std.specs.Option.{option_map}
use Rattle.ox_block.specs.declared.block.Tx.{Tx}
use Rattle.ox_rules.specs.declared.rows.OutRow.{OutRow}
use Rattle.ox_allocation.specs.Laws.{NothingIsLostOrMade}
use Rattle.ox_etching.specs.declared.spot.Spot.{Spot}
use Rattle.ox_etching.specs.declared.row.RuneRow.{RuneRow}
use Rattle.ox_ledger.specs.Balanced.{Balanced}
use Rattle.ox_ledger.specs.Runes.{Runes, artifact_at, brought_of, dealt_by, etching_by, in_hand, mint_by, pool_with, premine_of, turn}
use Rattle.ox_ledger.specs.Turn.{IsFree, TurnAdds}
use Rattle.ox_ledger.proofs.Deals.{deals}
use Rattle.ox_ledger.proofs.Fresh.{IsRow, all_fresh, all_other, all_rise, etching_row, free_for}
use Rattle.ox_ledger.proofs.Pools.{brought_balances, pool_balances}
use Rattle.ox_ledger.proofs.TurnLemmas.{adds}

pub turn_adds : NothingIsLostOrMade → (at : Spot) (tx : Tx) (spent : List OutRow) (state : Runes) → Balanced state → IsFree at state.runes
    → TurnAdds at tx spent state (turn at tx spent state)
turn_adds keeps at tx spent state balanced free =
    let none = free_for at tx spent state.runes free in
    let artifact = artifact_at at tx in
    let mint = mint_by at.height state.runes artifact in
    let etching = etching_by at tx spent state.runes artifact in
    let rows : (row : RuneRow) → etching ≡ Some row → IsRow at row = λ row is. etching_row at tx spent state.runes artifact row is in
    let hand = in_hand (brought_of at.tx tx state.bal) state.runes mint etching in
    let are = pool_balances (pool_with (brought_of at.tx tx state.bal).pool mint) (option_map premine_of etching)
    (pool_balances (brought_of at.tx tx state.bal).pool mint (brought_balances at.tx tx state.bal)) in
    adds at tx state mint etching (dealt_by artifact hand.pool hand.etching tx.outputs) (all_rise state balanced) (all_other at state etching none rows)
    (all_fresh at state artifact etching balanced none rows) (λ id. deals keeps at tx hand.pool hand.etching are id)

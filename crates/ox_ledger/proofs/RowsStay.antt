-- What holds of the rows of runes holds after a transaction.
use Rattle.std.proofs.Common.{◌≡◌, ◌≢◌, ◌^◌, ◌<◌, List, refl, subst, sym, Option, Some, None}
use Rattle.std.specs.Prelude.{All, option_and_then}
use Rattle.std.specs.List.{AllByRecursion}
use Rattle.std.proofs.lemmas.List.Elements.{All-from_recursion, recursion_from_All}
use Rattle.ox_block.specs.declared.block.Tx.{Tx}
use Rattle.ox_runestone.specs.declared.stone.RuneId.{RuneId}
use Rattle.ox_rules.specs.declared.rows.OutRow.{OutRow}
use Rattle.ox_allocation.specs.Laws.{NothingIsLostOrMade}
use Rattle.ox_etching.specs.declared.spot.Spot.{Spot}
use Rattle.ox_etching.specs.Etched.{id_of}
use Rattle.ox_etching.specs.declared.row.RuneRow.{RuneRow}
use Rattle.ox_ledger.specs.Balanced.{AreDistinct, Balanced, IsBounded, IsSettled}
use Rattle.ox_ledger.specs.Runes.{Runes, artifact_at, etching_by, mint_by, mint_of, turn}
use Rattle.ox_ledger.specs.Turn.{IsFree, TurnAdds}
use Rattle.ox_ledger.proofs.Bounded.{new_bounded, stays_bounded}
use Rattle.ox_ledger.proofs.Distinct.{NoneLike, stays_distinct}
use Rattle.ox_ledger.proofs.Fresh.{IsFreeFor, IsRow, etching_row, free_for}
use Rattle.ox_ledger.proofs.NewNames.{new_name}
use Rattle.ox_ledger.proofs.Settled.{all_pay, stays_settled}
use Rattle.ox_ledger.proofs.TurnsAdd.{turn_adds}

-- what `Balanced` says of rows alone
pub record RowsBalanced (state : Runes) : Type 0 where
  pub ids : AreDistinct (λ row. row.id) state.runes
  pub names : AreDistinct (λ row. row.name) state.runes
  pub bounded : All IsBounded state.runes
  pub settled : All (IsSettled state) state.runes

new_id : (at : Spot) (etching : Option RuneRow) (runes : List RuneRow) → ((row : RuneRow) → etching ≡ Some row → IsRow at row)
    → IsFreeFor at etching runes → NoneLike (λ (row : RuneRow). row.id) etching runes
new_id at None runes rows other = tt
new_id at (Some row) runes rows other =
    subst (λ (id : RuneId). AllByRecursion (λ (r : RuneRow). r.id ≢ id) runes) (sym (rows row refl).id) (recursion_from_All (λ (r : RuneRow). r.id ≢ id_of at) runes other)

pub rows_stay : NothingIsLostOrMade → (at : Spot) (tx : Tx) (spent : List OutRow) (state : Runes) → at.tx < 2 ^ 32 → Balanced state → IsFree at state.runes
    → RowsBalanced (turn at tx spent state)
rows_stay keeps at tx spent state small balanced none =
    let after = turn at tx spent state in
    let artifact = artifact_at at tx in
    let mint = mint_by at.height state.runes artifact in
    let etching = etching_by at tx spent state.runes artifact in
    let adds : TurnAdds at tx spent state after = turn_adds keeps at tx spent state balanced none in
    let other = free_for at tx spent state.runes none in
    let bounded = recursion_from_All IsBounded state.runes balanced.bounded in
    let pays = all_pay at.height state.runes (option_and_then mint_of artifact) balanced.ids in
    record {
      ids = stays_distinct (λ (row : RuneRow). row.id) (λ row n m. refl) mint etching state after adds balanced.ids
          (new_id at etching state.runes (λ row is. etching_row at tx spent state.runes artifact row is) other);
      names = stays_distinct (λ (row : RuneRow). row.name) (λ row n m. refl) mint etching state after adds balanced.names
          (new_name at tx spent state.runes artifact etching small bounded other refl);
      bounded = All-from_recursion IsBounded after.runes (stays_bounded mint etching state after adds pays bounded (new_bounded at tx spent state.runes small));
      settled = All-from_recursion (IsSettled after) after.runes
          (stays_settled mint etching state after adds pays (recursion_from_All (IsSettled state) state.runes balanced.settled));
    }

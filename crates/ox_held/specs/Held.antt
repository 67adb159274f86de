-- What the outputs with a script hold.
use Rattle.std.specs.Prelude.{ℕ, Bool, false, List, [], fold, length, map}
use Rattle.std.specs.FinMap.{get}
use Rattle.std.specs.List.{filter_map}
use Rattle.std.specs.Option.{option_map_or}
use Rattle.ox_block.specs.declared.block.OutPoint.{OutPoint}
use Rattle.ox_rules.specs.Outputs.{Outputs, sats_of}
use Rattle.ox_rules.specs.declared.rows.OutRow.{OutRow}
use Rattle.ox_inscribe.specs.Inscriptions.{numbers_where}
use Rattle.ox_inscribe.specs.Numbers.{is_among}
use Rattle.ox_inscribe.specs.declared.row.InsRow.{InsRow}
use Rattle.ox_ledger.specs.Runes.{balances_at, joined_with}
use Rattle.ox_holders.specs.Outputs.{outputs_with}
use Rattle.ox_model.specs.Index.{Index}
use Rattle.ox_held.specs.declared.held.Held.{Held}

-- the rows of the outputs at some outpoints
abbrev pub rows_at : Outputs → List OutPoint → List OutRow
rows_at outs places = filter_map (get outs) places

-- the satoshis of the outputs at some outpoints
abbrev pub sats_at : Outputs → List OutPoint → List ℕ
sats_at outs places = sats_of (rows_at outs places)

-- an inscription is on one of these satoshis
abbrev pub is_on_one : List ℕ → InsRow → Bool
is_on_one sats row = option_map_or (λ sat. is_among sat sats) row.sat false

-- What the outputs at some outpoints hold: so many satoshis, their runes joined, and the sequences
-- of the inscriptions on those satoshis, rising.
abbrev pub held_at : Index → List OutPoint → Held
held_at index places = record {
  value = length (sats_at index.outs places);
  runes = fold joined_with [] (map (balances_at index.bal) places);
  inscriptions =
      numbers_where (is_on_one (sats_at index.outs places)) 0 index.inscriptions;
}

-- what the outputs with a script hold
abbrev pub held_by : Index → List ℕ → Held
held_by index script = held_at index (outputs_with script index.outs)

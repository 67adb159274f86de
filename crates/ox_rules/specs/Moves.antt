-- What a transaction does to satoshis, output by output (BIP draft "Ordinal Numbers", the
-- assignment of satoshis).
use Rattle.std.specs.Prelude.{◌≡◌, ◌≢◌, ℕ, sum, take, drop, slice_get, Some}
use Rattle.std.specs.FinMap.{get}
use Rattle.ox_block.specs.declared.block.OutPoint.{OutPoint}
use Rattle.ox_block.specs.declared.block.Tx.{Tx}
use Rattle.ox_block.specs.declared.block.TxOut.{TxOut}
use Rattle.ox_rules.specs.Outputs.{sats_of}
use Rattle.ox_rules.specs.Transfer.{Spent, Taken, txid_of, values_of}

pub record MovesInOrder (height : ℕ) (tx : Tx) (taken : Taken) (did : Spent) : Type 0 where
  -- an output gets as many of the inputs' satoshis as its value says, those behind what the outputs
  -- before it get
  pub made : (index : ℕ) (output : TxOut) → slice_get tx.outputs index ≡ Some output
      → get did.outs (record { txid = txid_of tx; index = index })
      ≡ Some (record {
        script = output.script;
        height = height;
        sats = take output.value (drop (sum (take index (values_of tx))) (sats_of taken.rows));
      })
  -- what is behind them is fee
  pub fees : did.fees ≡ drop (sum (values_of tx)) (sats_of taken.rows)
  -- no other outpoint changes but the inputs', which were taken
  pub others : (at : OutPoint) → at.txid ≢ txid_of tx → get did.outs at ≡ get taken.outs at

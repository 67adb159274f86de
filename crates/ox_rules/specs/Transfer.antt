-- The satoshis of a transaction's inputs, joined in input order, go to its outputs in order,
-- first-in first-out, and what is left over is fee; the subsidy's and then the fees' go to the
-- coinbase's outputs, and what is left over there is lost (BIP draft "Ordinal Numbers", the
-- assignment of satoshis; Ordinal Theory Handbook, "Overview").
use Rattle.std.specs.Prelude.{ℕ, ◌+◌, List, [], ◌∷◌, ◌++◌, length, map, sum, Option, Some, None}
use Rattle.std.specs.Prelude.{Result, Ok, Err}
use Rattle.std.specs.FinMap.{get, insert, remove}
use Rattle.ox_bytes.specs.Reading.{◌>>=◌}
use Rattle.ox_block.specs.declared.block.Txid.{Txid}
use Rattle.ox_block.specs.declared.block.OutPoint.{OutPoint}
use Rattle.ox_block.specs.declared.block.TxIn.{TxIn}
use Rattle.ox_block.specs.declared.block.TxOut.{TxOut}
use Rattle.ox_block.specs.declared.block.Tx.{Tx}
use Rattle.ox_block.specs.Hashes.{txid}
use Rattle.ox_sat.specs.declared.profiles.Profile.{Profile}
use Rattle.ox_sat.specs.Heights.{subsidy_at, first_at}
use Rattle.ox_range.specs.Numbers.{numbers_from}
use Rattle.ox_rules.specs.declared.rows.OutRow.{OutRow}
use Rattle.ox_rules.specs.declared.moved.MovedTx.{MovedTx}
use Rattle.ox_rules.specs.declared.moved.Moved.{Moved}
use Rattle.ox_rules.specs.declared.refusal.Refusal.{Refusal}
use Rattle.ox_rules.specs.declared.refusal.Refusal.TheVariants.{UnknownOutput, Overspend, Overclaim}
use Rattle.ox_rules.specs.Outputs.{Outputs, sats_of}
use Rattle.ox_rules.specs.Deal.{deal}

-- a transaction's id, as an outpoint has it
abbrev pub txid_of : Tx → Txid
txid_of tx = record { 0 = txid tx }

-- a value, or the refusal where there is none
abbrev pub or_refuse : {A : Type 0} → Refusal → Option A → Result A Refusal
or_refuse refusal None = Err refusal
or_refuse refusal (Some x) = Ok x

-- rows taken out of the table, and the table without them
pub record Taken : Type 0 where
  pub rows : List OutRow
  pub outs : Outputs

-- The rows that the inputs name, in input order, each gone for the next. The first input without a
-- row is refused.
abbrev pub take_rows : ℕ → ℕ → List TxIn → Outputs → Result Taken Refusal
take_rows tx place [] outs = Ok (record { rows = []; outs = outs })
take_rows tx place (input ∷ inputs) outs = do
  row ← or_refuse (UnknownOutput tx place input.from) (get outs input.from)
  rest ← take_rows tx (place + 1) inputs (remove outs input.from)
  Ok (record { rows = row ∷ rest.rows; outs = rest.outs })

-- rows that had to give way, and the table with the new ones
pub record Placed : Type 0 where
  pub displaced : List OutRow
  pub outs : Outputs

abbrev pub as_list : {A : Type 0} → Option A → List A
as_list None = []
as_list (Some x) = x ∷ []

-- The outputs placed in order, each with its part of the satoshis. A row that still stands at an
-- output's outpoint is displaced by it.
abbrev pub place_rows : ℕ → Txid → ℕ → List TxOut → List (List ℕ) → Outputs → Placed
place_rows height txid index (output ∷ outputs) (sats ∷ parts) outs =
    let at : OutPoint = record { txid = txid; index = index } in
    let row : OutRow = record { script = output.script; height = height; sats = sats } in
    let rest = place_rows height txid (index + 1) outputs parts (insert outs at row) in
    record { displaced = as_list (get outs at) ++ rest.displaced; outs = rest.outs }
place_rows height txid index _ _ outs = record { displaced = []; outs = outs }

abbrev pub values_of : Tx → List ℕ
values_of tx = map (λ output. output.value) tx.outputs

-- what transactions did: their rows and satoshis one by one, the satoshis lost by displacement, the
-- fees, and the table then
pub record Spent : Type 0 where
  pub moved : List MovedTx
  pub lost : List ℕ
  pub fees : List ℕ
  pub outs : Outputs

-- a transaction that spends these rows into its outputs, each with its part of their satoshis; the
-- rest is fee
abbrev pub spent_by : ℕ → Tx → Taken → List (List ℕ) × List ℕ → Spent
spent_by height tx taken dealt =
    let placed = place_rows height (txid_of tx) 0 tx.outputs dealt.0 taken.outs in record {
      moved = record {
        txid = txid_of tx;
        spent = taken.rows;
        joined = sats_of taken.rows;
        displaced = placed.displaced;
      } ∷ [];
      lost = sats_of placed.displaced;
      fees = dealt.1;
      outs = placed.outs;
    }

-- a transaction at a place of the block other than the coinbase's
abbrev pub spend : ℕ → ℕ → Tx → Outputs → Result Spent Refusal
spend height place tx outs = do
  taken ← take_rows place 0 tx.inputs outs
  dealt ← or_refuse (Overspend place (length (sats_of taken.rows)) (sum (values_of tx)))
      (deal (sats_of taken.rows) (values_of tx))
  Ok (spent_by height tx taken dealt)

-- transactions in block order, the first of them at this place
abbrev pub spend_all : ℕ → ℕ → List Tx → Outputs → Result Spent Refusal
spend_all height place [] outs = Ok (record { moved = []; lost = []; fees = []; outs = outs })
spend_all height place (tx ∷ txs) outs = do
  first ← spend height place tx outs
  rest ← spend_all height (place + 1) txs first.outs
  Ok (record {
    moved = first.moved ++ rest.moved;
    lost = first.lost ++ rest.lost;
    fees = first.fees ++ rest.fees;
    outs = rest.outs;
  })

-- what a block did, and the table after it
pub record Transferred : Type 0 where
  pub moved : Moved
  pub outs : Outputs

-- a coinbase that claims these parts of what it may; the rest is lost, behind what its outputs
-- displaced
abbrev pub claimed_by : ℕ → Tx → Spent → List (List ℕ) × List ℕ → Transferred
claimed_by height coinbase spent dealt =
    let txid = txid_of coinbase in
    let placed = place_rows height txid 0 coinbase.outputs dealt.0 spent.outs in record {
      moved = record {
        txs = record {
          txid = txid;
          spent = [];
          joined = [];
          displaced = placed.displaced;
        } ∷ spent.moved;
        lost = spent.lost ++ (sats_of placed.displaced ++ dealt.1);
      };
      outs = placed.outs;
    }

-- what a block's coinbase may claim: the subsidy's satoshis, and then the fees
abbrev pub claimable_sats : Profile → ℕ → List ℕ → List ℕ
claimable_sats p height fees = numbers_from (first_at p height) (subsidy_at p height) ++ fees

-- the coinbase, which comes last
abbrev pub claim : Profile → ℕ → Tx → Spent → Result Transferred Refusal
claim p height coinbase spent = do
  dealt ← or_refuse
      (Overclaim (length (claimable_sats p height spent.fees)) (sum (values_of coinbase)))
      (deal (claimable_sats p height spent.fees) (values_of coinbase))
  Ok (claimed_by height coinbase spent dealt)

-- a block's transactions, of which the first is its coinbase, at this height
abbrev pub transfer_of : Profile → ℕ → List Tx → Outputs → Result Transferred Refusal
transfer_of p height [] outs = Ok (record { moved = record { txs = []; lost = [] }; outs = outs })
transfer_of p height (coinbase ∷ txs) outs = spend_all height 1 txs outs >>= claim p height coinbase

-- Reading a block from left to right: the block, or the place of the first fault. Each reader but
-- the last reports a fault by the number of bytes left where the field at fault begins.
use Rattle.std.specs.Prelude.{ℕ, zero, suc, ◌-◌, Bool, true, false, List, [], ◌∷◌, length, Result}
use Rattle.std.specs.Prelude.{Ok, Err, nat_lt, ◌==◌, if◌then◌else◌}
use Rattle.std.specs.Int.{w32, w64}
use Rattle.std.specs.List.{list_any}
use Rattle.ox_bytes.specs.Reading.{◌>>=◌, Reader, number_at, run_at, compact_at, string_at, both}
use Rattle.ox_bytes.specs.Reading.{reading_map, unless, counted_list}
use Rattle.ox_block.specs.Spelling.{most_value, most_bytes, has_witness}
use Rattle.ox_block.specs.declared.block.OutPoint.{OutPoint}
use Rattle.ox_block.specs.declared.block.TxIn.{TxIn}
use Rattle.ox_block.specs.declared.block.TxOut.{TxOut}
use Rattle.ox_block.specs.declared.block.Tx.{Tx}
use Rattle.ox_block.specs.declared.block.Header.{Header}
use Rattle.ox_block.specs.declared.block.Block.{Block}

-- a count that may not be 0
unfoldable pub count_at : Reader ℕ
count_at bytes = unless (λ n. n == 0) compact_at bytes

unfoldable pub outpoint_at : Reader OutPoint
outpoint_at bytes =
    reading_map (λ p. record { txid = record { 0 = p.0 }; index = p.1 })
    (both (run_at 32) (number_at w32)) bytes

-- an input, whose witness stack comes later
unfoldable pub input_at : Reader TxIn
input_at bytes = do
  from ← outpoint_at bytes
  script ← string_at from.1
  sequence ← number_at w32 script.1
  Ok (
    record { from = from.0; script = script.0; sequence = sequence.0; witness = [] },
    sequence.1,
  )

unfoldable pub inputs_at : Reader (List TxIn)
inputs_at bytes = counted_list count_at input_at bytes

-- an output of at most that many satoshis
unfoldable pub output_at : ℕ → Reader TxOut
output_at most bytes =
    reading_map (λ p. record { value = p.0; script = p.1 })
    (both (unless (λ value. nat_lt most value) (number_at w64)) string_at) bytes

-- that many outputs, of at most that many satoshis together: the value that brings the sum above is
-- at fault
unfoldable pub outputs_of : ℕ → ℕ → Reader (List TxOut)
outputs_of zero most bytes = Ok ([], bytes)
outputs_of (suc n) most bytes = do
  first ← output_at most bytes
  others ← outputs_of n (most - first.0.value) first.1
  Ok (first.0 ∷ others.0, others.1)

unfoldable pub outputs_at : Reader (List TxOut)
outputs_at bytes = count_at bytes >>= λ n. outputs_of n.0 most_value n.1

unfoldable pub stack_at : Reader (List (List ℕ))
stack_at bytes = counted_list compact_at string_at bytes

-- a stack for each input
unfoldable pub stacks_of : List TxIn → Reader (List TxIn)
stacks_of [] bytes = Ok ([], bytes)
stacks_of (i ∷ is) bytes = do
  w ← stack_at bytes
  others ← stacks_of is w.1
  Ok (record i { witness = w.0 } ∷ others.0, others.1)

-- Stacks that are all empty are the fault of the marker, which has that many bytes from its place
-- to the end.
unfoldable pub witnesses_at : ℕ → List TxIn → Reader (List TxIn)
witnesses_at marker is bytes =
    stacks_of is bytes >>= λ x. if list_any has_witness x.0 then Ok x else Err marker

-- A byte 0 behind the version is the marker, and a flag of 1 has to follow.
unfoldable pub marker_at : Reader Bool
marker_at (zero ∷ suc zero ∷ rest) = Ok (true, rest)
marker_at (zero ∷ rest) = Err (length rest)
marker_at bytes = Ok (false, bytes)

-- what follows the outputs: where there is a marker, the stacks
unfoldable pub maybe_witnesses_at : Bool → ℕ → List TxIn → Reader (List TxIn)
maybe_witnesses_at true marker is bytes = witnesses_at marker is bytes
maybe_witnesses_at false marker is bytes = Ok (is, bytes)

unfoldable pub tx_at : Reader Tx
tx_at bytes = do
  version ← number_at w32 bytes
  marked ← marker_at version.1
  bare ← inputs_at marked.1
  outputs ← outputs_at bare.1
  inputs ← maybe_witnesses_at marked.0 (length version.1) bare.0 outputs.1
  lock ← number_at w32 inputs.1
  Ok (
    record {
      version = version.0;
      marked = marked.0;
      inputs = inputs.0;
      outputs = outputs.0;
      lock = lock.0;
    },
    lock.1,
  )

unfoldable pub header_at : Reader Header
header_at bytes = do
  version ← number_at w32 bytes
  previous ← run_at 32 version.1
  root ← run_at 32 previous.1
  time ← number_at w32 root.1
  bits ← number_at w32 time.1
  nonce ← number_at w32 bits.1
  Ok (
    record {
      version = version.0;
      previous = previous.0;
      root = root.0;
      time = time.0;
      bits = bits.0;
      nonce = nonce.0;
    },
    nonce.1,
  )

-- a block, and bytes behind it
unfoldable pub block_at : Reader Block
block_at bytes =
    reading_map (λ p. record { header = p.0; txs = p.1 })
    (both header_at (counted_list count_at tx_at)) bytes

-- Bytes behind the last transaction are a field at fault.
unfoldable pub whole_of : List ℕ → Result Block ℕ
whole_of bytes = block_at bytes >>= λ x. if length x.1 == 0 then Ok x.0 else Err (length x.1)

-- a fault by its place from the first byte
abbrev pub with_place : {A : Type 0} → ℕ → Result A ℕ → Result A ℕ
with_place all (Ok x) = Ok x
with_place all (Err left) = Err (all - left)

-- The block that the bytes spell, or the place of the first fault. Bytes that are too many are at
-- fault behind the last one allowed.
unfoldable pub block_of : List ℕ → Result Block ℕ
block_of bytes =
    if nat_lt most_bytes (length bytes) then Err most_bytes
    else with_place (length bytes) (whole_of bytes)

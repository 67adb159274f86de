-- Which transaction is a coinbase.
use Rattle.std.specs.Prelude.{Bool, bytes_eq, length, replicate, ◌==◌, ◌&&◌}
use Rattle.std.specs.List.{list_any}
use Rattle.ox_block.specs.declared.block.Tx.{Tx}
use Rattle.ox_block.specs.declared.block.TxIn.{TxIn}

-- an input that names no output: a txid of zeros and the greatest index
abbrev pub is_null : TxIn → Bool
is_null input = bytes_eq input.from.txid.0 (replicate 32 0) && (input.from.index == 4294967295)

-- one of its inputs names no output
abbrev pub has_null : Tx → Bool
has_null tx = list_any is_null tx.inputs

-- a transaction of one input, which names no output
abbrev pub is_coinbase : Tx → Bool
is_coinbase tx = (length tx.inputs == 1) && has_null tx

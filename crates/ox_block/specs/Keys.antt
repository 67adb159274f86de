-- By what outpoints are spread over the lines of a map, and by which tag.
use Rattle.std.specs.Prelude.{ℕ}
use Rattle.ox_shards.specs.Keys.{spread_of, tag_of}
use Rattle.ox_block.specs.declared.block.OutPoint.{OutPoint}

abbrev pub outpoint_spread : OutPoint → ℕ
outpoint_spread o = spread_of o.txid.0 o.index

abbrev pub outpoint_tag : OutPoint → ℕ
outpoint_tag o = tag_of o.txid.0 o.index

-- What is seen of an index that was read, and of a table that is put.
use Rattle.std.specs.Prelude.{ℕ, List}
use Rattle.std.specs.FinMap.{entries, from_entries}
use Rattle.ox_block.specs.declared.block.OutPoint.{OutPoint}
use Rattle.ox_rules.specs.Outputs.{outpoint_cmp}
use Rattle.ox_model.specs.Index.{Index as ChainIndex}
use Rattle.ox_plain.specs.Plain.{index_in}
use Rattle.ox_plain.specs.declared.index.Index.{Index}

-- the index, and how many bytes it took
abbrev pub index_seen : Index × ℕ → ChainIndex × ℕ
index_seen read = (index_in read.0, read.1)

-- a table's rows by rising outpoint
abbrev pub by_outpoint : {X : Type 0} → List (OutPoint × X) → List (OutPoint × X)
by_outpoint rows = entries (from_entries {R = outpoint_cmp} rows)

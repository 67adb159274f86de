use Rattle.std.proofs.Common.{◌≡◌, ◌≤◌, length, map, take}
use Rattle.std.specs.Vec.{vec_len, vec_capacity}
use Rattle.ox_rows.specs.RowReading.{count_change_of}
use Rattle.ox_rows.proofs.counts.changes_of.Given as goal

-- those so far are made, and there is room for the others
abbrev pub invariant-loop-row : goal.invariant-loop-row
invariant-loop-row l = record {
  len : vec_len l.changes ≡ l.row-index;
  room : length l.rows ≤ vec_capacity l.changes;
  items : l.changes.items ≡ map count_change_of (take l.row-index l.rows);
}

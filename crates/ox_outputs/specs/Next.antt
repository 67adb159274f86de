-- The row that comes next by rising outpoint.
use Rattle.std.specs.Prelude.{Bool, true, List, Option, Some, None, if◌then◌else◌}
use Rattle.std.specs.List.{find}
use Rattle.std.specs.Ordering.{is_lt}
use Rattle.ox_block.specs.declared.block.OutPoint.{OutPoint}
use Rattle.ox_rules.specs.declared.rows.OutRow.{OutRow}
use Rattle.ox_rules.specs.Outputs.{outpoint_cmp}

-- whether an outpoint comes behind another one, where there is another one
abbrev pub is_past : Option OutPoint → OutPoint → Bool
is_past None at = true
is_past (Some past) at = is_lt (outpoint_cmp past at)

-- the first of rows by rising outpoint, or the first past an outpoint
abbrev pub next_of : Option OutPoint → List (OutPoint × OutRow) → Option (OutPoint × OutRow)
next_of past rows = find (λ row. is_past past row.0) rows

-- the one of two rows that comes first, where there is another one
abbrev pub earlier : Option (OutPoint × OutRow) → OutPoint × OutRow → Option (OutPoint × OutRow)
earlier None row = Some row
earlier (Some best) row = if is_lt (outpoint_cmp row.0 best.0) then Some row else Some best

-- the next row as far as is known, when what a slot holds at an outpoint is known too
abbrev pub nearer : Option OutPoint → Option (OutPoint × OutRow) → OutPoint → Option OutRow
    → Option (OutPoint × OutRow)
nearer past best at None = best
nearer past best at (Some row) = if is_past past at then earlier best (at, row) else best

use Rattle.std.proofs.Common.{◌≡◌, ◌≤◌, length, take}
use Rattle.std.specs.Vec.{vec_capacity}
use Rattle.ox_outputs.specs.Cells.{starts_from}
use Rattle.ox_outputs.proofs.cell.copy_from.Given as goal

-- the starts so far are counted
abbrev pub invariant-loop-start : goal.invariant-loop-start
invariant-loop-start l = record {
  counted : starts_from l.base l.counted.items ≡ take l.start-index l.starts;
  room : length l.starts ≤ vec_capacity l.counted;
}

use Rattle.std.proofs.Common.{◌≡◌, ◌≤◌, Option, Bor, length, map, take}
use Rattle.std.specs.Option.{option_copied}
use Rattle.std.specs.Vec.{vec_len, vec_capacity}
use Rattle.ox_marked.proofs.marked.shown.Given as goal

-- those so far say what the changes so far say
abbrev pub invariant-loop-key : goal.invariant-loop-key
invariant-loop-key g l = record {
  len : vec_len l.changes ≡ l.key-index;
  room : length l.log ≤ vec_capacity l.changes;
  items : map (λ (change : g.row.K.Denot × Option (Bor g.row.V.Denot)). (change.0, option_copied change.1)) l.changes.items ≡ take l.key-index l.log;
}

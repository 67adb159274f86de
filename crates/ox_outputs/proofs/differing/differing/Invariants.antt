use Rattle.std.proofs.Common.{◌≡◌, ◌++◌, drop}
use Rattle.ox_outputs.specs.Differing.{gone_at, pairs_in, rows_for}
use Rattle.ox_outputs.specs.Slots.{rows_of, undone}
use Rattle.ox_outputs.proofs.differing.differing.Given as goal

-- the rows so far, and those of the outpoints that are left
abbrev pub invariant-loop-one : goal.invariant-loop-one
invariant-loop-one l = record {
  gone : l.gone ++ rows_for (gone_at (undone l.before l.changed (rows_of l.slots)) (rows_of l.slots)) (drop l.one-index (pairs_in l.changed l.one-items))
      ≡ rows_for (gone_at (undone l.before l.changed (rows_of l.slots)) (rows_of l.slots)) (pairs_in l.changed l.one-items);
  came : l.came ++ rows_for (gone_at (rows_of l.slots) (undone l.before l.changed (rows_of l.slots))) (drop l.one-index (pairs_in l.changed l.one-items))
      ≡ rows_for (gone_at (rows_of l.slots) (undone l.before l.changed (rows_of l.slots))) (pairs_in l.changed l.one-items);
}

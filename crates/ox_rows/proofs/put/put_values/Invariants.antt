use Rattle.std.proofs.Common.{◌≡◌, ◌++◌, take}
use Rattle.std.specs.List.{All, flat_map}
use Rattle.ox_rows.proofs.put.put_values.Given as goal

-- those so far have been put, and fit
abbrev pub invariant-loop-value : goal.invariant-loop-value
invariant-loop-value g l = record {
  put : l.bytes ≡ l.fn.bytes ++ flat_map g.T.Writable.spelling (take l.value-index l.values);
  fit : All g.T.Writable.fits (take l.value-index l.values);
}

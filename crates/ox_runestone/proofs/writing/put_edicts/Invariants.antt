use Rattle.std.proofs.Common.{◌≡◌, ◌++◌, drop}
use Rattle.std.specs.List.{flat_map}
use Rattle.ox_varint.specs.Varint.{varint}
use Rattle.ox_runestone.specs.Spelling.{deltas, body_for, DontFallAfter}
use Rattle.ox_runestone.proofs.writing.put_edicts.Given as goal

abbrev pub invariant-loop-edict : goal.invariant-loop-edict
invariant-loop-edict l =
    DontFallAfter l.id (drop l.edict-index l.edicts)
    × (l.payload.items ++ flat_map varint (deltas l.id (drop l.edict-index l.edicts)) ≡ l.fn.payload.items ++ flat_map varint (body_for l.edicts))

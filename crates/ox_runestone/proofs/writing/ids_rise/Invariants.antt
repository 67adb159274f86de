use Rattle.std.proofs.Common.{drop}
use Rattle.ox_runestone.specs.Spelling.{DontFall, DontFallAfter}
use Rattle.ox_runestone.proofs.writing.ids_rise.Given as goal

abbrev pub invariant-loop-edict : goal.invariant-loop-edict
invariant-loop-edict l =
    (DontFallAfter l.id (drop l.edict-index l.edicts) → DontFall l.edicts)
    × (DontFall l.edicts → DontFallAfter l.id (drop l.edict-index l.edicts))

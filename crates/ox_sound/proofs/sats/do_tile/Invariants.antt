use Rattle.std.proofs.Common.{◌≡◌, drop}
use Rattle.ox_sound.specs.Once.{tiles}
use Rattle.ox_sound.proofs.sats.do_tile.Given as goal

-- the runs from here on tile what is left exactly where all tile the whole
abbrev pub invariant-loop-run : goal.invariant-loop-run
invariant-loop-run l = tiles l.next (drop l.run-index l.runs) l.end ≡ tiles 0 l.runs l.end

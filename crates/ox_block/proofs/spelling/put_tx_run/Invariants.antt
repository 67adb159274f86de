use Rattle.std.proofs.Common.{take}
use Rattle.std.specs.List.{flat_map}
use Rattle.ox_block.specs.Spelling.{tx}
use Rattle.ox_block.specs.Putting.{Puts}
use Rattle.ox_block.proofs.spelling.put_tx_run.Given as goal

-- those so far have been put
abbrev pub invariant-loop-whole : goal.invariant-loop-whole
invariant-loop-whole g l = Puts g.S.Sink.holds (flat_map tx (take l.whole-index l.items)) l.fn.sink l.sink

use Rattle.std.proofs.Common.{take}
use Rattle.std.specs.List.{flat_map}
use Rattle.ox_block.proofs.Laws.{each_stack}
use Rattle.ox_block.specs.Putting.{Puts}
use Rattle.ox_block.proofs.spelling.put_stacks.Given as goal

-- those so far have been put
abbrev pub invariant-loop-spent : goal.invariant-loop-spent
invariant-loop-spent g l = Puts g.S.Sink.holds (flat_map each_stack (take l.spent-index l.items)) l.fn.sink l.sink

use Rattle.std.proofs.Common.{take}
use Rattle.std.specs.List.{flat_map}
use Rattle.ox_block.specs.Spelling.{output}
use Rattle.ox_block.specs.Putting.{Puts}
use Rattle.ox_block.proofs.spelling.put_output_run.Given as goal

-- those so far have been put
abbrev pub invariant-loop-made : goal.invariant-loop-made
invariant-loop-made g l = Puts g.S.Sink.holds (flat_map output (take l.made-index l.items)) l.fn.sink l.sink

use Rattle.std.proofs.Common.{◌≡◌, take, drop}
use Rattle.ox_block.specs.Reading.{stacks_of}
use Rattle.ox_bytes.proofs.TimesLoop.{with_front}
use Rattle.ox_block.proofs.reading.stacks_into.Given as goal

-- those so far and those to come are all
abbrev pub invariant-loop-input : goal.invariant-loop-input
invariant-loop-input l = with_front (take l.input-index l.inputs) (stacks_of (drop l.input-index l.inputs) l.rest) ≡ stacks_of l.fn.inputs l.bytes

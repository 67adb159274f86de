use Rattle.std.proofs.Common.{◌≡◌, ◌-◌}
use Rattle.ox_bytes.specs.Reading.{times}
use Rattle.ox_block.specs.Reading.{input_at}
use Rattle.ox_bytes.proofs.TimesLoop.{with_front}
use Rattle.ox_block.proofs.reading.inputs_pushed.Given as goal

-- those so far and those to come are all
abbrev pub invariant-loop : goal.invariant-loop
invariant-loop l = with_front l.inputs (times input_at (l.count - l.counter) l.rest) ≡ times input_at l.count l.bytes

use Rattle.std.proofs.Common.{◌≡◌, ◌-◌}
use Rattle.ox_block.specs.Reading.{outputs_of}
use Rattle.ox_bytes.proofs.TimesLoop.{with_front}
use Rattle.ox_block.proofs.reading.outputs_pushed.Given as goal

-- those so far and those to come are all
abbrev pub invariant-loop : goal.invariant-loop
invariant-loop l = with_front l.outputs (outputs_of (l.count - l.counter) l.spare l.rest) ≡ outputs_of l.count l.most l.bytes

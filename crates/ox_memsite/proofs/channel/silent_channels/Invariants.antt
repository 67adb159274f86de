use Rattle.std.proofs.Common.{◌≡◌}
use Rattle.std.specs.Prelude.{replicate}
use Rattle.ox_memsite.specs.Channels.{silent_channel}
use Rattle.ox_memsite.proofs.channel.silent_channels.Given as goal

abbrev pub invariant-loop : goal.invariant-loop
invariant-loop l = l.channels.items ≡ replicate l.counter silent_channel

-- What the replay of a file answers. Out of memory may be answered at any time, and nothing else.
use Rattle.std.specs.Prelude.{◌≡◌, ℕ, Result, Err}
use Rattle.ox_feed.specs.declared.command.Command.{Command}
use Rattle.ox_feed.specs.declared.command.Command.TheVariants.{Connect, Disconnect}
use Rattle.ox_model.specs.Stack.{Stack}
use Rattle.ox_files.specs.OldStands.{OldFault, IllFormed, Refused}
use Rattle.ox_replay.specs.declared.commands.Recorded.{Recorded}
use Rattle.ox_replay.specs.declared.commands.Recorded.TheVariants as records
use Rattle.ox_replay.specs.declared.chains.ReplayFault.{ReplayFault}
use Rattle.ox_replay.specs.declared.chains.ReplayFault.TheVariants as replays

-- where it isn't memory, the fault is the one that the file has
abbrev pub IsReplayFault : Result Stack (OldFault ℕ) → ReplayFault → Type 0
IsReplayFault judging (replays.At place) = judging ≡ Err (IllFormed place)
IsReplayFault judging (replays.Old command refusal) = judging ≡ Err (Refused command refusal)
IsReplayFault judging replays.Memory = Unit {0}

-- the command that stands in a record
abbrev pub command_of : Recorded → Command
command_of (records.Connect block) = Connect block.now
command_of records.Disconnect = Disconnect

-- What is known of each channel; its place in the list is its number.
use Rattle.std.specs.Prelude.{ℕ, ◌+◌, nat_lt, List, [], if◌then◌else◌, slice_index_or, slice_set}
use Rattle.ox_outside.specs.Counts.{greatest}
use Rattle.ox_memsite.specs.Script.{left_after}
use Rattle.ox_memsite.specs.declared.channel.Channel.{Channel}
use Rattle.ox_memsite.specs.declared.said.Said.{Said}

-- one more, up to the greatest count
abbrev pub next_count : ℕ → ℕ
next_count n = if nat_lt n greatest then n + 1 else n

-- a channel with this script, of which nothing is counted yet
abbrev pub new_channel : List Said → Channel
new_channel script = record { script = script; hear_faults = 0; show_faults = 0; not_yets = 0 }

abbrev pub silent_channel : Channel
silent_channel = new_channel []

-- the channel of this number, silent where there is none
abbrev pub channel_at : List Channel → ℕ → Channel
channel_at channels channel = slice_index_or channels channel silent_channel

-- what the channel of this number will still say
abbrev pub script_of : List Channel → ℕ → List Said
script_of channels channel = (channel_at channels channel).script

-- the channels, of which one is changed
abbrev pub at_channel : ℕ → (Channel → Channel) → List Channel → List Channel
at_channel channel change channels =
    slice_set channels channel (change (channel_at channels channel))

abbrev pub hear_fault : Channel → Channel
hear_fault channel = record channel { hear_faults = next_count channel.hear_faults }

abbrev pub show_fault : Channel → Channel
show_fault channel = record channel { show_faults = next_count channel.show_faults }

abbrev pub nothing_yet : Channel → Channel
nothing_yet channel = record channel { not_yets = next_count channel.not_yets }

-- after a hearing with so much room
abbrev pub next_script : ℕ → Channel → Channel
next_script room channel = record channel { script = left_after room channel.script }

-- What a call of `hear` gives, and one of `show` takes.
use Rattle.std.specs.Prelude.{◌≡◌, ℕ, List, [], ◌∷◌, ◌++◌, length, take, drop, ◌==◌, if◌then◌else◌}
use Rattle.ox_outside.specs.declared.site.Heard.{Heard as HeardAnswer}
use Rattle.ox_outside.specs.declared.site.Heard.TheVariants as answers
use Rattle.ox_outside.specs.declared.site.Shown.{Shown as ShownAnswer}
use Rattle.ox_outside.specs.declared.site.Shown.TheVariants.{Took}
use Rattle.ox_memsite.specs.Channels.{at_channel, script_of, next_script, nothing_yet}
use Rattle.ox_memsite.specs.Script.{said_next}
use Rattle.ox_memsite.specs.World.{World, after_step}
use Rattle.ox_memsite.specs.declared.channel.Channel.{Channel}
use Rattle.ox_memsite.specs.declared.said.Said.{Said}
use Rattle.ox_memsite.specs.declared.said.Said.TheVariants.{Bytes, NotYet, End}
use Rattle.ox_memsite.specs.declared.step.Step.{Step}
use Rattle.ox_memsite.specs.declared.step.Step.TheVariants as steps

-- as many bytes of the input as there is room for; past the input its end
abbrev pub said_input : ℕ → List ℕ → Said
said_input room [] = End
said_input room (byte ∷ input) = Bytes (take room (byte ∷ input))

-- what a channel says next: channel 0 of the input, a link of its script
abbrev pub said_by : ℕ → ℕ → List ℕ → List Channel → Said
said_by channel room input channels =
    if channel == 0 then said_input room input else said_next room (script_of channels channel)

-- that much of the input, or of the script, is over
abbrev pub input_after : ℕ → ℕ → List ℕ → List ℕ
input_after channel room input = if channel == 0 then drop room input else input

abbrev pub channels_after : ℕ → ℕ → List Channel → List Channel
channels_after channel room channels =
    if channel == 0 then channels else at_channel channel (next_script room) channels

abbrev pub after_saying : ℕ → ℕ → World → World
after_saying channel room w = record w {
  input = input_after channel room w.input;
  channels = channels_after channel room w.channels;
}

-- bytes and an end are logged
abbrev pub steps_with : ℕ → Said → List Step → List Step
steps_with channel (Bytes bytes) done = done ++ steps.Heard channel bytes ∷ []
steps_with channel NotYet done = done
steps_with channel End done = done ++ steps.Ended channel ∷ []

-- where there is nothing yet, that is counted
abbrev pub channels_with : ℕ → Said → List Channel → List Channel
channels_with channel (Bytes bytes) channels = channels
channels_with channel NotYet channels = at_channel channel nothing_yet channels
channels_with channel End channels = channels

abbrev pub after_said : ℕ → Said → World → World
after_said channel said w = record w {
  channels = channels_with channel said w.channels;
  steps = steps_with channel said w.steps;
}

abbrev pub bytes_of : Said → List ℕ
bytes_of (Bytes bytes) = bytes
bytes_of NotYet = []
bytes_of End = []

abbrev pub answer_of : Said → HeardAnswer
answer_of (Bytes bytes) = answers.Bytes (length bytes)
answer_of NotYet = answers.NotYet
answer_of End = answers.End

-- The answer is what the channel said, and its bytes are in the front of the room.
pub record Hears (channel : ℕ) (room filled : List ℕ) (answer : HeardAnswer) (old new : World)
    : Type 0 where
  pub said : Said
  pub is_next : said ≡ said_by channel (length room) old.input old.channels
  pub answers : answer ≡ answer_of said
  pub front : filled ≡ bytes_of said ++ drop (length (bytes_of said)) room
  pub after : new ≡ after_said channel said (after_saying channel (length room) old)

-- A call of `show` takes the whole piece, and logs it.
pub record Shows (channel : ℕ) (bytes : List ℕ) (answer : ShownAnswer) (old new : World)
    : Type 0 where
  pub whole : answer ≡ Took (length bytes)
  pub after : new ≡ after_step (steps.Showed channel bytes) old

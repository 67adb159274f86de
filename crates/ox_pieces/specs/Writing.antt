-- What is written of a piece: a record, or a whole file in place of the current one.
use Rattle.std.specs.Prelude.{◌≡◌, ◌⊎◌, ◌<◌, ℕ, List, [], length, Option, Some, None, Ok}
use Rattle.ox_outside.specs.Files.{Files}
use Rattle.ox_gated.specs.Layout.{Whole}
use Rattle.ox_gated.specs.Tail.{Fits, IsFramedBehind, Kept}
use Rattle.ox_gated.specs.declared.head.Head.{Head}
use Rattle.ox_sat.specs.Profiles.{name_at, profile_named}
use Rattle.ox_model.specs.Stack.{Stack}
use Rattle.ox_files.specs.Body.{stack_in_body}
use Rattle.ox_files.specs.Payload.{payload_step}
use Rattle.ox_files.specs.Stands.{stack_in_file}
use Rattle.ox_follow.specs.Position.{next_place, start_of}
use Rattle.ox_follow.specs.World.{Stood}
use Rattle.ox_follow.specs.declared.frame.Position.{Position}
use Rattle.ox_pieces.specs.Follower.{position_of}
use Rattle.ox_pieces.specs.Stood.{stood_in}
use Rattle.ox_pieces.specs.declared.writing.Writing.{Writing}
use Rattle.ox_pieces.specs.declared.writing.Writing.TheVariants.{Append, Turn}

-- a later file of the same store
pub record IsLater (old new : Head) : Type 0 where
  pub greater : old.generation < new.generation
  pub same : new ≡ record old { generation = new.generation }

-- It can be written behind this tail: the record is spelled for it and fits, however many there
-- are, or the file is of a greater generation.
abbrev pub CanFollow : Kept → Writing → Type 0
CanFollow tail (Append framed) = IsFramedBehind tail framed × Fits tail (length framed.payload)
CanFollow tail (Turn whole) = IsLater tail.head whole.head

-- where files with this tail stand then
abbrev pub position_behind : Kept → Writing → Position
position_behind tail (Append framed) = next_place (position_of tail)
position_behind tail (Turn whole) = start_of whole.head.generation

-- and that they stand for this stack
abbrev pub stood_behind : Kept → Stack → Writing → Stood Stack
stood_behind tail stack writing = record { at = position_behind tail writing; state = stack }

-- It leads from one stack to another: the payload does, or the file stands for the latter.
abbrev pub LeadsTo : Stack → Stack → Writing → Type 0
LeadsTo before after (Append framed) = payload_step before framed.payload ≡ Some after
LeadsTo before after (Turn whole) = stack_in_file whole.head whole.body [] ≡ Ok after

-- the files stand where they stood, or where they stand once it is written
abbrev pub StandsEither : Stood Stack → Stood Stack → Files → Type 0
StandsEither before after files = (stood_in files ≡ Some before) ⊎ (stood_in files ≡ Some after)

-- ---- a file that is made

-- what a body stands for under a head
abbrev pub stack_under : Head → List ℕ → Option Stack
stack_under head = stack_in_body (profile_named (name_at head.profile)) head.depth

-- this is what a body stands for under a head, and the file of the two; or it stands for nothing
abbrev pub IsFileOf : Head → List ℕ → Option (Stack × Whole) → Type 0
IsFileOf head body None = stack_under head body ≡ None
IsFileOf head body (Some found) =
    (stack_under head body ≡ Some found.0) × (found.1 ≡ record { head = head; body = body })

-- What a leader keeps of a current file, and what it hands out.
use Rattle.std.specs.Prelude.{◌≡◌, ◌<◌, ◌^◌, ℕ, List, length, All, IsTrue, Result, Ok, Err}
use Rattle.ox_gated.specs.Layout.{is_lawful}
use Rattle.ox_gated.specs.declared.head.Head.{Head}
use Rattle.ox_gated.specs.declared.records.Record.{Record}
use Rattle.ox_sat.specs.Profiles.{name_at, profile_named}
use Rattle.ox_model.specs.Machine.{empty_machine, stack_of}
use Rattle.ox_model.specs.Stack.{Stack}
use Rattle.ox_files.specs.Stands.{stack_in_file}
use Rattle.ox_follow.specs.World.{Leader}
use Rattle.ox_pieces.specs.Stood.{leader_of}

-- the stack, or one without a block where there is none
abbrev pub stack_or_empty : Head → Result Stack ℕ → Stack
stack_or_empty head (Ok stack) = stack
stack_or_empty head (Err place) =
    stack_of (empty_machine (profile_named (name_at head.profile)) head.depth)

-- what a current file of this head, body and records hands out
abbrev pub pieces_of : Head → List ℕ → List Record → Leader Stack
pieces_of head body records =
    leader_of head body records (stack_or_empty head (stack_in_file head body records))

-- It stands for a stack, and each piece fits a frame.
pub record CanLead (head : Head) (body : List ℕ) (records : List Record) : Type 0 where
  pub lawful : IsTrue (is_lawful head)
  pub stands : stack_in_file head body records ≡ Ok (pieces_of head body records).state
  pub body_fits : length body < 2 ^ 32
  pub each_fits : All (λ one. length one.payload < 2 ^ 32) records

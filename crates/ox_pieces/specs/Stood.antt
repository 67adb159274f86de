-- What two files of version 2 hand out, where a store stands that has them, and the rules by which
-- it goes on.
use Rattle.std.specs.Prelude.{ℕ, List, map, Option, None, Result, Ok, Err}
use Rattle.std.specs.Option.{option_map}
use Rattle.std.specs.Result.{result_ok}
use Rattle.ox_outside.specs.Files.{Files}
use Rattle.ox_gated.specs.Reading.{Found, Fault, is_led, reading}
use Rattle.ox_gated.specs.declared.head.Head.{Head}
use Rattle.ox_gated.specs.declared.records.Record.{Record}
use Rattle.ox_model.specs.Stack.{Stack}
use Rattle.ox_files.specs.Body.{stack_in_body}
use Rattle.ox_files.specs.Payload.{payload_step}
use Rattle.ox_files.specs.Stands.{Misfit, stack_in, stack_in_file}
use Rattle.ox_follow.specs.World.{Leader, Rules, Stood, stood}

-- ---- files

-- what is read of two files: a current one of another version is at fault there
abbrev pub led_reading : Files → Result Found Fault
led_reading files = reading is_led files

-- the stack that they stand for, or the file and the place of the first test that fails
abbrev pub led_stands : Files → Result Stack Misfit
led_stands files = stack_in (led_reading files)

abbrev pub payloads_of : List Record → List (List ℕ)
payloads_of records = map (λ one. one.payload) records

-- a current file of this head, body and records, which stand for this stack
abbrev pub leader_of : Head → List ℕ → List Record → Stack → Leader Stack
leader_of head body records stack = record {
  generation = head.generation;
  body = body;
  payloads = payloads_of records;
  state = stack;
}

abbrev pub leader_by : Result Found Fault → Option (Leader Stack)
leader_by (Err fault) = None
leader_by (Ok found) =
    option_map (leader_of found.head found.body found.records)
    (result_ok (stack_in_file found.head found.body found.records))

-- the current file of two, if they stand for a stack
abbrev pub leader_in : Files → Option (Leader Stack)
leader_in files = leader_by (led_reading files)

-- where a store with these files stands, and what they stand for
abbrev pub stood_in : Files → Option (Stood Stack)
stood_in files = option_map stood (leader_in files)

-- ---- rules

-- by which a store of this stack's profile and depth goes on: those of records and bodies
abbrev pub rules_of : Stack → Rules Stack
rules_of stack = record {
  leads = λ payload before. payload_step before payload;
  spells = stack_in_body stack.profile stack.depth;
  profile = stack.profile.byte;
  depth = stack.depth;
}

-- What the payload of a record makes of a stack: 01 and a change of the newest index, 00 where the
-- newest block is taken back.
use Rattle.std.specs.Prelude.{ℕ, ◌&&◌, ◌==◌, List, [], ◌∷◌, take, Option, Some, None}
use Rattle.std.specs.Prelude.{if◌then◌else◌}
use Rattle.std.specs.Result.{result_ok}
use Rattle.ox_model.specs.Change.{redone}
use Rattle.ox_model.specs.Stack.{Stack, back_to}
use Rattle.ox_model.specs.declared.change.Change.{Change}
use Rattle.ox_plain.specs.Ends.{begins_in}
use Rattle.ox_rows.specs.RowReading.{change_at}
use Rattle.ox_sound.specs.Sound.{sound}
use Rattle.ox_files.specs.Body.{whole}

-- with the index after a change in front, of the older ones at most depth many are kept
abbrev pub with_change : Stack → Change → Stack
with_change stack change = record stack {
  index = redone stack.index change;
  older = take stack.depth (stack.index ∷ stack.older);
}

-- the stack after a change that begins in its newest index and leaves a sound one
abbrev pub stack_by_change : Stack → Option Change → Option Stack
stack_by_change stack None = None
stack_by_change stack (Some change) =
    if begins_in stack.index change && sound stack.profile (redone stack.index change)
    then Some (with_change stack change) else None

-- the stack without its newest block, where nothing stands behind the byte
abbrev pub stack_back : Stack → List ℕ → Option Stack
stack_back stack [] = result_ok (back_to stack stack.older)
stack_back stack (b ∷ rest) = None

-- the stack after a payload, if it is accepted
abbrev pub payload_step : Stack → List ℕ → Option Stack
payload_step stack [] = None
payload_step stack (kind ∷ rest) =
    if kind == 1 then stack_by_change stack (whole (change_at rest))
    else if kind == 0 then stack_back stack rest
    else None

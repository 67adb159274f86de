-- What holds of every allocation.
use Rattle.std.specs.Prelude.{◌≡◌, ℕ, ◌+◌, ◌<◌, ◌≤◌, true, List, [], length, sum, Option, Some}
use Rattle.std.specs.Prelude.{slice_get, slice_index}
use Rattle.std.specs.List.{sum_by}
use Rattle.std.specs.Option.{ForSome}
use Rattle.ox_block.specs.declared.block.TxOut.{TxOut}
use Rattle.ox_runestone.specs.declared.stone.RuneId.{RuneId}
use Rattle.ox_runestone.specs.declared.stone.Edict.{Edict}
use Rattle.ox_script.specs.Shape.{is_return}
use Rattle.ox_allocation.specs.Allocation.{Allocation, allocation_of}
use Rattle.ox_allocation.specs.Balances.{AreBalances, Balance, amount_in}
use Rattle.ox_allocation.specs.Gifts.{parts_of}

-- how much of a rune all outputs get
abbrev pub amount_of_all : Allocation → RuneId → ℕ
amount_of_all allocation id = sum_by (λ balances. amount_in balances id) allocation.given

-- of each rune, all that is given and burned is what there was
abbrev pub NothingIsLostOrMade : Type 0
NothingIsLostOrMade =
    (pool : List Balance) (edicts : List Edict) (etched : Option RuneId) (pointer : Option ℕ)
    (outputs : List TxOut) (id : RuneId) → AreBalances pool
    → ForSome pointer (λ place. place < length outputs)
    → let allocation = allocation_of pool edicts etched pointer outputs in
    amount_of_all allocation id + amount_in allocation.burned id ≡ amount_in pool id

-- The parts of a split: one for each, together all that there was, none larger than one before it,
-- and none smaller by more than one.
pub record IsEvenSplit (left count : ℕ) (parts : List ℕ) : Type 0 where
  pub one_each : length parts ≡ count
  pub whole : sum parts ≡ left
  pub larger_in_front : (i j : ℕ) → i ≤ j → j < count → slice_index parts j ≤ slice_index parts i
  pub nearly_equal : (i j : ℕ) → i ≤ j → j < count → slice_index parts i ≤ slice_index parts j + 1

-- the parts of an edict to all outputs with amount 0
abbrev pub SplitsAreEven : Type 0
SplitsAreEven = (left count : ℕ) → 0 < count → IsEvenSplit left count (parts_of 0 left count)

-- an output with OP_RETURN gets nothing
abbrev pub ReturnsGetNothing : Type 0
ReturnsGetNothing =
    (pool : List Balance) (edicts : List Edict) (etched : Option RuneId) (pointer : Option ℕ)
    (outputs : List TxOut) (place : ℕ) (output : TxOut)
    → slice_get outputs place ≡ Some output → is_return output.script ≡ true
    → slice_get (allocation_of pool edicts etched pointer outputs).given place ≡ Some []

-- What each edict gives, said one by one (Runes specification, "Edicts").
use Rattle.std.specs.Prelude.{◌≡◌, ◌<◌, ◌≤◌, ◌*◌, ℕ, min, List, [], ◌∷◌, ◌++◌, length, Option}
use Rattle.std.specs.Prelude.{Some, slice_get, ◌==◌, if◌then◌else◌}
use Rattle.std.specs.List.{AllByRecursion, sum_by}
use Rattle.ox_block.specs.declared.block.TxOut.{TxOut}
use Rattle.ox_runestone.specs.declared.stone.RuneId.{RuneId}
use Rattle.ox_runestone.specs.declared.stone.Edict.{Edict}
use Rattle.ox_script.specs.Shape.{is_return}
use Rattle.ox_allocation.specs.Allocation.{amount_at}
use Rattle.ox_allocation.specs.Gifts.{Left, given_by, holders, left_after, rune_of}

-- what an edict of an amount gives where so much is left: with amount 0 all of it, else so much or
-- what is left
abbrev pub asked_of : ℕ → ℕ → ℕ
asked_of amount left = if amount == 0 then left else min amount left

pub record EdictsGive : Type 0 where
  -- an edict that names an output gives it so much of what is left, and nobody else anything
  pub one : (outputs : List TxOut) (etched : Option RuneId) (edict : Edict) (id : RuneId)
      (left : Left) → rune_of etched edict.id ≡ Some id → edict.output < length outputs
      → given_by outputs etched (edict ∷ []) left
      ≡ record { output = edict.output; id = id; amount = asked_of edict.amount (left id) } ∷ []
  -- later edicts give of what the first ones left
  pub more : (outputs : List TxOut) (etched : Option RuneId) (first more : List Edict)
      (left : Left)
      → given_by outputs etched (first ++ more) left
      ≡ given_by outputs etched first left
      ++ given_by outputs etched more (left_after (given_by outputs etched first left) left)

-- an edict that gives so much of a rune to all outputs
pub record IsToAll (outputs : List TxOut) (etched : Option RuneId) (id : RuneId) (edict : Edict)
    : Type 0 where
  pub names : rune_of etched edict.id ≡ Some id
  pub all : length outputs ≤ edict.output
  pub some : 0 < edict.amount

-- where there is enough of a rune for all, edicts to all outputs give each the sum of what they
-- say, and one with OP_RETURN nothing
abbrev pub EdictsToAllAddUp : Type 0
EdictsToAllAddUp =
    (outputs : List TxOut) (etched : Option RuneId) (id : RuneId) (edicts : List Edict)
    (left : Left) (place : ℕ) (output : TxOut)
    → AllByRecursion (λ edict. IsToAll outputs etched id edict) edicts
    → length (holders outputs) * sum_by (λ edict. edict.amount) edicts ≤ left id
    → slice_get outputs place ≡ Some output
    → amount_at place (given_by outputs etched edicts left) id
    ≡ (if is_return output.script then 0 else sum_by (λ edict. edict.amount) edicts)

-- What edicts give to outputs (Runes specification, "Edicts" and "Unallocated Runes").
use Rattle.std.specs.Prelude.{ℕ, zero, suc, ◌+◌, ◌-◌, ◌/◌, ◌%◌, min, List, [], ◌∷◌, ◌++◌, length}
use Rattle.std.specs.Prelude.{map, slice_get, Option, Some, None, ◌==◌, ◌&&◌, nat_lt}
use Rattle.std.specs.Prelude.{if◌then◌else◌}
use Rattle.ox_block.specs.declared.block.TxOut.{TxOut}
use Rattle.ox_runestone.specs.declared.stone.RuneId.{RuneId}
use Rattle.ox_runestone.specs.declared.stone.Edict.{Edict}
use Rattle.ox_script.specs.Shape.{is_return}
use Rattle.ox_allocation.specs.Balances.{is_same}

-- so much of a rune for the output at a place
pub record Gift : Type 0 where
  pub output : ℕ
  pub id : RuneId
  pub amount : ℕ

-- the places of the outputs that can hold runes, which those that begin with OP_RETURN can't,
-- counted on from a place
unfoldable pub holders_from : ℕ → List TxOut → List ℕ
holders_from place [] = []
holders_from place (output ∷ outputs) =
    if is_return output.script
    then holders_from (place + 1) outputs else (place ∷ holders_from (place + 1) outputs)

-- the places of the outputs that can hold runes
abbrev pub holders : List TxOut → List ℕ
holders outputs = holders_from 0 outputs

-- the parts of a sum dealt evenly: each gets the same share, and the first ones, so many, one more
unfoldable pub even_parts : ℕ → ℕ → ℕ → List ℕ
even_parts share extra zero = []
even_parts share zero (suc n) = share ∷ even_parts share zero n
even_parts share (suc extra) (suc n) = (share + 1) ∷ even_parts share extra n

-- the parts of a sum dealt in order, so much to each while it lasts
unfoldable pub parts_while : ℕ → ℕ → ℕ → List ℕ
parts_while amount left zero = []
parts_while amount left (suc n) = min amount left ∷ parts_while amount (left - amount) n

-- The parts that so many outputs get of what is left of a rune: with amount 0 all of it evenly,
-- else so much each.
abbrev pub parts_of : ℕ → ℕ → ℕ → List ℕ
parts_of amount left zero = []
parts_of amount left (suc n) =
    if amount == 0
    then even_parts (left / suc n) (left % suc n) (suc n) else parts_while amount left (suc n)

-- a part of a rune for each of these outputs
abbrev pub gifts_to : RuneId → List ℕ → List ℕ → List Gift
gifts_to id (place ∷ places) (part ∷ parts) =
    record { output = place; id = id; amount = part } ∷ gifts_to id places parts
gifts_to id _ _ = []

-- what an edict gives of a rune to all outputs that can hold runes
abbrev pub gifts_of_all : List TxOut → RuneId → ℕ → ℕ → List Gift
gifts_of_all outputs id amount left =
    gifts_to id (holders outputs) (parts_of amount left (length (holders outputs)))

-- what an edict gives of a rune: to the output that it names, with amount 0 all that is left, else
-- so much or what is left; or, where it names the number of outputs, to all outputs that can hold
-- runes
abbrev pub gifts_of : List TxOut → RuneId → ℕ → ℕ → ℕ → List Gift
gifts_of outputs id amount output left =
    if nat_lt output (length outputs) then gifts_to id (output ∷ []) (parts_of amount left 1)
    else gifts_of_all outputs id amount left

-- the rune that an edict names: 0:0 is the one that is etched here, if any
abbrev pub rune_of : Option RuneId → RuneId → Option RuneId
rune_of etched id = if id.block == 0 && id.tx == 0 then etched else Some id

-- how much some gifts give of a rune
unfoldable pub amount_given : RuneId → List Gift → ℕ
amount_given id [] = 0
amount_given id (gift ∷ gifts) =
    if is_same gift.id id then gift.amount + amount_given id gifts else amount_given id gifts

-- how much of each rune is unallocated
abbrev pub Left : Type 0
Left = RuneId → ℕ

-- what is left once this was given
abbrev pub left_after : List Gift → Left → Left
left_after gifts left id = left id - amount_given id gifts

-- what an edict gives of its rune, if it has one
abbrev pub gifts_by : List TxOut → Edict → Left → Option RuneId → List Gift
gifts_by outputs edict left None = []
gifts_by outputs edict left (Some id) = gifts_of outputs id edict.amount edict.output (left id)

-- what edicts give in order, each of what those before it left
unfoldable pub given_by : List TxOut → Option RuneId → List Edict → Left → List Gift
given_by outputs etched [] left = []
given_by outputs etched (edict ∷ edicts) left =
    let gifts = gifts_by outputs edict left (rune_of etched edict.id) in
    gifts ++ given_by outputs etched edicts (left_after gifts left)

-- the output that gets what the edicts leave: the pointer's, else the first that can hold runes
abbrev pub heir : List TxOut → Option ℕ → Option ℕ
heir outputs (Some pointer) = Some pointer
heir outputs None = slice_get (holders outputs) 0

-- what is left of these runes for that output, if there is one
abbrev pub rest_to : Option ℕ → List RuneId → Left → List Gift
rest_to None ids left = []
rest_to (Some place) ids left = map (λ id. record { output = place; id = id; amount = left id }) ids

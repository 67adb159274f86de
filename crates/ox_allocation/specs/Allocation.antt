-- The runes of a transaction's inputs, mint and etching, dealt to its outputs (Runes specification,
-- "Transferring").
use Rattle.std.specs.Prelude.{ℕ, ◌+◌, List, [], ◌∷◌, ◌++◌, Option, ◌==◌, ◌&&◌}
use Rattle.std.specs.Prelude.{if◌then◌else◌}
use Rattle.ox_block.specs.declared.block.TxOut.{TxOut}
use Rattle.ox_runestone.specs.declared.stone.RuneId.{RuneId}
use Rattle.ox_runestone.specs.declared.stone.Edict.{Edict}
use Rattle.ox_script.specs.Shape.{is_return}
use Rattle.ox_allocation.specs.Balances.{Balance, amount_in, balances_by, ids_of, is_same}
use Rattle.ox_allocation.specs.Gifts.{Gift, given_by, heir, left_after, rest_to}

-- all that is given of a pool: by the edicts, and then what they leave
abbrev pub gifts_from : List Balance → List Edict → Option RuneId → Option ℕ → List TxOut
    → List Gift
gifts_from pool edicts etched pointer outputs =
    let given = given_by outputs etched edicts (amount_in pool) in
    given ++ rest_to (heir outputs pointer) (ids_of pool) (left_after given (amount_in pool))

-- how much of a rune some gifts give to the output at a place
unfoldable pub amount_at : ℕ → List Gift → RuneId → ℕ
amount_at place [] id = 0
amount_at place (gift ∷ gifts) id =
    if gift.output == place
    && is_same gift.id id
    then gift.amount + amount_at place gifts id else amount_at place gifts id

-- the balances of each output by what it is given, the first of them at this place; of one with
-- OP_RETURN none
unfoldable pub balances_from : ℕ → List RuneId → List Gift → List TxOut → List (List Balance)
balances_from place ids gifts [] = []
balances_from place ids gifts (output ∷ outputs) =
    (if is_return output.script then [] else balances_by (amount_at place gifts) ids)
    ∷ balances_from (place + 1) ids gifts outputs

-- what is given to outputs with OP_RETURN, the first of all outputs at this place
unfoldable pub amount_in_returns : ℕ → List TxOut → List Gift → RuneId → ℕ
amount_in_returns place [] gifts id = 0
amount_in_returns place (output ∷ outputs) gifts id =
    (if is_return output.script then amount_at place gifts id else 0) + amount_in_returns
    (place + 1) outputs gifts id

-- how much of a rune is burned: what outputs with OP_RETURN are given, and what nobody is given
abbrev pub amount_burned : List Balance → List TxOut → List Gift → RuneId → ℕ
amount_burned pool outputs gifts id =
    amount_in_returns 0 outputs gifts id + left_after gifts (amount_in pool) id

-- the balances of each output, and what is burned
pub record Allocation : Type 0 where
  pub given : List (List Balance)
  pub burned : List Balance

-- a pool dealt by edicts and a pointer
abbrev pub allocation_of : List Balance → List Edict → Option RuneId → Option ℕ → List TxOut
    → Allocation
allocation_of pool edicts etched pointer outputs =
    let gifts = gifts_from pool edicts etched pointer outputs in record {
      given = balances_from 0 (ids_of pool) gifts outputs;
      burned = balances_by (amount_burned pool outputs gifts) (ids_of pool);
    }

-- Gifts put into the hands of outputs one after the other, as the code does. What they come to is
-- said by `Allocation`.
use Rattle.std.specs.Prelude.{◌≡◌, ℕ, ◌+◌, ◌-◌, ◌^◌, ◌<◌, Bool, false, List, [], ◌∷◌, ◌++◌, map}
use Rattle.std.specs.Prelude.{length}
use Rattle.std.specs.Prelude.{Option, Some, None, slice_get, slice_index_or, slice_set, replicate}
use Rattle.std.specs.Prelude.{if◌then◌else◌}
use Rattle.ox_block.specs.declared.block.TxOut.{TxOut}
use Rattle.ox_runestone.specs.declared.stone.RuneId.{RuneId}
use Rattle.ox_script.specs.Shape.{is_return}
use Rattle.ox_allocation.specs.declared.parts.Parts.{Parts}
use Rattle.ox_allocation.specs.declared.parts.Parts.TheVariants.{Even, Each}
use Rattle.ox_allocation.specs.Allocation.{Allocation}
use Rattle.ox_allocation.specs.Balances.{AreBalances, Balance, amount_in, ids_of, is_same}
use Rattle.ox_allocation.specs.Balances.{with_more}
use Rattle.ox_allocation.specs.Gifts.{Gift, Left, amount_given, even_parts, holders, left_after}
use Rattle.ox_allocation.specs.Gifts.{parts_while}

-- balances of which each amount is below 2 ^ 128
pub record IsPool (balances : List Balance) : Type 0 where
  pub lawful : AreBalances balances
  pub small : (id : RuneId) → amount_in balances id < 2 ^ 128

-- so many parts, from the next one on
abbrev pub next_parts : Parts → ℕ → List ℕ
next_parts (Even share extra) count = even_parts share extra count
next_parts (Each amount left) count = parts_while amount left count

-- there is an output, and it has OP_RETURN
abbrev pub burns : Option TxOut → Bool
burns None = false
burns (Some output) = is_return output.script

-- what the output at a place has
abbrev pub hand : Allocation → ℕ → List Balance
hand hands place = slice_index_or hands.given place []

-- nothing given to so many outputs
abbrev pub empty_hands : ℕ → Allocation
empty_hands count = record { given = replicate count []; burned = [] }

-- a gift put into the hand of its output, or burned where that has OP_RETURN
unfoldable pub with_gift : List TxOut → Allocation → Gift → Allocation
with_gift outputs hands gift =
    if burns (slice_get outputs gift.output)
    then record hands { burned = with_more hands.burned gift.id gift.amount }
    else record hands {
      given = slice_set hands.given gift.output
          (with_more (hand hands gift.output) gift.id gift.amount);
    }

-- gifts put into hands in order
unfoldable pub with_gifts : List TxOut → Allocation → List Gift → Allocation
with_gifts outputs hands [] = hands
with_gifts outputs hands (gift ∷ gifts) = with_gifts outputs (with_gift outputs hands gift) gifts

-- balances as gifts to the output at a place
abbrev pub gifts_for : ℕ → List Balance → List Gift
gifts_for place balances =
    map (λ balance. record { output = place; id = balance.0; amount = balance.1 }) balances

-- so much of a rune for each of these outputs
abbrev pub same_to : RuneId → ℕ → List ℕ → List Gift
same_to id amount places =
    map (λ place. record { output = place; id = id; amount = amount }) places

-- what each of these outputs is owed, as gifts
unfoldable pub owed_to : List ℕ → List Balance → List Gift
owed_to places [] = []
owed_to places (balance ∷ owed) = same_to balance.0 balance.1 places ++ owed_to places owed

-- balances with others added
unfoldable pub with_all : List Balance → List Balance → List Balance
with_all balances [] = balances
with_all balances (balance ∷ more) = with_all (with_more balances balance.0 balance.1) more

-- what is left for an heir put into the hand of its output, or burned where there is no heir
abbrev pub with_rest : List TxOut → Allocation → Option ℕ → List Balance → Allocation
with_rest outputs hands (Some place) left = with_gifts outputs hands (gifts_for place left)
with_rest outputs hands None left = record hands { burned = with_all hands.burned left }

-- all of a pool in the hand of an heir's output, or burned where it has OP_RETURN or there is none
abbrev pub whole_of : List TxOut → Option ℕ → List Balance → Allocation
whole_of outputs None pool = record { given = replicate (length outputs) []; burned = pool }
whole_of outputs (Some place) pool =
    if burns (slice_get outputs place)
    then record { given = replicate (length outputs) []; burned = pool }
    else record { given = slice_set (replicate (length outputs) []) place pool; burned = [] }

-- what is left of each rune without so much of one
abbrev pub less : List Balance → RuneId → ℕ → Left
less left id amount other =
    if is_same id other then amount_in left other - amount else amount_in left other

-- what is in the hands and what is left are amounts together
pub record Fits (left : Left) (hands : Allocation) : Type 0 where
  pub given : (place : ℕ) (id : RuneId) → amount_in (hand hands place) id + left id < 2 ^ 128
  pub burned : (id : RuneId) → amount_in hands.burned id + left id < 2 ^ 128

-- hands hold balances
pub record AreHands (hands : Allocation) : Type 0 where
  pub given : (place : ℕ) → AreBalances (hand hands place)
  pub burned : AreBalances hands.burned

-- what is left of each rune, and what is owed of it
abbrev pub with_owed : Left → List Gift → Left
with_owed left owed id = left id + amount_given id owed

-- outputs, and what they have been given
pub record Held : Type 0 where
  pub outputs : List TxOut
  pub hands : Allocation

-- outputs, what is left of a pool, and what they have been given of it
pub record Stage : Type 0 where
  pub outputs : List TxOut
  pub left : List Balance
  pub hands : Allocation

-- what is left and owed fits with what was given, these are the places of outputs that can hold
-- runes, and what is held and owed are balances
pub record IsDealt (left : Left) (held : Held) (places : List ℕ) (owed : List Balance) : Type 0
  where
    pub fits : Fits (with_owed left (owed_to places owed)) held.hands
    pub can_hold : places ≡ holders held.outputs
    pub counted : length held.hands.given ≡ length held.outputs
    pub lawful : AreHands held.hands
    pub owed_lawful : AreBalances owed

-- gifts are given of what is left
pub record Gives (old new : Stage) (gifts : List Gift) : Type 0 where
  pub outputs : new.outputs ≡ old.outputs
  pub hands : new.hands ≡ with_gifts old.outputs old.hands gifts
  pub left : amount_in new.left ≡ left_after gifts (amount_in old.left)
  pub ids : ids_of new.left ≡ ids_of old.left

-- Runes and what outputs hold of them, by tests.
use Rattle.std.specs.Prelude.{◌+◌, ◌*◌, ◌^◌, Bool, true, ◌&&◌, ◌||◌, List, [], ◌∷◌, length}
use Rattle.std.specs.Prelude.{◌==◌, nat_lt, nat_le, count_by, is_some}
use Rattle.std.specs.List.{list_all}
use Rattle.std.specs.FinMap.{entries, get, values}
use Rattle.std.specs.Ordering.{is_lt}
use Rattle.ox_name.specs.Unlock.{first_reserved, reserved_name}
use Rattle.ox_runestone.specs.declared.stone.RuneId.{RuneId}
use Rattle.ox_rules.specs.Outputs.{Outputs}
use Rattle.ox_allocation.specs.Balances.{Balance, id_cmp, is_same}
use Rattle.ox_etching.specs.declared.row.RuneRow.{RuneRow}
use Rattle.ox_ledger.specs.Balanced.{amount_held, amount_per_mint, cap_in, made_of}
use Rattle.ox_ledger.specs.Runes.{BalanceMap, Placement, by_id}

-- no two runes have one id: each has its own alone
unfoldable pub ids_differ : List RuneRow → Bool
ids_differ runes =
    list_all (λ (row : RuneRow). count_by (λ (other : RuneRow). is_same other.id row.id) runes == 1)
    runes

-- no two runes have one name
unfoldable pub names_differ : List RuneRow → Bool
names_differ runes =
    list_all (λ (row : RuneRow). count_by (λ (other : RuneRow). other.name == row.name) runes == 1)
    runes

-- a name that is reserved is that of the etching's place
abbrev pub has_right_name : RuneRow → Bool
has_right_name row =
    nat_lt row.name first_reserved || (row.name == reserved_name row.id.block row.id.tx)

-- its supply is below 2 ^ 128, and it isn't minted beyond its cap
abbrev pub has_right_supply : RuneRow → Bool
has_right_supply row =
    nat_lt (row.premine + cap_in row.terms * amount_per_mint row.terms) (2 ^ 128)
    && nat_le row.mints (cap_in row.terms)

-- the place of its transaction, its divisibility and its spacers are within their bounds
abbrev pub has_small_numbers : RuneRow → Bool
has_small_numbers row =
    nat_lt row.id.tx (2 ^ 32) && nat_le row.divisibility 38 && nat_lt row.spacers (2 ^ 27)

-- the numbers of the rune are within their bounds
unfoldable pub is_bounded : RuneRow → Bool
is_bounded row = has_small_numbers row && has_right_name row && has_right_supply row

-- each rune is below the next
unfoldable pub rise : List Balance → Bool
rise [] = true
rise (balance ∷ []) = true
rise (balance ∷ next ∷ balances) =
    is_lt (id_cmp balance.0 next.0) && rise (next ∷ balances)

-- it is of a rune that is known, and not 0
abbrev pub is_amount : (RuneId → Bool) → Balance → Bool
is_amount known balance = nat_lt 0 balance.1 && known balance.0

-- these are balances of runes that are known, one at least
abbrev pub are_amounts : (RuneId → Bool) → List Balance → Bool
are_amounts known balances =
    nat_lt 0 (length balances) && rise balances && list_all (is_amount known) balances

-- these are balances of runes that are there
unfoldable pub are_known : List RuneRow → List Balance → Bool
are_known runes balances = are_amounts (λ id. is_some (by_id runes id)) balances

-- an unspent output holds them
abbrev pub is_held : List RuneRow → Outputs → Placement → Bool
is_held runes outs held = is_some (get outs held.0) && are_known runes held.1

unfoldable pub are_held : List RuneRow → Outputs → BalanceMap → Bool
are_held runes outs bal = list_all (is_held runes outs) (entries bal)

-- what outputs hold of each rune and what was burned is what its etching and its mints gave
unfoldable pub are_settled : List RuneRow → BalanceMap → Bool
are_settled runes bal =
    list_all (λ (row : RuneRow). amount_held (values bal) row.id + row.burned == made_of row) runes

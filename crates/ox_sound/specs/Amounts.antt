-- Sums by runes' ids, as they are kept.
use Rattle.std.specs.Prelude.{◌≡◌, ℕ, ◌+◌, ◌^◌, Bool, List, Option, Some, None, is_some, sum_by}
use Rattle.std.specs.Prelude.{nat_lt, if◌then◌else◌, unwrap_or}
use Rattle.std.specs.BTreeMap.{BTreeMap, get}
use Rattle.std.specs.FinMap.{from_entries}
use Rattle.std.specs.Option.{option_map}
use Rattle.ox_block.specs.declared.block.OutPoint.{OutPoint}
use Rattle.ox_runestone.specs.declared.stone.RuneId.{RuneId}
use Rattle.ox_allocation.specs.Balances.{Balance, id_cmp, is_same}
use Rattle.ox_etching.specs.declared.row.RuneRow.{RuneRow}
use Rattle.ox_rules.specs.Outputs.{Outputs}
use Rattle.ox_rules.specs.declared.rows.OutRow.{OutRow}
use Rattle.ox_ledger.specs.Runes.{BalanceMap, by_id}

-- a number, where it is of 128 bits
abbrev pub as_amount : ℕ → Option ℕ
as_amount n = if nat_lt n (2 ^ 128) then Some n else None

-- how much of a rune some balances are together
abbrev pub sum_of : List Balance → RuneId → ℕ
sum_of balances id =
    sum_by (λ (balance : Balance). if is_same balance.0 id then balance.1 else 0) balances

-- how much of a rune several lists of balances are together
abbrev pub sum_held : List (List Balance) → RuneId → ℕ
sum_held all id = sum_by (λ balances. sum_of balances id) all

-- what was burned of a rune that is there
abbrev pub burned_in : List RuneRow → RuneId → Option ℕ
burned_in runes id = option_map (λ (row : RuneRow). row.burned) (by_id runes id)

-- Kept at the id of each rune that is there is what was there before and what is held now,
-- together.
pub record AreAmounts (amounts : BTreeMap RuneId (Option ℕ)) (there : RuneId → Option ℕ)
    (held : RuneId → ℕ) : Type 0 where
  pub at : (id : RuneId) → get id_cmp amounts id
      ≡ option_map (λ n. as_amount (n + held id)) (there id)

-- something is kept at an id
abbrev pub is_among : BTreeMap RuneId (Option ℕ) → RuneId → Bool
is_among amounts id = is_some (get id_cmp amounts id)

-- how much of a rune a table of sums has
abbrev pub amount_at : BTreeMap RuneId ℕ → RuneId → ℕ
amount_at sums id = unwrap_or (get id_cmp sums id) 0

-- tables as finite maps
abbrev pub outputs_in : BTreeMap OutPoint OutRow → Outputs
outputs_in outs = from_entries outs.entries

abbrev pub balances_in : BTreeMap OutPoint (List Balance) → BalanceMap
balances_in bal = from_entries bal.entries

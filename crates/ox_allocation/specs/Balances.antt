-- Amounts of runes, as an output holds them: ids rise, and no amount is 0.
use Rattle.std.specs.Prelude.{ℕ, ◌+◌, ◌<◌, List, [], ◌∷◌, Bool, All, unwrap_or, ◌==◌}
use Rattle.std.specs.Prelude.{if◌then◌else◌}
use Rattle.std.specs.BTreeMap.{insert_entry, is_at}
use Rattle.std.specs.List.Sorted.{IsStrictlySortedBy}
use Rattle.std.specs.Map.{keys_of, lookup, values_of}
use Rattle.std.specs.Ordering.{is_eq, nat_cmp, ordering_then}
use Rattle.std.specs.declared.cmp.Ordering.{Ordering}
use Rattle.ox_runestone.specs.declared.stone.RuneId.{RuneId}

-- a rune and so much of it
abbrev pub Balance : Type 0
Balance = RuneId × ℕ

-- ids by the height of the block, then by the place of the transaction
abbrev pub id_cmp : RuneId → RuneId → Ordering
id_cmp a b = ordering_then (nat_cmp a.block b.block) (nat_cmp a.tx b.tx)

abbrev pub is_same : RuneId → RuneId → Bool
is_same a b = is_eq (id_cmp a b)

abbrev pub ids_of : List Balance → List RuneId
ids_of balances = keys_of balances

-- the ids rise, and no amount is 0
pub record AreBalances (balances : List Balance) : Type 0 where
  pub rising : IsStrictlySortedBy id_cmp (ids_of balances)
  pub some : All (λ amount. 0 < amount) (values_of balances)

-- how much of a rune there is
abbrev pub amount_in : List Balance → RuneId → ℕ
amount_in balances id = unwrap_or (lookup (is_at (id_cmp id)) balances) 0

-- the balances with so much more of a rune
abbrev pub with_more : List Balance → RuneId → ℕ → List Balance
with_more balances id amount =
    if amount == 0
    then balances else insert_entry id_cmp balances id (amount_in balances id + amount)

-- the balances of these runes by their amounts, without those of which there is nothing
unfoldable pub balances_by : (RuneId → ℕ) → List RuneId → List Balance
balances_by amount [] = []
balances_by amount (id ∷ ids) =
    if amount id == 0 then balances_by amount ids else ((id, amount id) ∷ balances_by amount ids)

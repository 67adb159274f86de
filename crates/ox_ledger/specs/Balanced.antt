-- What holds of the runes of a chain, and in the midst of a block with what is due to its
-- coinbase's outputs.
use Rattle.std.specs.Prelude.{◌≡◌, ◌≢◌, ℕ, ◌+◌, ◌*◌, ◌^◌, ◌<◌, ◌≤◌, List, [], All, IsSome, map}
use Rattle.std.specs.Prelude.{Option, Some, sum_by}
use Rattle.std.specs.Prelude.{slice_get, unwrap_or}
use Rattle.std.specs.FinMap.{get, values}
use Rattle.std.specs.Option.{option_map_or}
use Rattle.ox_block.specs.declared.block.OutPoint.{OutPoint}
use Rattle.ox_name.specs.Unlock.{first_reserved, reserved_name}
use Rattle.ox_runestone.specs.declared.stone.RuneId.{RuneId}
use Rattle.ox_runestone.specs.declared.stone.Terms.{Terms}
use Rattle.ox_allocation.specs.Balances.{AreBalances, Balance, amount_in}
use Rattle.ox_etching.specs.declared.row.RuneRow.{RuneRow}
use Rattle.ox_ledger.specs.Runes.{Placement, Runes, by_id}

-- how much of a rune some outputs hold together
abbrev pub amount_held : List (List Balance) → RuneId → ℕ
amount_held all id = sum_by (λ balances. amount_in balances id) all

abbrev pub cap_in : Option Terms → ℕ
cap_in terms = option_map_or (λ t. unwrap_or t.cap 0) terms 0

abbrev pub amount_per_mint : Option Terms → ℕ
amount_per_mint terms = option_map_or (λ t. unwrap_or t.amount 0) terms 0

-- what its etching and its mints gave
abbrev pub made_of : RuneRow → ℕ
made_of row = row.premine + row.mints * amount_per_mint row.terms

-- the numbers of a rune are within their bounds, and it isn't minted beyond its cap
pub record IsBounded (row : RuneRow) : Type 0 where
  -- so reserved names of different places differ
  pub place : row.id.tx < 2 ^ 32
  pub divisibility : row.divisibility ≤ 38
  pub spacers : row.spacers < 2 ^ 27
  -- a name that is reserved is that of the etching's place
  pub reserved : first_reserved ≤ row.name → row.name ≡ reserved_name row.id.block row.id.tx
  pub supply : row.premine + cap_in row.terms * amount_per_mint row.terms < 2 ^ 128
  pub mints : row.mints ≤ cap_in row.terms

-- how much of a rune there is: with outputs, due to a coinbase's, and burned
abbrev pub amount_there : Runes → RuneRow → ℕ
amount_there state row =
    amount_held (values state.bal) row.id + amount_held (map (λ new. new.1) state.due) row.id
    + row.burned

-- that is what its etching and its mints gave
abbrev pub IsSettled : Runes → RuneRow → Type 0
IsSettled state row = amount_there state row ≡ made_of row

-- these are balances of runes that are there
pub record AreKnown (runes : List RuneRow) (balances : List Balance) : Type 0 where
  pub proper : AreBalances balances
  pub known : (id : RuneId) → amount_in balances id ≢ 0 → IsSome (by_id runes id)

-- no two runes have one of these
abbrev pub AreDistinct : {A : Type 0} → (RuneRow → A) → List RuneRow → Type 0
AreDistinct of runes =
    (i j : ℕ) (a b : RuneRow) → slice_get runes i ≡ Some a → slice_get runes j ≡ Some b
    → of a ≡ of b → i ≡ j

pub record Balanced (state : Runes) : Type 0 where
  pub ids : AreDistinct (λ row. row.id) state.runes
  pub names : AreDistinct (λ row. row.name) state.runes
  pub bounded : All IsBounded state.runes
  pub held : (at : OutPoint) (balances : List Balance) → get state.bal at ≡ Some balances
      → (balances ≢ []) × AreKnown state.runes balances
  pub due : All (λ (new : Placement). AreKnown state.runes new.1) state.due
  pub settled : All (IsSettled state) state.runes

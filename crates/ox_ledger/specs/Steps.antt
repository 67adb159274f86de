-- What the steps of a turn ask for, so that no sum overflows.
use Rattle.std.specs.Prelude.{◌≡◌, ◌≢◌, ℕ, ◌+◌, ◌^◌, ◌<◌, List, [], ◌∷◌, ◌++◌, ◌==◌, All}
use Rattle.std.specs.Prelude.{Option, Some, None, if◌then◌else◌}
use Rattle.std.specs.Option.{ForSome}
use Rattle.std.specs.FinMap.{get, values}
use Rattle.ox_block.specs.declared.block.OutPoint.{OutPoint}
use Rattle.ox_block.specs.declared.block.Tx.{Tx}
use Rattle.ox_block.specs.declared.block.Txid.{Txid}
use Rattle.ox_runestone.specs.declared.stone.RuneId.{RuneId}
use Rattle.ox_rules.specs.declared.rows.OutRow.{OutRow}
use Rattle.ox_allocation.specs.Allocation.{Allocation}
use Rattle.ox_allocation.specs.Balances.{AreBalances, Balance, amount_in}
use Rattle.ox_etching.specs.declared.spot.Spot.{Spot}
use Rattle.ox_etching.specs.declared.row.RuneRow.{RuneRow}
use Rattle.ox_ledger.specs.Balanced.{amount_held, cap_in}
use Rattle.ox_ledger.specs.Runes.{BalanceMap, InHand, Placement, Runes, artifact_at, balances_at}
use Rattle.ox_ledger.specs.Runes.{brought_of, burn, dealt_by, etching_by, gathered_by}
use Rattle.ox_ledger.specs.Runes.{mint_by, place, place_all, placements, pool_with}
use Rattle.ox_ledger.specs.Shown.{IsAbsent}

-- outputs hold balances, and of no rune more together than an amount can be
pub record HoldAmounts (bal : BalanceMap) : Type 0 where
  pub amounts : (id : RuneId) → amount_held (values bal) id < 2 ^ 128
  pub proper : (at : OutPoint) (balances : List Balance) → get bal at ≡ Some balances
      → AreBalances balances

-- what is burned of a rune stays an amount
abbrev pub CanBurn : List Balance → RuneRow → Type 0
CanBurn burned row = row.burned + amount_in burned row.id < 2 ^ 128

-- the rune with this id isn't minted up to its cap
abbrev pub CanMint : RuneId → RuneRow → Type 0
CanMint id row = row.id ≡ id → row.mints < cap_in row.terms

-- what stands at an outpoint can be burned
pub record CanPlace (state : Runes) (at : OutPoint) : Type 0 where
  pub proper : AreBalances (balances_at state.bal at)
  pub fits : All (CanBurn (balances_at state.bal at)) state.runes

-- and so at each of these, in order
abbrev pub CanPlaceAll : Runes → List Placement → Type 0
CanPlaceAll state [] = Unit {0}
CanPlaceAll state (new ∷ more) = CanPlace state new.0 × CanPlaceAll (place state new) more

-- a pool has room for so much of a rune
abbrev pub HasRoomFor : List Balance → Balance → Type 0
HasRoomFor pool one = amount_in pool one.0 + one.1 < 2 ^ 128

-- a mint and an etching can be taken up
pub record CanTakeUp (runes : List RuneRow) (pool : List Balance) (mint : Option Balance)
    (etching : Option RuneRow) : Type 0 where
  pub counts : ForSome mint (λ one. All (CanMint one.0) runes)
  pub minted : ForSome mint (HasRoomFor pool)
  pub id : ForSome etching (λ row. IsAbsent (λ other. other.id) runes row.id)
  pub name : ForSome etching (λ row. IsAbsent (λ other. other.name) runes row.name)
  pub premine : ForSome etching (λ row. HasRoomFor (pool_with pool mint) (row.id, row.premine))

-- what is dealt can be burned, and what the new outputs displace
pub record CanSettle (at : Spot) (hand : InHand) (due : List Placement) (dealt : Allocation)
    : Type 0 where
  pub burned : All (CanBurn dealt.burned) hand.runes
  pub proper : AreBalances dealt.burned
  pub displaced : at.tx ≢ 0 → CanPlaceAll
      (record { bal = hand.bal; runes = burn dealt.burned hand.runes; due = due })
      (placements at.txid 0 dealt.given)

-- A pool that is dealt: what is burned of it is counted, and the outputs get the rest, those of a
-- coinbase when the block is done.
abbrev pub given_out : ℕ → Txid → Runes → List (List Balance) → List Balance → Runes
given_out tx txid state given burned =
    let runes = burn burned state.runes in
    let new = placements txid 0 given in
    if tx == 0 then record { bal = state.bal; runes = runes; due = state.due ++ new }
    else place_all (record { bal = state.bal; runes = runes; due = state.due }) new

-- what outputs hold where what a transaction brings is taken away
abbrev pub without_brought : ℕ → Tx → Runes → Runes
without_brought tx body state = record state { bal = (brought_of tx body state.bal).bal }

-- how a transaction without a runestone deals what it brings
abbrev pub dealt_without : ℕ → Tx → Runes → Allocation
dealt_without tx body state =
    dealt_by None (brought_of tx body state.bal).pool None body.outputs

-- one transaction without a runestone
abbrev pub turn_without_stone : ℕ → Txid → Tx → Runes → Runes
turn_without_stone tx txid body state =
    let dealt = dealt_without tx body state in
    given_out tx txid (without_brought tx body state) dealt.given dealt.burned

-- all steps of a turn can be done
pub record CanTurn (at : Spot) (tx : Tx) (spent : List OutRow) (state : Runes) : Type 0 where
  pub brings : HoldAmounts state.bal
  pub takes : CanTakeUp state.runes (brought_of at.tx tx state.bal).pool
      (mint_by at.height state.runes (artifact_at at tx))
      (etching_by at tx spent state.runes (artifact_at at tx))
  pub settles :
      let hand = gathered_by at tx spent state (artifact_at at tx) in
      CanSettle at hand state.due
      (dealt_by (artifact_at at tx) hand.pool hand.etching tx.outputs)

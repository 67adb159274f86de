-- No block changes more than the counts of the runes that there were.
use Rattle.std.proofs.Common.{◌≡◌, ◌∙◌, ℕ, ◌+◌, Bool, true, false, List, [], ◌∷◌, ◌++◌, map, refl, ap, Option, Some, None}
use Rattle.std.specs.Prelude.{◌==◌, if◌then◌else◌}
use Rattle.ox_block.specs.declared.block.Tx.{Tx}
use Rattle.ox_sat.specs.declared.profiles.Profile.{Profile}
use Rattle.ox_rules.specs.Transfer.{as_list}
use Rattle.ox_rules.specs.declared.moved.MovedTx.{MovedTx}
use Rattle.ox_rules.specs.declared.rows.OutRow.{OutRow}
use Rattle.ox_allocation.specs.Balances.{Balance, is_same}
use Rattle.ox_etching.specs.declared.spot.Spot.{Spot}
use Rattle.ox_etching.specs.declared.row.RuneRow.{RuneRow}
use Rattle.ox_ledger.specs.Block.{runes_after, turn_all, turn_at}
use Rattle.ox_ledger.specs.GoOn.{RunesGoOn}
use Rattle.ox_ledger.specs.Part.{Continues, counts_of, with_counts}
use Rattle.ox_ledger.specs.Runes.{Placement, Runes, artifact_at, balances_at, burn, burn_of, dealt_by, end, etching_by, gathered_by, mint_by, mint_more, place, place_all, placements, turn, with_mint}

pub goes_on_itself : (runes : List RuneRow) → Continues runes runes
goes_on_itself [] = tt
goes_on_itself (row ∷ runes) = (refl, goes_on_itself runes)

row_on : (x y z : RuneRow) → y ≡ with_counts x (counts_of y) → z ≡ with_counts y (counts_of z) → z ≡ with_counts x (counts_of z)
row_on x y z first next = next ∙ ap (λ (r : RuneRow). with_counts r (counts_of z)) first

pub goes_on : (before mid after : List RuneRow) → Continues before mid → Continues mid after → Continues before after
goes_on [] mid after first next = tt
goes_on (x ∷ before) [] after first next = absurd first
goes_on (x ∷ before) (y ∷ mid) [] first next = absurd next
goes_on (x ∷ before) (y ∷ mid) (z ∷ after) first next = (row_on x y z first.0 next.0, goes_on before mid after first.1 next.1)

mapped_on : (f : RuneRow → RuneRow) → ((row : RuneRow) → f row ≡ with_counts row (counts_of (f row))) → (runes : List RuneRow) → Continues runes (map f runes)
mapped_on f counts [] = tt
mapped_on f counts (row ∷ runes) = (counts row, mapped_on f counts runes)

longer_on : (runes more : List RuneRow) → Continues runes (runes ++ more)
longer_on [] more = tt
longer_on (row ∷ runes) more = (refl, longer_on runes more)

burn_on : (runes : List RuneRow) (balances : List Balance) → Continues runes (burn balances runes)
burn_on runes balances = mapped_on (burn_of balances) (λ row. refl) runes

mint_on : (runes : List RuneRow) (mint : Option Balance) → Continues runes (with_mint runes mint)
mint_on runes None = goes_on_itself runes
mint_on runes (Some mint) = mapped_on (mint_more mint.0) counts runes where
  by_test : (row : RuneRow) (b : Bool) → let new : RuneRow = if b then record row { mints = row.mints + 1 } else row in new ≡ with_counts row (counts_of new)
  by_test row true = refl
  by_test row false = refl

  counts : (row : RuneRow) → mint_more mint.0 row ≡ with_counts row (counts_of (mint_more mint.0 row))
  counts row = by_test row (is_same row.id mint.0)

placed_on : (state : Runes) (new : List Placement) → Continues state.runes (place_all state new).runes
unfolding place_all
placed_on state [] = goes_on_itself state.runes
placed_on state (one ∷ new) =
    goes_on state.runes (place state one).runes (place_all (place state one) new).runes (burn_on state.runes (balances_at state.bal one.0)) (placed_on (place state one) new)

end_on : (state : Runes) → Continues state.runes (end state).runes
end_on state = placed_on (record { bal = state.bal; runes = state.runes; due = [] }) state.due

abbrev mid_of : Spot → Tx → List OutRow → Runes → Runes
mid_of at tx spent state =
    let hand = gathered_by at tx spent state (artifact_at at tx) in
    let dealt = dealt_by (artifact_at at tx) hand.pool hand.etching tx.outputs in
    record { bal = hand.bal; runes = burn dealt.burned hand.runes; due = state.due }

mid_on : (at : Spot) (tx : Tx) (spent : List OutRow) (state : Runes) → Continues state.runes (mid_of at tx spent state).runes
mid_on at tx spent state =
    let artifact = artifact_at at tx in
    let mint = mint_by at.height state.runes artifact in
    let etching = as_list (etching_by at tx spent state.runes artifact) in
    let hand = gathered_by at tx spent state artifact in
    let dealt = dealt_by artifact hand.pool hand.etching tx.outputs in
    goes_on state.runes hand.runes (mid_of at tx spent state).runes
    (goes_on state.runes (with_mint state.runes mint) hand.runes (mint_on state.runes mint) (longer_on (with_mint state.runes mint) etching))
    (burn_on hand.runes dealt.burned)

settled_on : (b : Bool) (before : List RuneRow) (mid : Runes) (due new : List Placement) → Continues before mid.runes
    → let after : Runes = if b then record { bal = mid.bal; runes = mid.runes; due = due } else place_all mid new in Continues before after.runes
settled_on true before mid due new on = on
settled_on false before mid due new on = goes_on before mid.runes (place_all mid new).runes on (placed_on mid new)

turn_on : (at : Spot) (tx : Tx) (spent : List OutRow) (state : Runes) → Continues state.runes (turn at tx spent state).runes
turn_on at tx spent state =
    let hand = gathered_by at tx spent state (artifact_at at tx) in
    let dealt = dealt_by (artifact_at at tx) hand.pool hand.etching tx.outputs in
    let new = placements at.txid 0 dealt.given in
    settled_on (at.tx == 0) state.runes (mid_of at tx spent state) (state.due ++ new) new (mid_on at tx spent state)

turns_on : (p : Profile) (height place : ℕ) (txs : List Tx) (moved : List MovedTx) (state : Runes) → Continues state.runes (turn_all p height place txs moved state).runes
unfolding turn_all
turns_on p height place [] moved state = goes_on_itself state.runes
turns_on p height place (tx ∷ txs) [] state = goes_on_itself state.runes
turns_on p height place (tx ∷ txs) (one ∷ moved) state =
    let next = turn_at p height place tx one state in
    goes_on state.runes next.runes (turn_all p height (place + 1) txs moved next).runes
    (turn_on (record { profile = p; height = height; tx = place; txid = one.txid }) tx one.spent state) (turns_on p height (place + 1) txs moved next)

block_on : (p : Profile) (height : ℕ) (txs : List Tx) (moved : List MovedTx) (state : Runes) → Continues state.runes (runes_after p height txs moved state).runes
block_on p height txs moved state =
    let last = turn_all p height 0 txs moved state in
    goes_on state.runes last.runes (end last).runes (turns_on p height 0 txs moved state) (end_on last)

pub runes_go_on : RunesGoOn
runes_go_on = record { turn = turn_on; end = end_on; block = block_on; on = goes_on }

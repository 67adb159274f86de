-- The coinbase's step, and the whole block.
use Rattle.std.proofs.Common.{◌≡◌, ◌∙◌, ◌≤◌, ◌<◌, ℕ, ◌+◌, ◌^◌, List, [], ◌∷◌, ◌++◌, length, refl, sym, ap, append_assoc, length-append, add-one, arith, Option, Some, None, Result, Ok, Err}
use Rattle.std.specs.Prelude.{sum}
use Rattle.ox_bytes.specs.Reading.{◌>>=◌}
use Rattle.ox_block.specs.declared.block.Txid.{Txid}
use Rattle.ox_block.specs.declared.block.TxOut.{TxOut}
use Rattle.ox_block.specs.declared.block.Tx.{Tx}
use Rattle.ox_block.specs.Hashes as hashes
use Rattle.ox_sat.specs.declared.profiles.Profile.{Profile}
use Rattle.ox_sat.specs.Profiles.{IsProfile}
use Rattle.ox_sat.specs.Heights.{first_at, subsidy_at}
use Rattle.ox_sat.proofs.Epochs.{counts, first_most}
use Rattle.ox_range.specs.Numbers.{numbers_from}
use Rattle.ox_rules.specs.declared.rows.OutRow.{OutRow}
use Rattle.ox_rules.specs.declared.moved.MovedTx.{MovedTx}
use Rattle.ox_rules.specs.declared.refusal.Refusal.{Refusal}
use Rattle.ox_rules.specs.declared.refusal.Refusal.TheVariants.{Overclaim}
use Rattle.ox_rules.specs.Deal.{deal}
use Rattle.ox_rules.specs.Outputs.{Outputs, sats_of, times}
use Rattle.ox_rules.specs.Transfer.{or_refuse, txid_of, Placed, place_rows, values_of, Spent, spend_all, Transferred, claimed_by, claimable_sats, claim, transfer_of}
use Rattle.ox_rules.proofs.Conservation.{times-append, times_held, deal_keeps, place_keeps, bind_ok}
use Rattle.ox_rules.proofs.Transfers.{spend_all_keeps, claim_keeps, counts_numbers}
use Rattle.ox_rules.specs.declared.why.Why.{Why}
use Rattle.ox_rules.specs.declared.why.Why.TheVariants.{Refused, Memory}
use Rattle.ox_rules.specs.Why.{Refuses}
use Rattle.ox_transfer.specs.Apart.{at_most, HoldsOnce, Apart}
use Rattle.ox_transfer.specs.Parts.{values, placed_of}
use Rattle.ox_transfer.proofs.Once.{fits, apart_fits, apart_less, at_most_more}
use Rattle.ox_transfer.proofs.Deals.{deal_short}
use Rattle.ox_transfer.proofs.Spends.{as_many, length-values}

-- ---- the numbers of a height

-- the numbers that are minted up to a height are few
pub minted_few : (p : Profile) (height : ℕ) → IsProfile p → first_at p height + subsidy_at p height ≤ 2 ^ 63
unfolding first_at
minted_few p height known =
    let next : first_at p (height + 1) ≡ first_at p height + subsidy_at p height = rw add-one refl in
    omega (arith, next, first_most p (height + 1) (counts p known), (counts p known).few)

pub first_few : (p : Profile) (height : ℕ) → IsProfile p → first_at p height ≤ 2 ^ 63
first_few p height known = omega (arith, minted_few p height known)

-- what may be claimed is apart from what the table held
pub apart_claimable : (p : Profile) (height : ℕ) (outs : Outputs) (lost fees minted sats : List ℕ) → IsProfile p → minted ≡ numbers_from (first_at p height) (subsidy_at p height) → sats ≡ minted ++ fees → Apart (first_at p height) outs (lost ++ fees) → Apart (2 ^ 63) outs (sats ++ lost)
apart_claimable p height outs lost fees minted sats known minted_is is apart = record {
  once = λ sat.
      let first : ℕ = first_at p height in
      let count : ℕ = subsidy_at p height in
      let all : times sat sats ≡ times sat minted + times sat fees = ap (times sat) is ∙ times-append sat minted fees in
      let new : times sat minted ≡ times sat (numbers_from first count) = ap (times sat) minted_is in
      let below : at_most (first + count) sat ≤ at_most (2 ^ 63) sat = at_most_more (first + count) (2 ^ 63) sat (minted_few p height known) in
      omega (arith, all, new, below, counts_numbers sat first count, apart.once sat, times-append sat lost fees, times-append sat sats lost);
}

-- the fees fit behind the subsidy
pub fees_fit : (p : Profile) (height : ℕ) (outs : Outputs) (lost fees minted : List ℕ) → IsProfile p → minted ≡ numbers_from (first_at p height) (subsidy_at p height) → Apart (first_at p height) outs (lost ++ fees) → length minted + length fees < 2 ^ 64
fees_fit p height outs lost fees minted known minted_is apart =
    omega (arith, length-append minted fees, apart_fits (2 ^ 63) outs (minted ++ fees) (apart_less (2 ^ 63) outs ((minted ++ fees) ++ lost) (minted ++ fees) (λ sat. omega (arith, times-append sat (minted ++ fees) lost)) (apart_claimable p height outs lost fees minted (minted ++ fees) known minted_is refl apart)))

-- what the coinbase leaves fits behind what is lost
pub rest_fits : (height : ℕ) (txid : Txid) (outputs : List TxOut) (outs new : Outputs) (sats rest lost lost_now : List ℕ) (parts : List (List ℕ)) (displaced : List OutRow) → deal sats (values outputs) ≡ Some (parts, rest) → place_rows height txid 0 outputs parts outs ≡ placed_of displaced new → lost_now ≡ lost ++ sats_of displaced → Apart (2 ^ 63) outs (sats ++ lost) → length lost_now + length rest < 2 ^ 64
rest_fits height txid outputs outs new sats rest lost lost_now parts displaced dealt placed lost_is apart =
    let few : length (lost_now ++ rest) ≤ 2 ^ 63 = fits (2 ^ 63) (lost_now ++ rest) (λ sat.
    let deals = deal_keeps sat sats (values outputs) (parts, rest) dealt in
    let places = place_keeps sat height txid 0 outputs parts outs (as_many sats (values outputs) rest parts dealt ∙ length-values outputs) in
    let displaced_is : times sat (sats_of (place_rows height txid 0 outputs parts outs).displaced) ≡ times sat (sats_of displaced) = ap (λ (p : Placed). times sat (sats_of p.displaced)) placed in
    let now : times sat lost_now ≡ times sat lost + times sat (sats_of displaced) = ap (times sat) lost_is ∙ times-append sat lost (sats_of displaced) in
    omega (arith, deals.keeps, places.keeps, displaced_is, now, apart.once sat, times_held sat outs, times-append sat lost_now rest, times-append sat sats lost)) in
    omega (arith, few, length-append lost_now rest)

-- ---- the coinbase

claim_is : (p : Profile) (height : ℕ) (coinbase : Tx) (spent : Spent) (dealt : List (List ℕ) × List ℕ) → deal (claimable_sats p height spent.fees) (values_of coinbase) ≡ Some dealt → claim p height coinbase spent ≡ Ok (claimed_by height coinbase spent dealt)
claim_is p height coinbase spent dealt is =
    ap (λ (d : Option (List (List ℕ) × List ℕ)). or_refuse (Overclaim (length (claimable_sats p height spent.fees)) (sum (values_of coinbase))) d >>= λ dealt. Ok (claimed_by height coinbase spent dealt)) is

pub claimable_is : (p : Profile) (height : ℕ) (fees minted sats : List ℕ) → minted ≡ numbers_from (first_at p height) (subsidy_at p height) → sats ≡ minted ++ fees → sats ≡ claimable_sats p height fees
claimable_is p height fees minted sats minted_is is = is ∙ ap (λ (l : List ℕ). l ++ fees) minted_is

pub overclaimed : (p : Profile) (height : ℕ) (coinbase : Tx) (spent : Spent) (sats : List ℕ) (have want : ℕ) → sats ≡ claimable_sats p height spent.fees → have ≡ length sats → want ≡ sum (values coinbase.outputs) → have < want → claim p height coinbase spent ≡ Err (Overclaim have want)
overclaimed p height coinbase spent sats have want is length_is sum_is short =
    let have_is : have ≡ length (claimable_sats p height spent.fees) = length_is ∙ ap length is in
    let none : deal (claimable_sats p height spent.fees) (values_of coinbase) ≡ None = deal_short (claimable_sats p height spent.fees) (values_of coinbase) (omega (arith, have_is, sum_is, short)) in
    ap (λ (d : Option (List (List ℕ) × List ℕ)). or_refuse (Overclaim (length (claimable_sats p height spent.fees)) (sum (values_of coinbase))) d >>= λ dealt. Ok (claimed_by height coinbase spent dealt)) none
    ∙ (ap (λ (n : ℕ). Err (Overclaim n (sum (values coinbase.outputs)))) (sym have_is) ∙ ap (λ (n : ℕ). Err (Overclaim have n)) (sym sum_is))

same_txid : (txid : Txid) (bytes : List ℕ) → txid.0 ≡ bytes → record { 0 = bytes } ≡ txid
same_txid txid bytes is = λ i. record { 0 = sym is i }

pub claimed_whole : (p : Profile) (height : ℕ) (coinbase : Tx) (outs new : Outputs) (displaced : List OutRow) (sats rest lost lost_then lost_now fees : List ℕ) (parts : List (List ℕ)) (moved moved_now : List MovedTx) (txid : Txid) (spent_rows : List OutRow) (joined : List ℕ)
    → sats ≡ claimable_sats p height fees → deal sats (values coinbase.outputs) ≡ Some (parts, rest) → txid.0 ≡ hashes.txid coinbase → place_rows height txid 0 coinbase.outputs parts outs ≡ placed_of displaced new
    → lost_then ≡ lost ++ sats_of displaced → lost_now ≡ lost_then ++ rest → spent_rows ≡ [] → joined ≡ [] → moved_now ≡ record { txid = txid; spent = spent_rows; joined = joined; displaced = displaced } ∷ moved
    → claim p height coinbase (record { moved = moved; lost = lost; fees = fees; outs = outs }) ≡ Ok (record { moved = record { txs = moved_now; lost = lost_now }; outs = new })
claimed_whole p height coinbase outs new displaced sats rest lost lost_then lost_now fees parts moved moved_now txid spent_rows joined is dealt_is txid_is placed then_is now_is no_rows no_sats moved_is =
    let spent : Spent = record { moved = moved; lost = lost; fees = fees; outs = outs } in
    let dealt : deal (claimable_sats p height fees) (values_of coinbase) ≡ Some (parts, rest) = ap (λ (l : List ℕ). deal l (values coinbase.outputs)) (sym is) ∙ dealt_is in
    let id : txid_of coinbase ≡ txid = same_txid txid (hashes.txid coinbase) txid_is in
    let placed_so : place_rows height (txid_of coinbase) 0 coinbase.outputs parts outs ≡ placed_of displaced new = ap (λ (t : Txid). place_rows height t 0 coinbase.outputs parts outs) id ∙ placed in
    let result : Txid → Placed → Result Transferred Refusal = λ t p. Ok (record { moved = record { txs = record { txid = t; spent = []; joined = []; displaced = p.displaced } ∷ moved; lost = lost ++ (sats_of p.displaced ++ rest) }; outs = p.outs }) in
    let lost_is : lost ++ (sats_of displaced ++ rest) ≡ lost_now = sym (append_assoc lost (sats_of displaced) rest) ∙ (ap (λ (l : List ℕ). l ++ rest) (sym then_is) ∙ sym now_is) in
    let entry_is : record { txid = txid; spent = []; joined = []; displaced = displaced } ∷ moved ≡ moved_now = (λ i. record { txid = txid; spent = sym no_rows i; joined = sym no_sats i; displaced = displaced } ∷ moved) ∙ sym moved_is in
    claim_is p height coinbase spent (parts, rest) dealt ∙ (ap (λ (t : Txid). result t (place_rows height (txid_of coinbase) 0 coinbase.outputs parts outs)) id ∙ (ap (result txid) placed_so ∙ λ i. Ok (record { moved = record { txs = entry_is i; lost = lost_is i }; outs = new })))

-- ---- the block

pub apart_all : (bound height : ℕ) (txs : List Tx) (outs : Outputs) (spent : Spent) → spend_all height 1 txs outs ≡ Ok spent → HoldsOnce bound outs → Apart bound spent.outs (spent.lost ++ spent.fees)
apart_all bound height txs outs spent is holds = record {
  once = λ sat. omega (arith, (spend_all_keeps sat height 1 txs outs spent is).keeps, holds.once sat, times_held sat outs, times_held sat spent.outs, times-append sat spent.lost spent.fees);
}

pub unspent : (p : Profile) (height : ℕ) (txs others : List Tx) (coinbase : Tx) (outs : Outputs) (fault : Why) → txs ≡ coinbase ∷ others → Refuses fault (spend_all height 1 others outs) → Refuses fault (transfer_of p height txs outs)
unspent p height txs others coinbase outs Memory is refused = tt
unspent p height txs others coinbase outs (Refused refusal) is refused =
    ap (λ (l : List Tx). transfer_of p height l outs) is ∙ ap (λ (r : Result Spent Refusal). r >>= claim p height coinbase) refused

pub then_claimed : (p : Profile) (height : ℕ) (txs others : List Tx) (coinbase : Tx) (outs : Outputs) (spent : Spent) → txs ≡ coinbase ∷ others → spend_all height 1 others outs ≡ Ok spent → transfer_of p height txs outs ≡ claim p height coinbase spent
then_claimed p height txs others coinbase outs spent is spent_is =
    ap (λ (l : List Tx). transfer_of p height l outs) is ∙ ap (λ (r : Result Spent Refusal). r >>= claim p height coinbase) spent_is

-- after the block each satoshi of the heights so far is in one place
pub kept_once : (p : Profile) (height : ℕ) (txs : List Tx) (outs : Outputs) (after : Transferred) → 0 < length txs → transfer_of p height txs outs ≡ Ok after → HoldsOnce (first_at p height) outs → HoldsOnce (first_at p (height + 1)) after.outs
unfolding first_at
kept_once p height [] outs after some is holds = absurd (omega (arith, some))
kept_once p height (coinbase ∷ txs) outs after some is holds =
    let spent = bind_ok (spend_all height 1 txs outs) (claim p height coinbase) after is in
    let first : ℕ = first_at p height in
    let count : ℕ = subsidy_at p height in
    let next : first_at p (height + 1) ≡ first + count = rw add-one refl in record {
      once = λ sat.
          let bound : at_most (first_at p (height + 1)) sat ≡ at_most (first + count) sat = ap (λ (n : ℕ). at_most n sat) next in
          let keeps = claim_keeps sat p height coinbase outs spent.0 after (spend_all_keeps sat height 1 txs outs spent.0 spent.1) spent.2 in
          omega (arith, bound, keeps.keeps, holds.once sat, counts_numbers sat first count, times_held sat outs, times_held sat after.outs);
    }

-- What a block's transfer keeps: no satoshi is made or lost but those of the subsidy, and its outputs stand below the next height.
use Rattle.std.proofs.Common.{◌≡◌, ◌∙◌, ◌<◌, ℕ, zero, suc, ◌+◌, Bool, true, false, cond, List, [], ◌∷◌, ◌++◌, length, refl, sym, ap, subst, arith, Some, None, Ok, nat_lt, add-one, add-zero}
use Rattle.std.specs.Prelude.{map, if◌then◌else◌}
use Rattle.std.specs.Ordering.{eq_by_cmp}
use Rattle.std.specs.FinMap.{get, insert, remove, empty, len-empty, len-entries, get-insert, get-remove}
use Rattle.std.proofs.lemmas.Bool.Decides.{nat_tests}
use Rattle.ox_block.specs.declared.block.Txid.{Txid}
use Rattle.ox_block.specs.declared.block.OutPoint.{OutPoint}
use Rattle.ox_block.specs.declared.block.TxIn.{TxIn}
use Rattle.ox_block.specs.declared.block.TxOut.{TxOut}
use Rattle.ox_block.specs.declared.block.Tx.{Tx}
use Rattle.ox_sat.specs.declared.profiles.Profile.{Profile}
use Rattle.ox_sat.specs.Heights.{first_at, subsidy_at}
use Rattle.ox_range.specs.Numbers.{numbers_from}
use Rattle.ox_rules.specs.declared.rows.OutRow.{OutRow}
use Rattle.ox_rules.specs.declared.refusal.Refusal.{Refusal}
use Rattle.ox_rules.specs.declared.refusal.Refusal.TheVariants.{UnknownOutput}
use Rattle.ox_rules.specs.Deal.{deal}
use Rattle.ox_rules.specs.Outputs.{AreBelow, Outputs, outpoint_cmp, sats_of, times}
use Rattle.ox_rules.specs.Transfer.{or_refuse, txid_of, Taken, take_rows, place_rows, values_of, Spent, spent_by, spend, spend_all, Transferred, claimed_by, claimable_sats, claim, transfer_of}
use Rattle.ox_rules.proofs.MapSums.{total}
use Rattle.ox_rules.proofs.Orders.{outpoints_total}
use Rattle.ox_rules.proofs.Conservation.{times-append, times_in, some_same, bind_ok, ok_same, chosen, deal_keeps, take_keeps, place_keeps}

length-values : (outputs : List TxOut) → length (map (λ output. output.value) outputs) ≡ length outputs
length-values [] = refl
length-values (output ∷ outputs) = ap (λ (k : ℕ). suc k) (length-values outputs)

-- what the table held is in the table then, lost or fee
pub record Spends (sat : ℕ) (outs : Outputs) (spent : Spent) : Type 0 where
  pub keeps : times_in sat outs ≡ times_in sat spent.outs + times sat spent.lost + times sat spent.fees

pub spend_keeps : (sat height place : ℕ) (tx : Tx) (outs : Outputs) (spent : Spent) → spend height place tx outs ≡ Ok spent → Spends sat outs spent
spend_keeps sat height place tx outs spent is =
    let taken = bind_ok (take_rows place 0 tx.inputs outs) _ spent is in
    let dealt = bind_ok (or_refuse _ (deal (sats_of taken.0.rows) (values_of tx))) _ spent taken.2 in
    let takes = take_keeps sat place 0 tx.inputs outs taken.0 taken.1 in
    let deals = deal_keeps sat (sats_of taken.0.rows) (values_of tx) dealt.0 (chosen _ _ _ dealt.1) in
    let places = place_keeps sat height (txid_of tx) 0 tx.outputs dealt.0.0 taken.0.outs (deals.each ∙ length-values tx.outputs) in
    let whole : Spends sat outs (spent_by height tx taken.0 dealt.0) = record { keeps = omega (arith, takes.keeps, deals.keeps, places.keeps) } in
    subst (Spends sat outs) (ok_same {F = Refusal} _ _ dealt.2) whole

both_spend : (sat : ℕ) (outs : Outputs) (first rest : Spent) → Spends sat outs first → Spends sat first.outs rest → Spends sat outs (record { moved = first.moved ++ rest.moved; lost = first.lost ++ rest.lost; fees = first.fees ++ rest.fees; outs = rest.outs })
both_spend sat outs first rest a b = record { keeps = omega (arith, a.keeps, b.keeps, times-append sat first.lost rest.lost, times-append sat first.fees rest.fees) }

none_spends : (sat : ℕ) (outs : Outputs) → Spends sat outs (record { moved = []; lost = []; fees = []; outs = outs })
none_spends sat outs = record { keeps = omega arith }

pub spend_all_keeps : (sat height place : ℕ) (txs : List Tx) (outs : Outputs) (spent : Spent) → spend_all height place txs outs ≡ Ok spent → Spends sat outs spent
spend_all_keeps sat height place [] outs spent is = subst (Spends sat outs) (ok_same {F = Refusal} _ _ is) (none_spends sat outs)
spend_all_keeps sat height place (tx ∷ txs) outs spent is =
    let first = bind_ok (spend height place tx outs) _ spent is in
    let rest = bind_ok (spend_all height (place + 1) txs first.0.outs) _ spent first.2 in
    subst (Spends sat outs) (ok_same {F = Refusal} _ _ rest.2)
    (both_spend sat outs first.0 rest.0 (spend_keeps sat height place tx outs first.0 first.1) (spend_all_keeps sat height (place + 1) txs first.0.outs rest.0 rest.1))

-- what the table held and the subsidy is in the table then, or lost
pub record Moves (sat : ℕ) (minted : List ℕ) (outs : Outputs) (after : Transferred) : Type 0 where
  pub keeps : times_in sat outs + times sat minted ≡ times_in sat after.outs + times sat after.moved.lost

pub claim_keeps : (sat : ℕ) (p : Profile) (height : ℕ) (coinbase : Tx) (outs : Outputs) (spent : Spent) (after : Transferred) → Spends sat outs spent → claim p height coinbase spent ≡ Ok after → Moves sat (numbers_from (first_at p height) (subsidy_at p height)) outs after
claim_keeps sat p height coinbase outs spent after spends is =
    let minted = numbers_from (first_at p height) (subsidy_at p height) in
    let dealt = bind_ok (or_refuse _ (deal (claimable_sats p height spent.fees) (values_of coinbase))) _ after is in
    let deals = deal_keeps sat (claimable_sats p height spent.fees) (values_of coinbase) dealt.0 (chosen _ _ _ dealt.1) in
    let places = place_keeps sat height (txid_of coinbase) 0 coinbase.outputs dealt.0.0 spent.outs (deals.each ∙ length-values coinbase.outputs) in
    let displaced = (place_rows height (txid_of coinbase) 0 coinbase.outputs dealt.0.0 spent.outs).displaced in
    let whole : Moves sat minted outs (claimed_by height coinbase spent dealt.0) = record {
      keeps = omega (arith, spends.keeps, deals.keeps, places.keeps, times-append sat minted spent.fees, times-append sat spent.lost (sats_of displaced ++ dealt.0.1), times-append sat (sats_of displaced) dealt.0.1);
    } in
    subst (Moves sat minted outs) (ok_same {F = Refusal} _ _ dealt.2) whole

-- ---- heights

-- a block that is connected stands below the height after its own
below_removed : (height : ℕ) (outs : Outputs) (at : OutPoint) → AreBelow height outs → AreBelow height (remove outs at)
below_removed height outs at below q row is = by_test (eq_by_cmp outpoint_cmp q at) (sym (get-remove outpoints_total outs at q) ∙ is) where
  by_test : (b : Bool) → cond b None (get outs q) ≡ Some row → row.height < height
  by_test true none = absurd (cc none)
  by_test false there = below q row there

below_inserted : (height : ℕ) (outs : Outputs) (at : OutPoint) (new : OutRow) → new.height < height → AreBelow height outs → AreBelow height (insert outs at new)
below_inserted height outs at new low below q row is = by_test (eq_by_cmp outpoint_cmp q at) (sym (get-insert outpoints_total outs at new q) ∙ is) where
  by_test : (b : Bool) → cond b (Some new) (get outs q) ≡ Some row → row.height < height
  by_test true same = subst (λ (r : OutRow). r.height < height) (some_same new row same) low
  by_test false there = below q row there

below_taken : (height tx place : ℕ) (inputs : List TxIn) (outs : Outputs) (taken : Taken) → take_rows tx place inputs outs ≡ Ok taken → AreBelow height outs → AreBelow height taken.outs
below_taken height tx place [] outs taken is below = subst (λ (t : Taken). AreBelow height t.outs) (ok_same {F = Refusal} _ _ is) below
below_taken height tx place (input ∷ inputs) outs taken is below =
    let row = bind_ok (or_refuse (UnknownOutput tx place input.from) (get outs input.from)) _ taken is in
    let rest = bind_ok (take_rows tx (place + 1) inputs (remove outs input.from)) _ taken row.2 in
    subst (λ (t : Taken). AreBelow height t.outs) (ok_same {F = Refusal} _ _ rest.2)
    (below_taken height tx (place + 1) inputs (remove outs input.from) rest.0 rest.1 (below_removed height outs input.from below))

below_placed : (height : ℕ) (txid : Txid) (index : ℕ) (outputs : List TxOut) (parts : List (List ℕ)) (outs : Outputs) → AreBelow (height + 1) outs → AreBelow (height + 1) (place_rows height txid index outputs parts outs).outs
below_placed height txid index [] parts outs below = below
below_placed height txid index (output ∷ outputs) [] outs below = below
below_placed height txid index (output ∷ outputs) (part ∷ parts) outs below =
    below_placed height txid (index + 1) outputs parts _ (below_inserted (height + 1) outs (record { txid = txid; index = index }) (record { script = output.script; height = height; sats = part }) (omega arith) below)

below_spent : (height place : ℕ) (tx : Tx) (outs : Outputs) (spent : Spent) → spend height place tx outs ≡ Ok spent → AreBelow (height + 1) outs → AreBelow (height + 1) spent.outs
below_spent height place tx outs spent is below =
    let taken = bind_ok (take_rows place 0 tx.inputs outs) _ spent is in
    let dealt = bind_ok (or_refuse _ (deal (sats_of taken.0.rows) (values_of tx))) _ spent taken.2 in
    subst (λ (s : Spent). AreBelow (height + 1) s.outs) (ok_same {F = Refusal} _ _ dealt.2)
    (below_placed height (txid_of tx) 0 tx.outputs dealt.0.0 taken.0.outs (below_taken (height + 1) place 0 tx.inputs outs taken.0 taken.1 below))

below_all_spent : (height place : ℕ) (txs : List Tx) (outs : Outputs) (spent : Spent) → spend_all height place txs outs ≡ Ok spent → AreBelow (height + 1) outs → AreBelow (height + 1) spent.outs
below_all_spent height place [] outs spent is below = subst (λ (s : Spent). AreBelow (height + 1) s.outs) (ok_same {F = Refusal} _ _ is) below
below_all_spent height place (tx ∷ txs) outs spent is below =
    let first = bind_ok (spend height place tx outs) _ spent is in
    let rest = bind_ok (spend_all height (place + 1) txs first.0.outs) _ spent first.2 in
    subst (λ (s : Spent). AreBelow (height + 1) s.outs) (ok_same {F = Refusal} _ _ rest.2)
    (below_all_spent height (place + 1) txs first.0.outs rest.0 rest.1 (below_spent height place tx outs first.0 first.1 below))

below_claimed : (p : Profile) (height : ℕ) (coinbase : Tx) (spent : Spent) (after : Transferred) → claim p height coinbase spent ≡ Ok after → AreBelow (height + 1) spent.outs → AreBelow (height + 1) after.outs
below_claimed p height coinbase spent after is below =
    let dealt = bind_ok (or_refuse _ (deal (claimable_sats p height spent.fees) (values_of coinbase))) _ after is in
    subst (λ (t : Transferred). AreBelow (height + 1) t.outs) (ok_same {F = Refusal} _ _ dealt.2)
    (below_placed height (txid_of coinbase) 0 coinbase.outputs dealt.0.0 spent.outs below)

no_entries : {A : Type 0} (es : List A) → length es ≡ 0 → es ≡ []
no_entries [] is = refl
no_entries (e ∷ es) is = absurd (cc is)

pub none_held : (sat : ℕ) → times_in sat empty ≡ 0
none_held sat = ap (total outpoints_total (λ (row : OutRow). times sat row.sats)) (no_entries _ (sym (len-entries {R = outpoint_cmp} empty) ∙ len-empty outpoint_cmp OutRow))

-- ---- a block

pub first_next : (p : Profile) (height : ℕ) → first_at p (height + 1) ≡ first_at p height + subsidy_at p height
unfolding first_at
first_next p height = rw add-one refl

-- what a block with a transaction does
pub record Transfers (p : Profile) (height : ℕ) (outs : Outputs) (after : Transferred) : Type 0 where
  pub keeps : (sat : ℕ) → Moves sat (numbers_from (first_at p height) (subsidy_at p height)) outs after
  pub below : AreBelow (height + 1) outs → AreBelow (height + 1) after.outs

pub transfer_keeps : (p : Profile) (height : ℕ) (coinbase : Tx) (txs : List Tx) (outs : Outputs) (after : Transferred)
    → transfer_of p height (coinbase ∷ txs) outs ≡ Ok after → Transfers p height outs after
transfer_keeps p height coinbase txs outs after is =
    let spent = bind_ok (spend_all height 1 txs outs) _ after is in record {
      keeps = λ sat. claim_keeps sat p height coinbase outs spent.0 after (spend_all_keeps sat height 1 txs outs spent.0 spent.1) spent.2;
      below = λ below. below_claimed p height coinbase spent.0 after spent.2 (below_all_spent height 1 txs outs spent.0 spent.1 below);
    }

one_more : (sat first count rest all : ℕ) → all ≡ times sat (first ∷ []) + rest → rest + (if nat_lt sat (first + 1) then 1 else 0) ≡ (if nat_lt sat (first + 1 + count) then 1 else 0) → all + (if nat_lt sat first then 1 else 0) ≡ (if nat_lt sat (first + suc count) then 1 else 0)
one_more sat first count rest all is more = grind (arith, nat_tests)

-- the numbers of a stretch, with those below it, are those below its end
pub counts_numbers : (sat first count : ℕ) → times sat (numbers_from first count) + (if nat_lt sat first then 1 else 0) ≡ (if nat_lt sat (first + count) then 1 else 0)
unfolding numbers_from
counts_numbers sat first zero = rw add-zero (omega arith)
counts_numbers sat first (suc count) = one_more sat first count (times sat (numbers_from (first + 1) count)) _ (times-append sat (first ∷ []) (numbers_from (first + 1) count)) (counts_numbers sat (first + 1) count)

-- What a transfer tells of each transaction is of that transaction.
use Rattle.std.proofs.Common.{◌≡◌, ◌∙◌, ◌≤◌, ℕ, suc, ◌+◌, Bool, true, false, cond, List, [], ◌∷◌, ◌++◌, length, take, drop, refl, sym, ap, subst, arith, Option, Some, None, Ok, nat_lt, length-drop}
use Rattle.std.specs.Prelude.{sum}
use Rattle.std.specs.List.{AllZip}
use Rattle.std.specs.Option.{option_map}
use Rattle.std.specs.FinMap.{get, remove}
use Rattle.std.proofs.lemmas.Bool.{ltb-false}
use Rattle.std.proofs.lemmas.List.Sums.{sum_by-cons}
use Rattle.ox_block.specs.declared.block.TxIn.{TxIn}
use Rattle.ox_block.specs.declared.block.Tx.{Tx}
use Rattle.ox_sat.specs.declared.profiles.Profile.{Profile}
use Rattle.ox_rules.specs.declared.moved.MovedTx.{MovedTx}
use Rattle.ox_rules.specs.declared.refusal.Refusal.{Refusal}
use Rattle.ox_rules.specs.declared.refusal.Refusal.TheVariants.{UnknownOutput}
use Rattle.ox_rules.specs.Deal.{deal}
use Rattle.ox_rules.specs.Outputs.{Outputs, sats_of}
use Rattle.ox_rules.specs.Transfer.{or_refuse, Taken, take_rows, values_of, Spent, spent_by, spend, spend_all, Transferred, claimable_sats, claim, transfer_of}
use Rattle.ox_rules.proofs.Conservation.{bind_ok, ok_same, chosen}
use Rattle.ox_inscribe.specs.Moves.{IsMoveOf, AreMovesOf}

-- there is a row for each input
row_for_each : (tx place : ℕ) (inputs : List TxIn) (outs : Outputs) (taken : Taken) → take_rows tx place inputs outs ≡ Ok taken → length taken.rows ≡ length inputs
row_for_each tx place [] outs taken is = sym (ap (λ (t : Taken). length t.rows) (ok_same {F = Refusal} _ _ is))
row_for_each tx place (input ∷ inputs) outs taken is =
    let row = bind_ok (or_refuse (UnknownOutput tx place input.from) (get outs input.from)) _ taken is in
    let rest = bind_ok (take_rows tx (place + 1) inputs (remove outs input.from)) _ taken row.2 in
    sym (ap (λ (t : Taken). length t.rows) (ok_same {F = Refusal} _ _ rest.2))
    ∙ ap (λ (n : ℕ). suc n) (row_for_each tx (place + 1) inputs (remove outs input.from) rest.0 rest.1)

-- what is dealt is there
onward : (n : ℕ) (list lengths : List ℕ) (dealt : List (List ℕ) × List ℕ) (rest : Option (List (List ℕ) × List ℕ)) → ((more : List (List ℕ) × List ℕ) → rest ≡ Some more → sum lengths ≤ length (drop n list)) → n ≤ length list → option_map (λ rest. (take n list ∷ rest.0, rest.1)) rest ≡ Some dealt → sum (n ∷ lengths) ≤ length list
onward n list lengths dealt None there low none = absurd (cc none)
onward n list lengths dealt (Some rest) there low some =
    let more : sum lengths ≤ length (drop n list) = there rest refl in
    omega (arith, more, sum_by-cons (λ (x : ℕ). x) n lengths, length-drop n list)

tested : (n : ℕ) (list lengths : List ℕ) (dealt : List (List ℕ) × List ℕ) (rest : Option (List (List ℕ) × List ℕ)) (short : Bool) → ((more : List (List ℕ) × List ℕ) → rest ≡ Some more → sum lengths ≤ length (drop n list)) → nat_lt (length list) n ≡ short → cond short None (option_map (λ rest. (take n list ∷ rest.0, rest.1)) rest) ≡ Some dealt → sum (n ∷ lengths) ≤ length list
tested n list lengths dealt rest true there short none = absurd (cc none)
tested n list lengths dealt rest false there enough some = onward n list lengths dealt rest there (ltb-false _ _ enough) some

dealt_is_there : (list lengths : List ℕ) (dealt : List (List ℕ) × List ℕ) → deal list lengths ≡ Some dealt → sum lengths ≤ length list
dealt_is_there list [] dealt is = omega arith
dealt_is_there list (n ∷ lengths) dealt is = tested n list lengths dealt _ (nat_lt (length list) n) (dealt_is_there (drop n list) lengths) refl is

-- one transaction
record Moves (tx : Tx) (spent : Spent) : Type 0 where
  moved : MovedTx
  alone : spent.moved ≡ moved ∷ []
  is : IsMoveOf tx moved

spend_moves : (height place : ℕ) (tx : Tx) (outs : Outputs) (spent : Spent) → spend height place tx outs ≡ Ok spent → Moves tx spent
spend_moves height place tx outs spent is =
    let taken = bind_ok (take_rows place 0 tx.inputs outs) _ spent is in
    let dealt = bind_ok (or_refuse _ (deal (sats_of taken.0.rows) (values_of tx))) _ spent taken.2 in
    let whole : Moves tx (spent_by height tx taken.0 dealt.0) = record {
      moved = _;
      alone = refl;
      is = record {
        txid = refl;
        rows = row_for_each place 0 tx.inputs outs taken.0 taken.1;
        joined = refl;
        enough = dealt_is_there (sats_of taken.0.rows) (values_of tx) dealt.0 (chosen _ _ _ dealt.1);
      };
    } in
    subst (Moves tx) (ok_same {F = Refusal} _ _ dealt.2) whole

all_move : (height place : ℕ) (txs : List Tx) (outs : Outputs) (spent : Spent) → spend_all height place txs outs ≡ Ok spent → AllZip IsMoveOf txs spent.moved
all_move height place [] outs spent is = subst (λ (s : Spent). AllZip IsMoveOf [] s.moved) (ok_same {F = Refusal} _ _ is) tt
all_move height place (tx ∷ txs) outs spent is =
    let first = bind_ok (spend height place tx outs) _ spent is in
    let rest = bind_ok (spend_all height (place + 1) txs first.0.outs) _ spent first.2 in
    let one = spend_moves height place tx outs first.0 first.1 in
    let more = all_move height (place + 1) txs first.0.outs rest.0 rest.1 in
    let whole : AllZip IsMoveOf (tx ∷ txs) (one.moved ∷ rest.0.moved) = (one.is, more) in
    subst (λ (s : Spent). AllZip IsMoveOf (tx ∷ txs) s.moved) (ok_same {F = Refusal} _ _ rest.2)
    (subst (λ (front : List MovedTx). AllZip IsMoveOf (tx ∷ txs) (front ++ rest.0.moved)) (sym one.alone) whole)

claim_moves : (p : Profile) (height : ℕ) (coinbase : Tx) (txs : List Tx) (spent : Spent) (after : Transferred) → AllZip IsMoveOf txs spent.moved → claim p height coinbase spent ≡ Ok after → AreMovesOf (coinbase ∷ txs) after.moved.txs
claim_moves p height coinbase txs spent after moves is =
    let dealt = bind_ok (or_refuse _ (deal (claimable_sats p height spent.fees) (values_of coinbase))) _ after is in
    subst (λ (t : Transferred). AreMovesOf (coinbase ∷ txs) t.moved.txs) (ok_same {F = Refusal} _ _ dealt.2) moves

pub transfer_moves : (p : Profile) (height : ℕ) (txs : List Tx) (outs : Outputs) (after : Transferred) → transfer_of p height txs outs ≡ Ok after → AreMovesOf txs after.moved.txs
transfer_moves p height [] outs after is = subst (λ (t : Transferred). AreMovesOf [] t.moved.txs) (ok_same {F = Refusal} _ _ is) tt
transfer_moves p height (coinbase ∷ txs) outs after is =
    let spent = bind_ok (spend_all height 1 txs outs) _ after is in
    claim_moves p height coinbase txs spent.0 after (all_move height 1 txs outs spent.0 spent.1) spent.2

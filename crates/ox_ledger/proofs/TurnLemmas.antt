-- One transaction adds its mint and its etching's premine to runes, and nothing else.
use Rattle.std.proofs.Common.{◌≡◌, ◌∙◌, ℕ, ◌+◌, Bool, true, false, cond, List, [], ◌∷◌, ◌++◌, map, refl, sym, ap, arith, Option, Some, None}
use Rattle.std.specs.Prelude.{unwrap_or, ◌==◌, if◌then◌else◌}
use Rattle.std.specs.List.{AllByRecursion, AllZip}
use Rattle.std.specs.Option.{option_map}
use Rattle.std.proofs.lemmas.List.{map-append}
use Rattle.ox_block.specs.declared.block.Tx.{Tx}
use Rattle.ox_block.specs.declared.block.TxOut.{TxOut}
use Rattle.ox_runestone.specs.declared.stone.RuneId.{RuneId}
use Rattle.ox_rules.specs.Transfer.{as_list}
use Rattle.ox_allocation.specs.Allocation.{Allocation}
use Rattle.ox_allocation.specs.Balances.{Balance, amount_in, is_same}
use Rattle.ox_allocation.proofs.Amounts.{amount-with_more}
use Rattle.ox_allocation.proofs.Ids.{same_itself, same_turned}
use Rattle.ox_etching.specs.declared.spot.Spot.{Spot}
use Rattle.ox_etching.specs.declared.row.RuneRow.{RuneRow}
use Rattle.ox_ledger.specs.Balanced.{amount_held}
use Rattle.ox_ledger.specs.Runes.{InHand, Placement, Runes, brought_of, burn, burn_of, in_hand, mint_more, place_all, placements, pool_with, premine_of, settled_by, with_mint}
use Rattle.ox_ledger.specs.Turn.{Adds, Begins, Grows, mints_in}
use Rattle.ox_ledger.proofs.Brought.{AllRise, brought-of}
use Rattle.ox_ledger.proofs.Gains.{AllGain, Gains, all_mapped, amount_placed, gain_then, place_all_gains, placed-placements, step_gains}
use Rattle.ox_ledger.proofs.Held.{amount_held-append, amount_held-cons, amount_held_in}

-- ---- the pool

pub one_balance : (one : Balance) (id : RuneId) → amount_in (one ∷ []) id ≡ (if is_same one.0 id then one.1 else 0)
one_balance one id = ap (λ (b : Bool). unwrap_or (cond b (Some one.1) None) 0) (same_turned id one.0) ∙ by_test (is_same one.0 id) where
  by_test : (b : Bool) → unwrap_or (cond b (Some one.1) None) 0 ≡ (if b then one.1 else 0)
  by_test true = refl
  by_test false = refl

pub amount-pool_with : (pool : List Balance) (one : Option Balance) (id : RuneId) → amount_in (pool_with pool one) id ≡ amount_in pool id + amount_in (as_list one) id
amount-pool_with pool None id = omega arith
amount-pool_with pool (Some one) id = amount-with_more pool one.0 one.1 id ∙ ap (λ n. amount_in pool id + n) (sym (one_balance one id))

-- ---- what is dealt

abbrev pub dealt_amount : Allocation → RuneId → ℕ
dealt_amount dealt id = amount_in dealt.burned id + amount_held dealt.given id

pub none_given : (outputs : List TxOut) (id : RuneId) → amount_held (map (λ (output : TxOut). []) outputs) id ≡ 0
none_given [] id = refl
none_given (output ∷ outputs) id = let first = amount_held-cons [] (map (λ (output : TxOut). []) outputs) id in let rest = none_given outputs id in omega (arith, first, rest)

-- what a transaction has in hand once its mint counts, before anything is dealt
abbrev hand_state : InHand → List Placement → Runes
hand_state hand due = record { bal = hand.bal; runes = hand.runes; due = due }

-- all that is in hand goes to outputs or is burned
settled_gains : (at : Spot) (due : List Placement) (hand : InHand) (dealt : Allocation) (pool : RuneId → ℕ)
    → ((id : RuneId) → dealt_amount dealt id ≡ pool id)
    → AllGain pool (hand_state hand due) (settled_by at due hand dealt (placements at.txid 0 dealt.given))
settled_gains at due hand dealt pool all = by_place (at.tx == 0) where
  by_place : (b : Bool) → AllGain pool (hand_state hand due)
      (if b then record { bal = hand.bal; runes = burn dealt.burned hand.runes; due = due ++ placements at.txid 0 dealt.given }
      else place_all (record { bal = hand.bal; runes = burn dealt.burned hand.runes; due = due }) (placements at.txid 0 dealt.given))
  by_place true =
      let after : Runes = record { bal = hand.bal; runes = burn dealt.burned hand.runes; due = due ++ placements at.txid 0 dealt.given } in
      all_mapped (Gains pool (hand_state hand due) after) (burn_of dealt.burned)
      (step_gains pool (amount_in dealt.burned) (hand_state hand due) after (λ id.
      let split = ap (λ all. amount_held all id) (map-append (λ (one : Placement). one.1) due (placements at.txid 0 dealt.given)) ∙ amount_held-append (map (λ one. one.1) due) (map (λ one. one.1) (placements at.txid 0 dealt.given)) id in
      let given = ap (λ all. amount_held all id) (placed-placements at.txid 0 dealt.given) in
      omega (arith, split, given, all id)))
      hand.runes
  by_place false =
      let mid : Runes = record { bal = hand.bal; runes = burn dealt.burned hand.runes; due = due } in
      gain_then (amount_in dealt.burned) (amount_placed (placements at.txid 0 dealt.given)) pool (hand_state hand due) mid (place_all mid (placements at.txid 0 dealt.given))
      (λ id. let given = ap (λ all. amount_held all id) (placed-placements at.txid 0 dealt.given) in omega (arith, given, all id))
      (all_mapped (Gains (amount_in dealt.burned) (hand_state hand due) mid) (burn_of dealt.burned)
      (step_gains (amount_in dealt.burned) (amount_in dealt.burned) (hand_state hand due) mid (λ id. omega arith)) hand.runes)
      (place_all_gains mid (placements at.txid 0 dealt.given))

-- ---- the rows

-- a rune once the mint counts
pub record Counted (mint : Option Balance) (old new : RuneRow) : Type 0 where
  pub stays : new ≡ record old { mints = new.mints }
  pub mints : new.mints ≡ old.mints + mints_in mint old.id

counted_one : (mint : Balance) (row : RuneRow) → Counted (Some mint) row (mint_more mint.0 row)
counted_one mint row = by_test (is_same row.id mint.0) refl where
  by_test : (b : Bool) → is_same row.id mint.0 ≡ b → Counted (Some mint) row (if b then record row { mints = row.mints + 1 } else row)
  by_test true is = record { stays = refl; mints = ap (λ (b : Bool). row.mints + (if b then 1 else 0)) (sym is) }
  by_test false is = record { stays = refl; mints = let zero : row.mints ≡ row.mints + 0 = omega arith in zero ∙ ap (λ (b : Bool). row.mints + (if b then 1 else 0)) (sym is) }

same_rows : (rows : List RuneRow) → AllZip (Counted None) rows rows
same_rows [] = tt
same_rows (row ∷ rows) = (record { stays = refl; mints = omega arith }, same_rows rows)

mint_counted : (runes : List RuneRow) (mint : Option Balance) → AllZip (Counted mint) runes (with_mint runes mint)
mint_counted runes None = same_rows runes
mint_counted runes (Some mint) = all_mapped (Counted (Some mint)) (mint_more mint.0) (counted_one mint) runes

-- two parts of a list, each with its own
record Splits {A B : Type 0} (R : A → B → Type 0) (xs ys : List A) (zs : List B) : Type 0 where
  front : List B
  back : List B
  whole : zs ≡ front ++ back
  first : AllZip R xs front
  second : AllZip R ys back

split_all : {A B : Type 0} (R : A → B → Type 0) (xs ys : List A) (zs : List B) → AllZip R (xs ++ ys) zs → Splits R xs ys zs
split_all R [] ys zs all = record { front = []; back = zs; whole = refl; first = tt; second = all }
split_all R (x ∷ xs) ys [] all = absurd all
split_all R (x ∷ xs) ys (z ∷ zs) all =
    let rest = split_all R xs ys zs all.1 in
    record { front = z ∷ rest.front; back = rest.back; whole = λ i. z ∷ rest.whole i; first = (all.0, rest.first); second = rest.second }

-- ---- together

-- a rune isn't the one that is etched
abbrev pub IsOther : Option RuneRow → RuneRow → Type 0
IsOther None row = Unit {0}
IsOther (Some etched) row = is_same etched.id row.id ≡ false

amount_premine : (etching : Option RuneRow) (row : RuneRow) → IsOther etching row → amount_in (as_list (option_map premine_of etching)) row.id ≡ 0
amount_premine None row other = refl
amount_premine (Some etched) row other = one_balance (premine_of etched) row.id ∙ ap (λ (b : Bool). if b then etched.premine else 0) other

-- a rune that is etched is new: there was nothing of it
pub record IsFresh (before : Runes) (mint : Option Balance) (etched : RuneRow) : Type 0 where
  pub held_before : amount_held_in before.bal etched.id ≡ 0
  pub due : amount_placed before.due etched.id ≡ 0
  pub minted_before : amount_in (as_list mint) etched.id ≡ 0
  pub mints : etched.mints ≡ 0
  pub burned : etched.burned ≡ 0

-- what of a state goes into a hand: the inputs' balances are in the pool, with the mint and the premine
record Gathers (before : Runes) (mint : Option Balance) (etching : Option RuneRow) (hand : InHand) : Type 0 where
  brought : RuneId → ℕ
  held_together : (id : RuneId) → brought id + amount_held_in hand.bal id ≡ amount_held_in before.bal id
  pool : (id : RuneId) → amount_in hand.pool id ≡ brought id + amount_in (as_list mint) id + amount_in (as_list (option_map premine_of etching)) id

grows_one : (before after : Runes) (mint : Option Balance) (etching : Option RuneRow) (hand : InHand) → Gathers before mint etching hand → (x y z : RuneRow)
    → IsOther etching x → Counted mint x y → Gains (amount_in hand.pool) (hand_state hand before.due) after y z → Grows mint before after x z
grows_one before after mint etching hand gathers x y z other counts gains =
    let id : y.id ≡ x.id = ap (λ (row : RuneRow). row.id) counts.stays in
    let burned : y.burned ≡ x.burned = ap (λ (row : RuneRow). row.burned) counts.stays in
    let mints : z.mints ≡ y.mints = ap (λ (row : RuneRow). row.mints) gains.stays in
    let in_pool : amount_in hand.pool y.id ≡ amount_in hand.pool x.id = ap (amount_in hand.pool) id in
    let held_of : amount_held_in hand.bal y.id ≡ amount_held_in hand.bal x.id = ap (amount_held_in hand.bal) id in
    let due_of : amount_placed before.due y.id ≡ amount_placed before.due x.id = ap (amount_placed before.due) id in
    let premine = amount_premine etching x other in
    let pool = gathers.pool x.id in
    let together = gathers.held_together x.id in
    let amount = gains.amount in
    record {
      stays = gains.stays ∙ ap (λ (row : RuneRow). record row { burned = z.burned }) counts.stays ∙ ap (λ (n : ℕ). record x { mints = n; burned = z.burned }) (sym mints);
      mints = mints ∙ counts.mints;
      amount = omega (arith, burned, in_pool, held_of, due_of, premine, pool, together, amount);
    }

grows_all : (before after : Runes) (mint : Option Balance) (etching : Option RuneRow) (hand : InHand) → Gathers before mint etching hand → (xs ys zs : List RuneRow)
    → AllByRecursion (IsOther etching) xs → AllZip (Counted mint) xs ys → AllZip (Gains (amount_in hand.pool) (hand_state hand before.due) after) ys zs
    → AllZip (Grows mint before after) xs zs
grows_all before after mint etching hand gathers [] [] [] other counts gains = tt
grows_all before after mint etching hand gathers [] [] (z ∷ zs) other counts gains = absurd gains
grows_all before after mint etching hand gathers [] (y ∷ ys) zs other counts gains = absurd counts
grows_all before after mint etching hand gathers (x ∷ xs) [] zs other counts gains = absurd counts
grows_all before after mint etching hand gathers (x ∷ xs) (y ∷ ys) [] other counts gains = absurd gains
grows_all before after mint etching hand gathers (x ∷ xs) (y ∷ ys) (z ∷ zs) other counts gains =
    (grows_one before after mint etching hand gathers x y z other.0 counts.0 gains.0, grows_all before after mint etching hand gathers xs ys zs other.1 counts.1 gains.1)

itself : (id : RuneId) (n : ℕ) → (if is_same id id then n else 0) ≡ n
itself id n = ap (λ (b : Bool). if b then n else 0) (same_itself id)

begins_one : (before after : Runes) (mint : Option Balance) (etched : RuneRow) (hand : InHand) → Gathers before mint (Some etched) hand → IsFresh before mint etched → (z : RuneRow)
    → Gains (amount_in hand.pool) (hand_state hand before.due) after etched z → Begins after etched z
begins_one before after mint etched hand gathers fresh z gains =
    let mints : z.mints ≡ etched.mints = ap (λ (row : RuneRow). row.mints) gains.stays in
    let premine : amount_in (as_list (option_map premine_of (Some etched))) etched.id ≡ etched.premine = one_balance (premine_of etched) etched.id ∙ itself etched.id etched.premine in
    let pool = gathers.pool etched.id in
    let together = gathers.held_together etched.id in
    record {
      stays = gains.stays ∙ ap (λ (n : ℕ). record etched { mints = n; burned = z.burned }) (sym mints);
      mints = mints ∙ fresh.mints;
      amount = omega (arith, premine, pool, together, gains.amount, fresh.held_before, fresh.due, fresh.minted_before, fresh.burned);
    }

-- each rune that is etched is fresh
abbrev pub AllFresh : Runes → Option Balance → Option RuneRow → Type 0
AllFresh before mint None = Unit {0}
AllFresh before mint (Some etched) = IsFresh before mint etched

begins_all : (before after : Runes) (mint : Option Balance) (etching : Option RuneRow) (hand : InHand) → Gathers before mint etching hand → AllFresh before mint etching → (zs : List RuneRow)
    → AllZip (Gains (amount_in hand.pool) (hand_state hand before.due) after) (as_list etching) zs → AllZip (Begins after) (as_list etching) zs
begins_all before after mint None hand gathers fresh [] gains = tt
begins_all before after mint None hand gathers fresh (z ∷ zs) gains = absurd gains
begins_all before after mint (Some etched) hand gathers fresh [] gains = absurd gains
begins_all before after mint (Some etched) hand gathers fresh (z ∷ []) gains = (begins_one before after mint etched hand gathers fresh z gains.0, tt)
begins_all before after mint (Some etched) hand gathers fresh (z ∷ w ∷ zs) gains = absurd gains.1

gathers : (at : Spot) (tx : Tx) (before : Runes) (mint : Option Balance) (etching : Option RuneRow) → AllRise before.bal
    → Gathers before mint etching (in_hand (brought_of at.tx tx before.bal) before.runes mint etching)
gathers at tx before mint etching all =
    let brought = brought_of at.tx tx before.bal in
    record {
      brought = amount_in brought.pool;
      held_together = λ id. brought-of at.tx tx before.bal id all;
      pool = λ id.
          let first = amount-pool_with brought.pool mint id in
          let second = amount-pool_with (pool_with brought.pool mint) (option_map premine_of etching) id in
          omega (arith, first, second);
    }

pub adds : (at : Spot) (tx : Tx) (before : Runes) (mint : Option Balance) (etching : Option RuneRow) (dealt : Allocation) → AllRise before.bal
    → AllByRecursion (IsOther etching) before.runes → AllFresh before mint etching
    → ((id : RuneId) → dealt_amount dealt id ≡ amount_in (in_hand (brought_of at.tx tx before.bal) before.runes mint etching).pool id)
    → Adds mint etching before (settled_by at before.due (in_hand (brought_of at.tx tx before.bal) before.runes mint etching) dealt (placements at.txid 0 dealt.given))
adds at tx before mint etching dealt all other fresh deals =
    let hand = in_hand (brought_of at.tx tx before.bal) before.runes mint etching in
    let after = settled_by at before.due hand dealt (placements at.txid 0 dealt.given) in
    let gather = gathers at tx before mint etching all in
    let gains = settled_gains at before.due hand dealt (amount_in hand.pool) deals in
    let split = split_all (Gains (amount_in hand.pool) (hand_state hand before.due) after) (with_mint before.runes mint) (as_list etching) after.runes gains in
    record {
      earlier = split.front;
      last = split.back;
      runes = split.whole;
      grows = grows_all before after mint etching hand gather before.runes (with_mint before.runes mint) split.front other (mint_counted before.runes mint) split.first;
      begins = begins_all before after mint etching hand gather fresh split.back split.second;
    }

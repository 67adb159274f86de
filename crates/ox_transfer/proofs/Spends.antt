-- A transaction's step, and one after the other.
use Rattle.std.proofs.Common.{◌≡◌, ◌∙◌, ◌≤◌, ◌<◌, ℕ, suc, ◌+◌, ◌^◌, List, [], ◌∷◌, ◌++◌, length, drop, get_or, refl, sym, ap, subst, append_assoc, length-append, arith, Option, Some, Result, Ok, Err}
use Rattle.std.specs.Prelude.{map, sum}
use Rattle.std.proofs.lemmas.List.{drop_more, drop_all, append-nil, get_or-map}
use Rattle.ox_bytes.specs.Reading.{◌>>=◌}
use Rattle.ox_block.specs.declared.block.Txid.{Txid}
use Rattle.ox_block.specs.declared.block.TxOut.{TxOut}
use Rattle.ox_block.specs.declared.block.Tx.{Tx}
use Rattle.ox_block.specs.Hashes as hashes
use Rattle.ox_rules.specs.declared.rows.OutRow.{OutRow}
use Rattle.ox_rules.specs.declared.moved.MovedTx.{MovedTx}
use Rattle.ox_rules.specs.declared.refusal.Refusal.{Refusal}
use Rattle.ox_rules.specs.declared.refusal.Refusal.TheVariants.{Overspend}
use Rattle.ox_rules.specs.Deal.{all_parts, deal}
use Rattle.ox_rules.specs.Outputs.{Outputs, sats_of, times}
use Rattle.ox_rules.specs.Transfer.{or_refuse, txid_of, Taken, take_rows, Placed, place_rows, values_of, Spent, spent_by, spend, spend_all}
use Rattle.ox_rules.proofs.Conservation.{times-append, times_held, deal_keeps, take_keeps, bind_ok}
use Rattle.ox_rules.proofs.Transfers.{spend_keeps}
use Rattle.ox_rules.specs.declared.why.Why.{Why}
use Rattle.ox_rules.specs.declared.why.Why.TheVariants.{Refused, Memory}
use Rattle.ox_rules.specs.Why.{Refuses}
use Rattle.ox_transfer.specs.Apart.{Apart}
use Rattle.ox_transfer.specs.Parts.{values, taken_of, placed_of, behind, all_behind}
use Rattle.ox_transfer.proofs.Once.{apart_fits, apart_less}
use Rattle.ox_transfer.proofs.Deals.{deal_short}

-- ---- one transaction

spend_is : (height place : ℕ) (tx : Tx) (outs : Outputs) (taken : Taken) (dealt : List (List ℕ) × List ℕ) → take_rows place 0 tx.inputs outs ≡ Ok taken → deal (sats_of taken.rows) (values_of tx) ≡ Some dealt → spend height place tx outs ≡ Ok (spent_by height tx taken dealt)
spend_is height place tx outs taken dealt took dealt_is =
    let onward : Taken → Result Spent Refusal = λ taken. or_refuse (Overspend place (length (sats_of taken.rows)) (sum (values_of tx))) (deal (sats_of taken.rows) (values_of tx)) >>= λ dealt. Ok (spent_by height tx taken dealt) in
    ap (λ (r : Result Taken Refusal). r >>= onward) took ∙ ap (λ (d : Option (List (List ℕ) × List ℕ)). or_refuse (Overspend place (length (sats_of taken.rows)) (sum (values_of tx))) d >>= λ dealt. Ok (spent_by height tx taken dealt)) dealt_is

overspent : (height place : ℕ) (tx : Tx) (outs : Outputs) (taken : Taken) → take_rows place 0 tx.inputs outs ≡ Ok taken → length (sats_of taken.rows) < sum (values_of tx) → spend height place tx outs ≡ Err (Overspend place (length (sats_of taken.rows)) (sum (values_of tx)))
overspent height place tx outs taken took short =
    let onward : Taken → Result Spent Refusal = λ taken. or_refuse (Overspend place (length (sats_of taken.rows)) (sum (values_of tx))) (deal (sats_of taken.rows) (values_of tx)) >>= λ dealt. Ok (spent_by height tx taken dealt) in
    ap (λ (r : Result Taken Refusal). r >>= onward) took ∙ ap (λ (d : Option (List (List ℕ) × List ℕ)). or_refuse (Overspend place (length (sats_of taken.rows)) (sum (values_of tx))) d >>= λ dealt. Ok (spent_by height tx taken dealt)) (deal_short (sats_of taken.rows) (values_of tx) short)

-- an input that names no row
pub untaken : (height place : ℕ) (tx : Tx) (outs : Outputs) (before : Spent) (fault : Why) → Refuses fault (take_rows place 0 tx.inputs outs) → Refuses fault (all_behind before (spend height place tx outs))
untaken height place tx outs before Memory refused = tt
untaken height place tx outs before (Refused refusal) refused =
    let onward : Taken → Result Spent Refusal = λ taken. or_refuse (Overspend place (length (sats_of taken.rows)) (sum (values_of tx))) (deal (sats_of taken.rows) (values_of tx)) >>= λ dealt. Ok (spent_by height tx taken dealt) in
    ap (λ (r : Result Taken Refusal). all_behind before (r >>= onward)) refused

-- outputs with more than the inputs
pub too_much : (height place : ℕ) (tx : Tx) (outs mid : Outputs) (before : Spent) (rows : List OutRow) (sats : List ℕ) (have want : ℕ) → take_rows place 0 tx.inputs outs ≡ Ok (taken_of rows mid) → sats ≡ sats_of rows → have ≡ length sats → want ≡ sum (values tx.outputs) → have < want → all_behind before (spend height place tx outs) ≡ Err (Overspend place have want)
too_much height place tx outs mid before rows sats have want took is length_is sum_is short =
    let have_is : have ≡ length (sats_of rows) = length_is ∙ ap length is in
    ap (all_behind before) (overspent height place tx outs (taken_of rows mid) took (omega (arith, have_is, sum_is, short)))
    ∙ (ap (λ (n : ℕ). Err (Overspend place n (sum (values tx.outputs)))) (sym have_is) ∙ ap (λ (n : ℕ). Err (Overspend place have n)) (sym sum_is))

same_txid : (txid : Txid) (bytes : List ℕ) → txid.0 ≡ bytes → record { 0 = bytes } ≡ txid
same_txid txid bytes is = λ i. record { 0 = sym is i }

-- all of a transaction
pub spent_whole : (height place : ℕ) (tx : Tx) (outs mid new : Outputs) (rows displaced : List OutRow) (sats copied rest lost lost_now fees fees_now : List ℕ) (parts : List (List ℕ)) (moved moved_now : List MovedTx) (txid : Txid)
    → take_rows place 0 tx.inputs outs ≡ Ok (taken_of rows mid) → sats ≡ sats_of rows → deal sats (values tx.outputs) ≡ Some (parts, rest) → txid.0 ≡ hashes.txid tx → place_rows height txid 0 tx.outputs parts mid ≡ placed_of displaced new
    → copied ≡ sats → lost_now ≡ lost ++ sats_of displaced → fees_now ≡ fees ++ rest → moved_now ≡ moved ++ record { txid = txid; spent = rows; joined = copied; displaced = displaced } ∷ []
    → all_behind (record { moved = moved; lost = lost; fees = fees; outs = outs }) (spend height place tx outs) ≡ Ok (record { moved = moved_now; lost = lost_now; fees = fees_now; outs = new })
spent_whole height place tx outs mid new rows displaced sats copied rest lost lost_now fees fees_now parts moved moved_now txid took is dealt_is txid_is placed copied_is lost_is fees_are moved_is =
    let before : Spent = record { moved = moved; lost = lost; fees = fees; outs = outs } in
    let dealt_rows : deal (sats_of rows) (values tx.outputs) ≡ Some (parts, rest) = ap (λ (l : List ℕ). deal l (values tx.outputs)) (sym is) ∙ dealt_is in
    let one : all_behind before (spend height place tx outs) ≡ Ok (behind before (spent_by height tx (taken_of rows mid) (parts, rest))) = ap (all_behind before) (spend_is height place tx outs (taken_of rows mid) (parts, rest) took dealt_rows) in
    let id : txid_of tx ≡ txid = same_txid txid (hashes.txid tx) txid_is in
    let placed_so : place_rows height (txid_of tx) 0 tx.outputs parts mid ≡ placed_of displaced new = ap (λ (t : Txid). place_rows height t 0 tx.outputs parts mid) id ∙ placed in
    let result : Txid → Placed → List ℕ → Result Spent Refusal = λ t p joined. Ok (record { moved = moved ++ record { txid = t; spent = rows; joined = joined; displaced = p.displaced } ∷ []; lost = lost ++ sats_of p.displaced; fees = fees ++ rest; outs = p.outs }) in
    one ∙ (ap (λ (t : Txid). result t (place_rows height (txid_of tx) 0 tx.outputs parts mid) (sats_of rows)) id ∙ (ap (λ (p : Placed). result txid p (sats_of rows)) placed_so ∙ (ap (result txid (placed_of displaced new)) (sym is ∙ sym copied_is)
    ∙ λ i. Ok (record { moved = sym moved_is i; lost = sym lost_is i; fees = sym fees_are i; outs = new }))))

-- ---- each satoshi stays in one place

pub apart_taken : (place : ℕ) (tx : Tx) (outs mid : Outputs) (rows : List OutRow) (sats hand : List ℕ) → take_rows place 0 tx.inputs outs ≡ Ok (taken_of rows mid) → sats ≡ sats_of rows → Apart (2 ^ 63) outs hand → Apart (2 ^ 63) mid (sats ++ hand)
apart_taken place tx outs mid rows sats hand took is apart = record {
  once = λ sat.
      let same : times sat sats ≡ times sat (sats_of rows) = ap (times sat) is in
      omega (arith, same, (take_keeps sat place 0 tx.inputs outs (taken_of rows mid) took).keeps, apart.once sat, times_held sat outs, times_held sat mid, times-append sat sats hand);
}

pub apart_dealt : (outs : Outputs) (sats rest hand lost : List ℕ) (lengths : List ℕ) (parts : List (List ℕ)) → deal sats lengths ≡ Some (parts, rest) → ((sat : ℕ) → times sat lost ≤ times sat hand) → Apart (2 ^ 63) outs (sats ++ hand) → Apart (2 ^ 63) outs (all_parts parts ++ lost)
apart_dealt outs sats rest hand lost lengths parts dealt fewer apart =
    apart_less (2 ^ 63) outs (sats ++ hand) (all_parts parts ++ lost) (λ sat. omega (arith, (deal_keeps sat sats lengths (parts, rest) dealt).keeps, fewer sat, times-append sat sats hand, times-append sat (all_parts parts) lost)) apart

pub as_many : (list lengths rest : List ℕ) (parts : List (List ℕ)) → deal list lengths ≡ Some (parts, rest) → length parts ≡ length lengths
as_many list lengths rest parts dealt = (deal_keeps 0 list lengths (parts, rest) dealt).each

pub length-values : (outputs : List TxOut) → length (values outputs) ≡ length outputs
length-values [] = refl
length-values (output ∷ outputs) = ap (λ (k : ℕ). suc k) (length-values outputs)

-- so many fit in one list
pub fits_behind : (outs : Outputs) (sats rest fees lost : List ℕ) (lengths : List ℕ) (parts : List (List ℕ)) → deal sats lengths ≡ Some (parts, rest) → Apart (2 ^ 63) outs (sats ++ (lost ++ fees)) → length fees + length rest < 2 ^ 64
fits_behind outs sats rest fees lost lengths parts dealt apart =
    let less : Apart (2 ^ 63) outs (fees ++ rest) = apart_less (2 ^ 63) outs (sats ++ (lost ++ fees)) (fees ++ rest) (λ sat. omega (arith, (deal_keeps sat sats lengths (parts, rest) dealt).keeps, times-append sat sats (lost ++ fees), times-append sat lost fees, times-append sat fees rest)) apart in
    omega (arith, apart_fits (2 ^ 63) outs (fees ++ rest) less, length-append fees rest)

apart_behind : (height place : ℕ) (tx : Tx) (before next : Spent) → spend height place tx before.outs ≡ Ok next → Apart (2 ^ 63) before.outs (before.lost ++ before.fees) → Apart (2 ^ 63) next.outs ((before.lost ++ next.lost) ++ (before.fees ++ next.fees))
apart_behind height place tx before next is apart = record {
  once = λ sat. omega (arith, (spend_keeps sat height place tx before.outs next is).keeps, apart.once sat, times_held sat before.outs, times_held sat next.outs, times-append sat before.lost before.fees, times-append sat (before.lost ++ next.lost) (before.fees ++ next.fees), times-append sat before.lost next.lost, times-append sat before.fees next.fees);
}

same_spent : (x y : Spent) → ◌≡◌ {A = Result Spent Refusal} (Ok x) (Ok y) → x ≡ y
same_spent x y is = cc

pub apart_spent : (height place : ℕ) (tx : Tx) (before after : Spent) → all_behind before (spend height place tx before.outs) ≡ Ok after → Apart (2 ^ 63) before.outs (before.lost ++ before.fees) → Apart (2 ^ 63) after.outs (after.lost ++ after.fees)
apart_spent height place tx before after is apart =
    let next = bind_ok (spend height place tx before.outs) (λ next. Ok (behind before next)) after is in
    subst (λ (s : Spent). Apart (2 ^ 63) s.outs (s.lost ++ s.fees)) (same_spent (behind before next.0) after next.2) (apart_behind height place tx before next.0 next.1 apart)

-- ---- one transaction after the other

-- the first id is the coinbase's, and the others are those of the others
pub ids_split : (id : List ℕ) (ids all : List (List ℕ)) (coinbase : Tx) (txs whole : List Tx) → all ≡ id ∷ ids → whole ≡ coinbase ∷ txs → all ≡ map hashes.txid whole → (id ≡ hashes.txid coinbase) × (ids ≡ map hashes.txid txs)
ids_split id ids all coinbase txs whole all_is whole_is are =
    let both : id ∷ ids ≡ hashes.txid coinbase ∷ map hashes.txid txs = sym all_is ∙ (are ∙ ap (λ (l : List Tx). map hashes.txid l) whole_is) in (cc, cc)

-- the id at a place is that of the transaction there
pub id_at : (txs : List Tx) (ids : List (List ℕ)) (i : ℕ) (tx : Tx) → ids ≡ map hashes.txid txs → i < length txs → tx ≡ get_or txs i tx → get_or ids i [] ≡ hashes.txid tx
id_at txs ids i tx are low here = ap (λ (l : List (List ℕ)). get_or l i []) are ∙ (get_or-map hashes.txid txs i tx [] low ∙ ap hashes.txid (sym here))

pub none_spent : (outs : Outputs) (before : Spent) (all : Result Spent Refusal) → before.moved ≡ [] → before.lost ≡ [] → before.fees ≡ [] → all ≡ all_behind before all
none_spent outs before (Ok next) no_moved no_lost no_fees = λ i. Ok (record { moved = sym no_moved i ++ next.moved; lost = sym no_lost i ++ next.lost; fees = sym no_fees i ++ next.fees; outs = next.outs })
none_spent outs before (Err refusal) no_moved no_lost no_fees = refl

regrouped : (before first : Spent) (rest : Result Spent Refusal) → all_behind before (rest >>= λ rest. Ok (behind first rest)) ≡ all_behind (behind before first) rest
regrouped before first (Ok rest) = λ i. Ok (record { moved = sym (append_assoc before.moved first.moved rest.moved) i; lost = sym (append_assoc before.lost first.lost rest.lost) i; fees = sym (append_assoc before.fees first.fees rest.fees) i; outs = rest.outs })
regrouped before first (Err refusal) = refl

pub spend_more : (height i : ℕ) (txs : List Tx) (tx : Tx) (before after : Spent) (whole : Result Spent Refusal) → i < length txs → tx ≡ get_or txs i tx → all_behind before (spend height (i + 1) tx before.outs) ≡ Ok after → whole ≡ all_behind before (spend_all height (i + 1) (drop i txs) before.outs) → whole ≡ all_behind after (spend_all height (i + 1 + 1) (drop (i + 1) txs) after.outs)
spend_more height i txs tx before after whole lt here is so_far =
    let front : drop i txs ≡ tx ∷ drop (i + 1) txs = drop_more txs i tx lt ∙ ap (λ (x : Tx). x ∷ drop (i + 1) txs) (sym here) in
    let first = bind_ok (spend height (i + 1) tx before.outs) (λ next. Ok (behind before next)) after is in
    let onward : Outputs → Result Spent Refusal = λ outs. spend_all height (i + 1 + 1) (drop (i + 1) txs) outs in
    let one : whole ≡ all_behind (behind before first.0) (onward first.0.outs) =
    so_far ∙ (ap (λ (l : List Tx). all_behind before (spend_all height (i + 1) l before.outs)) front
    ∙ (ap (λ (r : Result Spent Refusal). all_behind before (r >>= λ first. onward first.outs >>= λ rest. Ok (behind first rest))) first.1 ∙ regrouped before first.0 (onward first.0.outs))) in
    one ∙ ap (λ (s : Spent). all_behind s (onward s.outs)) (same_spent (behind before first.0) after first.2)

refused_alone : (before : Spent) (refusal : Refusal) (answer : Result Spent Refusal) → all_behind before answer ≡ Err refusal → answer ≡ Err refusal
refused_alone before refusal (Ok next) is = absurd (cc is)
refused_alone before refusal (Err other) is = cc

pub spend_fails : (height i : ℕ) (txs : List Tx) (tx : Tx) (before : Spent) (fault : Why) (whole : Result Spent Refusal) → i < length txs → tx ≡ get_or txs i tx → Refuses fault (all_behind before (spend height (i + 1) tx before.outs)) → whole ≡ all_behind before (spend_all height (i + 1) (drop i txs) before.outs) → Refuses fault whole
spend_fails height i txs tx before Memory whole lt here refused so_far = tt
spend_fails height i txs tx before (Refused refusal) whole lt here refused so_far =
    let front : drop i txs ≡ tx ∷ drop (i + 1) txs = drop_more txs i tx lt ∙ ap (λ (x : Tx). x ∷ drop (i + 1) txs) (sym here) in
    let onward : Outputs → Result Spent Refusal = λ outs. spend_all height (i + 1 + 1) (drop (i + 1) txs) outs in
    so_far ∙ (ap (λ (l : List Tx). all_behind before (spend_all height (i + 1) l before.outs)) front
    ∙ ap (λ (r : Result Spent Refusal). all_behind before (r >>= λ first. onward first.outs >>= λ rest. Ok (behind first rest))) (refused_alone before refusal (spend height (i + 1) tx before.outs) refused))

pub spend_done : (height i : ℕ) (txs : List Tx) (before : Spent) (whole : Result Spent Refusal) → length txs ≤ i → whole ≡ all_behind before (spend_all height (i + 1) (drop i txs) before.outs) → whole ≡ Ok before
spend_done height i txs before whole le so_far =
    so_far ∙ (ap (λ (l : List Tx). all_behind before (spend_all height (i + 1) l before.outs)) (drop_all i txs le)
    ∙ λ j. Ok (record { moved = append-nil before.moved j; lost = append-nil before.lost j; fees = append-nil before.fees j; outs = before.outs }))

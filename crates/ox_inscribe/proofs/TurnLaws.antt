-- What transactions reveal, as their rows come one by one.
use Rattle.std.proofs.Common.{◌≡◌, ◌∙◌, ℕ, suc, ◌+◌, ◌-◌, ◌<◌, ◌≤◌, Bool, List, [], ◌∷◌, ◌++◌, length, take, drop, get_or, refl, sym, ap, ap₂, subst, arith, append_assoc, append-nil, length-append}
use Rattle.std.specs.Prelude.{reverse, sum}
use Rattle.std.specs.List.{AllZip}
use Rattle.std.proofs.lemmas.List.{map-append, drop_more, drop_all, reverse-append}
use Rattle.ox_block.specs.declared.block.Tx.{Tx}
use Rattle.ox_block.specs.declared.block.Txid.{Txid}
use Rattle.ox_rules.specs.Transfer.{values_of}
use Rattle.ox_rules.specs.declared.moved.MovedTx.{MovedTx}
use Rattle.ox_inscribe.specs.Moves.{IsMoveOf}
use Rattle.ox_inscribe.specs.Reveal.{Revealing, Revealed, Source, goes_to_fees, revealed_by, revealed_by_all, revealed_from, revealing_all, revealing_of, row_of, rows_of, sightings_from, sources_of}
use Rattle.ox_inscribe.specs.Scenes.{fees_of, revealing}
use Rattle.ox_inscribe.specs.declared.row.InsRow.{InsRow}
use Rattle.ox_inscribe.specs.declared.scene.Scene.{Scene}
use Rattle.ox_inscribe.specs.declared.sightings.Sighting.{Sighting}

-- ---- envelopes one by one

from-cons : (tx : Revealing) (before earlier : List InsRow) (index : ℕ) (seen : Sighting) (more : List Sighting) → revealed_from tx before earlier index (seen ∷ more) ≡ (record { row = row_of tx before earlier index seen; in_fees = goes_to_fees tx seen }) ∷ revealed_from tx before (earlier ++ row_of tx before earlier index seen ∷ []) (index + 1) more
unfolding revealed_from
from-cons tx before earlier index seen more = refl

from-none : (tx : Revealing) (before earlier : List InsRow) (index : ℕ) → revealed_from tx before earlier index [] ≡ []
unfolding revealed_from
from-none tx before earlier index = refl

pub popped_seen : (seen left : List Sighting) (one : Sighting) → seen ≡ left ++ one ∷ [] → reverse seen ≡ one ∷ reverse left
popped_seen seen left one split = ap reverse split ∙ reverse-append left (one ∷ [])

-- a row comes: what is left of the envelopes is one less
record Comes (tx : Revealing) (before earlier after : List InsRow) (one : Sighting) (more : List Sighting) (seen : List Sighting) : Type 0 where
  shown : seen ≡ one ∷ more
  front : take (length before) earlier ≡ before
  longer : length before ≤ length earlier
  pushed : after ≡ earlier ++ row_of tx (take (length before) earlier) earlier (length earlier - length before) one ∷ []

next : (tx : Revealing) (before earlier after : List InsRow) (one : Sighting) (more seen : List Sighting) → Comes tx before earlier after one more seen
    → revealed_from tx before earlier (length earlier - length before) seen ≡ (record { row = row_of tx before earlier (length earlier - length before) one; in_fees = goes_to_fees tx one }) ∷ revealed_from tx before after (length after - length before) more
next tx before earlier after one more seen c =
    let index = length earlier - length before in
    let pushed : after ≡ earlier ++ row_of tx before earlier index one ∷ [] = c.pushed ∙ ap (λ (b : List InsRow). earlier ++ row_of tx b earlier index one ∷ []) c.front in
    let on : index + 1 ≡ length after - length before = omega (arith, ap length pushed ∙ length-append earlier _, c.longer) in
    ap (revealed_from tx before earlier index) c.shown ∙ from-cons tx before earlier index one more
    ∙ ap₂ (λ (rows : List InsRow) (n : ℕ). (record { row = row_of tx before earlier index one; in_fees = goes_to_fees tx one }) ∷ revealed_from tx before rows n more) (sym pushed) on

pub rows_more : (tx : Revealing) (before earlier after all : List InsRow) (one : Sighting) (more seen : List Sighting) → seen ≡ one ∷ more → take (length before) earlier ≡ before → length before ≤ length earlier
    → after ≡ earlier ++ row_of tx (take (length before) earlier) earlier (length earlier - length before) one ∷ []
    → earlier ++ rows_of (revealed_from tx before earlier (length earlier - length before) seen) ≡ all
    → after ++ rows_of (revealed_from tx before after (length after - length before) more) ≡ all
rows_more tx before earlier after all one more seen shown front longer pushed so_far =
    let c : Comes tx before earlier after one more seen = record { shown = shown; front = front; longer = longer; pushed = pushed } in
    let index = length earlier - length before in
    let rest = rows_of (revealed_from tx before after (length after - length before) more) in
    ap (λ (rows : List InsRow). rows ++ rest) (pushed ∙ ap (λ (b : List InsRow). earlier ++ row_of tx b earlier index one ∷ []) front)
    ∙ append_assoc earlier (row_of tx before earlier index one ∷ []) rest
    ∙ sym (ap (λ (all : List Revealed). earlier ++ rows_of all) (next tx before earlier after one more seen c)) ∙ so_far

pub fees_more : (tx : Revealing) (before earlier after : List InsRow) (fees fees_after all : List Bool) (one : Sighting) (more seen : List Sighting) → seen ≡ one ∷ more → take (length before) earlier ≡ before → length before ≤ length earlier
    → after ≡ earlier ++ row_of tx (take (length before) earlier) earlier (length earlier - length before) one ∷ []
    → fees_after ≡ fees ++ goes_to_fees tx one ∷ []
    → fees ++ fees_of (revealed_from tx before earlier (length earlier - length before) seen) ≡ all
    → fees_after ++ fees_of (revealed_from tx before after (length after - length before) more) ≡ all
fees_more tx before earlier after fees fees_after all one more seen shown front longer pushed pushed_fee so_far =
    let c : Comes tx before earlier after one more seen = record { shown = shown; front = front; longer = longer; pushed = pushed } in
    let rest = fees_of (revealed_from tx before after (length after - length before) more) in
    ap (λ (fs : List Bool). fs ++ rest) pushed_fee
    ∙ append_assoc fees (goes_to_fees tx one ∷ []) rest
    ∙ sym (ap (λ (all : List Revealed). fees ++ fees_of all) (next tx before earlier after one more seen c)) ∙ so_far

pub rows_end : (tx : Revealing) (before earlier all : List InsRow) (index : ℕ) (seen : List Sighting) → seen ≡ [] → earlier ++ rows_of (revealed_from tx before earlier index seen) ≡ all → earlier ≡ all
rows_end tx before earlier all index seen none so_far =
    sym (ap (λ (found : List Revealed). earlier ++ rows_of found) (ap (revealed_from tx before earlier index) none ∙ from-none tx before earlier index) ∙ append-nil earlier) ∙ so_far

pub fees_end : (tx : Revealing) (before earlier : List InsRow) (fees all : List Bool) (index : ℕ) (seen : List Sighting) → seen ≡ [] → fees ++ fees_of (revealed_from tx before earlier index seen) ≡ all → fees ≡ all
fees_end tx before earlier fees all index seen none so_far =
    sym (ap (λ (found : List Revealed). fees ++ fees_of found) (ap (revealed_from tx before earlier index) none ∙ from-none tx before earlier index) ∙ append-nil fees) ∙ so_far

-- ---- a transaction

-- its envelopes as such have no part in a row
alike : (txid : Txid) (height : ℕ) (joined : List ℕ) (taken : ℕ) (one other : List Source) (before earlier : List InsRow) (index : ℕ) (seen : List Sighting)
    → revealed_from (record { txid = txid; height = height; joined = joined; taken = taken; sources = one }) before earlier index seen
    ≡ revealed_from (record { txid = txid; height = height; joined = joined; taken = taken; sources = other }) before earlier index seen
unfolding revealed_from
alike txid height joined taken one other before earlier index [] = refl
alike txid height joined taken one other before earlier index (seen ∷ more) =
    let tx : Revealing = record { txid = txid; height = height; joined = joined; taken = taken; sources = one } in
    ap (λ (rest : List Revealed). (record { row = row_of tx before earlier index seen; in_fees = goes_to_fees tx seen }) ∷ rest)
    (alike txid height joined taken one other before (earlier ++ row_of tx before earlier index seen ∷ []) (index + 1) more)

pub by_scene : (scene : Scene) (height : ℕ) (tx : Tx) (did : MovedTx) (rows : List InsRow) (seen : List Sighting) → scene.txid ≡ did.txid → scene.height ≡ height → scene.joined ≡ did.joined → scene.taken ≡ sum (values_of tx)
    → seen ≡ sightings_from 0 0 (sources_of tx.inputs did.spent) → revealed_from (revealing scene) rows rows 0 seen ≡ revealed_by rows (revealing_of height tx did)
by_scene scene height tx did rows seen txid height_is joined taken all =
    ap (revealed_from (revealing scene) rows rows 0) all
    ∙ alike scene.txid scene.height scene.joined scene.taken [] (sources_of tx.inputs did.spent) rows rows 0 _
    ∙ ap₂ (λ (t : Txid) (h : ℕ). revealed_from (record { txid = t; height = h; joined = scene.joined; taken = scene.taken; sources = sources_of tx.inputs did.spent }) rows rows 0 (sightings_from 0 0 (sources_of tx.inputs did.spent))) txid height_is
    ∙ ap₂ (λ (j : List ℕ) (t : ℕ). revealed_from (record { txid = did.txid; height = height; joined = j; taken = t; sources = sources_of tx.inputs did.spent }) rows rows 0 (sightings_from 0 0 (sources_of tx.inputs did.spent))) joined taken

pub no_envelope : (height : ℕ) (tx : Tx) (did : MovedTx) (rows : List InsRow) (seen : List Sighting) → seen ≡ sightings_from 0 0 (sources_of tx.inputs did.spent) → seen ≡ [] → revealed_by rows (revealing_of height tx did) ≡ []
no_envelope height tx did rows seen all none = ap (revealed_from (revealing_of height tx did) rows rows 0) (sym all ∙ none) ∙ from-none _ rows rows 0

-- ---- transactions one by one

all-cons : (rows : List InsRow) (tx : Revealing) (txs : List Revealing) → revealed_by_all rows (tx ∷ txs) ≡ revealed_by rows tx ++ revealed_by_all (rows ++ rows_of (revealed_by rows tx)) txs
unfolding revealed_by_all
all-cons rows tx txs = refl

all-none : (rows : List InsRow) → revealed_by_all rows [] ≡ []
unfolding revealed_by_all
all-none rows = refl

revealing-cons : (height : ℕ) (tx : Tx) (txs : List Tx) (did : MovedTx) (moved : List MovedTx) → revealing_all height (tx ∷ txs) (did ∷ moved) ≡ revealing_of height tx did ∷ revealing_all height txs moved
unfolding revealing_all
revealing-cons height tx txs did moved = refl

revealing-none : (height : ℕ) (moved : List MovedTx) → revealing_all height [] moved ≡ []
unfolding revealing_all
revealing-none height [] = refl
revealing-none height (did ∷ moved) = refl

turn : (height place : ℕ) (txs : List Tx) (moved : List MovedTx) (tx : Tx) (did : MovedTx) (rows after : List InsRow) → drop place txs ≡ tx ∷ drop (place + 1) txs → drop place moved ≡ did ∷ drop (place + 1) moved
    → after ≡ rows ++ rows_of (revealed_by rows (revealing_of height tx did))
    → revealed_by_all rows (revealing_all height (drop place txs) (drop place moved)) ≡ revealed_by rows (revealing_of height tx did) ++ revealed_by_all after (revealing_all height (drop (place + 1) txs) (drop (place + 1) moved))
turn height place txs moved tx did rows after one other pushed =
    ap (revealed_by_all rows) (ap₂ (revealing_all height) one other ∙ revealing-cons height tx _ did _)
    ∙ all-cons rows (revealing_of height tx did) _
    ∙ ap (λ (now : List InsRow). revealed_by rows (revealing_of height tx did) ++ revealed_by_all now (revealing_all height (drop (place + 1) txs) (drop (place + 1) moved))) (sym pushed)

at_place : {X : Type 0} (xs : List X) (place : ℕ) (x : X) → place < length xs → x ≡ get_or xs place x → drop place xs ≡ x ∷ drop (place + 1) xs
at_place xs place x within is = drop_more xs place x within ∙ ap (λ (one : _). one ∷ drop (place + 1) xs) (sym is)

pub turn_rows : (height place : ℕ) (txs : List Tx) (moved : List MovedTx) (tx : Tx) (did : MovedTx) (rows after all : List InsRow) → place < length txs → place < length moved → tx ≡ get_or txs place tx → did ≡ get_or moved place did
    → after ≡ rows ++ rows_of (revealed_by rows (revealing_of height tx did))
    → rows ++ rows_of (revealed_by_all rows (revealing_all height (drop place txs) (drop place moved))) ≡ all
    → after ++ rows_of (revealed_by_all after (revealing_all height (drop (place + 1) txs) (drop (place + 1) moved))) ≡ all
turn_rows height place txs moved tx did rows after all within too is did_is pushed so_far =
    let now = revealed_by rows (revealing_of height tx did) in
    let rest = revealed_by_all after (revealing_all height (drop (place + 1) txs) (drop (place + 1) moved)) in
    ap (λ (front : List InsRow). front ++ rows_of rest) pushed
    ∙ append_assoc rows (rows_of now) (rows_of rest)
    ∙ ap (λ (back : List InsRow). rows ++ back) (sym (map-append (λ (one : Revealed). one.row) now rest))
    ∙ sym (ap (λ (found : List Revealed). rows ++ rows_of found) (turn height place txs moved tx did rows after (at_place txs place tx within is) (at_place moved place did too did_is) pushed)) ∙ so_far

pub turn_fees : (height place : ℕ) (txs : List Tx) (moved : List MovedTx) (tx : Tx) (did : MovedTx) (rows after : List InsRow) (fees fees_after all : List Bool) → place < length txs → place < length moved → tx ≡ get_or txs place tx → did ≡ get_or moved place did
    → after ≡ rows ++ rows_of (revealed_by rows (revealing_of height tx did))
    → fees_after ≡ fees ++ fees_of (revealed_by rows (revealing_of height tx did))
    → fees ++ fees_of (revealed_by_all rows (revealing_all height (drop place txs) (drop place moved))) ≡ all
    → fees_after ++ fees_of (revealed_by_all after (revealing_all height (drop (place + 1) txs) (drop (place + 1) moved))) ≡ all
turn_fees height place txs moved tx did rows after fees fees_after all within too is did_is pushed flags so_far =
    let now = revealed_by rows (revealing_of height tx did) in
    let rest = revealed_by_all after (revealing_all height (drop (place + 1) txs) (drop (place + 1) moved)) in
    ap (λ (front : List Bool). front ++ fees_of rest) flags
    ∙ append_assoc fees (fees_of now) (fees_of rest)
    ∙ ap (λ (back : List Bool). fees ++ back) (sym (map-append (λ (one : Revealed). one.in_fees) now rest))
    ∙ sym (ap (λ (found : List Revealed). fees ++ fees_of found) (turn height place txs moved tx did rows after (at_place txs place tx within is) (at_place moved place did too did_is) pushed)) ∙ so_far

over : (height place : ℕ) (txs : List Tx) (moved : List MovedTx) (rows : List InsRow) → length txs ≤ place → revealed_by_all rows (revealing_all height (drop place txs) (drop place moved)) ≡ []
over height place txs moved rows past = ap (revealed_by_all rows) (ap (λ (ts : List Tx). revealing_all height ts (drop place moved)) (drop_all place txs past) ∙ revealing-none height (drop place moved)) ∙ all-none rows

pub over_rows : (height place : ℕ) (txs : List Tx) (moved : List MovedTx) (rows all : List InsRow) → length txs ≤ place → rows ++ rows_of (revealed_by_all rows (revealing_all height (drop place txs) (drop place moved))) ≡ all → rows ≡ all
over_rows height place txs moved rows all past so_far = sym (ap (λ (found : List Revealed). rows ++ rows_of found) (over height place txs moved rows past) ∙ append-nil rows) ∙ so_far

pub over_fees : (height place : ℕ) (txs : List Tx) (moved : List MovedTx) (rows : List InsRow) (fees all : List Bool) → length txs ≤ place → fees ++ fees_of (revealed_by_all rows (revealing_all height (drop place txs) (drop place moved))) ≡ all → fees ≡ all
over_fees height place txs moved rows fees all past so_far = sym (ap (λ (found : List Revealed). fees ++ fees_of found) (over height place txs moved rows past) ∙ append-nil fees) ∙ so_far

-- the moves that are left
pub moves_more : (place : ℕ) (txs : List Tx) (moved : List MovedTx) (tx : Tx) (did : MovedTx) → place < length txs → place < length moved → tx ≡ get_or txs place tx → did ≡ get_or moved place did → AllZip IsMoveOf (drop place txs) (drop place moved) → IsMoveOf tx did × AllZip IsMoveOf (drop (place + 1) txs) (drop (place + 1) moved)
moves_more place txs moved tx did within too is did_is left =
    let split : AllZip IsMoveOf (tx ∷ drop (place + 1) txs) (drop place moved) = subst (λ (ts : List Tx). AllZip IsMoveOf ts (drop place moved)) (at_place txs place tx within is) left in
    subst (λ (ms : List MovedTx). AllZip IsMoveOf (tx ∷ drop (place + 1) txs) ms) (at_place moved place did too did_is) split

pub moves_long : (txs : List Tx) (moved : List MovedTx) → AllZip IsMoveOf txs moved → length moved ≡ length txs
moves_long [] [] left = refl
moves_long [] (did ∷ moved) left = absurd left
moves_long (tx ∷ txs) [] left = absurd left
moves_long (tx ∷ txs) (did ∷ moved) left = ap suc (moves_long txs moved left.1)

pub none_left : (seen : List Sighting) → length seen ≡ 0 → reverse seen ≡ []
none_left [] none = refl
none_left (one ∷ seen) none = absurd (omega (arith, none))

pub none_there : (seen : List Sighting) → length seen ≡ 0 → seen ≡ []
none_there [] none = refl
none_there (one ∷ seen) none = absurd (omega (arith, none))

pub no_rows : (rows : List InsRow) (found : List Revealed) → found ≡ [] → rows ≡ rows ++ rows_of found
no_rows rows found none = sym (ap (λ (all : List Revealed). rows ++ rows_of all) none ∙ append-nil rows)

pub no_fees : (fees : List Bool) (found : List Revealed) → found ≡ [] → fees ≡ fees ++ fees_of found
no_fees fees found none = sym (ap (λ (all : List Revealed). fees ++ fees_of all) none ∙ append-nil fees)

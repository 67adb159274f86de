-- The rows that a block reveals are one for each envelope.
use Rattle.std.proofs.Common.{◌≡◌, ◌∙◌, ℕ, ◌+◌, Bool, true, false, List, [], ◌∷◌, ◌++◌, refl, sym, ap, subst}
use Rattle.std.specs.Prelude.{map, filter, not, drop}
use Rattle.std.specs.List.{AllZip, flat_map}
use Rattle.std.specs.List.Sorted.{IsPermutation}
use Rattle.std.proofs.lemmas.List.{map-append}
use Rattle.std.proofs.lemmas.List.Sorted.{IsPermutation-map, IsPermutation-filter_both}
use Rattle.ox_block.specs.declared.block.Tx.{Tx}
use Rattle.ox_block.specs.declared.block.Txid.{Txid}
use Rattle.ox_rules.specs.Transfer.{txid_of}
use Rattle.ox_rules.specs.declared.moved.MovedTx.{MovedTx}
use Rattle.ox_inscribe.specs.Moves.{IsMoveOf, AreMovesOf}
use Rattle.ox_inscribe.specs.Origins.{Saying, sayings_of, bare, bare_row, bare_rows_from, bare_rows_of}
use Rattle.ox_inscribe.specs.Reveal.{Revealing, Revealed, row_of, revealed_from, sightings_from, sources_of, revealed_by, rows_of, revealed_by_all, in_order, revealing_of, revealing_all, reveal_of}
use Rattle.ox_inscribe.specs.declared.sightings.Sighting.{Sighting}
use Rattle.ox_inscribe.specs.declared.row.InsRow.{InsRow}
use Rattle.ox_inscribe.proofs.SightingLaws.{saying_of, sightings_are}

abbrev bared : List Revealed → List InsRow
bared all = map (λ one. bare one.row) all

bare_from : (tx : Revealing) (before earlier : List InsRow) (index : ℕ) (all : List Sighting) → bared (revealed_from tx before earlier index all) ≡ bare_rows_from tx.height tx.txid.0 index (map saying_of all)
unfolding revealed_from bare_rows_from
bare_from tx before earlier index [] = refl
bare_from tx before earlier index (seen ∷ more) =
    ap (λ (rest : List InsRow). bare_row tx.height (record { txid = tx.txid.0; index = index }) seen.says ∷ rest)
    (bare_from tx before (earlier ++ row_of tx before earlier index seen ∷ []) (index + 1) more)

bare_by : (rows : List InsRow) (height : ℕ) (tx : Tx) (did : MovedTx) → IsMoveOf tx did → bared (revealed_by rows (revealing_of height tx did)) ≡ bare_rows_from height (txid_of tx).0 0 (sayings_of tx)
bare_by rows height tx did move =
    bare_from (revealing_of height tx did) rows rows 0 (sightings_from 0 0 (sources_of tx.inputs did.spent))
    ∙ ap (λ (all : List Saying). bare_rows_from height did.txid.0 0 all) (sightings_are 0 0 tx.inputs did.spent move.rows)
    ∙ ap (λ (txid : Txid). bare_rows_from height txid.0 0 (sayings_of tx)) move.txid

bare_all : (rows : List InsRow) (height : ℕ) (txs : List Tx) (moved : List MovedTx) → AllZip IsMoveOf txs moved → bared (revealed_by_all rows (revealing_all height txs moved)) ≡ flat_map (λ tx. bare_rows_from height (txid_of tx).0 0 (sayings_of tx)) txs
unfolding revealed_by_all revealing_all
bare_all rows height [] [] moves = refl
bare_all rows height [] (did ∷ moved) moves = absurd moves
bare_all rows height (tx ∷ txs) [] moves = absurd moves
bare_all rows height (tx ∷ txs) (did ∷ moved) moves =
    let now = revealed_by rows (revealing_of height tx did) in
    let later = revealed_by_all (rows ++ rows_of now) (revealing_all height txs moved) in
    map-append (λ (one : Revealed). bare one.row) now later
    ∙ ap (λ (front : List InsRow). front ++ bared later) (bare_by rows height tx did moves.0)
    ∙ ap (λ (back : List InsRow). bare_rows_from height (txid_of tx).0 0 (sayings_of tx) ++ back) (bare_all (rows ++ rows_of now) height txs moved moves.1)

bare_rows : (all : List Revealed) → map bare (rows_of all) ≡ bared all
bare_rows [] = refl
bare_rows (one ∷ more) = ap (λ (rest : List InsRow). bare one.row ∷ rest) (bare_rows more)

twice : (b : Bool) → b ≡ not (not b)
twice true = refl
twice false = refl

bare_in_order : (all : List Revealed) → map bare (in_order all) ≡ bared (filter (λ one. not one.in_fees) all ++ filter (λ one. one.in_fees) all)
bare_in_order all =
    let stay = filter (λ (one : Revealed). not one.in_fees) all in
    let go = filter (λ (one : Revealed). one.in_fees) all in
    map-append bare (rows_of stay) (rows_of go)
    ∙ ap (λ (front : List InsRow). front ++ map bare (rows_of go)) (bare_rows stay)
    ∙ ap (λ (back : List InsRow). bared stay ++ back) (bare_rows go)
    ∙ sym (map-append (λ (one : Revealed). bare one.row) stay go)

pub one_for_each : (rows : List InsRow) (height : ℕ) (txs : List Tx) (moved : List MovedTx) → AreMovesOf txs moved → IsPermutation (bare_rows_of height txs) (map bare (reveal_of rows height txs moved))
one_for_each rows height txs moved moves =
    let all = revealed_by_all rows (revealing_all height (drop 1 txs) (drop 1 moved)) in
    let moved_apart = IsPermutation-filter_both (λ (one : Revealed). not one.in_fees) (λ (one : Revealed). one.in_fees) (λ one. twice one.in_fees) all in
    let bare_ones = IsPermutation-map (λ (one : Revealed). bare one.row) _ _ moved_apart in
    subst (λ (front : List InsRow). IsPermutation front (map bare (in_order all))) (bare_all rows height (drop 1 txs) (drop 1 moved) moves)
    (subst (λ (back : List InsRow). IsPermutation (bared all) back) (sym (bare_in_order all)) bare_ones)

-- Each row that a block reveals is that of an envelope.
use Rattle.std.proofs.Common.{◌≡◌, ◌∙◌, ℕ, zero, suc, ◌+◌, List, [], ◌∷◌, ◌++◌, take, refl, sym, ap, subst, arith, Some, append_assoc}
use Rattle.std.specs.Prelude.{All, slice_get}
use Rattle.std.specs.List.{AllZip}
use Rattle.std.proofs.lemmas.List.{map-append, append-nil}
use Rattle.std.proofs.lemmas.List.Elements.{All-nil, All-cons, All-append, All-weaker, All-filter, All-map}
use Rattle.ox_block.specs.declared.block.Tx.{Tx}
use Rattle.ox_rules.specs.declared.moved.MovedTx.{MovedTx}
use Rattle.ox_inscribe.specs.Moves.{IsMoveOf}
use Rattle.ox_inscribe.specs.Reveal.{Revealing, Revealed, row_of, revealed_from, sightings_from, goes_to_fees, revealed_by, rows_of, revealed_by_all, in_order, revealing_of, revealing_all}
use Rattle.ox_inscribe.specs.declared.sightings.Sighting.{Sighting}
use Rattle.ox_inscribe.specs.declared.row.InsRow.{InsRow}

-- the row of an envelope among these, the first of them having this index: behind so many of them, and behind these rows
pub record IsFrom (tx : Revealing) (before : List InsRow) (index : ℕ) (all : List Sighting) (row : InsRow) : Type 0 where
  pub place : ℕ
  pub earlier : List InsRow
  pub seen : Sighting
  pub there : slice_get all place ≡ Some seen
  pub is : row ≡ row_of tx before earlier (index + place) seen

first_from : (tx : Revealing) (before earlier : List InsRow) (index : ℕ) (seen : Sighting) (more : List Sighting) → IsFrom tx before index (seen ∷ more) (row_of tx before earlier index seen)
first_from tx before earlier index seen more = record {
  place = 0;
  earlier = earlier;
  seen = seen;
  there = refl;
  is = let same : index ≡ index + 0 = omega arith in ap (λ (i : ℕ). row_of tx before earlier i seen) same;
}

later_from : (tx : Revealing) (before : List InsRow) (index : ℕ) (seen : Sighting) (more : List Sighting) (row : InsRow) → IsFrom tx before (index + 1) more row → IsFrom tx before index (seen ∷ more) row
later_from tx before index seen more row from = record {
  place = suc from.place;
  earlier = from.earlier;
  seen = from.seen;
  there = from.there;
  is = let same : index + 1 + from.place ≡ index + suc from.place = omega arith in from.is ∙ ap (λ (i : ℕ). row_of tx before from.earlier i from.seen) same;
}

from_sightings : (tx : Revealing) (before earlier : List InsRow) (index : ℕ) (all : List Sighting) → All (λ one. IsFrom tx before index all one.row) (revealed_from tx before earlier index all)
unfolding revealed_from
from_sightings tx before earlier index [] = All-nil _
from_sightings tx before earlier index (seen ∷ more) =
    All-cons (λ (one : Revealed). IsFrom tx before index (seen ∷ more) one.row) (record { row = row_of tx before earlier index seen; in_fees = goes_to_fees tx seen }) _ (first_from tx before earlier index seen more)
    (All-weaker (λ (one : Revealed). IsFrom tx before (index + 1) more one.row) (λ (one : Revealed). IsFrom tx before index (seen ∷ more) one.row) (λ one. later_from tx before index seen more one.row) _ (from_sightings tx before (earlier ++ row_of tx before earlier index seen ∷ []) (index + 1) more))

-- the row of an envelope of one of these transactions
pub record IsOf (rows : List InsRow) (txs : List Revealing) (row : InsRow) : Type 0 where
  pub place : ℕ
  pub tx : Revealing
  pub there : slice_get txs place ≡ Some tx
  pub from : IsFrom tx (rows ++ rows_of (revealed_by_all rows (take place txs))) 0 (sightings_from 0 0 tx.sources) row

first_of : (rows : List InsRow) (tx : Revealing) (txs : List Revealing) (row : InsRow) → IsFrom tx rows 0 (sightings_from 0 0 tx.sources) row → IsOf rows (tx ∷ txs) row
unfolding revealed_by_all
first_of rows tx txs row from = record {
  place = 0;
  tx = tx;
  there = refl;
  from = subst (λ (before : List InsRow). IsFrom tx before 0 (sightings_from 0 0 tx.sources) row) (sym (append-nil rows)) from;
}

later_of : (rows : List InsRow) (tx : Revealing) (txs : List Revealing) (row : InsRow) → IsOf (rows ++ rows_of (revealed_by rows tx)) txs row → IsOf rows (tx ∷ txs) row
unfolding revealed_by_all
later_of rows tx txs row of =
    let now = revealed_by rows tx in
    let more = revealed_by_all (rows ++ rows_of now) (take of.place txs) in
    let same : (rows ++ rows_of now) ++ rows_of more ≡ rows ++ rows_of (now ++ more) =
    append_assoc rows (rows_of now) (rows_of more) ∙ ap (λ (back : List InsRow). rows ++ back) (sym (map-append (λ (one : Revealed). one.row) now more)) in record {
      place = suc of.place;
      tx = of.tx;
      there = of.there;
      from = subst (λ (before : List InsRow). IsFrom of.tx before 0 (sightings_from 0 0 of.tx.sources) row) same of.from;
    }

pub of_all : (rows : List InsRow) (txs : List Revealing) → All (λ one. IsOf rows txs one.row) (revealed_by_all rows txs)
unfolding revealed_by_all
of_all rows [] = All-nil _
of_all rows (tx ∷ txs) =
    All-append (λ (one : Revealed). IsOf rows (tx ∷ txs) one.row) _ _
    (All-weaker (λ (one : Revealed). IsFrom tx rows 0 (sightings_from 0 0 tx.sources) one.row) (λ (one : Revealed). IsOf rows (tx ∷ txs) one.row) (λ one. first_of rows tx txs one.row) _ (from_sightings tx rows rows 0 (sightings_from 0 0 tx.sources)))
    (All-weaker (λ (one : Revealed). IsOf (rows ++ rows_of (revealed_by rows tx)) txs one.row) (λ (one : Revealed). IsOf rows (tx ∷ txs) one.row) (λ one. later_of rows tx txs one.row) _ (of_all (rows ++ rows_of (revealed_by rows tx)) txs))

-- their order changes nothing of it
pub all_in_order : (P : InsRow → Type 0) (all : List Revealed) → All (λ one. P one.row) all → All P (in_order all)
all_in_order P all holds =
    All-append P _ _ (All-map P (λ (one : Revealed). one.row) _ (All-filter _ (λ (one : Revealed). P one.row) all holds)) (All-map P (λ (one : Revealed). one.row) _ (All-filter _ (λ (one : Revealed). P one.row) all holds))

-- the plain data at a place is that of the transaction there
pub record IsRevealing (height : ℕ) (txs : List Tx) (moved : List MovedTx) (place : ℕ) (plain : Revealing) : Type 0 where
  pub tx : Tx
  pub did : MovedTx
  pub is_tx : slice_get txs place ≡ Some tx
  pub is_did : slice_get moved place ≡ Some did
  pub move : IsMoveOf tx did
  pub is : plain ≡ revealing_of height tx did

pub revealing_at : (height : ℕ) (txs : List Tx) (moved : List MovedTx) (place : ℕ) (plain : Revealing) → AllZip IsMoveOf txs moved → slice_get (revealing_all height txs moved) place ≡ Some plain → IsRevealing height txs moved place plain
unfolding revealing_all
revealing_at height [] [] place plain moves is = absurd (cc is)
revealing_at height [] (did ∷ more) place plain moves is = absurd moves
revealing_at height (tx ∷ txs) [] place plain moves is = absurd moves
revealing_at height (tx ∷ txs) (did ∷ more) zero plain moves is = record {
  tx = tx;
  did = did;
  is_tx = refl;
  is_did = refl;
  move = moves.0;
  is = sym (cc is);
}
revealing_at height (tx ∷ txs) (did ∷ more) (suc place) plain moves is =
    let later = revealing_at height txs more place plain moves.1 is in record {
      tx = later.tx;
      did = later.did;
      is_tx = later.is_tx;
      is_did = later.is_did;
      move = later.move;
      is = later.is;
    }

-- A new row is on the satoshi that its envelope's pointer names, or on the first of its input.
use Rattle.std.proofs.Common.{◌≡◌, ◌∙◌, ◌<◌, ◌≤◌, ℕ, zero, suc, ◌+◌, Bool, true, false, cond, List, [], ◌∷◌, ◌++◌, length, refl, sym, ap, subst, arith, Option, Some, None, nat_lt}
use Rattle.std.specs.Prelude.{◌==◌, ◌||◌, ◌%◌, All, drop, slice_get, sum, option_map}
use Rattle.std.proofs.lemmas.Bool.{or_parts}
use Rattle.std.proofs.lemmas.Bool.Decides.{nat_tests}
use Rattle.std.proofs.lemmas.List.Elements.{All-nil, All-cons, All-append, All-weaker}
use Rattle.std.proofs.lemmas.Option.{slice_get-map, slice_get_within, get_or_from_slice_get}
use Rattle.ox_block.specs.declared.block.Tx.{Tx}
use Rattle.ox_block.specs.declared.block.TxIn.{TxIn}
use Rattle.ox_block.specs.declared.block.Txid.{Txid}
use Rattle.ox_script.specs.Script.{little_endian}
use Rattle.ox_envelope.specs.declared.inscribed.Inscribed.{Inscribed}
use Rattle.ox_rules.specs.Outputs.{sats_of}
use Rattle.ox_rules.specs.Transfer.{values_of}
use Rattle.ox_rules.specs.declared.moved.MovedTx.{MovedTx}
use Rattle.ox_rules.specs.declared.rows.OutRow.{OutRow}
use Rattle.ox_inscribe.specs.Moves.{IsMoveOf, AreMovesOf}
use Rattle.ox_inscribe.specs.Origins.{Saying, sayings_of, Origin, ComesFrom, AllRevealed, is_unbound_at, rows_before}
use Rattle.ox_inscribe.specs.Reveal.{Revealing, Revealed, said_by, sightings_in, sightings_from, sources_of, place_from, is_unbound, sat_of, revealed_by_all, revealing_of, revealing_all}
use Rattle.ox_inscribe.specs.Standing.{StandsWhereSaid}
use Rattle.ox_inscribe.specs.declared.sightings.Sighting.{Sighting}
use Rattle.ox_inscribe.specs.declared.row.InsRow.{InsRow}
use Rattle.ox_inscribe.proofs.SightingLaws.{saying_of, sightings_are}
use Rattle.ox_inscribe.proofs.RowLaws.{IsFrom, IsOf, of_all, all_in_order, revealing_at}

-- ---- where an input's first satoshi stands among all

first_of_two : (xs ys : List ℕ) → 0 < length xs → slice_get (xs ++ ys) 0 ≡ slice_get xs 0
first_of_two [] ys some = absurd (omega (arith, some))
first_of_two (x ∷ xs) ys some = refl

behind : (xs ys : List ℕ) (k : ℕ) → slice_get (xs ++ ys) (length xs + k) ≡ slice_get ys k
behind [] ys k = let same : 0 + k ≡ k = omega arith in ap (λ (n : ℕ). slice_get ys n) same
behind (x ∷ xs) ys k =
    let same : length (x ∷ xs) + k ≡ suc (length xs + k) = omega arith in
    ap (λ (n : ℕ). slice_get (x ∷ (xs ++ ys)) n) same ∙ behind xs ys k

-- an envelope of an input among these, which spend these rows, the first of them at this place and behind so many satoshis
record IsSeenAt (input before : ℕ) (spent : List OutRow) (seen : Sighting) : Type 0 where
  place : ℕ
  row : OutRow
  skipped : ℕ
  input_is : seen.input ≡ input + place
  there : slice_get spent place ≡ Some row
  size : seen.sats ≡ length row.sats
  before_is : seen.before ≡ before + skipped
  first : 0 < length row.sats → slice_get (sats_of spent) skipped ≡ slice_get row.sats 0

in_first : (input before place : ℕ) (row : OutRow) (rows : List OutRow) (says : List Inscribed) → All (IsSeenAt input before (row ∷ rows)) (sightings_in input before (length row.sats) place says)
unfolding sightings_in
in_first input before place row rows [] = All-nil _
in_first input before place row rows (one ∷ more) =
    All-cons (IsSeenAt input before (row ∷ rows)) _ _
    (record {
      place = 0;
      row = row;
      skipped = 0;
      input_is = omega arith;
      there = refl;
      size = refl;
      before_is = omega arith;
      first = first_of_two row.sats (sats_of rows);
    })
    (in_first input before (place + 1) row rows more)

in_later : (input before : ℕ) (row : OutRow) (rows : List OutRow) (seen : Sighting) → IsSeenAt (input + 1) (before + length row.sats) rows seen → IsSeenAt input before (row ∷ rows) seen
in_later input before row rows seen at = record {
  place = suc at.place;
  row = at.row;
  skipped = length row.sats + at.skipped;
  input_is = omega (arith, at.input_is);
  there = at.there;
  size = at.size;
  before_is = omega (arith, at.before_is);
  first = λ some. behind row.sats (sats_of rows) at.skipped ∙ at.first some;
}

all_seen : (input before : ℕ) (inputs : List TxIn) (spent : List OutRow) → All (IsSeenAt input before spent) (sightings_from input before (sources_of inputs spent))
unfolding sightings_from sources_of
all_seen input before [] spent = All-nil _
all_seen input before (one ∷ inputs) [] = All-nil _
all_seen input before (one ∷ inputs) (row ∷ rows) =
    All-append (IsSeenAt input before (row ∷ rows)) _ _
    (in_first input before 0 row rows (said_by one))
    (All-weaker (IsSeenAt (input + 1) (before + length row.sats) rows) (IsSeenAt input before (row ∷ rows)) (in_later input before row rows) _ (all_seen (input + 1) (before + length row.sats) inputs rows))

-- ---- the satoshi of a row

-- the envelope of a row was seen so
record IsSeen (origin : Origin) (height : ℕ) (seen : Sighting) (row : InsRow) : Type 0 where
  sat : row.sat ≡ sat_of (revealing_of height origin.tx origin.did) seen
  says : seen.says ≡ origin.saying.says
  size : seen.sats ≡ length origin.spends.sats
  joined : origin.did.joined ≡ sats_of origin.did.spent
  first : 0 < length origin.spends.sats → slice_get (sats_of origin.did.spent) seen.before ≡ slice_get origin.spends.sats 0

not_none : (n : ℕ) → (n == 0) ≡ false → 0 < n
not_none zero is = absurd (cc is)
not_none (suc n) is = omega arith

module _ (origin : Origin) (height : ℕ) (seen : Sighting) (row : InsRow) (is : IsSeen origin height seen row) (bound : is_unbound_at origin ≡ false) where
  is_bound : is_unbound seen ≡ false
  is_bound =
      ap (λ (n : ℕ). (seen.says.marks % 2 == 1) || (n == 0)) is.size
      ∙ ap (λ (says : Inscribed). (says.marks % 2 == 1) || (length origin.spends.sats == 0)) is.says
      ∙ bound

  -- it is the one at its place
  on_place : (pointer : Option (List ℕ)) → origin.saying.says.pointer ≡ pointer → row.sat ≡ slice_get (sats_of origin.did.spent) (place_from (sum (values_of origin.tx)) seen.before pointer)
  on_place pointer names =
      is.sat
      ∙ ap (λ (b : Bool). cond b None (slice_get origin.did.joined (place_from (sum (values_of origin.tx)) seen.before seen.says.pointer))) is_bound
      ∙ ap (λ (sats : List ℕ). slice_get sats (place_from (sum (values_of origin.tx)) seen.before seen.says.pointer)) is.joined
      ∙ ap (λ (says : Inscribed). slice_get (sats_of origin.did.spent) (place_from (sum (values_of origin.tx)) seen.before says.pointer)) is.says
      ∙ ap (λ (p : Option (List ℕ)). slice_get (sats_of origin.did.spent) (place_from (sum (values_of origin.tx)) seen.before p)) names

  on_first : slice_get (sats_of origin.did.spent) seen.before ≡ slice_get origin.spends.sats 0
  on_first = is.first (not_none (length origin.spends.sats) (or_parts (origin.saying.says.marks % 2 == 1) (length origin.spends.sats == 0) bound).1)

  at_pointer : (pointer : List ℕ) (b : Bool) → origin.saying.says.pointer ≡ Some pointer → nat_lt (little_endian pointer) (sum (values_of origin.tx)) ≡ b
      → row.sat ≡ slice_get (sats_of origin.did.spent) (cond b (little_endian pointer) seen.before)
  at_pointer pointer b names tested =
      on_place (Some pointer) names
      ∙ ap (λ (low : Bool). slice_get (sats_of origin.did.spent) (cond low (little_endian pointer) seen.before)) tested

test_low : (a b : ℕ) → a < b → nat_lt a b ≡ true
test_low a b low = grind (arith, nat_tests, low)

test_past : (a b : ℕ) → b ≤ a → nat_lt a b ≡ false
test_past a b past = grind (arith, nat_tests, past)

stands_where_said : (origin : Origin) (height : ℕ) (seen : Sighting) (row : InsRow) → IsSeen origin height seen row → StandsWhereSaid origin row
stands_where_said origin height seen row is = record {
  without = λ names bound. on_place origin height seen row is bound None names ∙ on_first origin height seen row is bound;
  followed = λ pointer names bound low. at_pointer origin height seen row is bound pointer true names (test_low (little_endian pointer) (sum (values_of origin.tx)) low);
  past = λ pointer names bound high.
      at_pointer origin height seen row is bound pointer false names (test_past (little_endian pointer) (sum (values_of origin.tx)) high)
      ∙ on_first origin height seen row is bound;
}

-- ---- the rows of a block

abbrev Stands : List Tx → List MovedTx → InsRow → Type 0
Stands txs moved row = (origin : Origin) × ComesFrom txs moved origin row × StandsWhereSaid origin row

-- what holds of all holds at a place
at_place : {X : Type 0} (P : X → Type 0) (xs : List X) (k : ℕ) (x : X) → All P xs → slice_get xs k ≡ Some x → P x
at_place P xs k x all is = subst P (get_or_from_slice_get xs k x x is) (all k x (slice_get_within xs k x is))

-- the envelope at a place of a transaction
said_at : (tx : Tx) (did : MovedTx) (place : ℕ) (seen : Sighting) → IsMoveOf tx did → slice_get (sightings_from 0 0 (sources_of tx.inputs did.spent)) place ≡ Some seen → slice_get (sayings_of tx) place ≡ Some (saying_of seen)
said_at tx did place seen move there =
    sym (ap (λ (all : List Saying). slice_get all place) (sightings_are 0 0 tx.inputs did.spent move.rows))
    ∙ slice_get-map saying_of (sightings_from 0 0 (sources_of tx.inputs did.spent)) place
    ∙ ap (λ (one : Option Sighting). option_map saying_of one) there

stands_at : (before : List InsRow) (height : ℕ) (txs : List Tx) (moved : List MovedTx) (place : ℕ) (tx : Tx) (did : MovedTx) (row : InsRow) → slice_get (drop 1 txs) place ≡ Some tx → slice_get (drop 1 moved) place ≡ Some did → IsMoveOf tx did → IsFrom (revealing_of height tx did) before 0 (sightings_from 0 0 (sources_of tx.inputs did.spent)) row → Stands txs moved row
stands_at before height txs moved place tx did row is_tx is_did move from =
    let at : IsSeenAt 0 0 did.spent from.seen = at_place (IsSeenAt 0 0 did.spent) _ from.place from.seen (all_seen 0 0 tx.inputs did.spent) from.there in
    let index : row.id.index ≡ from.place = let same : 0 + from.place ≡ from.place = omega arith in ap (λ (r : InsRow). r.id.index) from.is ∙ same in
    let input : from.seen.input ≡ at.place = omega (arith, at.input_is) in
    let skipped : from.seen.before ≡ at.skipped = omega (arith, at.before_is) in
    let origin : Origin = record { place = place; tx = tx; did = did; saying = saying_of from.seen; spends = at.row } in (
      origin,
      record {
        tx = is_tx;
        did = is_did;
        txid = ap (λ (r : InsRow). r.id.txid) from.is ∙ ap (λ (t : Txid). t.0) move.txid;
        saying = ap (λ (k : ℕ). slice_get (sayings_of tx) k) index ∙ said_at tx did from.place from.seen move from.there;
        spends = ap (λ (k : ℕ). slice_get did.spent k) input ∙ at.there;
      },
      stands_where_said origin height from.seen row (record {
        sat = ap (λ (r : InsRow). r.sat) from.is;
        says = refl;
        size = at.size;
        joined = move.joined;
        first = λ some. ap (λ (k : ℕ). slice_get (sats_of did.spent) k) skipped ∙ at.first some;
      }),
    )

stands_of : (rows : List InsRow) (height : ℕ) (txs : List Tx) (moved : List MovedTx) (row : InsRow) → AreMovesOf txs moved → IsOf rows (revealing_all height (drop 1 txs) (drop 1 moved)) row → Stands txs moved row
stands_of rows height txs moved row moves of =
    let plain = revealing_at height (drop 1 txs) (drop 1 moved) of.place of.tx moves of.there in
    stands_at (rows_before rows height txs moved of.place) height txs moved of.place plain.tx plain.did row plain.is_tx plain.is_did plain.move
    (subst (λ (t : Revealing). IsFrom t (rows_before rows height txs moved of.place) 0 (sightings_from 0 0 t.sources) row) plain.is of.from)

pub all_stand : (rows : List InsRow) (height : ℕ) (txs : List Tx) (moved : List MovedTx) → AreMovesOf txs moved → AllRevealed StandsWhereSaid rows height txs moved
all_stand rows height txs moved moves =
    let plain = revealing_all height (drop 1 txs) (drop 1 moved) in
    all_in_order (Stands txs moved) (revealed_by_all rows plain)
    (All-weaker (λ (one : Revealed). IsOf rows plain one.row) (λ (one : Revealed). Stands txs moved one.row) (λ one. stands_of rows height txs moved one.row moves) _ (of_all rows plain))

-- Each row that a block reveals comes from an envelope of one of its transactions, and is on a satoshi of that transaction's inputs.
use Rattle.std.proofs.Common.{◌≡◌, ◌∙◌, ◌<◌, ◌≤◌, ℕ, zero, suc, ◌+◌, Bool, true, false, cond, List, length, refl, sym, ap, subst, arith, Option, Some, None, nat_lt}
use Rattle.std.specs.Prelude.{◌==◌, ◌||◌, ◌%◌, All, Contains, IfSome, drop, slice_get, is_none, option_map, sum}
use Rattle.std.proofs.lemmas.Bool.{ltb-true, or_parts}
use Rattle.std.proofs.lemmas.List.Elements.{All-weaker, Contains-get_or}
use Rattle.std.proofs.lemmas.Option.{slice_get-map, slice_get_within, slice_get-get_or, get_or_from_slice_get}
use Rattle.ox_block.specs.declared.block.Tx.{Tx}
use Rattle.ox_block.specs.declared.block.Txid.{Txid}
use Rattle.ox_rules.specs.Outputs.{sats_of}
use Rattle.ox_rules.specs.Transfer.{values_of}
use Rattle.ox_rules.specs.declared.moved.MovedTx.{MovedTx}
use Rattle.ox_inscribe.specs.Moves.{IsMoveOf, AreMovesOf}
use Rattle.ox_inscribe.specs.Origins.{Saying, sayings_of, Origin, ComesFrom, AllRevealed, is_unbound_at, IsPlaced, rows_before}
use Rattle.ox_inscribe.specs.Reveal.{Revealing, Revealed, sightings_from, sources_of, place_from, place_of, is_unbound, sat_of, row_of, revealed_by_all, revealing_of, revealing_all}
use Rattle.ox_inscribe.specs.declared.sightings.Sighting.{Sighting}
use Rattle.ox_inscribe.specs.declared.row.InsRow.{InsRow}
use Rattle.ox_inscribe.proofs.SightingLaws.{saying_of, sightings_are, IsIn, all_in}
use Rattle.ox_inscribe.proofs.RowLaws.{IsFrom, IsOf, of_all, all_in_order, revealing_at}

-- what holds of all holds at a place
at_place : {X : Type 0} (P : X → Type 0) (xs : List X) (k : ℕ) (x : X) → All P xs → slice_get xs k ≡ Some x → P x
at_place P xs k x all is = subst P (get_or_from_slice_get xs k x x is) (all k x (slice_get_within xs k x is))

-- where a row comes from, and how its envelope was seen
pub record IsNew (rows : List InsRow) (height : ℕ) (txs : List Tx) (moved : List MovedTx) (origin : Origin) (row : InsRow) : Type 0 where
  pub comes : ComesFrom txs moved origin row
  pub move : IsMoveOf origin.tx origin.did
  pub seen : Sighting
  pub earlier : List InsRow
  pub index : ℕ
  pub is : row ≡ row_of (revealing_of height origin.tx origin.did) (rows_before rows height txs moved origin.place) earlier index seen
  pub says : origin.saying.says ≡ seen.says
  pub size : seen.sats ≡ length origin.spends.sats
  pub fits : seen.before + seen.sats ≤ length (sats_of origin.did.spent)

-- the envelope at a place of a transaction
said_at : (tx : Tx) (did : MovedTx) (place : ℕ) (seen : Sighting) → IsMoveOf tx did → slice_get (sightings_from 0 0 (sources_of tx.inputs did.spent)) place ≡ Some seen → slice_get (sayings_of tx) place ≡ Some (saying_of seen)
said_at tx did place seen move there =
    sym (ap (λ (all : List Saying). slice_get all place) (sightings_are 0 0 tx.inputs did.spent move.rows))
    ∙ slice_get-map saying_of (sightings_from 0 0 (sources_of tx.inputs did.spent)) place
    ∙ ap (λ (one : Option Sighting). option_map saying_of one) there

new_at : (rows : List InsRow) (height : ℕ) (txs : List Tx) (moved : List MovedTx) (place : ℕ) (tx : Tx) (did : MovedTx) (row : InsRow) → slice_get (drop 1 txs) place ≡ Some tx → slice_get (drop 1 moved) place ≡ Some did → IsMoveOf tx did → IsFrom (revealing_of height tx did) (rows_before rows height txs moved place) 0 (sightings_from 0 0 (sources_of tx.inputs did.spent)) row → (origin : Origin) × IsNew rows height txs moved origin row
new_at rows height txs moved place tx did row is_tx is_did move from =
    let inside : IsIn 0 0 did.spent from.seen = at_place (IsIn 0 0 did.spent) _ from.place from.seen (all_in 0 0 tx.inputs did.spent) from.there in
    let index : row.id.index ≡ from.place = let same : 0 + from.place ≡ from.place = omega arith in ap (λ (r : InsRow). r.id.index) from.is ∙ same in
    let input : from.seen.input ≡ inside.place = omega (arith, inside.input_is) in
    let origin : Origin = record { place = place; tx = tx; did = did; saying = saying_of from.seen; spends = inside.row } in (
      origin,
      record {
        comes = record {
          tx = is_tx;
          did = is_did;
          txid = ap (λ (r : InsRow). r.id.txid) from.is ∙ ap (λ (t : Txid). t.0) move.txid;
          saying = ap (λ (k : ℕ). slice_get (sayings_of tx) k) index ∙ said_at tx did from.place from.seen move from.there;
          spends = ap (λ (k : ℕ). slice_get did.spent k) input ∙ inside.there;
        };
        move = move;
        seen = from.seen;
        earlier = from.earlier;
        index = 0 + from.place;
        is = from.is;
        says = refl;
        size = inside.size;
        fits = omega (arith, inside.fits);
      },
    )

new_of : (rows : List InsRow) (height : ℕ) (txs : List Tx) (moved : List MovedTx) (row : InsRow) → AreMovesOf txs moved → IsOf rows (revealing_all height (drop 1 txs) (drop 1 moved)) row → (origin : Origin) × IsNew rows height txs moved origin row
new_of rows height txs moved row moves of =
    let plain = revealing_at height (drop 1 txs) (drop 1 moved) of.place of.tx moves of.there in
    new_at rows height txs moved of.place plain.tx plain.did row plain.is_tx plain.is_did plain.move
    (subst (λ (t : Revealing). IsFrom t (rows_before rows height txs moved of.place) 0 (sightings_from 0 0 t.sources) row) plain.is of.from)

-- what holds of each row by where it comes from and how it was seen holds of all that a block reveals
pub all_new : (P : Origin → InsRow → Type 0) (rows : List InsRow) (height : ℕ) (txs : List Tx) (moved : List MovedTx) → AreMovesOf txs moved → ((origin : Origin) (row : InsRow) → IsNew rows height txs moved origin row → P origin row) → AllRevealed P rows height txs moved
all_new P rows height txs moved moves each =
    let plain = revealing_all height (drop 1 txs) (drop 1 moved) in
    all_in_order (λ (row : InsRow). (origin : Origin) × ComesFrom txs moved origin row × P origin row) (revealed_by_all rows plain)
    (All-weaker (λ (one : Revealed). IsOf rows plain one.row) (λ (one : Revealed). (origin : Origin) × ComesFrom txs moved origin one.row × P origin one.row)
    (λ one of. let new = new_of rows height txs moved one.row moves of in (new.0, new.1.comes, each new.0 one.row new.1)) _ (of_all rows plain))

-- a satoshi at a place of the joined ones, where there is to be one
record Stands (unbound : Bool) (joined : List ℕ) (sat : Option ℕ) : Type 0 where
  none : is_none sat ≡ unbound
  held : IfSome sat (λ s. Contains joined s)

stands : (unbound : Bool) (joined : List ℕ) (place : ℕ) → (unbound ≡ false → place < length joined) → Stands unbound joined (cond unbound None (slice_get joined place))
stands true joined place low = record { none = refl; held = tt }
stands false joined place low =
    subst (Stands false joined) (sym (slice_get-get_or joined place 0 (low refl))) (record { none = refl; held = Contains-get_or joined place 0 (low refl) })

tested : (taken number before all : ℕ) (low : Bool) → nat_lt number taken ≡ low → taken ≤ all → before < all → cond low number before < all
tested taken number before all true is enough within = omega (arith, ltb-true number taken is)
tested taken number before all false is enough within = within

-- the place that is pointed at is one of them
within_all : (taken before all : ℕ) (pointer : Option (List ℕ)) → taken ≤ all → before < all → place_from taken before pointer < all
within_all taken before all None enough within = within
within_all taken before all (Some pointer) enough within = tested taken _ before all (nat_lt _ taken) refl enough within

not_none : (n : ℕ) → (n == 0) ≡ false → 0 < n
not_none zero is = absurd (cc is)
not_none (suc n) is = omega arith

seen_within : (height : ℕ) (tx : Tx) (did : MovedTx) (seen : Sighting) → IsMoveOf tx did → seen.before + seen.sats ≤ length (sats_of did.spent) → is_unbound seen ≡ false → place_of (revealing_of height tx did) seen < length did.joined
seen_within height tx did seen move fits bound =
    let some : 0 < seen.sats = not_none seen.sats (or_parts (seen.says.marks % 2 == 1) (seen.sats == 0) bound).1 in
    let all : length did.joined ≡ length (sats_of did.spent) = ap (λ (sats : List ℕ). length sats) move.joined in
    let within : seen.before < length did.joined = omega (arith, some, all, fits) in
    within_all (sum (values_of tx)) seen.before (length did.joined) seen.says.pointer move.enough within

pub is_placed : (rows : List InsRow) (height : ℕ) (txs : List Tx) (moved : List MovedTx) (origin : Origin) (row : InsRow) → IsNew rows height txs moved origin row → IsPlaced origin row
is_placed rows height txs moved origin row new =
    let tx = revealing_of height origin.tx origin.did in
    let stand : Stands (is_unbound new.seen) origin.did.joined (sat_of tx new.seen) = stands (is_unbound new.seen) origin.did.joined (place_of tx new.seen) (seen_within height origin.tx origin.did new.seen new.move new.fits) in
    let sat : row.sat ≡ sat_of tx new.seen = ap (λ (r : InsRow). r.sat) new.is in
    let same : is_unbound new.seen ≡ is_unbound_at origin =
    ap (λ (n : ℕ). (new.seen.says.marks % 2 == 1) || (n == 0)) new.size
    ∙ ap (λ (says : _). (says.marks % 2 == 1) || (length origin.spends.sats == 0)) (sym new.says) in record {
      unbound = ap (λ (s : Option ℕ). is_none s) sat ∙ stand.none ∙ same;
      held = subst (λ (s : Option ℕ). IfSome s (λ n. Contains (sats_of origin.did.spent) n)) (sym sat)
          (subst (λ (joined : List ℕ). IfSome (sat_of tx new.seen) (λ n. Contains joined n)) new.move.joined stand.held);
    }

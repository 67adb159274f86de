-- What a block reveals: the Ordinal Theory Handbook, "Inscriptions", "Pointer" and "Provenance".
use Rattle.std.specs.Prelude.{ℕ, ◌+◌, ◌%◌, Bool, false, not, ◌&&◌, ◌||◌, List, [], ◌∷◌}
use Rattle.std.specs.Prelude.{◌++◌, length, map, filter, sum}
use Rattle.std.specs.Prelude.{drop, slice_get, Option, Some, None, option_and_then, unwrap_or}
use Rattle.std.specs.Prelude.{◌==◌, nat_le, nat_lt, if◌then◌else◌}
use Rattle.std.specs.List.{list_any}
use Rattle.std.specs.Option.{option_map_or}
use Rattle.ox_script.specs.Script.{little_endian}
use Rattle.ox_script.specs.Witness.{tapscript}
use Rattle.ox_block.specs.declared.block.Tx.{Tx}
use Rattle.ox_block.specs.declared.block.TxIn.{TxIn}
use Rattle.ox_block.specs.declared.block.Txid.{Txid}
use Rattle.ox_envelope.specs.Envelope.{envelopes}
use Rattle.ox_envelope.specs.Mark as mark
use Rattle.ox_envelope.specs.Mark.{bit}
use Rattle.ox_envelope.specs.Payload.{inscribed_of}
use Rattle.ox_envelope.specs.declared.id.InsId.{InsId}
use Rattle.ox_envelope.specs.declared.inscribed.Inscribed.{Inscribed}
use Rattle.ox_rules.specs.Transfer.{values_of}
use Rattle.ox_rules.specs.declared.moved.MovedTx.{MovedTx}
use Rattle.ox_rules.specs.declared.rows.OutRow.{OutRow}
use Rattle.ox_inscribe.specs.Inscriptions.{find, is_on, is_same_id}
use Rattle.ox_inscribe.specs.declared.row.InsRow.{InsRow}
use Rattle.ox_inscribe.specs.declared.sightings.Sighting.{Sighting}

-- what an input brings: what the envelopes of its tapscript say, and how many satoshis it spends
pub record Source : Type 0 where
  pub says : List Inscribed
  pub sats : ℕ

-- a transaction as far as it reveals inscriptions
pub record Revealing : Type 0 where
  pub txid : Txid
  pub height : ℕ
  -- the satoshis of its inputs, joined
  pub joined : List ℕ
  -- how many of them its outputs take; the rest goes to the fees
  pub taken : ℕ
  pub sources : List Source

-- the envelopes of an input, the first of them at this place
unfoldable pub sightings_in : ℕ → ℕ → ℕ → ℕ → List Inscribed → List Sighting
sightings_in input before sats place [] = []
sightings_in input before sats place (says ∷ more) =
    record { says = says; input = input; place = place; before = before; sats = sats }
    ∷ sightings_in input before sats (place + 1) more

-- the envelopes of all inputs in order, the first input at this place and behind so many satoshis
unfoldable pub sightings_from : ℕ → ℕ → List Source → List Sighting
sightings_from input before [] = []
sightings_from input before (source ∷ sources) =
    sightings_in input before source.sats 0 source.says
    ++ sightings_from (input + 1) (before + source.sats) sources

-- The place among the transaction's satoshis that an envelope points at. A pointer is a number with
-- its lowest byte first. It is followed where the outputs take the satoshi there, which they never
-- do of one past 64 bits; else, and without a pointer, it is its input's first satoshi.
abbrev pub place_from : ℕ → ℕ → Option (List ℕ) → ℕ
place_from taken before None = before
place_from taken before (Some pointer) =
    if nat_lt (little_endian pointer) taken then little_endian pointer else before

abbrev pub place_of : Revealing → Sighting → ℕ
place_of tx seen = place_from tx.taken seen.before seen.says.pointer

-- unbound, whatever its pointer: the mark of an unknown even tag, which is 1, or an input without
-- satoshis
abbrev pub is_unbound : Sighting → Bool
is_unbound seen = (seen.says.marks % 2 == 1) || (seen.sats == 0)

-- the satoshi that it is on
abbrev pub sat_of : Revealing → Sighting → Option ℕ
sat_of tx seen = if is_unbound seen then None else slice_get tx.joined (place_of tx seen)

-- each id once, at the place where it is named first
unfoldable pub each_once : List InsId → List InsId
each_once [] = []
each_once (id ∷ ids) = id ∷ filter (λ other. not (is_same_id id other)) (each_once ids)

-- the first row with this id stands on one of these satoshis
abbrev pub stands_among : List ℕ → List InsRow → InsId → Bool
stands_among joined rows id =
    option_map_or (λ row. list_any (λ sat. is_on sat row) joined)
    (option_and_then (slice_get rows) (find rows id)) false

-- the parents: those that stood on a satoshi of the transaction's inputs before it
abbrev pub parents_of : Revealing → List InsRow → Sighting → List InsId
parents_of tx rows seen = filter (stands_among tx.joined rows) (each_once seen.says.parents)

-- a row of these is on that satoshi
abbrev pub bears : List InsRow → Option ℕ → Bool
bears rows sat = option_map_or (λ s. list_any (is_on s) rows) sat false

-- the marks that its script tells, and: another input than the first, not the first envelope of its
-- input, and whether its satoshi bore an inscription before
abbrev pub marks_of : Sighting → Bool → ℕ
marks_of seen bore =
    seen.says.marks + bit (not (seen.input == 0)) mark.input
    + bit (not (seen.place == 0)) mark.offset
    + bit bore mark.reinscription

-- The row of an envelope: the rows before its transaction, those before the envelope, and how many
-- envelopes of the transaction come before it.
abbrev pub row_of : Revealing → List InsRow → List InsRow → ℕ → Sighting → InsRow
row_of tx before earlier index seen =
    let says = seen.says in record {
      id = record { txid = tx.txid.0; index = index };
      height = tx.height;
      content_type = says.content_type;
      body = says.body;
      metadata = says.metadata;
      metaprotocol = says.metaprotocol;
      encoding = says.encoding;
      pointer = says.pointer;
      delegate = says.delegate;
      parents = parents_of tx before seen;
      marks = marks_of seen (bears earlier (sat_of tx seen));
      sat = sat_of tx seen;
    }

-- a row, and whether its satoshi goes to the fees
pub record Revealed : Type 0 where
  pub row : InsRow
  pub in_fees : Bool

abbrev pub goes_to_fees : Revealing → Sighting → Bool
goes_to_fees tx seen = not (is_unbound seen) && nat_le tx.taken (place_of tx seen)

-- what envelopes reveal in order, the first of them having this index
unfoldable pub revealed_from : Revealing → List InsRow → List InsRow → ℕ → List Sighting
    → List Revealed
revealed_from tx before earlier index [] = []
revealed_from tx before earlier index (seen ∷ more) =
    let row = row_of tx before earlier index seen in
    record { row = row; in_fees = goes_to_fees tx seen }
    ∷ revealed_from tx before (earlier ++ row ∷ []) (index + 1) more

abbrev pub revealed_by : List InsRow → Revealing → List Revealed
revealed_by rows tx = revealed_from tx rows rows 0 (sightings_from 0 0 tx.sources)

abbrev pub rows_of : List Revealed → List InsRow
rows_of all = map (λ one. one.row) all

-- what transactions reveal in order, whatever the order in which their rows are kept then
unfoldable pub revealed_by_all : List InsRow → List Revealing → List Revealed
revealed_by_all rows [] = []
revealed_by_all rows (tx ∷ txs) =
    let now = revealed_by rows tx in now ++ revealed_by_all (rows ++ rows_of now) txs

-- the new rows: those whose satoshi goes to the fees come last
abbrev pub in_order : List Revealed → List InsRow
in_order all =
    rows_of (filter (λ one. not one.in_fees) all) ++ rows_of (filter (λ one. one.in_fees) all)

-- what the envelopes of an input's tapscript say
abbrev pub said_by : TxIn → List Inscribed
said_by input = map inscribed_of (envelopes (unwrap_or (tapscript input.witness) []))

unfoldable pub sources_of : List TxIn → List OutRow → List Source
sources_of (input ∷ inputs) (row ∷ rows) =
    record { says = said_by input; sats = length row.sats } ∷ sources_of inputs rows
sources_of _ _ = []

abbrev pub revealing_of : ℕ → Tx → MovedTx → Revealing
revealing_of height tx moved = record {
  txid = moved.txid;
  height = height;
  joined = moved.joined;
  taken = sum (values_of tx);
  sources = sources_of tx.inputs moved.spent;
}

unfoldable pub revealing_all : ℕ → List Tx → List MovedTx → List Revealing
revealing_all height (tx ∷ txs) (moved ∷ more) =
    revealing_of height tx moved ∷ revealing_all height txs more
revealing_all height _ _ = []

-- The rows that a block of these transactions reveals behind those before it. A coinbase reveals
-- nothing.
abbrev pub reveal_of : List InsRow → ℕ → List Tx → List MovedTx → List InsRow
reveal_of rows height txs moved =
    in_order (revealed_by_all rows (revealing_all height (drop 1 txs) (drop 1 moved)))

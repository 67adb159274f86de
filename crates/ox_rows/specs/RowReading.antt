-- Reading rows, a change and an index from left to right.
use Rattle.std.specs.Prelude.{ℕ, not, List, Option, None, ◌==◌, map}
use Rattle.std.specs.Int.{w8, w16, w32, w64, w128}
use Rattle.std.specs.FinMap.{from_entries}
use Rattle.std.specs.Ordering.{nat_cmp}
use Rattle.ox_bytes.specs.Reading.{◌>>=◌, Reader, number_at, run_at, reading_map, unless}
use Rattle.ox_block.specs.declared.block.OutPoint.{OutPoint}
use Rattle.ox_envelope.specs.declared.id.InsId.{InsId}
use Rattle.ox_rules.specs.declared.rows.OutRow.{OutRow}
use Rattle.ox_rules.specs.Outputs.{outpoint_cmp}
use Rattle.ox_inscribe.specs.declared.row.InsRow.{InsRow}
use Rattle.ox_runestone.specs.declared.stone.RuneId.{RuneId}
use Rattle.ox_runestone.specs.declared.stone.Terms.{Terms}
use Rattle.ox_allocation.specs.Balances.{Balance, id_cmp}
use Rattle.ox_etching.specs.declared.row.RuneRow.{RuneRow}
use Rattle.ox_ledger.specs.declared.part.CountChange.{CountChange}
use Rattle.ox_ledger.specs.Runes.{Placement}
use Rattle.ox_model.specs.Index.{Index}
use Rattle.ox_model.specs.declared.change.Change.{Change}
use Rattle.ox_rows.specs.Reading.{made, ◌<*>◌, list_at, optional_at, rising_at, sats_at, text_at}
use Rattle.ox_rows.specs.RowFits.{is_character}
use Rattle.ox_rows.specs.declared.counts.CountsThen.{CountsThen}

-- ---- ids

abbrev pub outpoint_of : List ℕ → ℕ → OutPoint
outpoint_of txid index = record { txid = record { 0 = txid }; index = index }

unfoldable pub outpoint_at : Reader OutPoint
outpoint_at bytes = (made outpoint_of <*> run_at 32 <*> number_at w32) bytes

abbrev pub inscription_id_of : List ℕ → ℕ → InsId
inscription_id_of txid index = record { txid = txid; index = index }

unfoldable pub inscription_id_at : Reader InsId
inscription_id_at bytes = (made inscription_id_of <*> run_at 32 <*> number_at w32) bytes

abbrev pub rune_id_of : ℕ → ℕ → RuneId
rune_id_of block tx = record { block = block; tx = tx }

unfoldable pub rune_id_at : Reader RuneId
rune_id_at bytes = (made rune_id_of <*> number_at w64 <*> number_at w32) bytes

-- ---- rows

abbrev pub out_row_of : List ℕ → ℕ → List ℕ → OutRow
out_row_of script height sats = record { script = script; height = height; sats = sats }

unfoldable pub out_row_at : Reader OutRow
out_row_at bytes = (made out_row_of <*> text_at <*> number_at w32 <*> sats_at) bytes

abbrev pub optional_text_at : Reader (Option (List ℕ))
optional_text_at bytes = optional_at text_at bytes

abbrev pub optional_id_at : Reader (Option InsId)
optional_id_at bytes = optional_at inscription_id_at bytes

abbrev pub optional_64_at : Reader (Option ℕ)
optional_64_at bytes = optional_at (number_at w64) bytes

abbrev pub optional_128_at : Reader (Option ℕ)
optional_128_at bytes = optional_at (number_at w128) bytes

abbrev pub ids_at : Reader (List InsId)
ids_at bytes = list_at inscription_id_at bytes

abbrev pub inscription_of : InsId → ℕ → Option (List ℕ) → Option (List ℕ) → Option (List ℕ)
    → Option (List ℕ) → Option (List ℕ) → Option InsId → Option (List ℕ) → List InsId → ℕ → Option ℕ
    → InsRow
inscription_of id height content_type body metadata metaprotocol encoding delegate pointer parents
    marks sat = record {
      id = id;
      height = height;
      content_type = content_type;
      body = body;
      metadata = metadata;
      metaprotocol = metaprotocol;
      encoding = encoding;
      pointer = pointer;
      delegate = delegate;
      parents = parents;
      marks = marks;
      sat = sat;
    }

-- the delegate stands before the pointer
unfoldable pub inscription_at : Reader InsRow
inscription_at bytes =
    (made inscription_of <*> inscription_id_at <*> number_at w32 <*> optional_text_at
    <*> optional_text_at <*> optional_text_at <*> optional_text_at <*> optional_text_at
    <*> optional_id_at <*> optional_text_at <*> ids_at <*> number_at w16 <*> optional_64_at)
    bytes

-- an amount isn't 0
unfoldable pub amount_at : Reader ℕ
amount_at bytes = unless (λ amount. amount == 0) (number_at w128) bytes

-- balances aren't none
unfoldable pub balances_at : Reader (List Balance)
balances_at bytes =
    unless (λ n. n == 0) (number_at w32) bytes
    >>= λ n. rising_at id_cmp rune_id_at amount_at None n.0 n.1

abbrev pub terms_of : Option ℕ → Option ℕ → Option ℕ → Option ℕ → Option ℕ → Option ℕ → Terms
terms_of amount cap height_start height_end offset_start offset_end = record {
  amount = amount;
  cap = cap;
  height_start = height_start;
  height_end = height_end;
  offset_start = offset_start;
  offset_end = offset_end;
}

unfoldable pub terms_at : Reader Terms
terms_at bytes =
    (made terms_of <*> optional_128_at <*> optional_128_at <*> optional_64_at <*> optional_64_at
    <*> optional_64_at <*> optional_64_at) bytes

abbrev pub optional_terms_at : Reader (Option Terms)
optional_terms_at bytes = optional_at terms_at bytes

-- a character's number
unfoldable pub character_at : Reader ℕ
character_at bytes = unless (λ n. not (is_character n)) (number_at w32) bytes

abbrev pub optional_character_at : Reader (Option ℕ)
optional_character_at bytes = optional_at character_at bytes

abbrev pub rune_of : RuneId → ℕ → ℕ → ℕ → Option ℕ → ℕ → Option Terms → ℕ → ℕ → List ℕ → RuneRow
rune_of id name spacers divisibility symbol premine terms mints burned etching = record {
  id = id;
  name = name;
  spacers = spacers;
  divisibility = divisibility;
  symbol = symbol;
  premine = premine;
  terms = terms;
  mints = mints;
  burned = burned;
  etching = record { 0 = etching };
}

unfoldable pub rune_at : Reader RuneRow
rune_at bytes =
    (made rune_of <*> rune_id_at <*> number_at w128 <*> number_at w32 <*> number_at w8
    <*> optional_character_at <*> number_at w128 <*> optional_terms_at <*> number_at w128
    <*> number_at w128 <*> run_at 32) bytes

abbrev pub counts_then_of : ℕ → ℕ → ℕ → ℕ → CountsThen
counts_then_of mints_before mints_after burned_before burned_after = record {
  mints_before = mints_before;
  mints_after = mints_after;
  burned_before = burned_before;
  burned_after = burned_after;
}

-- what is counted of a rune, but for its place
unfoldable pub counts_then_at : Reader CountsThen
counts_then_at bytes =
    (made counts_then_of <*> number_at w128 <*> number_at w128 <*> number_at w128
    <*> number_at w128) bytes

abbrev pub count_change_of : ℕ × CountsThen → CountChange
count_change_of one = record {
  place = one.0;
  before = record { mints = one.1.mints_before; burned = one.1.burned_before };
  after = record { mints = one.1.mints_after; burned = one.1.burned_after };
}

-- ---- lists

-- how many in 4 bytes, and these by rising outpoint
abbrev pub rows_at : {X : Type 0} → Reader X → Reader (List (OutPoint × X))
rows_at value bytes =
    number_at w32 bytes >>= λ n. rising_at outpoint_cmp outpoint_at value None n.0 n.1

unfoldable pub outputs_at : Reader (List (OutPoint × OutRow))
outputs_at bytes =
    number_at w32 bytes >>= λ n. rising_at outpoint_cmp outpoint_at out_row_at None n.0 n.1

unfoldable pub placements_at : Reader (List Placement)
placements_at bytes =
    number_at w32 bytes >>= λ n. rising_at outpoint_cmp outpoint_at balances_at None n.0 n.1

unfoldable pub counts_at : Reader (List CountChange)
counts_at bytes =
    reading_map (map count_change_of)
    (λ at. number_at w32 at >>= λ n. rising_at nat_cmp (number_at w32) counts_then_at None n.0 n.1)
    bytes

abbrev pub inscriptions_at : Reader (List InsRow)
inscriptions_at bytes = list_at inscription_at bytes

abbrev pub runes_at : Reader (List RuneRow)
runes_at bytes = list_at rune_at bytes

abbrev pub hashes_at : Reader (List (List ℕ))
hashes_at bytes = list_at (run_at 32) bytes

-- ---- a change and an index

abbrev pub change_of : List ℕ → List (OutPoint × OutRow) → List (OutPoint × OutRow) → List ℕ
    → List InsRow → List Placement → List Placement → List CountChange → List RuneRow → Change
change_of hash gone came lost inscriptions before after counts appended = record {
  hash = hash;
  gone = gone;
  came = came;
  lost = lost;
  inscriptions = inscriptions;
  runes = record { before = before; after = after; counts = counts; appended = appended };
}

unfoldable pub change_at : Reader Change
change_at bytes =
    (made change_of <*> run_at 32 <*> outputs_at <*> outputs_at <*> sats_at <*> inscriptions_at
    <*> placements_at <*> placements_at <*> counts_at <*> runes_at) bytes

abbrev pub index_of : List (List ℕ) → List (OutPoint × OutRow) → List ℕ → List InsRow
    → List Placement → List RuneRow → Index
index_of hashes outs lost inscriptions bal runes = record {
  hashes = hashes;
  outs = from_entries outs;
  lost = lost;
  inscriptions = inscriptions;
  bal = from_entries bal;
  runes = runes;
}

unfoldable pub index_at : Reader Index
index_at bytes =
    (made index_of <*> hashes_at <*> outputs_at <*> sats_at <*> inscriptions_at <*> placements_at
    <*> runes_at) bytes

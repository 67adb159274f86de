-- How rows, a change and an index are spelled.
use Rattle.std.specs.Prelude.{List, ℕ, ◌++◌}
use Rattle.std.specs.Int.{w8, w16, w32, w64, w128, to_le_bytes}
use Rattle.std.specs.FinMap.{entries}
use Rattle.ox_block.specs.declared.block.OutPoint.{OutPoint}
use Rattle.ox_block.specs.Spelling.{outpoint}
use Rattle.ox_envelope.specs.declared.id.InsId.{InsId}
use Rattle.ox_rules.specs.declared.rows.OutRow.{OutRow}
use Rattle.ox_inscribe.specs.declared.row.InsRow.{InsRow}
use Rattle.ox_runestone.specs.declared.stone.RuneId.{RuneId}
use Rattle.ox_runestone.specs.declared.stone.Terms.{Terms}
use Rattle.ox_allocation.specs.Balances.{Balance}
use Rattle.ox_etching.specs.declared.row.RuneRow.{RuneRow}
use Rattle.ox_ledger.specs.declared.part.CountChange.{CountChange}
use Rattle.ox_ledger.specs.Runes.{Placement}
use Rattle.ox_model.specs.Index.{Index}
use Rattle.ox_model.specs.declared.change.Change.{Change}
use Rattle.ox_rows.specs.Spelling.{hash, list, optional, sats, text}

-- ---- rows

abbrev pub out_row : OutRow → List ℕ
out_row row = text row.script ++ to_le_bytes w32 row.height ++ sats row.sats

-- an output with its outpoint
abbrev pub output : OutPoint × OutRow → List ℕ
output placed = outpoint placed.0 ++ out_row placed.1

abbrev pub inscription_id : InsId → List ℕ
inscription_id id = id.txid ++ to_le_bytes w32 id.index

abbrev pub inscription : InsRow → List ℕ
inscription row =
    inscription_id row.id ++ to_le_bytes w32 row.height ++ optional text row.content_type
    ++ optional text row.body ++ optional text row.metadata ++ optional text row.metaprotocol
    ++ optional text row.encoding ++ optional inscription_id row.delegate
    ++ optional text row.pointer ++ list inscription_id row.parents ++ to_le_bytes w16 row.marks
    ++ optional (to_le_bytes w64) row.sat

abbrev pub rune_id : RuneId → List ℕ
rune_id id = to_le_bytes w64 id.block ++ to_le_bytes w32 id.tx

-- a rune and so much of it
abbrev pub balance : Balance → List ℕ
balance one = rune_id one.0 ++ to_le_bytes w128 one.1

-- an outpoint and the runes there
abbrev pub placement : Placement → List ℕ
placement placed = outpoint placed.0 ++ list balance placed.1

abbrev pub terms : Terms → List ℕ
terms t =
    optional (to_le_bytes w128) t.amount ++ optional (to_le_bytes w128) t.cap
    ++ optional (to_le_bytes w64) t.height_start ++ optional (to_le_bytes w64) t.height_end
    ++ optional (to_le_bytes w64) t.offset_start ++ optional (to_le_bytes w64) t.offset_end

abbrev pub rune : RuneRow → List ℕ
rune row =
    rune_id row.id ++ to_le_bytes w128 row.name ++ to_le_bytes w32 row.spacers
    ++ to_le_bytes w8 row.divisibility ++ optional (to_le_bytes w32) row.symbol
    ++ to_le_bytes w128 row.premine ++ optional terms row.terms ++ to_le_bytes w128 row.mints
    ++ to_le_bytes w128 row.burned ++ row.etching.0

-- what is counted of the rune at a place, before and after
abbrev pub count_change : CountChange → List ℕ
count_change c =
    to_le_bytes w32 c.place ++ to_le_bytes w128 c.before.mints ++ to_le_bytes w128 c.after.mints
    ++ to_le_bytes w128 c.before.burned ++ to_le_bytes w128 c.after.burned

-- ---- a change and an index

unfoldable pub change_rows : Change → List ℕ
change_rows c =
    c.hash ++ list output c.gone ++ list output c.came ++ sats c.lost
    ++ list inscription c.inscriptions ++ list placement c.runes.before
    ++ list placement c.runes.after ++ list count_change c.runes.counts
    ++ list rune c.runes.appended

unfoldable pub index_rows : Index → List ℕ
index_rows i =
    list hash i.hashes ++ list output (entries i.outs) ++ sats i.lost
    ++ list inscription i.inscriptions ++ list placement (entries i.bal) ++ list rune i.runes

-- Whether two rows are the same, field by field.
use Rattle.std.specs.Prelude.{ℕ, Bool, ◌&&◌, ◌==◌, List, Option, bytes_eq}
use Rattle.std.specs.Cmp.Lexicographic.{pointwise}
use Rattle.std.specs.Option.{option_eq}
use Rattle.ox_allocation.specs.Balances.{Balance}
use Rattle.ox_envelope.specs.declared.id.InsId.{InsId}
use Rattle.ox_etching.specs.declared.row.RuneRow.{RuneRow}
use Rattle.ox_inscribe.specs.declared.row.InsRow.{InsRow}
use Rattle.ox_ledger.specs.declared.part.Counts.{Counts}
use Rattle.ox_rules.specs.declared.rows.OutRow.{OutRow}
use Rattle.ox_runestone.specs.declared.stone.RuneId.{RuneId}
use Rattle.ox_runestone.specs.declared.stone.Terms.{Terms}

abbrev pub same_output : OutRow → OutRow → Bool
same_output a b =
    (a.height == b.height) && (bytes_eq a.script b.script && bytes_eq a.sats b.sats)

-- ---- runes

abbrev pub same_rune_id : RuneId → RuneId → Bool
same_rune_id a b = (a.block == b.block) && (a.tx == b.tx)

abbrev pub same_balance : Balance → Balance → Bool
same_balance a b = same_rune_id a.0 b.0 && (a.1 == b.1)

abbrev pub same_balances : List Balance → List Balance → Bool
same_balances a b = pointwise same_balance a b

abbrev pub same_number : Option ℕ → Option ℕ → Bool
same_number a b = option_eq ◌==◌ a b

abbrev pub same_terms : Terms → Terms → Bool
same_terms a b =
    same_number a.amount b.amount
    && (same_number a.cap b.cap
    && (same_number a.height_start b.height_start
    && (same_number a.height_end b.height_end
    && (same_number a.offset_start b.offset_start
    && same_number a.offset_end b.offset_end))))

abbrev pub same_rune : RuneRow → RuneRow → Bool
same_rune a b =
    same_rune_id a.id b.id
    && ((a.name == b.name)
    && ((a.spacers == b.spacers)
    && ((a.divisibility == b.divisibility)
    && (same_number a.symbol b.symbol
    && ((a.premine == b.premine)
    && (option_eq same_terms a.terms b.terms
    && ((a.mints == b.mints)
    && ((a.burned == b.burned)
    && bytes_eq a.etching.0 b.etching.0))))))))

abbrev pub same_counts : Counts → Counts → Bool
same_counts a b = (a.mints == b.mints) && (a.burned == b.burned)

-- ---- inscriptions

abbrev pub same_id : InsId → InsId → Bool
same_id a b = bytes_eq a.txid b.txid && (a.index == b.index)

-- bytes that may be missing
abbrev pub same_field : Option (List ℕ) → Option (List ℕ) → Bool
same_field a b = option_eq bytes_eq a b

-- where and on what it was made
abbrev pub same_place : InsRow → InsRow → Bool
same_place a b =
    same_id a.id b.id
    && ((a.height == b.height)
    && ((a.marks == b.marks)
    && same_number a.sat b.sat))

-- what it is by itself
abbrev pub same_content : InsRow → InsRow → Bool
same_content a b =
    same_field a.content_type b.content_type
    && (same_field a.body b.body
    && (same_field a.metadata b.metadata
    && (same_field a.metaprotocol b.metaprotocol
    && same_field a.encoding b.encoding)))

-- what it says of other inscriptions, and of its place
abbrev pub same_links : InsRow → InsRow → Bool
same_links a b =
    same_field a.pointer b.pointer
    && (option_eq same_id a.delegate b.delegate
    && pointwise same_id a.parents b.parents)

abbrev pub same_inscription : InsRow → InsRow → Bool
same_inscription a b = same_place a b && (same_content a b && same_links a b)

-- The trees of runes, and the lists of runes in other trees.
use Rattle.std.specs.Prelude.{ℕ, List, length, codes, Option, is_some, slice_get}
use Rattle.std.specs.Char.{encode_utf8}
use Rattle.std.specs.List.{filter_map}
use Rattle.std.specs.Option.{option_and_then, option_map}
use Rattle.serde_json.specs.Data.{Data, array, boolean, string, object, no_members, member}
use Rattle.serde_json.specs.Data.{item, no_items}
use Rattle.serde_json.specs.View.{items_of}
use Rattle.ox_name.specs.Amount.{amount_text}
use Rattle.ox_name.specs.Name.{name_of}
use Rattle.ox_name.specs.Spaced.{spaced_name}
use Rattle.ox_rules.specs.Text.{hash_text}
use Rattle.ox_runestone.specs.declared.stone.RuneId.{RuneId}
use Rattle.ox_allocation.specs.Balances.{Balance}
use Rattle.ox_etching.specs.Minted.{minted}
use Rattle.ox_etching.specs.declared.row.RuneRow.{RuneRow}
use Rattle.ox_model.specs.Found.{by_id, held_of}
use Rattle.ox_model.specs.Index.{Index}
use Rattle.ox_replies.specs.Named.{rune_id_text}
use Rattle.ox_replies.specs.Values.{amount, count, or_null}

abbrev pub rune_id_tree : RuneId → Data
rune_id_tree id = string (rune_id_text id)

abbrev pub rune_id : RuneRow → Data
rune_id row = rune_id_tree row.id

-- a rune's name with its spacers
abbrev pub name_tree : RuneRow → Data
name_tree row = string (spaced_name row.spacers (name_of row.name))

-- a start and an end, each null where it is missing
abbrev pub span_tree : Option ℕ → Option ℕ → Data
span_tree start end = array (item (or_null count start) (item (or_null count end) no_items))

-- a character, by its number
abbrev pub character : ℕ → Data
character c = string (encode_utf8 c)

-- a rune with its number; its mint may be open for the next block
abbrev pub rune_tree : Index → ℕ → RuneRow → Data
rune_tree index n row = object (
    member (codes "amount") (or_null amount (option_and_then (λ t. t.amount) row.terms)) (
    member (codes "burned") (amount row.burned) (
    member (codes "cap") (or_null amount (option_and_then (λ t. t.cap) row.terms)) (
    member (codes "divisibility") (count row.divisibility) (
    member (codes "etching") (string (hash_text row.etching.0)) (
    member (codes "height") (or_null (λ t. span_tree t.height_start t.height_end) row.terms) (
    member (codes "held") (amount (held_of index row)) (
    member (codes "id") (rune_id row) (
    member (codes "mintable") (boolean (is_some (minted row (length index.hashes)))) (
    member (codes "mints") (amount row.mints) (
    member (codes "name") (name_tree row) (
    member (codes "number") (count n) (
    member (codes "offset") (or_null (λ t. span_tree t.offset_start t.offset_end) row.terms) (
    member (codes "premine") (amount row.premine) (
    member (codes "symbol") (or_null character row.symbol) no_members)))))))))))))))

-- so much of a rune, and how that is written with the rune's decimals
abbrev pub balance_tree : ℕ → RuneRow → Data
balance_tree held row = object (
    member (codes "amount") (amount held) (
    member (codes "id") (rune_id row) (
    member (codes "name") (name_tree row) (
    member (codes "shown") (string (amount_text held row.divisibility)) no_members))))

-- a balance of a rune that is there
abbrev pub balance_among : List RuneRow → Balance → Option Data
balance_among runes balance =
    option_map (balance_tree balance.1) (option_and_then (slice_get runes) (by_id runes balance.0))

abbrev pub balances_tree : List RuneRow → List Balance → Data
balances_tree runes balances = array (items_of (filter_map (balance_among runes) balances))

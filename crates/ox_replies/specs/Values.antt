-- The values that several trees share: numbers, amounts, texts, hashes and places.
use Rattle.std.specs.Prelude.{ℕ, ℤ, pos, negsuc, List, codes, decimal}
use Rattle.std.specs.Prelude.{Option, Some, None, if◌then◌else◌}
use Rattle.std.specs.Option.{option_map_or}
use Rattle.std.specs.Str.{is_utf8}
use Rattle.hex.specs.Hex.{encode_lower}
use Rattle.serde_json.specs.Data.{Data, null, number, string, object, no_members, member}
use Rattle.serde_json.specs.Data.{unsigned, negative}
use Rattle.ox_rules.specs.declared.place.Place.{Place}
use Rattle.ox_rules.specs.declared.place.Place.TheVariants.{Out, Lost}
use Rattle.ox_rules.specs.Text.{hash_text, outpoint_text}

-- a value, or null without one
abbrev pub or_null : {A : Type 0} → (A → Data) → Option A → Data
or_null tree value = option_map_or tree value null

-- a number of at most 64 bits
abbrev pub count : ℕ → Data
count n = number (unsigned n)

-- an integer of 64 bits, which may be below 0
abbrev pub integer : ℤ → Data
integer (pos n) = number (unsigned n)
integer (negsuc n) = number (negative (negsuc n))

-- an amount of 128 bits, which no number of JSON can be trusted to hold: its decimal digits as text
abbrev pub amount : ℕ → Data
amount n = string (decimal n)

-- bytes as text, or null where they aren't UTF-8
abbrev pub text_or_null : List ℕ → Data
text_or_null bytes = if is_utf8 bytes then string bytes else null

-- bytes in lower-case hexadecimal digits
abbrev pub hex : List ℕ → Data
hex bytes = string (encode_lower bytes)

-- a hash as it is printed, or null without one
abbrev pub hash_or_null : Option (List ℕ) → Data
hash_or_null hash = or_null (λ h. string (hash_text h)) hash

-- where a satoshi is, or null where it is nowhere
abbrev pub place_tree : Option Place → Data
place_tree None = null
place_tree (Some (Out outpoint offset)) = object (
    member (codes "offset") (count offset) (
    member (codes "outpoint") (string (outpoint_text outpoint)) no_members))
place_tree (Some (Lost offset)) = object (member (codes "lost") (count offset) no_members)

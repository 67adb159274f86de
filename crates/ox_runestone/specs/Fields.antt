-- From tags with their values to fields: Runes specification, "Fields". `first` gives the first
-- value of each tag, where there is one.
use Rattle.std.specs.Prelude.{ℕ, ◌+◌, ◌*◌, ◌/◌, ◌%◌, ◌^◌, Bool, true, false, List, length, Option}
use Rattle.std.specs.Prelude.{Some, None, is_some, unwrap_or, slice_get, ◌==◌, ◌&&◌, ◌||◌, nat_lt}
use Rattle.std.specs.Prelude.{nat_le, if◌then◌else◌}
use Rattle.std.specs.List.{list_any}
use Rattle.ox_runestone.specs.declared.stone.RuneId.{RuneId}
use Rattle.ox_runestone.specs.declared.stone.Terms.{Terms}
use Rattle.ox_runestone.specs.declared.stone.Etching.{Etching}
use Rattle.ox_runestone.specs.Message.{Field, values, id_of}
use Rattle.ox_runestone.specs.Tags.{flags_tag, name_tag, divisibility_tag, spacers_tag, symbol_tag}
use Rattle.ox_runestone.specs.Tags.{premine_tag, cap_tag, amount_tag, height_start_tag}
use Rattle.ox_runestone.specs.Tags.{height_end_tag, offset_start_tag, offset_end_tag, mint_tag}
use Rattle.ox_runestone.specs.Tags.{pointer_tag}

abbrev pub Firsts : Type 0
Firsts = ℕ → Option ℕ

abbrev pub first_of : List Field → Firsts
first_of fields tag = slice_get (values fields tag) 0

abbrev pub flags_of : Firsts → ℕ
flags_of first = unwrap_or (first flags_tag) 0

abbrev pub is_etching : Firsts → Bool
is_etching first = flags_of first % 2 == 1

abbrev pub has_terms : Firsts → Bool
has_terms first = is_etching first && (flags_of first / 2 % 2 == 1)

abbrev pub is_turbo : Firsts → Bool
is_turbo first = is_etching first && (flags_of first / 4 % 2 == 1)

-- a flag that isn't taken: in an etching one above the third, else any
abbrev pub has_strange_flag : Firsts → Bool
has_strange_flag first =
    if is_etching first then nat_le 8 (flags_of first) else nat_lt 0 (flags_of first)

-- the number of a character
abbrev pub is_character : ℕ → Bool
is_character code = nat_lt code 0xd800 || (nat_le 0xe000 code && nat_le code 0x10ffff)

-- The table of tags: whether a tag's field takes a value.
abbrev pub takes : Firsts → ℕ → ℕ → ℕ → Bool
takes first outputs tag value =
    if tag == flags_tag then true
    else (if tag == name_tag || tag == premine_tag then is_etching first
    else (if tag == cap_tag || tag == amount_tag then has_terms first
    else (if tag == height_start_tag || (tag == height_end_tag
    || (tag == offset_start_tag || tag == offset_end_tag))
    then (has_terms first && nat_lt value (2 ^ 64))
    else (if tag == pointer_tag then nat_lt value outputs
    else (if tag == divisibility_tag then (is_etching first && nat_le value 38)
    else (if tag == spacers_tag then (is_etching first && nat_lt value (2 ^ 27))
    else (if tag == symbol_tag then (is_etching first && is_character value) else false)))))))

abbrev pub only : Bool → ℕ → Option ℕ
only true value = Some value
only false value = None

-- a value where it is taken
abbrev pub taken_of : Firsts → ℕ → ℕ → Option ℕ → Option ℕ
taken_of first outputs tag None = None
taken_of first outputs tag (Some value) = only (takes first outputs tag value) value

-- the field of a tag
abbrev pub field_of : Firsts → ℕ → ℕ → Option ℕ
field_of first outputs tag = taken_of first outputs tag (first tag)

-- the mint, by two values
abbrev pub mint_of : Option ℕ → Option ℕ → Option RuneId
mint_of (Some block) (Some tx) = id_of block tx
mint_of _ _ = None

abbrev pub terms_of : Firsts → Option Terms
terms_of first =
    if has_terms first then Some (record {
      amount = field_of first 0 amount_tag;
      cap = field_of first 0 cap_tag;
      height_start = field_of first 0 height_start_tag;
      height_end = field_of first 0 height_end_tag;
      offset_start = field_of first 0 offset_start_tag;
      offset_end = field_of first 0 offset_end_tag;
    }) else None

abbrev pub etching_of : Firsts → Option Etching
etching_of first =
    if is_etching first then Some (record {
      name = field_of first 0 name_tag;
      spacers = field_of first 0 spacers_tag;
      divisibility = field_of first 0 divisibility_tag;
      symbol = field_of first 0 symbol_tag;
      premine = field_of first 0 premine_tag;
      terms = terms_of first;
      turbo = is_turbo first;
    }) else None

-- what all mints together give at most
abbrev pub mintable : Option Terms → ℕ
mintable None = 0
mintable (Some terms) = unwrap_or terms.cap 0 * unwrap_or terms.amount 0

-- more is etched than an amount can be
abbrev pub overflows : Option Etching → Bool
overflows None = false
overflows (Some etching) = nat_le (2 ^ 128) (unwrap_or etching.premine 0 + mintable etching.terms)

-- how many values of a tag its field takes
abbrev pub count_taken : Firsts → Option RuneId → ℕ → ℕ → ℕ
count_taken first mint outputs tag =
    if tag == mint_tag then (if is_some mint then 2 else 0)
    else (if is_some (field_of first outputs tag) then 1 else 0)

-- a tag has more values than its field takes
abbrev pub leaves_some : Firsts → Option RuneId → ℕ → List Field → ℕ → Bool
leaves_some first mint outputs fields tag =
    nat_lt (count_taken first mint outputs tag) (length (values fields tag))

-- a value of an even tag isn't taken
abbrev pub leaves_even : Firsts → Option RuneId → ℕ → List Field → Bool
leaves_even first mint outputs fields =
    list_any (λ field. (field.0 % 2 == 0) && leaves_some first mint outputs fields field.0) fields

-- Names with spacers: U+2022 between letters where a bit is set, the lowest bit for the gap behind
-- the first letter (Runes specification, "Name"). A reader takes `.` for a spacer too.
use Rattle.std.specs.Prelude.{◌≡◌, ℕ, ◌+◌, ◌-◌, ◌*◌, ◌/◌, ◌%◌, ◌^◌, ◌<◌, List, [], ◌∷◌, ◌++◌}
use Rattle.std.specs.Prelude.{length, map, Bool, true, false, Option, Some, None, nat_lt, nat_le}
use Rattle.std.specs.Prelude.{◌==◌, ◌&&◌, if◌then◌else◌}
use Rattle.ox_name.specs.Texts.{dotted_text}
use Rattle.ox_name.specs.declared.reading.Named.{Named}
use Rattle.ox_name.specs.Name.{number_after, name_of}

-- U+2022 in UTF-8
abbrev pub bullet : List ℕ
bullet = 0xe2 ∷ 0x80 ∷ 0xa2 ∷ []

-- what stands behind the first letter
abbrev pub gap : ℕ → List ℕ
gap spacers = if spacers % 2 == 1 then bullet else []

-- the letters with their spacers; none stands behind the last
abbrev pub spaced_name : ℕ → List ℕ → List ℕ
spaced_name spacers [] = []
spaced_name spacers (c ∷ []) = c ∷ []
spaced_name spacers (c ∷ d ∷ cs) = c ∷ (gap spacers ++ spaced_name (spacers / 2) (d ∷ cs))

-- ---- reading

abbrev pub is_letter : ℕ → Bool
is_letter c = nat_le 65 c && nat_le c 90

-- a letter, and whether a spacer stands before it
abbrev pub Mark : Type 0
Mark = Bool × ℕ

-- a letter before others
abbrev pub with_letter : ℕ → Option (List Mark) → Option (List Mark)
with_letter c None = None
with_letter c (Some ms) = Some ((false, c) ∷ ms)

-- a spacer before others: a letter follows it at once
abbrev pub with_spacer : Option (List Mark) → Option (List Mark)
with_spacer None = None
with_spacer (Some []) = None
with_spacer (Some ((true, c) ∷ ms)) = None
with_spacer (Some ((false, c) ∷ ms)) = Some ((true, c) ∷ ms)

-- the letters of a text of letters and single spacers that ends in a letter
abbrev pub marks : List ℕ → Option (List Mark)
marks [] = Some []
marks (c ∷ cs) =
    if is_letter c then with_letter c (marks cs) else
    if c == 46 then with_spacer (marks cs) else None

abbrev pub letters_of : List Mark → List ℕ
letters_of ms = map (λ m. m.1) ms

-- the spacers before the letters, that of the first letter in the lowest bit
abbrev pub spacers_of : List Mark → ℕ
spacers_of [] = 0
spacers_of ((spaced, c) ∷ ms) = (if spaced then 1 else 0) + 2 * spacers_of ms

-- a name's number, which has at most 128 bits, and its spacers
abbrev pub name_if_fits : ℕ → ℕ → Option Named
name_if_fits n spacers =
    if nat_lt n (2 ^ 128) then Some (record { name = n; spacers = spacers }) else None

-- a name begins with a letter
abbrev pub name_of_marks : Option (List Mark) → Option Named
name_of_marks None = None
name_of_marks (Some []) = None
name_of_marks (Some ((true, c) ∷ ms)) = None
name_of_marks (Some ((false, c) ∷ ms)) =
    name_if_fits (number_after (c - 65) (letters_of ms)) (spacers_of ms)

-- what a text names, if it is a name
unfoldable pub name_in : List ℕ → Option Named
name_in text = name_of_marks (marks (dotted_text text))

-- A written name reads back as its number, with its spacers: of the bits those between two letters.
abbrev pub ReadsBack : Type 0
ReadsBack =
    (n spacers : ℕ) → n < 2 ^ 128 →
    name_in (spaced_name spacers (name_of n))
    ≡ Some (record { name = n; spacers = spacers % 2 ^ (length (name_of n) - 1) })

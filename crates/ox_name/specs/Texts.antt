-- Texts with spacers: `.` stands for U+2022, whose bytes in UTF-8 are e2 80 a2.
use Rattle.std.specs.Prelude.{ℕ, List, [], ◌∷◌, ◌==◌, ◌&&◌, if◌then◌else◌}

-- the text with a `.` for each U+2022
abbrev pub dotted_text : List ℕ → List ℕ
dotted_text [] = []
dotted_text (c ∷ []) = c ∷ []
dotted_text (c ∷ d ∷ []) = c ∷ d ∷ []
dotted_text (c ∷ d ∷ e ∷ cs) =
    if c == 0xe2 && (d == 0x80 && e == 0xa2) then 46 ∷ dotted_text cs
    else c ∷ dotted_text (d ∷ e ∷ cs)

-- no such byte is in front
abbrev pub BeginsWithNone : (ℕ → Type 0) → List ℕ → Type 0
BeginsWithNone P [] = Unit {0}
BeginsWithNone P (c ∷ cs) = P c → ⊥

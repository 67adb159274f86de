-- Bytes cut into lines.
use Rattle.std.specs.Prelude.{ℕ, Bool, false, ◌==◌, ◌&&◌, List, [], ◌∷◌, if◌then◌else◌}

-- a byte in front of the first line
abbrev pub begun_with : ℕ → List (List ℕ) → List (List ℕ)
begun_with b [] = (b ∷ []) ∷ []
begun_with b (line ∷ lines) = (b ∷ line) ∷ lines

-- the lines of a byte and of what stands behind it, of which the lines are given, and whether it
-- begins with a line feed
abbrev pub lines_with : ℕ → Bool → List (List ℕ) → List (List ℕ)
lines_with b feed lines =
    if b == 10 then [] ∷ lines else if b == 13 && feed then lines else begun_with b lines

abbrev pub begins_with_feed : List ℕ → Bool
begins_with_feed [] = false
begins_with_feed (b ∷ bytes) = b == 10

-- The lines of bytes. Each ends with a line feed, which isn't of it, nor is one carriage return in
-- front of that. The last one is what stands behind the last line feed.
unfoldable pub lines_of : List ℕ → List (List ℕ)
lines_of [] = [] ∷ []
lines_of (b ∷ bytes) = lines_with b (begins_with_feed bytes) (lines_of bytes)

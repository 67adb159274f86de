-- Texts that JSON writes as they are.
use Rattle.std.specs.Prelude.{◌≡◌, ℕ, List}
use Rattle.json.specs.Print.{escape}

-- no escape stands for any of its bytes in a string of JSON
abbrev pub IsPlain : List ℕ → Type 0
IsPlain text = escape text ≡ text

-- The tags of fields: the Ordinal Theory Handbook, "Inscriptions", "Fields".
use Rattle.std.specs.Prelude.{ℕ}

abbrev pub content_type : ℕ
content_type = 1

abbrev pub pointer : ℕ
pointer = 2

abbrev pub parent : ℕ
parent = 3

abbrev pub metadata : ℕ
metadata = 5

abbrev pub metaprotocol : ℕ
metaprotocol = 7

abbrev pub content_encoding : ℕ
content_encoding = 9

abbrev pub delegate : ℕ
delegate = 11

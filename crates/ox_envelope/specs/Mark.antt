-- The marks of an inscription: each is the worth of a bit (Ordinal Theory Handbook, "Inscriptions",
-- "Fields").
use Rattle.std.specs.Prelude.{ℕ, Bool, true, false}

-- an unknown even tag, or a second pointer
abbrev pub even : ℕ
even = 1

-- a tag other than parent and metadata that has two values
abbrev pub repeated : ℕ
repeated = 2

-- a last tag without a value
abbrev pub incomplete : ℕ
incomplete = 4

-- another input than the transaction's first
abbrev pub input : ℕ
input = 8

-- not the first envelope of its input
abbrev pub offset : ℕ
offset = 16

-- a pointer
abbrev pub pointer : ℕ
pointer = 32

-- a push by OP_1NEGATE or OP_1 to OP_16
abbrev pub pushnum : ℕ
pushnum = 64

-- a satoshi that bore an inscription before
abbrev pub reinscription : ℕ
reinscription = 128

-- a mark, if it is set, and else 0
abbrev pub bit : Bool → ℕ → ℕ
bit true mark = mark
bit false mark = 0

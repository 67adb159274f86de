-- What a script says in one hearing, and what it will still say then.
use Rattle.std.specs.Prelude.{ℕ, nat_lt, List, [], ◌∷◌, ◌++◌, take, drop, if◌then◌else◌, length}
use Rattle.ox_memsite.specs.declared.said.Said.{Said}
use Rattle.ox_memsite.specs.declared.said.Said.TheVariants.{Bytes, NotYet, End}

-- as many of the bytes as there is room for; a script has no entry of no bytes
abbrev pub said_bytes : ℕ → List ℕ → Said
said_bytes room [] = NotYet
said_bytes room (byte ∷ bytes) = Bytes (take room (byte ∷ bytes))

-- the next entry, and past the last one nothing yet
abbrev pub said_next : ℕ → List Said → Said
said_next room [] = NotYet
said_next room (Bytes bytes ∷ rest) = said_bytes room bytes
said_next room (NotYet ∷ rest) = NotYet
said_next room (End ∷ rest) = End

-- bytes for which there was no room are said next
abbrev pub left_after : ℕ → List Said → List Said
left_after room [] = []
left_after room (Bytes bytes ∷ rest) =
    if nat_lt room (length bytes) then Bytes (drop room bytes) ∷ rest else rest
left_after room (NotYet ∷ rest) = rest
left_after room (End ∷ rest) = rest

-- an entry, unless it has no bytes
abbrev pub kept_said : Said → List Said
kept_said (Bytes []) = []
kept_said (Bytes (byte ∷ bytes)) = Bytes (byte ∷ bytes) ∷ []
kept_said NotYet = NotYet ∷ []
kept_said End = End ∷ []

-- the entries but for those of no bytes, which are passed over
abbrev pub without_empty : List Said → List Said
without_empty [] = []
without_empty (entry ∷ rest) = kept_said entry ++ without_empty rest

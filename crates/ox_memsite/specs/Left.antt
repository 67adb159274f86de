-- A script of which some bytes of the first entry were said.
use Rattle.std.specs.Prelude.{ℕ, List, [], ◌∷◌, drop}
use Rattle.ox_memsite.specs.declared.said.Said.{Said}
use Rattle.ox_memsite.specs.declared.said.Said.TheVariants.{Bytes, NotYet, End}

abbrev pub left_of : ℕ → List Said → List Said
left_of taken [] = []
left_of taken (Bytes bytes ∷ rest) = Bytes (drop taken bytes) ∷ rest
left_of taken (NotYet ∷ rest) = NotYet ∷ rest
left_of taken (End ∷ rest) = End ∷ rest

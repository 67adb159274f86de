-- The gates that were read, and what the first of some bytes is as a gate.
use Rattle.std.specs.Prelude.{◌≡◌, ◌≢◌, ◌⊎◌, ℕ, ◌+◌, ◌<◌, List, [], ◌∷◌, ◌++◌, length, Ok, Err}
use Rattle.std.specs.Int.{w64, from_le_bytes}
use Rattle.ox_gated.specs.Layout.{layout_of}
use Rattle.ox_gated.specs.Reading.{Chain, chain, gate_behind, with_record}
use Rattle.ox_gated.specs.declared.head.Head.{Head}
use Rattle.ox_gated.specs.declared.records.Walk.{Walk}

-- what a walk over the gates gave
abbrev pub gates_of : Walk → Chain
gates_of walk = record { records = walk.records; end = walk.end }

-- the gates of a file with this head, from a place on
abbrev pub chain_of : Head → ℕ → List ℕ → Chain
chain_of head place bytes = chain (layout_of head.version) head.generation place bytes

-- ---- the first of some bytes, which stand at a place

-- closed, so the last one
abbrev pub IsShut : Head → ℕ → List ℕ → Type 0
IsShut head place bytes = chain_of head place bytes ≡ record { records = []; end = Ok place }

-- missing, or its record is cut or not as its sum says
abbrev pub IsBroken : Head → ℕ → List ℕ → Type 0
IsBroken head place bytes = chain_of head place bytes ≡ record { records = []; end = Err place }

-- open, with this payload behind it, and then these bytes
pub record IsOpen (head : Head) (place : ℕ) (bytes payload rest : List ℕ) : Type 0 where
  pub chain_is : chain_of head place bytes
      ≡ with_record place payload
      (chain_of head (gate_behind (layout_of head.version) place payload) rest)
  pub size : length bytes
      ≡ (layout_of head.version).before_payload + length payload + length rest

-- ---- the first 41 bytes or fewer, at a gate of a file of version 3

-- an open gate, the length of its record's payload in eight bytes, and the payload's sum
pub record HasFront (bytes : List ℕ) (size : ℕ) (sum : List ℕ) : Type 0 where
  pub gate : ℕ
  pub number : List ℕ
  pub not_shut : gate ≢ 0
  pub parts : bytes ≡ gate ∷ number ++ sum
  pub number_size : length number ≡ 8
  pub sum_size : length sum ≡ 32
  pub size_is : size ≡ from_le_bytes w64 number

-- none, or an open one whose record's length and sum are not all there
abbrev pub IsCutFront : List ℕ → Type 0
IsCutFront bytes =
    (bytes ≡ [])
    ⊎ ((gate : ℕ) × (behind : List ℕ) × (bytes ≡ gate ∷ behind) × (gate ≢ 0)
    × (length behind < 40))

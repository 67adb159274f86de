-- From a script to integers: Runes specification, "Deciphering", "Integer encoding".
use Rattle.std.specs.Prelude.{ℕ, zero, suc, ◌-◌, Bool, false, List, [], ◌∷◌, ◌++◌, drop, Option}
use Rattle.std.specs.Prelude.{Some, None, Result, Ok, Err, ◌==◌, ◌&&◌, if◌then◌else◌}
use Rattle.ox_script.specs.Script.{Instruction, Push, Op, items_of, is_cut}
use Rattle.ox_varint.specs.declared.VarintFault.{VarintFault}
use Rattle.ox_varint.specs.Varint.{varint_at}

-- OP_RETURN, and the opcode that marks a runestone: OP_13
abbrev pub begins_stone : List Instruction → Bool
begins_stone (Op first ∷ Op second ∷ _) = first == 0x6a && second == 0x5d
begins_stone _ = false

abbrev pub is_stone : List ℕ → Bool
is_stone script = begins_stone (items_of script)

-- bytes before others
abbrev pub before : List ℕ → Option (List ℕ) → Option (List ℕ)
before bytes None = None
before bytes (Some more) = Some (bytes ++ more)

-- the pushes of items without any other opcode, joined
abbrev pub joined_pushes : List Instruction → Option (List ℕ)
joined_pushes [] = Some []
joined_pushes (Push bytes ∷ items) = before bytes (joined_pushes items)
joined_pushes (Op op ∷ items) = None

-- what is pushed behind the first two items
unfoldable pub payload_of : List ℕ → Option (List ℕ)
payload_of script = if is_cut script then None else joined_pushes (drop 2 (items_of script))

-- an integer before others, or none where no integer stands there
abbrev pub integer_before : Result (ℕ × ℕ) VarintFault → Option (List ℕ) → Option (List ℕ)
integer_before (Err fault) more = None
integer_before (Ok found) None = None
integer_before (Ok found) (Some integers) = Some (found.0 ∷ integers)

-- how many bytes an integer takes behind its first
abbrev pub bytes_behind : Result (ℕ × ℕ) VarintFault → ℕ
bytes_behind (Err fault) = 0
bytes_behind (Ok found) = found.1 - 1

-- the integers that bytes spell one after another, with some bytes at the front passed over
abbrev pub integers_past : ℕ → List ℕ → Option (List ℕ)
integers_past _ [] = Some []
integers_past (suc skipped) (byte ∷ bytes) = integers_past skipped bytes
integers_past zero (byte ∷ bytes) =
    integer_before (varint_at (byte ∷ bytes))
    (integers_past (bytes_behind (varint_at (byte ∷ bytes))) bytes)

unfoldable pub integers_of : List ℕ → Option (List ℕ)
integers_of payload = integers_past 0 payload

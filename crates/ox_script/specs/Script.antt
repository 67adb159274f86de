-- What a script's bytes read as: Bitcoin Core's src/script/script.cpp, GetScriptOp.
use Rattle.std.specs.Prelude.{◌≡◌, Option, Some, None, ℕ, zero, suc, ◌+◌, ◌*◌, Bool, true, false}
use Rattle.std.specs.Prelude.{List, [], ◌∷◌, ◌++◌, length, take, drop, ◌==◌, nat_lt, if◌then◌else◌}
use Rattle.ox_script.specs.declared.instructions.Item.{Item}
use Rattle.ox_script.specs.declared.instructions.Item.TheVariants as item

-- bytes that are pushed, or any other opcode
pub data Instruction : Type 0 where
  Push : List ℕ → Instruction
  Op : ℕ → Instruction

-- an item as plain data
abbrev pub instruction_of : Item → Instruction
instruction_of (item.Push bytes) = Push bytes.now
instruction_of (item.Op op) = Op op

-- the number that bytes spell, the lowest byte first
abbrev pub little_endian : List ℕ → ℕ
little_endian [] = 0
little_endian (byte ∷ bytes) = byte + 256 * little_endian bytes

-- OP_PUSHDATA1, OP_PUSHDATA2 and OP_PUSHDATA4 are followed by a length of this many bytes
abbrev pub width_of : ℕ → ℕ
width_of op = if op == 76 then 1 else (if op == 77 then 2 else (if op == 78 then 4 else 0))

-- how many bytes are pushed by an opcode of at most OP_PUSHDATA4
abbrev pub count_of : ℕ → List ℕ → ℕ
count_of op rest = if nat_lt op 76 then op else little_endian (take (width_of op) rest)

-- how many bytes after its opcode a push takes
abbrev pub reach : ℕ → List ℕ → ℕ
reach op rest = width_of op + count_of op rest

-- the push would go past the script's end
abbrev pub is_short : ℕ → List ℕ → Bool
is_short op rest = nat_lt (length rest) (reach op rest)

-- the items of a script, and whether they end at a push that is cut short
pub record Parse : Type 0 where
  pub items : List Instruction
  pub cut : Bool

-- an item before them
abbrev pub before : Instruction → Parse → Parse
before item parse = record { items = item ∷ parse.items; cut = parse.cut }

-- a script with some bytes at its front passed over
abbrev pub parse_past : ℕ → List ℕ → Parse
parse_past _ [] = record { items = []; cut = false }
parse_past (suc skipped) (byte ∷ bytes) = parse_past skipped bytes
parse_past zero (op ∷ rest) =
    if nat_lt 78 op then before (Op op) (parse_past zero rest)
    else (if is_short op rest then record { items = []; cut = true }
    else before (Push (take (count_of op rest) (drop (width_of op) rest)))
    (parse_past (reach op rest) rest))

-- the items of a script, and whether they end at a push that is cut short
unfoldable pub items_of : List ℕ → List Instruction
items_of script = (parse_past 0 script).items

unfoldable pub is_cut : List ℕ → Bool
is_cut script = (parse_past 0 script).cut

-- what is known while a script is read
pub record Reading : Type 0 where
  -- the items still to come
  pub left : List Instruction
  -- whether they end at a push that is cut short
  pub ends_cut : Bool
  -- whether such an end was met
  pub met_cut : Bool

-- the first item is given and the others stay, or the end is met
abbrev pub GivesItem : Reading → Option Item → Reading → Type 0
GivesItem old None new =
    (old.left ≡ []) × (new.left ≡ []) × (new.ends_cut ≡ old.ends_cut)
    × (new.met_cut ≡ old.ends_cut)
GivesItem old (Some item) new =
    (old.left ≡ instruction_of item ∷ new.left) × (new.ends_cut ≡ old.ends_cut)
    × (new.met_cut ≡ old.met_cut)

-- the items still to come
abbrev pub left_of : Reading → List Instruction
left_of reading = reading.left

-- the bytes stand in the script, one behind the other
abbrev pub StandsIn : List ℕ → List ℕ → Type 0
StandsIn script bytes =
    (front : List ℕ) × (back : List ℕ) × (script ≡ front ++ bytes ++ back)

-- what is pushed is a part of the script, and any other opcode a byte of it
abbrev pub IsPartOf : List ℕ → Instruction → Type 0
IsPartOf script (Push bytes) = StandsIn script bytes
IsPartOf script (Op op) = StandsIn script (op ∷ [])

-- The five forms of a script's items, each by its spelling: Bitcoin Core's src/script/script.h,
-- CScript's operator<<, and BIP 62's "Push operators" for what each of them is called.
use Rattle.std.specs.Prelude.{◌≡◌, ◌≢◌, ℕ, ◌<◌, Bool, true, false, List, [], ◌∷◌, ◌++◌, length}
use Rattle.std.specs.List.{AllByRecursion, flat_map}
use Rattle.ox_script.specs.Script.{Instruction, Push, Op, little_endian}

-- an item as it is spelled
pub data Form : Type 0 where
  -- an opcode above OP_PUSHDATA4
  opcode : ℕ → Form
  -- bytes that are pushed by an opcode that is their number
  direct : List ℕ → Form
  -- the length of what is pushed, in 1, 2 or 4 bytes, and that
  pushdata1 : List ℕ → List ℕ → Form
  pushdata2 : List ℕ → List ℕ → Form
  pushdata4 : List ℕ → List ℕ → Form

-- its bytes
abbrev pub spelling : Form → List ℕ
spelling (opcode op) = op ∷ []
spelling (direct bytes) = length bytes ∷ bytes
spelling (pushdata1 size bytes) = 0x4c ∷ size ++ bytes
spelling (pushdata2 size bytes) = 0x4d ∷ size ++ bytes
spelling (pushdata4 size bytes) = 0x4e ∷ size ++ bytes

-- the length of what is pushed, in so many bytes, low byte first
pub record IsLength (many : ℕ) (size bytes : List ℕ) : Type 0 where
  pub width : length size ≡ many
  pub number : little_endian size ≡ length bytes

-- what is asked of each
abbrev pub IsLawful : Form → Type 0
IsLawful (opcode op) = 0x4e < op
IsLawful (direct bytes) = length bytes < 0x4c
IsLawful (pushdata1 size bytes) = IsLength 1 size bytes
IsLawful (pushdata2 size bytes) = IsLength 2 size bytes
IsLawful (pushdata4 size bytes) = IsLength 4 size bytes

-- the item that it is
abbrev pub item_of : Form → Instruction
item_of (opcode op) = Op op
item_of (direct bytes) = Push bytes
item_of (pushdata1 size bytes) = Push bytes
item_of (pushdata2 size bytes) = Push bytes
item_of (pushdata4 size bytes) = Push bytes

-- no item stands at the front of these bytes
abbrev pub NoItemAt : List ℕ → Type 0
NoItemAt bytes =
    (form : Form) (rest : List ℕ) → IsLawful form → bytes ≢ spelling form ++ rest

-- The script is these items, spelled one after the other, and an end without an item.
pub record Splits (script : List ℕ) (forms : List Form) (end : List ℕ) : Type 0 where
  pub whole : script ≡ flat_map spelling forms ++ end
  pub lawful : AllByRecursion IsLawful forms
  pub no_item : NoItemAt end

-- a script splits
abbrev pub HasSplit : List ℕ → Type 0
HasSplit script = (forms : List Form) × ((end : List ℕ) × Splits script forms end)

-- some bytes
abbrev pub is_some_byte : List ℕ → Bool
is_some_byte [] = false
is_some_byte (_ ∷ _) = true

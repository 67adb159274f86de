-- Why a runestone is malformed, each cause by itself: Runes specification, "Cenotaphs".
use Rattle.std.specs.Prelude.{◌≡◌, ◌≢◌, ◌⊎◌, IfSome, ℕ, ◌+◌, ◌%◌, ◌^◌, ◌<◌, ◌≤◌, Bool, true, false}
use Rattle.std.specs.Prelude.{List, [], ◌∷◌, ◌++◌, length, drop, Some, None, unwrap_or}
use Rattle.std.specs.List.{list_any}
use Rattle.ox_script.specs.Script.{Instruction, Push, Op, items_of, is_cut}
use Rattle.ox_varint.specs.Varint.{IsVarint}
use Rattle.ox_runestone.specs.Fields.{count_taken, etching_of, first_of, has_strange_flag, mintable}
use Rattle.ox_runestone.specs.Artifact.{mint_in}
use Rattle.ox_runestone.specs.Message.{Field, Message, id_after, message_of, values}
use Rattle.ox_runestone.specs.Payload.{payload_of}
use Rattle.ox_runestone.specs.declared.stone.Artifact.{Artifact}
use Rattle.ox_runestone.specs.declared.stone.Artifact.TheVariants.{Stone, Cenotaph}
use Rattle.ox_runestone.specs.declared.stone.Etching.{Etching}
use Rattle.ox_runestone.specs.declared.stone.RuneId.{RuneId}

-- the artifact of a malformed message
abbrev pub IsCenotaph : Artifact → Type 0
IsCenotaph (Stone stone) = ⊥
IsCenotaph (Cenotaph mint name) = Unit {0}

-- premine and mints together are an amount of 128 bits
abbrev pub HasSmallSupply : Artifact → Type 0
HasSmallSupply (Stone stone) =
    IfSome stone.etching (λ etching. unwrap_or etching.premine 0 + mintable etching.terms < 2 ^ 128)
HasSmallSupply (Cenotaph mint name) = Unit {0}

-- an opcode that pushes no data
abbrev pub is_op : Instruction → Bool
is_op (Push bytes) = false
is_op (Op op) = true

-- behind the opcodes that mark a runestone
abbrev pub has_op : List ℕ → Bool
has_op script = list_any is_op (drop 2 (items_of script))

-- a varint of at most 19 bytes and of a number of 128 bits
pub record IsInteger (text : List ℕ) (n : ℕ) : Type 0 where
  pub varint : IsVarint text n
  pub bytes : length text ≤ 19
  pub fits : n < 2 ^ 128

-- the bytes are the varints of these integers, one behind the other
abbrev pub AreIntegers : List ℕ → List ℕ → Type 0
AreIntegers payload [] = payload ≡ []
AreIntegers payload (n ∷ integers) =
    (text : List ℕ) × (rest : List ℕ) × (payload ≡ text ++ rest) × IsInteger text n
    × AreIntegers rest integers

-- the script's pushes, joined, are the varints of these integers
pub record Says (script integers : List ℕ) : Type 0 where
  pub payload : List ℕ
  pub pushed : payload_of script ≡ Some payload
  pub split : AreIntegers payload integers

-- a script whose pushes, joined, are no varints one behind the other
pub record SaysNothing (script : List ℕ) : Type 0 where
  pub payload : List ℕ
  pub pushed : payload_of script ≡ Some payload
  pub broken : (integers : List ℕ) → ¬ AreIntegers payload integers

-- an edict, told behind this id, has an id that isn't valid
abbrev pub HasBadId : RuneId → List ℕ → Type 0
HasBadId id (block ∷ tx ∷ amount ∷ output ∷ rest) =
    (id_after id block tx ≡ None)
    ⊎ ((next : RuneId) × (id_after id block tx ≡ Some next) × HasBadId next rest)
HasBadId id _ = ⊥

-- an edict has an output above the number of outputs
abbrev pub HasBadOutput : ℕ → List ℕ → Type 0
HasBadOutput outputs (block ∷ tx ∷ amount ∷ output ∷ rest) =
    (outputs < output) ⊎ HasBadOutput outputs rest
HasBadOutput outputs _ = ⊥

-- a tag is even, and has more values than its field takes
pub record LeavesEven (fields : List Field) (outputs : ℕ) : Type 0 where
  pub tag : ℕ
  pub even : tag % 2 ≡ 0
  pub more : count_taken (first_of fields) (mint_in fields) outputs tag < length (values fields tag)

-- premine and mints together are more than an amount can be
pub record Overflows (fields : List Field) : Type 0 where
  pub etching : Etching
  pub is : etching_of (first_of fields) ≡ Some etching
  pub supply : 2 ^ 128 ≤ unwrap_or etching.premine 0 + mintable etching.terms

-- what is wrong with a message
pub data IsFlawed (message : Message) (outputs : ℕ) : Type 0 where
  -- a tag without a value
  lone_tag : message.lone ≡ true → IsFlawed message outputs
  -- integers behind the last whole edict
  trailing_integers : length message.body % 4 ≢ 0 → IsFlawed message outputs
  edict_id : HasBadId (record { block = 0; tx = 0 }) message.body → IsFlawed message outputs
  edict_output : HasBadOutput outputs message.body → IsFlawed message outputs
  -- a flag that isn't known, or that only an etching has
  unknown_flag : has_strange_flag (first_of message.fields) ≡ true → IsFlawed message outputs
  even_tag : LeavesEven message.fields outputs → IsFlawed message outputs
  supply : Overflows message.fields → IsFlawed message outputs

-- what is wrong with a runestone's script in a transaction with so many outputs
pub data HasCause (script : List ℕ) (outputs : ℕ) : Type 0 where
  -- an opcode that pushes no data
  opcode : has_op script ≡ true → HasCause script outputs
  -- a push that is cut short
  cut_push : is_cut script ≡ true → HasCause script outputs
  -- a varint that is cut short, or of a number beyond 128 bits
  varint : SaysNothing script → HasCause script outputs
  message : (integers : List ℕ) → Says script integers → IsFlawed (message_of integers) outputs
      → HasCause script outputs

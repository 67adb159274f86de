-- From integers to tags with their values, and to edicts: Runes specification, "Deciphering".
use Rattle.std.specs.Prelude.{ℕ, ◌+◌, ◌^◌, Bool, true, false, List, [], ◌∷◌, Option, Some, None}
use Rattle.std.specs.Prelude.{◌==◌, ◌&&◌, ◌||◌, nat_lt, nat_le, if◌then◌else◌}
use Rattle.ox_runestone.specs.declared.stone.RuneId.{RuneId}
use Rattle.ox_runestone.specs.declared.stone.Edict.{Edict}

-- a tag and a value of it
abbrev pub Field : Type 0
Field = ℕ × ℕ

pub record Message : Type 0 where
  -- tags, each with a value, in order
  pub fields : List Field
  -- whether a tag without a value follows them
  pub lone : Bool
  -- what follows the tag 0
  pub body : List ℕ

abbrev pub field_before : Field → Message → Message
field_before field message = record {
  fields = field ∷ message.fields;
  lone = message.lone;
  body = message.body;
}

-- tags and values in turn, up to the tag 0
abbrev pub message_of : List ℕ → Message
message_of [] = record { fields = []; lone = false; body = [] }
message_of (tag ∷ []) = record { fields = []; lone = if tag == 0 then false else true; body = [] }
message_of (tag ∷ value ∷ rest) =
    if tag == 0 then record { fields = []; lone = false; body = value ∷ rest }
    else field_before (tag, value) (message_of rest)

-- the values of a tag, in order
abbrev pub values : List Field → ℕ → List ℕ
values [] tag = []
values (field ∷ fields) tag =
    if field.0 == tag then (field.1 ∷ values fields tag) else values fields tag

-- A rune's id: a block of 64 bits and a transaction of 32. Block 0 has the transaction 0 alone.
abbrev pub id_of : ℕ → ℕ → Option RuneId
id_of block tx =
    if nat_lt block (2 ^ 64) && (nat_lt tx (2 ^ 32) && (nat_lt 0 block || tx == 0))
    then Some (record { block = block; tx = tx })
    else None

-- the id that follows another: in the same block its transaction is told from that one's, else as
-- it is
abbrev pub id_after : RuneId → ℕ → ℕ → Option RuneId
id_after id block tx = id_of (id.block + block) (if block == 0 then id.tx + tx else tx)

-- an edict before others, where its id is one and its output is at most the number of outputs
abbrev pub edict_before : ℕ → Option RuneId → ℕ → ℕ → Option (List Edict) → Option (List Edict)
edict_before outputs (Some id) amount output (Some edicts) =
    if nat_le output outputs
    then Some (record { id = id; amount = amount; output = output } ∷ edicts)
    else None
edict_before outputs _ amount output _ = None

-- the edicts that integers spell in fours, behind an id
abbrev pub edicts_after : ℕ → Option RuneId → List ℕ → Option (List Edict)
edicts_after outputs None _ = None
edicts_after outputs (Some id) [] = Some []
edicts_after outputs (Some id) (block ∷ tx ∷ amount ∷ output ∷ rest) =
    let next = id_after id block tx in
    edict_before outputs next amount output (edicts_after outputs next rest)
edicts_after outputs (Some id) _ = None

-- the edicts of a body: the first id is told from block 0, transaction 0
unfoldable pub edicts_of : ℕ → List ℕ → Option (List Edict)
edicts_of outputs body = edicts_after outputs (Some (record { block = 0; tx = 0 })) body

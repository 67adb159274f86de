-- From a runestone to integers, payload and script: Runes specification, "Fields", "Edicts"; ord's
-- `encipher`.
use Rattle.std.specs.Prelude.{◌≡◌, ℕ, ◌+◌, ◌-◌, ◌/◌, ◌%◌, ◌^◌, ◌<◌, ◌≤◌, ◌⊎◌, true, false, List}
use Rattle.std.specs.Prelude.{[], ◌∷◌, ◌++◌, length, Option, Some, None, is_some, IfSome, ◌==◌}
use Rattle.std.specs.Prelude.{nat_lt, if◌then◌else◌}
use Rattle.std.specs.List.{flat_map, AllByRecursion}
use Rattle.ox_varint.specs.Varint.{varint}
use Rattle.ox_runestone.specs.declared.stone.RuneId.{RuneId}
use Rattle.ox_runestone.specs.declared.stone.Terms.{Terms}
use Rattle.ox_runestone.specs.declared.stone.Etching.{Etching}
use Rattle.ox_runestone.specs.declared.stone.Edict.{Edict}
use Rattle.ox_runestone.specs.declared.stone.Runestone.{Runestone}
use Rattle.ox_runestone.specs.declared.stone.Artifact.{Artifact}
use Rattle.ox_runestone.specs.declared.stone.Artifact.TheVariants.{Stone, Cenotaph}
use Rattle.ox_runestone.specs.Message.{Field}
use Rattle.ox_runestone.specs.Fields.{is_character, overflows}
use Rattle.ox_runestone.specs.Tags.{flags_tag, name_tag, divisibility_tag, spacers_tag, symbol_tag}
use Rattle.ox_runestone.specs.Tags.{premine_tag, cap_tag, amount_tag, height_start_tag}
use Rattle.ox_runestone.specs.Tags.{height_end_tag, offset_start_tag, offset_end_tag, mint_tag}
use Rattle.ox_runestone.specs.Tags.{pointer_tag, etching_flag, terms_flag, turbo_flag}

-- a tag and its value, where there is one
abbrev pub pair : ℕ → Option ℕ → List Field
pair tag None = []
pair tag (Some value) = (tag, value) ∷ []

abbrev pub terms_pairs : Option Terms → List Field
terms_pairs None = []
terms_pairs (Some terms) =
    pair cap_tag terms.cap ++ (pair amount_tag terms.amount
    ++ (pair height_start_tag terms.height_start ++ (pair height_end_tag terms.height_end
    ++ (pair offset_start_tag terms.offset_start ++ pair offset_end_tag terms.offset_end))))

abbrev pub flags_for : Etching → ℕ
flags_for etching =
    etching_flag + (if is_some etching.terms then terms_flag else 0)
    + (if etching.turbo then turbo_flag else 0)

abbrev pub etching_pairs : Option Etching → List Field
etching_pairs None = []
etching_pairs (Some etching) =
    (flags_tag, flags_for etching)
    ∷ (pair name_tag etching.name ++ (pair divisibility_tag etching.divisibility
    ++ (pair spacers_tag etching.spacers ++ (pair symbol_tag etching.symbol
    ++ (pair premine_tag etching.premine ++ terms_pairs etching.terms)))))

abbrev pub mint_pairs : Option RuneId → List Field
mint_pairs None = []
mint_pairs (Some id) = (mint_tag, id.block) ∷ (mint_tag, id.tx) ∷ []

-- the tags of a runestone with their values
abbrev pub fields_of : Runestone → List Field
fields_of stone =
    etching_pairs stone.etching ++ (mint_pairs stone.mint ++ pair pointer_tag stone.pointer)

-- tags and values in turn
abbrev pub tags_and_values : List Field → List ℕ
tags_and_values [] = []
tags_and_values (field ∷ fields) = field.0 ∷ field.1 ∷ tags_and_values fields

-- edicts in fours, behind an id
abbrev pub deltas : RuneId → List Edict → List ℕ
deltas id [] = []
deltas id (edict ∷ edicts) =
    (edict.id.block - id.block)
    ∷ (if edict.id.block == id.block then edict.id.tx - id.tx else edict.id.tx)
    ∷ edict.amount ∷ edict.output ∷ deltas edict.id edicts

-- the tag 0 and the edicts, where there are any
abbrev pub body_for : List Edict → List ℕ
body_for [] = []
body_for (edict ∷ edicts) = 0 ∷ deltas (record { block = 0; tx = 0 }) (edict ∷ edicts)

abbrev pub integers_for : Runestone → List ℕ
integers_for stone = tags_and_values (fields_of stone) ++ body_for stone.edicts

abbrev pub payload_for : Runestone → List ℕ
payload_for stone = flat_map varint (integers_for stone)

-- a push of at most 65,535 bytes: its opcode with their number, and the bytes
abbrev pub push_head : ℕ → List ℕ
push_head count =
    if nat_lt count 76 then count ∷ []
    else (if nat_lt count 256 then 76 ∷ count ∷ []
    else 77 ∷ (count % 256) ∷ (count / 256) ∷ [])

abbrev pub push : List ℕ → List ℕ
push bytes = push_head (length bytes) ++ bytes

abbrev pub joined_chunks : List (List ℕ) → List ℕ
joined_chunks [] = []
joined_chunks (chunk ∷ chunks) = chunk ++ joined_chunks chunks

abbrev pub pushed_chunks : List (List ℕ) → List ℕ
pushed_chunks [] = []
pushed_chunks (chunk ∷ chunks) = push chunk ++ pushed_chunks chunks

-- what a list of fields spells
abbrev pub text_of : List Field → List ℕ
text_of fields = flat_map varint (tags_and_values fields)

-- the payload in pushes of at most 520 bytes, the most that one may push
pub record IsPushed (text payload : List ℕ) : Type 0 where
  pub chunks : List (List ℕ)
  pub payload-is : joined_chunks chunks ≡ payload
  pub text-is : pushed_chunks chunks ≡ text
  pub short : AllByRecursion (λ chunk. length chunk ≤ 520) chunks

-- OP_RETURN, OP_13 and the payload in pushes
abbrev pub Spells : List ℕ → Runestone → Type 0
Spells script stone =
    (text : List ℕ) × (script ≡ 0x6a ∷ 0x5d ∷ text) × IsPushed text (payload_for stone)

-- ---- what a script can say

pub record IsId (id : RuneId) : Type 0 where
  pub block : id.block < 2 ^ 64
  pub tx : id.tx < 2 ^ 32
  pub first : id.block ≡ 0 → id.tx ≡ 0

pub record AreTerms (terms : Terms) : Type 0 where
  pub amount : IfSome terms.amount (λ n. n < 2 ^ 128)
  pub cap : IfSome terms.cap (λ n. n < 2 ^ 128)
  pub height_start : IfSome terms.height_start (λ n. n < 2 ^ 64)
  pub height_end : IfSome terms.height_end (λ n. n < 2 ^ 64)
  pub offset_start : IfSome terms.offset_start (λ n. n < 2 ^ 64)
  pub offset_end : IfSome terms.offset_end (λ n. n < 2 ^ 64)

pub record IsEtching (etching : Etching) : Type 0 where
  pub name : IfSome etching.name (λ n. n < 2 ^ 128)
  pub spacers : IfSome etching.spacers (λ n. n < 2 ^ 27)
  pub divisibility : IfSome etching.divisibility (λ n. n ≤ 38)
  pub symbol : IfSome etching.symbol (λ c. is_character c ≡ true)
  pub premine : IfSome etching.premine (λ n. n < 2 ^ 128)
  pub terms : IfSome etching.terms AreTerms
  pub supply : overflows (Some etching) ≡ false

pub record IsEdict (outputs : ℕ) (edict : Edict) : Type 0 where
  pub id : IsId edict.id
  pub amount : edict.amount < 2 ^ 128
  pub output : edict.output ≤ outputs

-- A runestone that a script can say in a transaction with so many outputs: the numbers are in the
-- range of their types, and
--   the spacers are below 2 ^ 27, the divisibility is at most 38, and premine and mints together
--   have 128 bits, block 0 has the transaction 0 alone, the pointer is below and an edict's output
--   at most the number of outputs.
pub record CanCome (stone : Runestone) (outputs : ℕ) : Type 0 where
  pub etching : IfSome stone.etching IsEtching
  pub mint : IfSome stone.mint IsId
  pub pointer : IfSome stone.pointer (λ n. n < outputs)
  pub edicts : AllByRecursion (IsEdict outputs) stone.edicts

-- of an artifact, that its runestone is one that a script can say
abbrev pub StoneCanCome : ℕ → Artifact → Type 0
StoneCanCome outputs (Stone stone) = CanCome stone outputs
StoneCanCome outputs (Cenotaph mint name) = Unit {0}

-- one id isn't below the other
abbrev pub NotBelow : RuneId → RuneId → Type 0
NotBelow id next = (id.block < next.block) ⊎ ((id.block ≡ next.block) × (id.tx ≤ next.tx))

abbrev pub DontFallAfter : RuneId → List Edict → Type 0
DontFallAfter id [] = Unit {0}
DontFallAfter id (edict ∷ edicts) = NotBelow id edict.id × DontFallAfter edict.id edicts

-- the ids of the edicts don't fall
abbrev pub DontFall : List Edict → Type 0
DontFall edicts = DontFallAfter (record { block = 0; tx = 0 }) edicts

-- of an artifact, that the ids of its runestone's edicts don't fall
abbrev pub EdictsDontFall : Artifact → Type 0
EdictsDontFall (Stone stone) = DontFall stone.edicts
EdictsDontFall (Cenotaph mint name) = Unit {0}

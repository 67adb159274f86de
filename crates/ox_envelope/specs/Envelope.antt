-- The envelopes of a script: the Ordinal Theory Handbook, "Inscriptions".
use Rattle.std.specs.Prelude.{◌≡◌, ◌⊎◌, ℕ, zero, suc, ◌+◌, ◌-◌, Bool, true, false, ◌&&◌, List, []}
use Rattle.std.specs.Prelude.{◌∷◌, ◌++◌, length, drop, Option, Some, None, is_some, slice_get, ◌==◌}
use Rattle.std.specs.Prelude.{nat_le, bytes_eq, codes, if◌then◌else◌}
use Rattle.std.specs.List.{AllByRecursion, list_any, filter_map}
use Rattle.ox_script.specs.Script.{Instruction, Push, Op, StandsIn, items_of, is_cut}

-- what an envelope has between its opening and its end
pub record EnvelopePushes : Type 0 where
  -- the bytes of each push
  pub pushes : List (List ℕ)
  -- whether one of them is by OP_1NEGATE or OP_1 to OP_16
  pub has_number : Bool

abbrev pub no_pushes : EnvelopePushes
no_pushes = record { pushes = []; has_number = false }

-- OP_1NEGATE and OP_1 to OP_16
abbrev pub is_number : ℕ → Bool
is_number op = if op == 0x4f then true else (nat_le 0x51 op && nat_le op 0x60)

-- OP_1NEGATE pushes the byte 0x81, and OP_1 to OP_16 push the bytes 1 to 16
abbrev pub number_of : ℕ → ℕ
number_of op = if op == 0x4f then 0x81 else op - 0x50

-- the bytes that an item pushes, if it is a push
abbrev pub bytes_pushed : Instruction → Option (List ℕ)
bytes_pushed (Push bytes) = Some bytes
bytes_pushed (Op op) = if is_number op then Some (number_of op ∷ []) else None

abbrev pub pushes_number : Instruction → Bool
pushes_number (Push bytes) = false
pushes_number (Op op) = is_number op

abbrev pub envelope_of : List Instruction → EnvelopePushes
envelope_of items =
    record { pushes = filter_map bytes_pushed items; has_number = list_any pushes_number items }

-- an opening stands at the front: an empty push, OP_IF and the push of "ord"
abbrev pub is_opening : List Instruction → Bool
is_opening (Push [] ∷ Op op ∷ Push name ∷ _) = (op == 0x63) && bytes_eq name (codes "ord")
is_opening _ = false

-- the pushes at the front, up to the first other item: the stop
abbrev pub stretch : List Instruction → List Instruction
stretch [] = []
stretch (item ∷ items) = if is_some (bytes_pushed item) then item ∷ stretch items else []

-- the stop is there, and it is OP_ENDIF
abbrev pub is_end : Option Instruction → Bool
is_end (Some (Op op)) = op == 0x68
is_end _ = false

-- the envelope after an opening, if its stop is OP_ENDIF
abbrev pub envelope_at : List Instruction → List EnvelopePushes
envelope_at inside =
    if is_end (slice_get inside (length (stretch inside)))
    then envelope_of (stretch inside) ∷ [] else []

-- the envelopes whose opening begins after so many items. Behind an opening the next one is looked
-- for after the stop.
abbrev pub envelopes_past : ℕ → List Instruction → List EnvelopePushes
envelopes_past _ [] = []
envelopes_past (suc skipped) (item ∷ items) = envelopes_past skipped items
envelopes_past zero (item ∷ items) =
    if is_opening (item ∷ items)
    then envelope_at (drop 2 items) ++ envelopes_past (3 + length (stretch (drop 2 items))) items
    else envelopes_past zero items

-- the envelopes among these items
unfoldable pub envelopes_among : List Instruction → List EnvelopePushes
envelopes_among items = envelopes_past 0 items

-- the envelopes of a script. One that is cut short has none.
abbrev pub envelopes : List ℕ → List EnvelopePushes
envelopes script = if is_cut script then [] else envelopes_among (items_of script)

-- a push of an envelope is a part of the script, or the byte of OP_1NEGATE or of one of OP_1 to
-- OP_16
abbrev pub IsPushOf : List ℕ → List ℕ → Type 0
IsPushOf script bytes =
    StandsIn script bytes ⊎ ((op : ℕ) × (is_number op ≡ true) × (bytes ≡ number_of op ∷ []))

abbrev pub HasPushesOf : List ℕ → EnvelopePushes → Type 0
HasPushesOf script envelope = AllByRecursion (IsPushOf script) envelope.pushes

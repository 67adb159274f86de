-- The tapscript among a witness's items: BIP 341, "Script validation rules".
use Rattle.std.specs.Prelude.{ℕ, ◌-◌, Bool, false, ◌&&◌, List, [], ◌∷◌, reverse, Option, Some, None}
use Rattle.std.specs.Prelude.{◌==◌, nat_le, slice_get, if◌then◌else◌}

-- of two items or more, a last one that begins with 0x50 is the annex
abbrev pub begins_annex : List ℕ → Bool
begins_annex [] = false
begins_annex (byte ∷ _) = byte == 0x50

-- the items from the last to the first, without the annex
abbrev pub drop_annex : List (List ℕ) → List (List ℕ)
drop_annex (last ∷ before ∷ items) =
    if begins_annex last then before ∷ items else last ∷ before ∷ items
drop_annex items = items

-- of two items or more, the one before the last
abbrev pub script_before : List (List ℕ) → Option (List ℕ)
script_before (control ∷ script ∷ _) = Some script
script_before _ = None

-- the tapscript of a witness: before the control block, the annex aside
abbrev pub tapscript : List (List ℕ) → Option (List ℕ)
tapscript witness = script_before (drop_annex (reverse witness))

-- how many of so many items are left without the annex
abbrev pub count_without_annex : ℕ → List ℕ → ℕ
count_without_annex items last = if nat_le 2 items && begins_annex last then items - 1 else items

-- the tapscript's place among so many items, of which this one is the last
abbrev pub tapscript_place : ℕ → List ℕ → Option ℕ
tapscript_place items last =
    let left = count_without_annex items last in
    if nat_le 2 left then Some (left - 2) else None

-- the item at a place, where there is one
abbrev pub item_at : List (List ℕ) → Option ℕ → Option (List ℕ)
item_at witness None = None
item_at witness (Some place) = slice_get witness place

-- The tree of an address: its keys rise, and it has no float.
use Rattle.std.proofs.Common.{◌≡◌, ℕ, List, refl, false, true}
use Rattle.hex.specs.Hex.{encode_lower}
use Rattle.serde_json.specs.Written.{has_float}
use Rattle.ox_address.specs.Address.{address_of}
use Rattle.ox_rules.specs.Text.{outpoint_text}
use Rattle.ox_holders.specs.Outputs.{outputs_with}
use Rattle.ox_model.specs.Index.{Index}
use Rattle.ox_replies.specs.Keys.{keys_rise}
use Rattle.ox_replies.proofs.Floats as floats
use Rattle.ox_replies.proofs.Rising as rising
use Rattle.ox_held.specs.Held.{held_by}
use Rattle.ox_held.specs.Trees.{address_tree, outpoint_tree}

a_tree_rises : (index : Index) (hrp script : List ℕ) → rising.Rises (address_tree index hrp script)
a_tree_rises index hrp script = rising.all_of (
    rising.both refl (rising.a_string (address_of hrp script)) (
    rising.both refl (rising.ids index.inscriptions (held_by index script).inscriptions) (
    rising.both refl (rising.all_items outpoint_tree (outputs_with script index.outs) (λ at. rising.a_string (outpoint_text at))) (
    rising.both refl (rising.balances index.runes (held_by index script).runes) (
    rising.both refl (rising.a_string (encode_lower script)) (
    rising.both refl (rising.a_count (held_by index script).value) rising.none))))))

a_tree_is_plain : (index : Index) (hrp script : List ℕ) → floats.IsPlain (address_tree index hrp script)
a_tree_is_plain index hrp script = floats.all_of (
    floats.both (floats.a_string (address_of hrp script)) (
    floats.both (floats.ids index.inscriptions (held_by index script).inscriptions) (
    floats.both (floats.all_items outpoint_tree (outputs_with script index.outs) (λ at. floats.a_string (outpoint_text at))) (
    floats.both (floats.balances index.runes (held_by index script).runes) (
    floats.both (floats.a_string (encode_lower script)) (
    floats.both (floats.a_count (held_by index script).value) floats.none))))))

pub tree_rises : (index : Index) (hrp script : List ℕ) → keys_rise (address_tree index hrp script) ≡ true
tree_rises index hrp script = (a_tree_rises index hrp script).rises

pub tree_plain : (index : Index) (hrp script : List ℕ) → has_float (address_tree index hrp script) ≡ false
tree_plain index hrp script = (a_tree_is_plain index hrp script).plain

-- The tree of what an address holds.
use Rattle.std.specs.Prelude.{ℕ, List, map, codes}
use Rattle.serde_json.specs.Data.{Data, array, string, object, no_members, member}
use Rattle.serde_json.specs.View.{items_of}
use Rattle.ox_block.specs.declared.block.OutPoint.{OutPoint}
use Rattle.ox_address.specs.Address.{address_of}
use Rattle.ox_rules.specs.Text.{outpoint_text}
use Rattle.ox_holders.specs.Outputs.{outputs_with}
use Rattle.ox_model.specs.Index.{Index}
use Rattle.ox_replies.specs.Inscriptions.{ids_tree}
use Rattle.ox_replies.specs.Runes.{balances_tree}
use Rattle.ox_replies.specs.Values.{count, hex}
use Rattle.ox_held.specs.Held.{held_by}
use Rattle.ox_held.specs.declared.held.Held.{Held}

abbrev pub outpoint_tree : OutPoint → Data
outpoint_tree at = string (outpoint_text at)

-- an address, its script, and what these outputs of it hold
abbrev pub held_tree : Index → List ℕ → List ℕ → List OutPoint → Held → Data
held_tree index address script places held = object (
    member (codes "address") (string address) (
    member (codes "inscriptions") (ids_tree index.inscriptions held.inscriptions) (
    member (codes "outputs") (array (items_of (map outpoint_tree places))) (
    member (codes "runes") (balances_tree index.runes held.runes) (
    member (codes "script") (hex script) (
    member (codes "value") (count held.value) no_members))))))

-- what the address of a script holds, behind a human-readable part
abbrev pub address_tree : Index → List ℕ → List ℕ → Data
address_tree index hrp script =
    held_tree index (address_of hrp script) script (outputs_with script index.outs)
    (held_by index script)

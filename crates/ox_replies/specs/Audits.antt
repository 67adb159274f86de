-- The tree of an audit.
use Rattle.std.specs.Prelude.{map, codes}
use Rattle.serde_json.specs.Data.{Data, array, object, no_members, member}
use Rattle.serde_json.specs.View.{items_of}
use Rattle.ox_model.specs.declared.audit.Audit.{Audit}
use Rattle.ox_model.specs.declared.audit.RuneAudit.{RuneAudit}
use Rattle.ox_replies.specs.Runes.{rune_id_tree}
use Rattle.ox_replies.specs.Values.{amount, count}

-- where a rune is and where it came from
abbrev pub rune_audit_tree : RuneAudit → Data
rune_audit_tree rune = object (
    member (codes "burned") (amount rune.burned) (
    member (codes "held") (amount rune.held) (
    member (codes "id") (rune_id_tree rune.id) (
    member (codes "minted") (amount rune.minted) (
    member (codes "premine") (amount rune.premine) no_members)))))

abbrev pub audit_tree : Audit → Data
audit_tree audit = object (
    member (codes "claimable") (count audit.claimable) (
    member (codes "lost") (count audit.lost) (
    member (codes "outputs") (count audit.outputs) (
    member (codes "runes") (array (items_of (map rune_audit_tree audit.runes))) no_members))))

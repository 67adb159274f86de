-- The tree of a status that isn't 200.
use Rattle.std.specs.Prelude.{ℕ, codes}
use Rattle.serde_json.specs.Data.{Data, object, no_members, member}
use Rattle.ox_replies.specs.Values.{count}

-- a status that isn't 200
abbrev pub error_tree : ℕ → Data
error_tree status = object (member (codes "error") (count status) no_members)

-- The tree of a block.
use Rattle.std.specs.Prelude.{ℕ, List, codes}
use Rattle.serde_json.specs.Data.{Data, string, object, no_members, member}
use Rattle.ox_rules.specs.Text.{hash_text}
use Rattle.ox_replies.specs.Values.{count}

-- the block of a height and its hash
abbrev pub block_tree : ℕ → List ℕ → Data
block_tree height hash = object (
    member (codes "hash") (string (hash_text hash)) (
    member (codes "height") (count height) no_members))

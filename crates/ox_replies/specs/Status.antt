-- The tree of a chain's status. Each object lists its keys, in order, with their values: so do
-- those of all trees.
use Rattle.std.specs.Prelude.{ℕ, ◌-◌, List, length, codes, Option, slice_get}
use Rattle.serde_json.specs.Data.{Data, string, object, no_members, member}
use Rattle.ox_sat.specs.Profiles.{name_at, profile_word}
use Rattle.ox_replies.specs.Asked.{Asked}
use Rattle.ox_replies.specs.Values.{count, hash_or_null}

-- the newest of some hashes
abbrev pub tip : List (List ℕ) → Option (List ℕ)
tip hashes = slice_get hashes (length hashes - 1)

abbrev pub status_tree : Asked → Data
status_tree asked = object (
    member (codes "blocks") (count (length asked.index.hashes)) (
    member (codes "depth") (count asked.depth) (
    member (codes "kept") (count asked.kept) (
    member (codes "profile") (string (profile_word (name_at asked.profile.byte))) (
    member (codes "tip") (hash_or_null (tip asked.index.hashes)) no_members)))))

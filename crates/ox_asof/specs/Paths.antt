-- Paths that name a block.
use Rattle.std.specs.Prelude.{ℕ, ◌-◌, ◌==◌, ◌&&◌, List, [], ◌++◌, length, take, drop, reverse}
use Rattle.std.specs.Prelude.{codes, bytes_eq, Option, Some, None, if◌then◌else◌}
use Rattle.std.specs.Option.{option_and_then}
use Rattle.std.specs.Result.{result_unwrap_or}
use Rattle.hex.specs.Hex.{decode_of}
use Rattle.ox_rules.specs.Text.{hash_text}

-- the hash that a text spells, if any: the text is read as hexadecimal digits, and counts where
-- what was read is a hash that is printed so
abbrev pub hash_in : List ℕ → Option (List ℕ)
hash_in text =
    let hash = reverse (result_unwrap_or (decode_of text) []) in
    if (length hash == 32) && bytes_eq text (hash_text hash) then Some hash else None

-- a path and a block's hash, as they are written
abbrev pub path_at : List ℕ → List ℕ → List ℕ
path_at path hash = path ++ codes "?at=" ++ hash_text hash

-- what a path has before `?at=` and the digits of a hash, and that hash, where it ends so
abbrev pub path_and_hash : List ℕ → Option (List ℕ × List ℕ)
path_and_hash path =
    let front = take (length path - 68) path in
    option_and_then
    (λ hash. if bytes_eq path (path_at front hash) then Some (front, hash) else None)
    (hash_in (drop (length path - 64) path))

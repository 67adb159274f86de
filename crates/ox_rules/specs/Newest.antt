-- The hash of the newest block of a chain, as the next one names it.
use Rattle.std.specs.Prelude.{ℕ, ◌-◌, slice_get, unwrap_or, List, length, replicate}

abbrev pub zero_hash : List ℕ
zero_hash = replicate 32 0

-- the newest block's hash, or zeros before the first block
abbrev pub newest_of : List (List ℕ) → List ℕ
newest_of hashes = unwrap_or (slice_get hashes (length hashes - 1)) zero_hash

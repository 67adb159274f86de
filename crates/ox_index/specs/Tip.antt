-- The newest block of an index.
use Rattle.std.specs.Prelude.{ℕ, ◌-◌, List, length, Option, option_map, slice_get}
use Rattle.ox_model.specs.Index.{Index}

-- the newest block's height and hash, where there is a block
abbrev pub tip_of : Index → Option (ℕ × List ℕ)
tip_of index =
    option_map (λ hash. (length index.hashes - 1, hash))
    (slice_get index.hashes (length index.hashes - 1))

-- How many blocks back a block is.
use Rattle.std.specs.Prelude.{◌≡◌, ◌≢◌, ℕ, ◌-◌, ◌<◌, ◌≤◌, List, length, take, Option, Some}
use Rattle.ox_replies.specs.Status.{tip}

-- the newest of some hashes without the last ones, so many
abbrev pub tip_back : List (List ℕ) → ℕ → Option (List ℕ)
tip_back hashes back = tip (take (length hashes - back) hashes)

-- this is the least number of blocks, of at most so many, without which a hash is the newest
pub record IsBack (hashes : List (List ℕ)) (kept : ℕ) (hash : List ℕ) (back : ℕ) : Type 0 where
  pub within : back ≤ kept
  pub newest : tip_back hashes back ≡ Some hash
  pub least : (fewer : ℕ) → fewer < back → tip_back hashes fewer ≢ Some hash

-- there is none
abbrev pub IsNoneBack : List (List ℕ) → ℕ → List ℕ → Type 0
IsNoneBack hashes kept hash = (back : ℕ) → back ≤ kept → tip_back hashes back ≢ Some hash

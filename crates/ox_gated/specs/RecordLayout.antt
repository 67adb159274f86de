-- How a record is laid out behind its gate: in versions 1 and 2 a length and the payload; in
-- version 3 a length, a sum and the payload.
use Rattle.std.specs.Prelude.{ℕ, List, ◌++◌, length, Ok, Err, bytes_eq, if◌then◌else◌}
use Rattle.std.specs.Int.{w32, w64, to_le_bytes}
use Rattle.ox_bytes.specs.Reading.{Reader, number_at, run_at, ◌>>=◌}
use Rattle.sha2.specs.Sha256.{sha256}

-- ---- without a sum

-- the payload's length in four bytes, and the payload
unfoldable pub plain_record : List ℕ → List ℕ
plain_record payload = to_le_bytes w32 (length payload) ++ payload

-- the payload of these bytes, and what stands behind it
unfoldable pub plain_payload : Reader (List ℕ)
plain_payload bytes = number_at w32 bytes >>= λ n. run_at n.0 n.1

-- ---- with a sum

-- what a sum is of: the file's generation, the place of the record's gate and the payload's length,
-- in eight bytes each, and the payload
abbrev pub record_message : ℕ → ℕ → List ℕ → List ℕ
record_message generation place payload =
    to_le_bytes w64 generation ++ to_le_bytes w64 place ++ to_le_bytes w64 (length payload)
    ++ payload

-- its SHA-256
unfoldable pub record_sum : ℕ → ℕ → List ℕ → List ℕ
record_sum generation place payload = sha256 (record_message generation place payload)

-- the payload's length in eight bytes, the sum in 32, and the payload
unfoldable pub summed_record : ℕ → ℕ → List ℕ → List ℕ
summed_record generation place payload =
    to_le_bytes w64 (length payload) ++ record_sum generation place payload ++ payload

-- the payload of these bytes, where its sum is right, and what stands behind it
unfoldable pub summed_payload : ℕ → ℕ → Reader (List ℕ)
summed_payload generation place bytes = do
  size ← number_at w64 bytes
  sum ← run_at 32 size.1
  found ← run_at size.0 sum.1
  if bytes_eq sum.0 (record_sum generation place found.0) then Ok found else Err (length bytes)

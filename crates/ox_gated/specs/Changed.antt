-- What a changed byte of a file of version 3 makes of the two files.
use Rattle.std.specs.Prelude.{◌≡◌, ◌≢◌, ◌⊎◌, ℕ, ◌+◌, ◌<◌, Bool, List, All, IsErr, slice_range}
use Rattle.sha2.specs.Sha256.{sha256}
use Rattle.ox_outside.specs.Files.{Files}
use Rattle.ox_gated.specs.Layout.{head_sum_at, magic_at, summed, summed_body_at}
use Rattle.ox_gated.specs.Reading.{Found, reading}
use Rattle.ox_gated.specs.RecordLayout.{record_message}

-- a place of the current file before its last gate, and no gate
pub record IsNoGate (found : Found) (at : ℕ) : Type 0 where
  pub not_first : at ≢ 0
  pub no_record : All (λ one. at ≢ one.place) found.records
  pub before_last : at < found.gate

-- whichever versions are read, the files stand for nothing
abbrev pub StandForNothing : Files → Type 0
StandForNothing files = (reads : ℕ → Bool) → IsErr (reading reads files)

-- What a sum of a file may be of: the bytes between its first gate and the head's sum, a body, or
-- a generation, a place, a length and the payload of this length whose record stands at the place.
abbrev pub IsSummedIn : List ℕ → List ℕ → Type 0
IsSummedIn file message =
    (message ≡ slice_range file magic_at head_sum_at)
    ⊎ ((end : ℕ) × (message ≡ slice_range file summed_body_at end))
    ⊎ ((generation place end : ℕ)
    × (message
    ≡ record_message generation place (slice_range file (place + summed.before_payload) end)))

-- Of these two files something else is summed in the one than in the other, and its SHA-256 is the
-- same.
pub record Collide (old new : List ℕ) : Type 0 where
  pub before : List ℕ
  pub after : List ℕ
  pub is_before : IsSummedIn old before
  pub is_after : IsSummedIn new after
  pub differ : after ≢ before
  pub same : sha256 after ≡ sha256 before

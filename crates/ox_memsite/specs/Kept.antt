-- What the fields of a site in memory keep, and one byte of what a crash leaves.
use Rattle.std.specs.Prelude.{◌≡◌, ℕ, ◌<◌, ◌≤◌, Bool, true, false, List, ◌++◌, Option, Some, None}
use Rattle.std.specs.Prelude.{length, slice_index_or}
use Rattle.ox_outside.specs.Event.{has_broken}
use Rattle.ox_outside.specs.Files.{Files}
use Rattle.ox_outside.specs.declared.site.Which.TheVariants.{A, B}
use Rattle.ox_memsite.specs.Room.{channels_in, room_owed}
use Rattle.ox_memsite.specs.World.{disk_of, events_of}
use Rattle.ox_memsite.specs.declared.step.Step.{Step}

-- the byte that is read, where it is there and no write has covered it
abbrev pub kept_at : ℕ → Bool → Option ℕ → ℕ
kept_at fill true (Some byte) = byte
kept_at fill false (Some byte) = fill
kept_at fill is_solid None = fill

-- The files are as the steps made them; the flags say which channels have broken; the log opened no
-- number that isn't below the count of the channels; there is room for each event that may still
-- come of them and can't be refused. So many bytes of the input were heard.
pub record IsKept (first : Files) (a b : List ℕ) (past done : List Step) (broken : List Bool)
    (count spare heard size : ℕ) : Type 0 where
  pub file_a : a ≡ (disk_of first done A).seen
  pub file_b : b ≡ (disk_of first done B).seen
  pub flags : (channel : ℕ) → channel < count
      → slice_index_or broken channel false ≡ has_broken channel (events_of past ++ events_of done)
  pub as_many : length broken ≡ count
  pub numbers : channels_in (events_of past ++ events_of done) ≤ count
  pub few : count ≤ 4294967296
  pub room : room_owed count (events_of past ++ events_of done) ≤ spare
  pub within : heard ≤ size

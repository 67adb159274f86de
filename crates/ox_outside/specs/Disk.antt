-- A file on a disk between two syncs. Each range written since the last sync may hold any bytes
-- after a crash, and so may all that lies past the file's length at that sync; the other bytes
-- stay. The length that a crash leaves is any from the length at the last sync to the greatest
-- since. After a sync a crash leaves what a read gives.
use Rattle.std.specs.Prelude.{◌≡◌, ℕ, zero, suc, ◌+◌, ◌-◌, ◌≤◌, min, max, Bool, true, false}
use Rattle.std.specs.Prelude.{List, [], ◌∷◌, ◌++◌, length, replicate}
use Rattle.ox_outside.specs.Files.{with_bytes}

pub record Disk : Type 0 where
  -- what a read gives
  pub seen : List ℕ
  -- for each byte of the file at its last sync, whether no write has covered it since
  pub solid : List Bool
  -- the greatest length since the last sync
  pub longest : ℕ

-- a file with all its bytes on the disk
abbrev pub synced_disk : List ℕ → Disk
synced_disk bytes = record {
  seen = bytes;
  solid = replicate (length bytes) true;
  longest = length bytes;
}

-- n places from this one on are covered by a write
abbrev pub solid_outside : ℕ → ℕ → List Bool → List Bool
solid_outside zero zero solid = solid
solid_outside zero (suc n) [] = []
solid_outside zero (suc n) (s ∷ solid) = false ∷ solid_outside zero n solid
solid_outside (suc at) n [] = []
solid_outside (suc at) n (s ∷ solid) = s ∷ solid_outside at n solid

-- after a write of these bytes at this place
abbrev pub after_write : ℕ → List ℕ → Disk → Disk
after_write at bytes disk = record {
  seen = with_bytes at bytes disk.seen;
  solid = solid_outside at (length bytes) disk.solid;
  longest = max disk.longest (at + length bytes);
}

-- after a write of n bytes at this place that failed, and changed nothing that a read gives
abbrev pub after_torn : ℕ → ℕ → Disk → Disk
after_torn at n disk = record {
  seen = disk.seen;
  solid = solid_outside at n disk.solid;
  longest = max disk.longest (at + n);
}

-- the solid bytes are as they are read
abbrev pub Keeps : List Bool → List ℕ → List ℕ → Type 0
Keeps [] seen image = Unit {0}
Keeps (s ∷ solid) [] image = ⊥
Keeps (s ∷ solid) (b ∷ seen) [] = ⊥
Keeps (true ∷ solid) (b ∷ seen) (c ∷ image) = (c ≡ b) × Keeps solid seen image
Keeps (false ∷ solid) (b ∷ seen) (c ∷ image) = Keeps solid seen image

-- what a crash may leave of the file
pub record IsImage (disk : Disk) (image : List ℕ) : Type 0 where
  pub no_shorter : length disk.solid ≤ length image
  pub no_longer : length image ≤ disk.longest
  pub kept : Keeps disk.solid disk.seen image

-- what every file on a disk has: a read gives no fewer bytes than at the last sync, and no more
-- than the greatest length
pub record IsDisk (disk : Disk) : Type 0 where
  pub no_shorter : length disk.solid ≤ length disk.seen
  pub no_longer : length disk.seen ≤ disk.longest

-- the bytes of the file at its last sync, each that was covered since replaced by `fill`
abbrev pub filled_bytes : ℕ → List Bool → List ℕ → List ℕ
filled_bytes fill [] seen = []
filled_bytes fill (s ∷ solid) [] = fill ∷ filled_bytes fill solid []
filled_bytes fill (true ∷ solid) (b ∷ seen) = b ∷ filled_bytes fill solid seen
filled_bytes fill (false ∷ solid) (b ∷ seen) = fill ∷ filled_bytes fill solid seen

-- the image of which each byte that isn't solid is `fill`, and whose length is `keep` as far as the
-- disk allows
abbrev pub image_with : ℕ → ℕ → Disk → List ℕ
image_with fill keep disk =
    filled_bytes fill disk.solid disk.seen
    ++ replicate (min keep disk.longest - length disk.solid) fill

-- The two files of a site, what a call writes into one, and what a crash may make of a write.
use Rattle.std.specs.Prelude.{◌≡◌, ℕ, ◌+◌, ◌≤◌, max, List, ◌++◌, length, take, drop}
use Rattle.ox_outside.specs.declared.site.Which.{Which}
use Rattle.ox_outside.specs.declared.site.Which.TheVariants.{A, B}

-- the bytes of both files
pub record Files : Type 0 where
  pub a : List ℕ
  pub b : List ℕ

abbrev pub file_of : Files → Which → List ℕ
file_of files A = files.a
file_of files B = files.b

-- the files with one of them replaced
abbrev pub with_file : Files → Which → List ℕ → Files
with_file files A bytes = record { a = bytes; b = files.b }
with_file files B bytes = record { a = files.a; b = bytes }

abbrev pub other : Which → Which
other A = B
other B = A

-- a file with these bytes at this place, over what stood there
abbrev pub with_bytes : ℕ → List ℕ → List ℕ → List ℕ
with_bytes at bytes file = take at file ++ bytes ++ drop (at + length bytes) file

-- After a write of n bytes at this place that failed or that a crash cut short: any bytes in its
-- range and behind the old end, the others as before, and a length between the old one and the one
-- that the write would have made.
pub record Torn (at n : ℕ) (old new : List ℕ) : Type 0 where
  pub before : take at new ≡ take at old
  pub after : drop (at + n) new ≡ drop (at + n) old
  pub no_shorter : length old ≤ length new
  pub no_longer : length new ≤ max (length old) (at + n)

-- one file is torn so, and the other is as it was
pub record TornFile (file : Which) (at n : ℕ) (old new : Files) : Type 0 where
  pub torn : Torn at n (file_of old file) (file_of new file)
  pub others : file_of new (other file) ≡ file_of old (other file)

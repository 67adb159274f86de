-- Which satoshi a new inscription is on (Ordinal Theory Handbook, "Inscriptions" and "Pointer"),
-- said without the steps by which it is found.
use Rattle.std.specs.Prelude.{◌≡◌, ◌<◌, ◌≤◌, ℕ, false, List, slice_get, sum, None, Some}
use Rattle.ox_script.specs.Script.{little_endian}
use Rattle.ox_rules.specs.Outputs.{sats_of}
use Rattle.ox_rules.specs.Transfer.{values_of}
use Rattle.ox_inscribe.specs.Origins.{Origin, is_unbound_at}
use Rattle.ox_inscribe.specs.declared.row.InsRow.{InsRow}

-- A bound inscription stands on the satoshi that its pointer names among those of all inputs,
-- joined in input order, where the outputs take that one; else, and without a pointer, on the first
-- satoshi of its own input.
pub record StandsWhereSaid (origin : Origin) (row : InsRow) : Type 0 where
  pub without : origin.saying.says.pointer ≡ None → is_unbound_at origin ≡ false
      → row.sat ≡ slice_get origin.spends.sats 0
  pub followed : (pointer : List ℕ) → origin.saying.says.pointer ≡ Some pointer
      → is_unbound_at origin ≡ false → little_endian pointer < sum (values_of origin.tx)
      → row.sat ≡ slice_get (sats_of origin.did.spent) (little_endian pointer)
  pub past : (pointer : List ℕ) → origin.saying.says.pointer ≡ Some pointer
      → is_unbound_at origin ≡ false → sum (values_of origin.tx) ≤ little_endian pointer
      → row.sat ≡ slice_get origin.spends.sats 0

-- A place, or none, in 32 bits.
use Rattle.std.specs.Prelude.{◌≡◌, ℕ, ◌<◌, ◌^◌, ◌-◌, ◌==◌, Bool, true, false, Option, Some}
use Rattle.std.specs.Prelude.{None, IfSome, if◌then◌else◌, refl}
use Rattle.std.proofs.Common.{sym, cond}
use Rattle.std.proofs.lemmas.Bool.{eqb-true}

-- this stands for no place
abbrev pub no_place : ℕ
no_place = 2 ^ 32 - 1

-- what a number stands for
abbrev pub slot_kept : ℕ → Option ℕ
slot_kept place = if place == no_place then None else Some place

-- the number that stands for a place, or for none
abbrev pub place_of : Option ℕ → ℕ
place_of None = no_place
place_of (Some place) = place

-- a place that can be held, or none
abbrev pub IsPlace : Option ℕ → Type 0
IsPlace slot = IfSome slot (λ place. place < no_place)

pub place_back : (place : ℕ) → place_of (slot_kept place) ≡ place
place_back place = by (place == no_place) refl where
  by : (b : Bool) → (place == no_place) ≡ b → place_of (cond b None (Some place)) ≡ place
  by true is = sym (eqb-true place no_place is)
  by false is = refl

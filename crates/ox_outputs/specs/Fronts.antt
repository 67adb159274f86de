-- The fronts of transactions' ids, by which outpoints are sorted.
use Rattle.std.specs.Prelude.{◌≡◌, ℕ, ◌<◌, ◌≤◌, List, [], length, take, slice_index_or}
use Rattle.std.specs.Prelude.{Option, Some, unwrap_or}
use Rattle.std.specs.Option.{option_cmp}
use Rattle.std.specs.Ordering.{nat_cmp, ordering_then}
use Rattle.std.specs.Slice.Scan.{big_endian}
use Rattle.std.specs.declared.cmp.Ordering.{Ordering}
use Rattle.ox_block.specs.declared.block.OutPoint.{OutPoint}
use Rattle.ox_rules.specs.Outputs.{outpoint_cmp}
use Rattle.ox_outputs.specs.declared.fronted.Fronted.{Fronted}

-- the first eight bytes of a transaction's id as a number, of which the first byte is the highest
abbrev pub front_of : List ℕ → ℕ
front_of id = big_endian 0 (take 8 id)

-- each is a byte
abbrev pub AreBytes : List ℕ → Type 0
AreBytes bytes = (place : ℕ) → slice_index_or bytes place 0 < 256

-- this is the front of an outpoint's id
pub record IsFront (front : ℕ) (at : OutPoint) : Type 0 where
  pub is : front ≡ front_of at.txid.0
  pub long : 8 ≤ length at.txid.0
  pub bytes : AreBytes at.txid.0

-- where outpoints stand so, one stands at this place, and this is the front of its id
pub record IsFronted (at : ℕ → Option OutPoint) (one : Fronted) : Type 0 where
  pub outpoint : OutPoint
  pub there : at one.place ≡ Some outpoint
  pub front : IsFront one.front outpoint

-- the order of two places: by their fronts, and by the outpoints there where these are equal
abbrev pub fronted_cmp : (ℕ → Option OutPoint) → Fronted → Fronted → Ordering
fronted_cmp at a b =
    ordering_then (nat_cmp a.front b.front) (option_cmp outpoint_cmp (at a.place) (at b.place))

-- stands for the outpoint of a place where none is
abbrev pub no_outpoint : OutPoint
no_outpoint = record { txid = record { 0 = [] }; index = 0 }

-- the outpoint at a place, with the place
abbrev pub pair_of : (ℕ → Option OutPoint) → Fronted → OutPoint × ℕ
pair_of at one = (unwrap_or (at one.place) no_outpoint, one.place)

-- What holds of the index of every chain, part by part.
use Rattle.std.specs.Prelude.{◌≡◌, ℕ, ◌+◌, ◌<◌, ◌≤◌, Bool, ◌&&◌, ◌||◌, IsTrue, List, ◌++◌, length}
use Rattle.std.specs.Prelude.{All, Some, IfSome, IsSome, nat_lt, if◌then◌else◌}
use Rattle.std.specs.FinMap.{get}
use Rattle.ox_block.specs.declared.block.OutPoint.{OutPoint}
use Rattle.ox_sat.specs.declared.profiles.Profile.{Profile}
use Rattle.ox_sat.specs.Heights.{first_at}
use Rattle.ox_rules.specs.Outputs.{AreBelow, sats_held, times}
use Rattle.ox_inscribe.specs.declared.row.InsRow.{InsRow}
use Rattle.ox_allocation.specs.Balances.{Balance, is_same}
use Rattle.ox_etching.specs.declared.row.RuneRow.{RuneRow}
use Rattle.ox_ledger.specs.Balanced.{Balanced}
use Rattle.ox_ledger.specs.Block.{first_rune}
use Rattle.ox_model.specs.Index.{Index, runes_of}

-- no block stands above the last height
pub record SoundHeights (p : Profile) (index : Index) : Type 0 where
  pub last : length index.hashes ≤ p.last + 1

-- each output comes from a block of the chain
pub record SoundOutputs (index : Index) : Type 0 where
  pub below : AreBelow (length index.hashes) index.outs

-- each satoshi that a block could claim so far is in one place, and no other is: the outputs' lists
-- and the lost one, joined, hold each number below the next height's first once, and no other
pub record SoundSats (p : Profile) (index : Index) : Type 0 where
  pub once : (sat : ℕ)
      → times sat (sats_held index.outs ++ index.lost)
      ≡ (if nat_lt sat (first_at p (length index.hashes)) then 1 else 0)

-- each inscription comes from a block of the chain, and the satoshi that it is on, if any, could be
-- claimed so far
pub record SoundInscriptions (p : Profile) (index : Index) : Type 0 where
  pub below : All (λ (row : InsRow). row.height < length index.hashes) index.inscriptions
  pub minted : All
      (λ (row : InsRow). IfSome row.sat (λ sat. sat < first_at p (length index.hashes)))
      index.inscriptions

-- this is the rune that is there from the start
abbrev pub is_first : Profile → RuneRow → Bool
is_first p row = p.first_rune && is_same row.id first_rune.id

-- the rune comes from one of so many blocks, or is there from the start
abbrev pub is_of_chain : Profile → ℕ → RuneRow → Bool
is_of_chain p blocks row = nat_lt row.id.block blocks || is_first p row

pub record SoundRunes (p : Profile) (index : Index) : Type 0 where
  -- ids and names are distinct, a reserved name is that of its rune's place, and what outputs hold
  -- and what was burned of a rune is its premine and what its mints gave
  pub balanced : Balanced (runes_of index)
  -- each rune comes from a block of the chain, but for the first of mainnet
  pub below : All (λ (row : RuneRow). IsTrue (is_of_chain p (length index.hashes) row))
      index.runes
  -- unspent outputs alone hold runes
  pub placed : (at : OutPoint) (balances : List Balance) → get index.bal at ≡ Some balances
      → IsSome (get index.outs at)

pub record IsSound (p : Profile) (index : Index) : Type 0 where
  pub heights : SoundHeights p index
  pub outputs : SoundOutputs index
  pub sats : SoundSats p index
  pub inscriptions : SoundInscriptions p index
  pub runes : SoundRunes p index

-- What is gathered of outputs, one behind the other.
use Rattle.std.specs.Prelude.{◌≡◌, ℕ, ◌+◌, List, [], ◌∷◌, ◌++◌, fold, length, map}
use Rattle.std.specs.List.{flat_map}
use Rattle.ox_block.specs.declared.block.OutPoint.{OutPoint}
use Rattle.ox_inscribe.specs.Inscriptions.{on}
use Rattle.ox_ledger.specs.Runes.{balances_at, joined_with}
use Rattle.ox_model.specs.Index.{Index}
use Rattle.ox_held.specs.Held.{sats_at}
use Rattle.ox_held.specs.declared.held.Gathered.{Gathered}

-- nothing is gathered yet
pub record IsBlank (gathered : Gathered) : Type 0 where
  pub value : gathered.value ≡ 0
  pub runes : gathered.runes ≡ []
  pub sequences : gathered.sequences.items ≡ []

-- some satoshis came, and the inscriptions on them
pub record AddsSats (index : Index) (sats : List ℕ) (old new : Gathered) : Type 0 where
  pub value : new.value ≡ old.value + length sats
  pub runes : new.runes ≡ old.runes
  pub sequences : new.sequences.items
      ≡ old.sequences.items ++ flat_map (on index.inscriptions) sats

-- what the output at an outpoint holds came
pub record AddsOutput (index : Index) (at : OutPoint) (old new : Gathered) : Type 0 where
  pub value : new.value ≡ old.value + length (sats_at index.outs (at ∷ []))
  pub runes : new.runes ≡ joined_with old.runes (balances_at index.bal at)
  pub sequences : new.sequences.items
      ≡ old.sequences.items ++ flat_map (on index.inscriptions) (sats_at index.outs (at ∷ []))

-- with what the outputs at the outpoints that are left hold, it is what those at all hold
pub record Gathers (index : Index) (all left : List OutPoint) (gathered : Gathered)
    : Type 0 where
  pub value : gathered.value + length (sats_at index.outs left) ≡ length (sats_at index.outs all)
  pub runes : fold joined_with gathered.runes (map (balances_at index.bal) left)
      ≡ fold joined_with [] (map (balances_at index.bal) all)
  pub sequences : gathered.sequences.items
      ++ flat_map (on index.inscriptions) (sats_at index.outs left)
      ≡ flat_map (on index.inscriptions) (sats_at index.outs all)

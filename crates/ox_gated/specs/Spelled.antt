-- Records one behind the other, without the closed gate that ends them in a file; and which of them
-- are whole where these bytes are cut.
use Rattle.std.specs.Prelude.{◌≡◌, ℕ, suc, ◌+◌, ◌<◌, ◌≤◌, List, [], ◌∷◌, ◌++◌, length, take, Err}
use Rattle.ox_gated.specs.Layout.{Layout}
use Rattle.ox_gated.specs.Reading.{chain, gate_behind}
use Rattle.ox_gated.specs.declared.records.Record.{Record}

-- a record behind its open gate, the byte 1, at this place of a file of this generation
abbrev pub open_record : Layout → ℕ → ℕ → List ℕ → List ℕ
open_record layout generation place payload = 1 ∷ layout.record_bytes generation place payload

-- the records of these payloads, the first one's gate at this place
abbrev pub open_records : Layout → ℕ → ℕ → List (List ℕ) → List ℕ
open_records layout generation place [] = []
open_records layout generation place (payload ∷ payloads) =
    open_record layout generation place payload
    ++ open_records layout generation (gate_behind layout place payload) payloads

-- what is read of them
abbrev pub records_from : Layout → ℕ → List (List ℕ) → List Record
records_from layout place [] = []
records_from layout place (payload ∷ payloads) =
    record { place = place; payload = payload }
    ∷ records_from layout (gate_behind layout place payload) payloads

-- Of these payloads the first k, and no more, are whole in the first n bytes of their records.
pub record AreWhole (layout : Layout) (generation place n k : ℕ) (payloads : List (List ℕ))
    : Type 0 where
  pub most : k ≤ length payloads
  pub whole : length (open_records layout generation place (take k payloads)) ≤ n
  pub no_more : k < length payloads
      → n < length (open_records layout generation place (take (suc k) payloads))

-- What the first n bytes of these records, the first of them at this place, read as: those that are
-- whole, and behind them no gate, or one whose record is cut.
pub record EndsCut (layout : Layout) (generation place n : ℕ) (payloads : List (List ℕ))
    : Type 0 where
  pub count : ℕ
  pub are_whole : AreWhole layout generation place n count payloads
  pub chain_is : chain layout generation place
      (take n (open_records layout generation place payloads))
      ≡ record {
        records = records_from layout place (take count payloads);
        end = Err
            (place + length (open_records layout generation place (take count payloads)));
      }

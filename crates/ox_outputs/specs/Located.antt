-- Where the satoshis of outputs are, run by run.
use Rattle.std.specs.Prelude.{◌≡◌, ◌≢◌, ℕ, ◌+◌, ◌≤◌, Bool, true, false, Option, Some, None}
use Rattle.std.specs.Prelude.{if◌then◌else◌}
use Rattle.std.specs.FinMap.{get}
use Rattle.std.specs.Option.{option_map, option_map_or, option_and_then}
use Rattle.ox_block.specs.declared.block.OutPoint.{OutPoint}
use Rattle.ox_range.specs.Runs.{runs_of}
use Rattle.ox_rules.specs.declared.place.Place.{Place}
use Rattle.ox_rules.specs.declared.place.Place.TheVariants.{Out}
use Rattle.ox_rules.specs.declared.rows.OutRow.{OutRow}
use Rattle.ox_rules.specs.Outputs.{Outputs, times}
use Rattle.ox_rules.specs.Where.{place_in}
use Rattle.ox_outputs.specs.Slots.{SlotList, outpoint_at, rows_of}
use Rattle.ox_outputs.specs.Starts.{is_among, firsts_of}

-- no satoshi stands twice
pub record StandOnce (outs : Outputs) : Type 0 where
  pub alone : (at : OutPoint) (row : OutRow) (sat : ℕ) → get outs at ≡ Some row
      → times sat row.sats ≤ 1
  pub apart : (a b : OutPoint) (r q : OutRow) (sat : ℕ) → a ≢ b → get outs a ≡ Some r
      → get outs b ≡ Some q → times sat r.sats + times sat q.sats ≤ 1

-- whether a run of the output at this outpoint begins with this number
abbrev pub begins : Outputs → OutPoint → ℕ → Bool
begins outs at first =
    option_map_or (λ row. is_among (firsts_of (runs_of row.sats)) first) (get outs at) false

-- The starts lead to each run of the outputs, by the place of its output's slot. They may lead
-- elsewhere too.
abbrev pub LeadTo : (ℕ → Option ℕ) → SlotList → Outputs → Type 0
LeadTo starts slots outs = (first : ℕ) (at : OutPoint) → begins outs at first ≡ true
    → option_and_then (λ place. outpoint_at slots place) (starts first) ≡ Some at

-- whether a run of the row in the slot at this place begins with this number
abbrev pub begins_in : SlotList → ℕ → ℕ → Bool
begins_in slots place first =
    option_map_or (λ at. begins (rows_of slots) at first) (outpoint_at slots place) false

-- a place, if a run of the row in the slot there begins with this number
abbrev pub counted : SlotList → ℕ → Option ℕ → Option ℕ
counted slots first place =
    option_and_then (λ p. if begins_in slots p first then Some p else None) place

-- those of the starts that lead to a run of a row in these slots
abbrev pub standing : SlotList → (ℕ → Option ℕ) → ℕ → Option ℕ
standing slots starts first = counted slots first (starts first)

-- where a satoshi is in the row of the output at this outpoint, if it has one
abbrev pub place_held : OutPoint → Option OutRow → ℕ → Option Place
place_held at row sat =
    option_and_then (λ row. option_map (λ offset. Out at offset) (place_in row.sats sat)) row

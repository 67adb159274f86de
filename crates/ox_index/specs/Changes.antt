-- The changes of the blocks that are kept, and what the last command did to them.
use Rattle.std.specs.Prelude.{ℕ, List, ◌∷◌, ◌++◌, drop, Option, Some, None, option_to_list}
use Rattle.ox_model.specs.declared.change.Change.{Change}
use Rattle.ox_index.specs.declared.changes.Last.{Last}
use Rattle.ox_index.specs.declared.changes.Last.TheVariants.{Nothing, Pushed, Taken}

pub record Kept : Type 0 where
  -- those of the blocks that are kept, the newest first
  pub kept : List Change
  -- those that were kept before the last command, where they can be again
  pub before : Option (List Change)
  -- that of the block which the last command took back
  pub taken_back : Option Change

-- nothing is known of the last command
abbrev pub only : List Change → Kept
only changes = record { kept = changes; before = None; taken_back = None }

-- these are kept after the last command
abbrev pub kept_by : List Change → Last → Kept
kept_by changes Nothing = only changes
kept_by changes (Pushed fallen) = record {
  kept = changes;
  before = Some (drop 1 changes ++ option_to_list fallen);
  taken_back = None;
}
kept_by changes (Taken change) =
    record { kept = changes; before = Some (change ∷ changes); taken_back = Some change }

-- how many the last command put in front, and how many it took from there
abbrev pub put_in : Last → ℕ
put_in (Pushed fallen) = 1
put_in _ = 0

abbrev pub taken_out : Last → ℕ
taken_out (Taken change) = 1
taken_out _ = 0

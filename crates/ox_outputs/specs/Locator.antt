-- What a locator shows.
use Rattle.std.specs.Prelude.{ℕ, Option}
use Rattle.ox_outputs.specs.declared.locator.Locator.{Locator}
use Rattle.ox_outputs.specs.Starts.{before_in, slot_from}

-- the slot of the run that begins with this number
abbrev pub live_at : Locator → ℕ → Option ℕ
live_at locator = slot_from locator.starts

-- the slot of the run that began with this number at the mark
abbrev pub kept_at : Locator → ℕ → Option ℕ
kept_at locator = before_in locator.changes.items (slot_from locator.starts)

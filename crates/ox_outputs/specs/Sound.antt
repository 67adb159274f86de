-- What holds of slots with what leads to their runs, and of their changes since a mark.
use Rattle.std.specs.Prelude.{◌≡◌, List, Option, length}
use Rattle.ox_rules.specs.declared.rows.OutRow.{OutRow}
use Rattle.ox_outputs.specs.declared.locator.Locator.{Locator}
use Rattle.ox_outputs.specs.declared.slot_of.SlotOf.{SlotOf}
use Rattle.ox_outputs.specs.Located.{StandOnce, LeadTo}
use Rattle.ox_outputs.specs.Locator.{live_at, kept_at}
use Rattle.ox_outputs.specs.Slots.{SlotList, rows_of, undone, AreSpots}

-- The changed spots are slots, and for each it is known what stood there. The rows as they are and
-- those at the mark hold no satoshi twice, and the locator leads to the runs of both.
pub record AreSound (slots : SlotList) (locator : Locator) (changed : List SlotOf)
    (before : List (Option OutRow)) : Type 0 where
  pub known : AreSpots changed slots
  pub paired : length before ≡ length changed
  pub once : StandOnce (rows_of slots)
  pub once_before : StandOnce (undone before changed (rows_of slots))
  pub runs : LeadTo (live_at locator) slots (rows_of slots)
  pub runs_before : LeadTo (kept_at locator) slots (undone before changed (rows_of slots))

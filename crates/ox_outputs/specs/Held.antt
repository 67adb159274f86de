-- What places hold.
use Rattle.ox_outputs.specs.Slots.{SlotList}

-- the slots, by their places
pub record HeldSlots : Type 0 where
  pub slots : SlotList

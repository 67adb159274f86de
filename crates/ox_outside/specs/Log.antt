-- How a log grows, where the site tells it. A log that isn't told stays so.
use Rattle.std.specs.Prelude.{◌≡◌, List, ◌++◌, Option, Some, None}
use Rattle.ox_outside.specs.Event.{Event}

-- the log gains these events, a function of the log as it stood
abbrev pub Adds : (List Event → List Event) → Option (List Event) → Option (List Event) → Type 0
Adds events None new = new ≡ None
Adds events (Some log) new = new ≡ Some (log ++ events log)

-- the log has gained events with P since it was `first`
abbrev pub Grows : (List Event → Type 0) → Option (List Event) → Option (List Event) → Type 0
Grows P None now = now ≡ None
Grows P (Some log) now = (added : List Event) × (now ≡ Some (log ++ added)) × P added

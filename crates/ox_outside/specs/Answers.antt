-- The numbers that `hear`, `show` and `door` answer.
use Rattle.std.specs.Prelude.{◌≡◌, ℕ, ◌≤◌, false, IsTrue, List, Option, Some, None}
use Rattle.std.specs.Prelude.{Result, Ok, Err}
use Rattle.ox_outside.specs.Event.{Event, was_opened, is_named, is_open}
use Rattle.ox_outside.specs.declared.site.Heard.{Heard}
use Rattle.ox_outside.specs.declared.site.Heard.TheVariants.{Bytes, NotYet as HeardNothing, End}
use Rattle.ox_outside.specs.declared.site.Shown.{Shown}
use Rattle.ox_outside.specs.declared.site.Shown.TheVariants.{Took, NotYet as TookNothing}
use Rattle.ox_outside.specs.declared.site.Failed.{Failed}

-- at least one byte, and no more than there was room for
abbrev pub HeardWithin : ℕ → Result Heard Failed → Type 0
HeardWithin room (Ok (Bytes n)) = (1 ≤ n) × (n ≤ room)
HeardWithin room (Ok HeardNothing) = Unit {0}
HeardWithin room (Ok End) = Unit {0}
HeardWithin room (Err failed) = Unit {0}

-- at least one byte, and no more than there were
abbrev pub ShownWithin : ℕ → Result Shown Failed → Type 0
ShownWithin size (Ok (Took n)) = (1 ≤ n) × (n ≤ size)
ShownWithin size (Ok TookNothing) = Unit {0}
ShownWithin size (Err failed) = Unit {0}

-- a link's number is at least 1: channel 0 isn't a link
abbrev pub IsLinkNumber : Result (Option ℕ) Failed → Type 0
IsLinkNumber (Ok (Some channel)) = 1 ≤ channel
IsLinkNumber (Ok None) = Unit {0}
IsLinkNumber (Err failed) = Unit {0}

-- a link's number is one that this log never opened
abbrev pub NeverOpened : Result (Option ℕ) Failed → List Event → Type 0
NeverOpened (Ok (Some channel)) log = was_opened channel log ≡ false
NeverOpened (Ok None) log = Unit {0}
NeverOpened (Err failed) log = Unit {0}

-- no event of this log names the link
abbrev pub NeverNamed : Result (Option ℕ) Failed → List Event → Type 0
NeverNamed (Ok (Some channel)) log = is_named channel log ≡ false
NeverNamed (Ok None) log = Unit {0}
NeverNamed (Err failed) log = Unit {0}

-- the link is open
abbrev pub IsOpenLink : Result (Option ℕ) Failed → List Event → Type 0
IsOpenLink (Ok (Some channel)) log = IsTrue (is_open channel log)
IsOpenLink (Ok None) log = Unit {0}
IsOpenLink (Err failed) log = Unit {0}

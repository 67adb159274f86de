-- What a desk makes of a command that its store has carried out, and of one that met a fault.
use Rattle.std.specs.Prelude.{ℕ, ◌+◌, Bool, List, Option, Some, None, Result, Ok, Err}
use Rattle.ox_turns.specs.declared.handler.DeskFault.{DeskFault}
use Rattle.ox_turns.specs.declared.handler.DeskFault.TheVariants.{DiskFault, Memory}
use Rattle.ox_turns.specs.declared.handler.Made.{Made}
use Rattle.ox_desk.specs.Desk.{DeskContents, contents_in}
use Rattle.ox_desk.specs.declared.carry.Carried.{Carried}

-- the reply, or that there was no memory for it
abbrev pub made_of : Option (List ℕ) → Bool → Result Made DeskFault
made_of (Some bytes) close = Ok (record { bytes = bytes; close = close })
made_of None close = Err Memory

-- what is answered: that, or a fault of the disk, where there is no store left
abbrev pub made_by : {E : Type 0} → Result Carried E → Bool → Result Made DeskFault
made_by (Ok carried) close = made_of carried.told close
made_by (Err e) close = Err DiskFault

-- how many requests are answered, with this one; one that isn't told anything doesn't count
abbrev pub requests_by : Option (List ℕ) → ℕ → ℕ
requests_by (Some bytes) requests = requests + 1
requests_by None requests = requests

-- the desk with the store that a command left
abbrev pub desk_behind : Carried → DeskContents → DeskContents
desk_behind carried old =
    contents_in (Some carried.store) (requests_by carried.told old.requests) old.cache

-- the desk behind a command; a fault of the disk left no store to put back
abbrev pub desk_by : {E : Type 0} → Result Carried E → DeskContents → DeskContents
desk_by (Ok carried) old = desk_behind carried old
desk_by (Err e) old = old

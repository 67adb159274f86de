-- How a run ends, and its exit status.
use Rattle.std.specs.Prelude.{◌≡◌, ◌⊎◌, ℕ, Result, Ok, Err}
use Rattle.ox_app.specs.declared.status.Status.{Status}
use Rattle.ox_app.specs.declared.status.Status.TheVariants.{Done, Usage, NotEmpty, NotStore}
use Rattle.ox_app.specs.declared.status.Status.TheVariants.{DiskFault, HearFault, ShowFault}
use Rattle.ox_app.specs.declared.status.Status.TheVariants.{DoorFault, Memory, TooMuch, OldCommand}
use Rattle.ox_app.specs.declared.status.Status.TheVariants.{BadFrame, Ahead, EndedEarly}
use Rattle.ox_feed.specs.declared.lines.FeedFault.{FeedFault}
use Rattle.ox_feed.specs.declared.lines.FeedFault.TheVariants as feeds
use Rattle.ox_gated.specs.declared.fault.Halt.{Halt}
use Rattle.ox_gated.specs.declared.fault.Halt.TheVariants as halts
use Rattle.ox_store.specs.declared.fault.OpenFault.{OpenFault}
use Rattle.ox_store.specs.declared.fault.OpenFault.TheVariants as opens
use Rattle.ox_follow.specs.Talk.{End}
use Rattle.ox_follow.specs.Talk as talks
use Rattle.ox_store.specs.declared.fault.MakeFault.{MakeFault}
use Rattle.ox_store.specs.declared.fault.MakeFault.TheVariants as makes
use Rattle.ox_app.specs.declared.server.ServeFault.{ServeFault}
use Rattle.ox_app.specs.declared.server.ServeFault.TheVariants as serves
use Rattle.ox_app.specs.declared.stop.Stop.{Stop}
use Rattle.ox_app.specs.declared.stop.Stop.TheVariants as stops

-- the exit status of the process
abbrev pub code_of : Status → ℕ
code_of Done = 0
code_of Usage = 1
code_of NotEmpty = 2
code_of NotStore = 3
code_of DiskFault = 4
code_of HearFault = 5
code_of ShowFault = 6
code_of DoorFault = 7
code_of Memory = 8
code_of TooMuch = 9
code_of OldCommand = 10
code_of BadFrame = 11
code_of Ahead = 12
code_of EndedEarly = 13

-- how a run ends that was halted
abbrev pub halt_status : Halt → Status
halt_status halts.Disk = DiskFault
halt_status halts.Memory = Memory

-- how a run over a feed ends
abbrev pub status_of : Result (Unit {0}) Stop → Status
status_of (Ok done) = Done
status_of (Err (stops.Halt halt)) = halt_status halt
status_of (Err stops.HearFault) = HearFault
status_of (Err stops.ShowFault) = ShowFault
status_of (Err stops.TooMuch) = TooMuch

-- how a server ends whose turns a fault ended
abbrev pub fault_status : ServeFault → Status
fault_status serves.DiskFault = DiskFault
fault_status serves.DoorFault = DoorFault
fault_status serves.Memory = Memory

-- how a run ends whose frames aren't heard further
abbrev pub feed_status : FeedFault → Status
feed_status feeds.HearFault = HearFault
feed_status feeds.TooMuch = TooMuch
feed_status feeds.Memory = Memory

-- how a run ends whose files aren't opened
abbrev pub open_status : OpenFault → Status
open_status (opens.NotStore file at) = NotStore
open_status (opens.Halt halt) = halt_status halt

-- how a drill ends that a fault ended
abbrev pub drill_status : MakeFault → Status
drill_status makes.NotEmpty = NotEmpty
drill_status (makes.Halt halt) = halt_status halt

-- how a run ends that frames ended, or the end of channel 0 behind them
abbrev pub end_status : End → Status
end_status talks.Done = Done
end_status talks.BadFrame = BadFrame
end_status talks.Ahead = Ahead
end_status talks.EndedEarly = EndedEarly

-- how `fold` may end
abbrev pub IsFoldStatus : Status → Type 0
IsFoldStatus status =
    (status ≡ Done) ⊎ (status ≡ HearFault) ⊎ (status ≡ ShowFault) ⊎ (status ≡ Memory)
    ⊎ (status ≡ TooMuch)

-- how `init` may end
abbrev pub IsInitStatus : Status → Type 0
IsInitStatus status =
    (status ≡ Done) ⊎ (status ≡ NotEmpty) ⊎ (status ≡ DiskFault) ⊎ (status ≡ ShowFault)
    ⊎ (status ≡ Memory)

-- how `apply` may end
abbrev pub IsApplyStatus : Status → Type 0
IsApplyStatus status =
    (status ≡ Done) ⊎ (status ≡ NotStore) ⊎ (status ≡ DiskFault) ⊎ (status ≡ HearFault)
    ⊎ (status ≡ ShowFault) ⊎ (status ≡ Memory) ⊎ (status ≡ TooMuch)

-- how `query` may end
abbrev pub IsQueryStatus : Status → Type 0
IsQueryStatus status =
    (status ≡ Done) ⊎ (status ≡ NotStore) ⊎ (status ≡ DiskFault) ⊎ (status ≡ ShowFault)
    ⊎ (status ≡ Memory)

-- how `serve` may end
abbrev pub IsServeStatus : Status → Type 0
IsServeStatus status =
    (status ≡ Done) ⊎ (status ≡ NotStore) ⊎ (status ≡ DiskFault) ⊎ (status ≡ ShowFault)
    ⊎ (status ≡ DoorFault) ⊎ (status ≡ Memory)

-- how `drill` may end: as `init`, which it begins with
abbrev pub IsDrillStatus : Status → Type 0
IsDrillStatus status = IsInitStatus status

-- how `migrate` may end
abbrev pub IsMigrateStatus : Status → Type 0
IsMigrateStatus status =
    (status ≡ Done) ⊎ (status ≡ NotStore) ⊎ (status ≡ DiskFault) ⊎ (status ≡ ShowFault)
    ⊎ (status ≡ Memory) ⊎ (status ≡ OldCommand)

-- how `grow` may end: as `query`
abbrev pub IsGrowStatus : Status → Type 0
IsGrowStatus status = IsQueryStatus status

-- how a run may end that doesn't open its files
abbrev pub IsUnopened : Status → Type 0
IsUnopened status = (status ≡ NotStore) ⊎ (status ≡ DiskFault) ⊎ (status ≡ Memory)

-- what may end a talk in frames but these and the end of channel 0
abbrev pub IsTalkFault : Status → Type 0
IsTalkFault status =
    (status ≡ HearFault) ⊎ (status ≡ ShowFault) ⊎ (status ≡ Memory) ⊎ (status ≡ TooMuch)

-- how a leader's talk may end
abbrev pub IsLeadTalk : Status → Type 0
IsLeadTalk status =
    (status ≡ Done) ⊎ (status ≡ BadFrame) ⊎ (status ≡ Ahead) ⊎ IsTalkFault status

-- how a follower's may end
abbrev pub IsFollowTalk : Status → Type 0
IsFollowTalk status =
    (status ≡ Done) ⊎ (status ≡ BadFrame) ⊎ (status ≡ EndedEarly) ⊎ (status ≡ DiskFault)
    ⊎ IsTalkFault status

-- how `lead` may end
abbrev pub IsLeadStatus : Status → Type 0
IsLeadStatus status = IsUnopened status ⊎ IsLeadTalk status

-- how `follow` may end
abbrev pub IsFollowStatus : Status → Type 0
IsFollowStatus status = IsUnopened status ⊎ IsFollowTalk status

-- how `init` and `drill` may end where a file isn't empty
abbrev pub IsSparing : Status → Type 0
IsSparing status = (status ≡ NotEmpty) ⊎ (status ≡ DiskFault) ⊎ (status ≡ Memory)

-- all was done, or memory ran out
abbrev pub IsDone : Status → Type 0
IsDone status = (status ≡ Done) ⊎ (status ≡ Memory)

-- frames ended the run, or the end of channel 0 behind them, or memory ran out
abbrev pub IsTalkDone : Status → Type 0
IsTalkDone status = ((end : End) × (status ≡ end_status end)) ⊎ (status ≡ Memory)

-- how a run ends that showed one line and wrote no file
abbrev pub IsRefusal : Status → Type 0
IsRefusal status =
    (status ≡ Usage) ⊎ (status ≡ NotEmpty) ⊎ (status ≡ NotStore) ⊎ (status ≡ OldCommand)

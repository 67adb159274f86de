-- Runs of any subcommands one after the other over the same files, each of which stops at whatever
-- moment. A run that stops before its first event counts for none, and so does one that spares the
-- files: what it leaves, the run before it might have left.
use Rattle.std.specs.Prelude.{◌≡◌, ◌≢◌, ◌⊎◌, ◌≤◌, ℕ, suc, List, [], ◌∷◌, ◌++◌, take, All}
use Rattle.std.specs.Prelude.{Some, Ok}
use Rattle.ox_outside.specs.Event.{Event}
use Rattle.ox_outside.specs.Files.{Files}
use Rattle.ox_outside.specs.Log.{Grows}
use Rattle.ox_outside.specs.Runs.{LeavesOnly}
use Rattle.ox_outside.specs.declared.site.Site.{Ghosts as Meanings}
use Rattle.ox_links.specs.Serving.{commands_in, served_by, state_after}
use Rattle.ox_links.specs.Link.{Answer}
use Rattle.ox_links.specs.Survives.{acknowledged_to}
use Rattle.ox_feed.specs.declared.command.Command.{Command}
use Rattle.ox_model.specs.Machine.{Machine, stack_of}
use Rattle.ox_model.specs.Replies.{after}
use Rattle.ox_model.specs.Stack.{Stack}
use Rattle.ox_files.specs.Runs.{Keeps, Run, SurvivesFrom, first_lines}
use Rattle.ox_files.specs.Stands.{stands}
use Rattle.ox_desk.specs.Servers.{server_of}
use Rattle.ox_app.specs.Headline.{OnlyOwn}
use Rattle.ox_app.specs.Serve.{StandForMachine, SurvivesLinks}

-- what a run did with the files that it found
pub data AnyRun : Type 0 where
  -- it carried out the lines of a feed, as `apply`
  Fed : (run : Run) → AnyRun
  -- it carried out the commands of links, as `serve`
  Served : (run : Run) → AnyRun
  -- it wrote the same stack anew, as `grow`, and left these files
  Grown : (left : Files) → AnyRun
  -- it wrote no file, as `query`, or refused them
  Spared : AnyRun

-- the files that a run left
abbrev pub left_by : Files → AnyRun → Files
left_by files (Fed run) = run.left
left_by files (Served run) = run.left
left_by files (Grown left) = left
left_by files Spared = files

-- whatever machine the files stand for that a server opens, those that it leaves survive its links
abbrev pub SurvivesServed : Files → Run → Type 0
SurvivesServed files run = (machine : Machine) → stands files ≡ Ok (stack_of machine)
    → SurvivesLinks server_of machine StandForMachine run.left run.events

-- whatever stack the files stand for that a run opens, so do those that it leaves
abbrev pub KeepsStack : Files → Files → Type 0
KeepsStack files left = (stack : Stack) → stands files ≡ Ok stack → stands left ≡ Ok stack

-- the files that a run leaves survive what it did
abbrev pub SurvivesAny : Files → AnyRun → Type 0
SurvivesAny files (Fed run) = SurvivesFrom files run
SurvivesAny files (Served run) = SurvivesServed files run
SurvivesAny files (Grown left) = KeepsStack files left
SurvivesAny files Spared = Unit {0}

-- each run opens the files that the one before it left
abbrev pub AnyInTurn : Files → List AnyRun → Type 0
AnyInTurn files [] = Unit {0}
AnyInTurn files (run ∷ runs) = SurvivesAny files run × AnyInTurn (left_by files run) runs

-- the files that the last run left
abbrev pub last_of : Files → List AnyRun → Files
last_of files [] = files
last_of files (run ∷ runs) = last_of (left_by files run) runs

-- Of a server that began with this machine so many commands are kept, which lead to the next one:
-- all that were carried out, or all but the last; and each of whose answer a byte is shown is among
-- them. The program's own line may stand behind what the links did.
pub record KeepsCommands (machine : Machine) (events : List Event) (next : Machine) : Type 0 where
  pub links : List Event
  pub own : List Event
  pub logged : events ≡ links ++ own
  pub only_own : OnlyOwn own
  pub kept : ℕ
  pub counted : ((served_by server_of machine links).commands ≡ kept)
      ⊎ ((served_by server_of machine links).commands ≡ suc kept)
  pub acknowledged : (channel : ℕ)
      → All (λ (a : Answer Command). a.commands ≤ kept)
      (acknowledged_to channel links (served_by server_of machine links).answers)
  pub leads : next ≡ state_after server_of machine
      (take kept (commands_in (served_by server_of machine links).answers))

-- a run leads from the machine that it opened to the one after the lines or commands that it kept
abbrev pub LeadsOn : Machine → AnyRun → Machine → Type 0
LeadsOn machine (Fed run) next =
    (kept : ℕ) × Keeps machine run.events kept × (next ≡ after machine (first_lines kept run))
LeadsOn machine (Served run) next = KeepsCommands machine run.events next
LeadsOn machine (Grown left) next = next ≡ machine
LeadsOn machine Spared next = next ≡ machine

-- so does each of several, one after the other
abbrev pub LeadInTurn : Machine → List AnyRun → Machine → Type 0
LeadInTurn machine [] end = end ≡ machine
LeadInTurn machine (run ∷ runs) end =
    (next : Machine) × LeadsOn machine run next × LeadInTurn next runs end

-- the last files stand for the machine to which the runs lead
pub record LastOfAny (machine : Machine) (files : Files) (runs : List AnyRun) : Type 0 where
  pub end : Machine
  pub lead : LeadInTurn machine runs end
  pub stands_for : stands (last_of files runs) ≡ Ok (stack_of end)

-- What a crash leaves behind a server's first event is a run in turn: whatever machine the files
-- stood for that it opened, those that it leaves survive its links.
abbrev pub IsServedInTurn : {S : Type 0} → Meanings S → S → S → Type 0
IsServedInTurn means old new =
    LeavesOnly means old new (λ r.
    Grows (λ events. events ≢ []
    → SurvivesServed (means.seen old) (record { events = events; left = r.files }))
    (means.log old) (Some r.log))

-- The same of a growing: those that it leaves stand for the stack for which the files stood.
abbrev pub IsGrownInTurn : {S : Type 0} → Meanings S → S → S → Type 0
IsGrownInTurn means old new =
    LeavesOnly means old new (λ r.
    Grows (λ events. events ≢ [] → KeepsStack (means.seen old) r.files)
    (means.log old) (Some r.log))

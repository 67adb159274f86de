-- What a drill does to the files and to what a site counts, part by part.
use Rattle.std.specs.Prelude.{◌≡◌, ◌≢◌, ◌⊎◌, ℕ, ◌+◌, ◌≤◌, IsTrue, List, length, take}
use Rattle.std.specs.Prelude.{Result, Ok, Err, IfOk, IfErr, OnOk, IsErrOf}
use Rattle.ox_outside.specs.Counts.{Rose, StopsAtFault}
use Rattle.ox_outside.specs.Runs.{OnlyLooks}
use Rattle.ox_outside.specs.declared.site.Site.{Ghosts as Meanings}
use Rattle.ox_feed.specs.declared.command.Command.{Command}
use Rattle.ox_gated.specs.Tail.{Holds, IsSettled}
use Rattle.ox_gated.specs.Writes.{OnlyWrites}
use Rattle.ox_gated.specs.declared.fault.Halt.{Halt}
use Rattle.ox_gated.specs.declared.fault.Halt.TheVariants as halts
use Rattle.ox_model.specs.Machine.{stack_of}
use Rattle.ox_model.specs.Replies.{after_commands_on}
use Rattle.ox_model.specs.Stack.{Stack}
use Rattle.ox_files.specs.Stands.{stands}
use Rattle.ox_store.specs.Make.{no_files}
use Rattle.ox_store.specs.Store.{StoreContents}
use Rattle.ox_store.specs.declared.fault.MakeFault.{MakeFault}
use Rattle.ox_store.specs.declared.fault.MakeFault.TheVariants as makes
use Rattle.ox_drill.specs.Chain.{drill_commands, drill_start}
use Rattle.ox_drill.specs.InTurn.{InTurn}

-- ---- the whole

-- the stack to which the commands of a drill lead
abbrev pub drill_stack : ℕ → Stack
drill_stack n = after_commands_on (stack_of drill_start) (drill_commands n)

-- the files stand for that stack, and no crash leaves other ones
pub record IsDrilled {S : Type 0} (means : Meanings S) (n : ℕ) (site : S) : Type 0 where
  pub stands_for : stands (means.seen site) ≡ Ok (drill_stack n)
  pub settled : IsSettled means site

-- The store was made, and then so many of the commands were carried out in turn; the last of them
-- may be in hand still.
pub record Drills {S : Type 0} (means : Meanings S) (n begun : ℕ) (old new : S) : Type 0 where
  pub made : S
  pub makes : OnlyWrites means old made
  pub stands_for : stands (means.seen made) ≡ Ok (stack_of drill_start)
  pub settled : IsSettled means made
  pub turns : InTurn means (stack_of drill_start) (take begun (drill_commands n)) made new

-- no store was made: the files were only looked at, or the disk failed while they were written
abbrev pub MakesNone : {S : Type 0} → Meanings S → MakeFault → S → S → Type 0
MakesNone means makes.NotEmpty old new = OnlyLooks means old new
MakesNone means (makes.Halt halts.Memory) old new = OnlyLooks means old new
MakesNone means (makes.Halt halts.Disk) old new = OnlyWrites means old new

-- a store is in step with the files
pub record InStep {S : Type 0} (means : Meanings S) (store : StoreContents) (site : S)
    : Type 0 where
  pub holds : Holds means store.tail site
  pub stands_for : stands (means.seen site) ≡ Ok store.stack

-- The store of a drill is made of two empty files, or why not.
pub record Makes {S : Type 0} (means : Meanings S) (result : Result StoreContents MakeFault)
    (old new : S) : Type 0 where
  pub stack : IfOk result (λ store. store.stack ≡ stack_of drill_start)
  pub fresh : IfOk result (λ store. store.commands ≡ 0)
  pub in_step : IsTrue (means.told old) → IfOk result (λ store. InStep means store new)
  pub empty : IsTrue (means.told old) → OnOk result (means.seen old ≡ no_files)
  pub not_empty : IsTrue (means.told old) → IsErrOf result makes.NotEmpty
      → means.seen old ≢ no_files
  pub spared : IsTrue (means.told old) → means.seen old ≢ no_files → OnlyLooks means old new
  pub none : IfErr result (λ fault. MakesNone means fault old new)
  pub failed : IsErrOf result (makes.Halt halts.Disk)
      → Rose (means.counts old).disk (means.counts new).disk
  pub counted : StopsAtFault (IsErrOf result (makes.Halt halts.Disk)) ⊥ ⊥
      (means.counts old) (means.counts new)
  pub writes : OnlyWrites means old new

-- All commands were carried out in turn; or, at a fault, some first ones, or no store was made.
abbrev pub DrillsInTurn : {S T : Type 0} → Meanings S → ℕ → Result T MakeFault → S → S → Type 0
DrillsInTurn means n (Ok line) old new = Drills means n (length (drill_commands n)) old new
DrillsInTurn means n (Err fault) old new =
    MakesNone means fault old new ⊎ ((begun : ℕ) × Drills means n begun old new)

-- ---- a part

-- Commands are carried out in turn from a stack on, and the store is in step with the files then;
-- or, at a fault, some first ones.
abbrev pub CarriesInTurn : {S : Type 0} → Meanings S → Stack → List Command
    → Result StoreContents Halt → S → S → Type 0
CarriesInTurn means start commands (Ok store) old new =
    InTurn means start commands old new × InStep means store new
CarriesInTurn means start commands (Err fault) old new =
    (begun : ℕ) × InTurn means start (take begun commands) old new

-- commands are carried out from a store on
pub record Carries {S : Type 0} (means : Meanings S) (start : StoreContents)
    (commands : List Command) (result : Result StoreContents Halt) (old new : S)
    : Type 0 where
  pub leads : IfOk result (λ store. store.stack ≡ after_commands_on start.stack commands)
  pub few : IfOk result (λ store. store.commands ≤ start.commands + length commands)
  pub in_turn : IsTrue (means.told old) → CarriesInTurn means start.stack commands result old new

-- calls on files of which none failed but the last, and that the fault says
pub record StopsOnDisk {S T : Type 0} (means : Meanings S) (result : Result T Halt)
    (old new : S) : Type 0 where
  pub failed : IsErrOf result halts.Disk
      → Rose (means.counts old).disk (means.counts new).disk
  pub counted : StopsAtFault (IsErrOf result halts.Disk) ⊥ ⊥
      (means.counts old) (means.counts new)
  pub writes : OnlyWrites means old new

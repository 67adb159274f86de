-- A file of version 3 that is read in pieces, and what it stands for so far.
use Rattle.std.specs.Prelude.{◌≡◌, ℕ, List, Ok}
use Rattle.ox_outside.specs.Counts.{NoFault, Rose, StopsAtFault}
use Rattle.ox_outside.specs.Files.{Files}
use Rattle.ox_outside.specs.Runs.{OnlyLooks}
use Rattle.ox_outside.specs.declared.site.Site.{Ghosts as Meanings}
use Rattle.ox_gated.specs.Parts.{HasWalked, Unread, Walked, tail_at}
use Rattle.ox_gated.specs.Tail.{Holds, IsSettled}
use Rattle.ox_gated.specs.declared.fault.Halt.{Halt}
use Rattle.ox_gated.specs.declared.fault.Halt.TheVariants as halts
use Rattle.ox_gated.specs.declared.records.Record.{Record}
use Rattle.ox_checkpoint.specs.declared.coming.BodyFault.{BodyFault}
use Rattle.ox_checkpoint.specs.declared.coming.BodyFault.TheVariants as bodies
use Rattle.ox_model.specs.Stack.{Stack}
use Rattle.ox_files.specs.Stands.{stack_in_file, stands}
use Rattle.ox_store.specs.Heads.{Names}
use Rattle.ox_store.specs.declared.parts.Stood.{Stood}
use Rattle.ox_store.specs.declared.parts.Step.{Step}
use Rattle.ox_store.specs.declared.parts.Step.TheVariants.{On, All}

-- ---- pieces of the body

-- Calls on a site that only look, of which none failed: of what is known before the body is read
-- nothing has changed but how much of it was read.
pub record ReadsOn {S : Type 0} (means : Meanings S) (k : Unread) (old : S) (l : Unread) (new : S)
    : Type 0 where
  pub same : l ≡ record k { read = l.read }
  pub looks : OnlyLooks means old new
  pub counted : NoFault (means.counts old) (means.counts new)

-- The same, and the last call failed, or there was no memory for a piece.
pub record ReadsUntil {S : Type 0} (means : Meanings S) (old : S) (halt : Halt) (new : S)
    : Type 0 where
  pub looks : OnlyLooks means old new
  pub failed : halt ≡ halts.Disk → Rose (means.counts old).disk (means.counts new).disk
  pub counted : StopsAtFault (halt ≡ halts.Disk) ⊥ ⊥ (means.counts old) (means.counts new)

-- why a body wasn't read
abbrev pub halt_in_body : BodyFault Halt → Halt
halt_in_body bodies.Memory = halts.Memory
halt_in_body (bodies.Source halt) = halt

-- ---- the stack so far

-- Body and records up to this gate were read of the files, and lead to this stack.
pub record HasStood (walker : Walked) (stack : Stack) (files : Files) : Type 0 where
  pub body : List ℕ
  pub records : List Record
  pub walked : HasWalked walker body records files
  pub leads : stack_in_file walker.head body records ≡ Ok stack

-- All records were read: the files stand for this stack, and the tail is that of these files once
-- each crash leaves what is read.
pub record StandsAll {S : Type 0} (means : Meanings S) (walker : Walked) (stack : Stack) (site : S)
    : Type 0 where
  pub stands : stands (means.seen site) ≡ Ok stack
  pub holds : IsSettled means site → Holds means (tail_at walker) site

-- what files stand for up to a gate
abbrev pub StandsUpTo : Files → Stood → Type 0
StandsUpTo files stood = HasStood stood.walker stood.standing files

-- and by all records
abbrev pub StandsByAll : {S : Type 0} → Meanings S → S → Stood → Type 0
StandsByAll means site stood = StandsAll means stood.walker stood.standing site

-- what they stand for after a step: up to the next gate, or by all records
abbrev pub StandsSoFar : {S : Type 0} → Meanings S → S → Step → Type 0
StandsSoFar means site (On stood) = StandsUpTo (means.seen site) stood
StandsSoFar means site (All stood) = StandsByAll means site stood

-- the head names the stack
abbrev pub NamesStack : Stood → Type 0
NamesStack stood = Names stood.walker.head stood.standing

-- and so it does after a step
abbrev pub NamesSoFar : Step → Type 0
NamesSoFar (On stood) = NamesStack stood
NamesSoFar (All stood) = NamesStack stood

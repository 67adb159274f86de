-- What the calls promise that read two files.
use Rattle.std.specs.Prelude.{◌≡◌, IsTrue, Option, Result, Ok, IfErr, IfOk, IfSome, IsErrOf}
use Rattle.std.specs.Prelude.{length, min}
use Rattle.ox_outside.specs.Counts.{Rose, StopsAtFault}
use Rattle.ox_outside.specs.Files.{Files, file_of}
use Rattle.ox_outside.specs.Runs.{OnlyLooks}
use Rattle.ox_outside.specs.declared.site.Site.{Ghosts as Meanings}
use Rattle.ox_gated.specs.Begun.{HasNothingBefore, IsBrokenHere}
use Rattle.ox_gated.specs.Layout.{is_lawful, summed_body_at}
use Rattle.ox_gated.specs.Opened.{IsBehindLawful, IsExamined, IsFault, IsUnpicked, found_of}
use Rattle.ox_gated.specs.Parts.{IsHere, IsWithin, Walked}
use Rattle.ox_gated.specs.Pick.{choice_of}
use Rattle.ox_gated.specs.Reading.{Found, Fault}
use Rattle.ox_gated.specs.Tail.{Holds, IsSettled}
use Rattle.ox_gated.specs.declared.fault.GateFault.{GateFault}
use Rattle.ox_gated.specs.declared.fault.GateFault.TheVariants as gates
use Rattle.ox_gated.specs.declared.fault.Halt.TheVariants as halts
use Rattle.ox_gated.specs.declared.open.Examined.{Examined}
use Rattle.ox_gated.specs.declared.open.Opened.{Opened}
use Rattle.ox_gated.specs.declared.records.Record.{Record}

-- the answer is that a call on a file failed
abbrev pub IsDisk : {T : Type 0} → Result T GateFault → Type 0
IsDisk result = IsErrOf result (gates.Halt halts.Disk)

-- Calls that only look, of which at most one failed, and only the last: the answer tells whether it
-- did.
pub record LooksUntil {S T : Type 0} (means : Meanings S) (result : Result T GateFault)
    (old new : S) : Type 0 where
  pub looks : OnlyLooks means old new
  pub failed : IsDisk result → Rose (means.counts old).disk (means.counts new).disk
  pub counted : StopsAtFault (IsDisk result) ⊥ ⊥ (means.counts old) (means.counts new)

-- The files are read so: where they are refused it is by their fault, behind which a lawful head
-- stands.
pub record Reads {S T : Type 0} (means : Meanings S) (reading : Files → Result Found Fault)
    (result : Result T GateFault) (old new : S) : Type 0 where
  pub not_store : IsTrue (means.told old) → IfErr result (IsFault (reading (means.seen old)))
  pub behind : IfErr result IsBehindLawful
  pub run : LooksUntil means result old new

-- They are read so and synced before: what is opened is what they stand for, its tail holds, and
-- its head is lawful.
pub record Opens {S : Type 0} (means : Meanings S) (reading : Files → Result Found Fault)
    (result : Result Opened GateFault) (old new : S) : Type 0 where
  pub found : IsTrue (means.told old)
      → IfOk result (λ o. reading (means.seen old) ≡ Ok (found_of o))
  pub holds : IsTrue (means.told old) → IfOk result (λ o. Holds means o.tail new)
  pub lawful : IfOk result (λ o. IsTrue (is_lawful o.head))
  pub settled : ¬ IsDisk result → IsSettled means new
  pub reads : Reads means reading result old new

-- Which file is current is found out, or why none is.
pub record Examines {S : Type 0} (means : Meanings S) (result : Result Examined GateFault)
    (old new : S) : Type 0 where
  pub examined : IsTrue (means.told old) → IfOk result (λ e. IsExamined e (means.seen old))
  pub size : IfOk result (λ e.
      length e.front.bytes.items ≡ min summed_body_at e.front.len)
  pub lawful : IfOk result (λ e. IsTrue (is_lawful e.opening.head))
  pub fault : IsTrue (means.told old)
      → IfErr result (IsUnpicked (choice_of (means.seen old).a (means.seen old).b))
  pub behind : IfErr result IsBehindLawful
  pub run : LooksUntil means result old new

-- The record at this gate is read, or that it is closed, or that it is broken.
pub record ReadsGate {S : Type 0} (means : Meanings S) (walker : Walked)
    (result : Result (Option Record) GateFault) (old new : S) : Type 0 where
  pub here : IsTrue (means.told old)
      → IfOk result (IsHere walker (file_of (means.seen old) walker.file))
  pub broken : IsTrue (means.told old)
      → IfErr result (IsBrokenHere walker (file_of (means.seen old) walker.file))
  pub within : IfOk result (λ step. IfSome step (IsWithin walker))
  pub nothing_before : IfErr result HasNothingBefore
  pub run : LooksUntil means result old new

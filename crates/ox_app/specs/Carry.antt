-- A command or a refusal in its turn, over a site: how it is answered, what it leaves of the store,
-- and what a crash leaves.
use Rattle.std.specs.Prelude.{◌≡◌, ◌⊎◌, ◌+◌, ◌≤◌, IsTrue, Result, Ok, IfOk, IfErr, IsErrOf}
use Rattle.ox_outside.specs.Crash.{AddsNothing}
use Rattle.ox_outside.specs.Runs.{LeavesOnly}
use Rattle.ox_outside.specs.declared.site.Site.{Ghosts as Meanings}
use Rattle.ox_gated.specs.Tail.{Holds}
use Rattle.ox_gated.specs.Writes.{OnlyWrites}
use Rattle.ox_gated.specs.declared.fault.Halt.TheVariants as halts
use Rattle.ox_files.specs.Stands.{stands}
use Rattle.ox_model.specs.Replies.{after_turn, index_on, reply_by}
use Rattle.ox_model.specs.Stack.{Stack}
use Rattle.ox_rules.specs.declared.refusal.Refusal.{Refusal}
use Rattle.ox_store.specs.Ready.{StandsForEither}
use Rattle.ox_store.specs.Store.{StoreContents}
use Rattle.ox_app.specs.Show.{DiskFails, EndsAtStop}
use Rattle.ox_app.specs.declared.carry.CarriedLine.{CarriedLine}
use Rattle.ox_app.specs.declared.stop.Stop.{Stop}
use Rattle.ox_app.specs.declared.stop.Stop.TheVariants.{Halt}

-- What carrying out promises where this is the turn on the store's stack. `carry_out` says the same
-- of a line, clause by clause.
pub record TakesTurn {S : Type 0} (means : Meanings S) (store : StoreContents)
    (turn : Result Stack Refusal) (result : Result CarriedLine Stop) (old new : S) : Type 0 where
  pub answer : IfOk result (λ carried. carried.answer ≡ reply_by index_on turn)
  pub leads : IfOk result (λ carried. carried.store.stack ≡ after_turn store.stack turn)
  pub one_more : IfOk result (λ carried. carried.store.commands ≤ store.commands + 1)
  pub holds : IsTrue (means.told old)
      → IfOk result (λ carried. Holds means carried.store.tail new)
  pub stands_for : IsTrue (means.told old) → stands (means.seen old) ≡ Ok store.stack
      → IfOk result (λ carried. stands (means.seen new) ≡ Ok carried.store.stack)
  pub any_moment : IsTrue (means.told old) → stands (means.seen old) ≡ Ok store.stack
      → LeavesOnly means old new
      (λ r. StandsForEither store.stack (after_turn store.stack turn) r.files)
  pub out_of_memory : IsErrOf result (Halt halts.Memory)
      → AddsNothing means.seen means.log means.may_leave old new
  pub stops : IfErr result (λ stop. (stop ≡ Halt halts.Disk) ⊎ (stop ≡ Halt halts.Memory))
  pub failed : IsErrOf result (Halt halts.Disk) → DiskFails means old new
  pub counted : EndsAtStop result (means.counts old) (means.counts new)
  pub writes : OnlyWrites means old new

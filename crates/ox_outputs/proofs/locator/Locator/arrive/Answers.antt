use Rattle.std.proofs.Common.{rules}
use Rattle.ox_outputs.specs.Starts.{slot_from}
use Rattle.ox_outputs.proofs.StartLemmas.{noted_back, noted_kept}
use Rattle.ox_outputs.proofs.locator.Locator.arrive.Goals as goal

pub returns-in-Ok-clause-kept : goal.returns-in-Ok-clause-kept
returns-in-Ok-clause-kept c =
    let old = c.args.self.now in
    let new = c.put_runs.new in
    λ q. noted_kept old.changes.items new.changes.items (slot_from old.starts) (slot_from new.starts) q c.put_runs.ensures.noted

pub returns-in-Err-clause-kept : goal.returns-in-Err-clause-kept
returns-in-Err-clause-kept c =
    let old = c.args.self.now in
    let new = c.put_runs.new in
    λ q. noted_back old.changes.items new.changes.items (slot_from old.starts) (slot_from new.starts) (slot_from c.restore.new.starts) q _ _
    c.put_runs.ensures.noted (search rules) c.deref.ensures.value (c.restore.ensures.slots q)

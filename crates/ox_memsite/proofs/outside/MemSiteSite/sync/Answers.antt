use Rattle.ox_memsite.proofs.Disks.{sync_durable, sync_files, sync_call}
use Rattle.ox_memsite.proofs.outside.MemSiteSite.sync.Goals as goal

pub returns-clause-durable : goal.returns-clause-durable
returns-clause-durable c = sync_durable c.args.file c.sync.result _ _ c.sync.ensures.outcome

pub returns-clause-files : goal.returns-clause-files
returns-clause-files c = sync_files c.args.file c.sync.result _ _ c.sync.ensures.outcome

pub returns-clause-call : goal.returns-clause-call
returns-clause-call c = sync_call c.args.file c.sync.result _ _ c.sync.ensures.outcome

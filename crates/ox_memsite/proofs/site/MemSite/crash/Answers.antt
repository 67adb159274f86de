use Rattle.ox_memsite.proofs.Crashes.{crash_allowed}
use Rattle.ox_memsite.proofs.site.MemSite.crash.Goals as goal

pub returns-clause-allowed : goal.returns-clause-allowed
returns-clause-allowed c = crash_allowed c.args.self.now c.args.choice.now c.after_crash.result c.requires c.after_crash.ensures

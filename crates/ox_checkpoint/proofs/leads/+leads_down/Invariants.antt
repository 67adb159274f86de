use Rattle.std.proofs.Common.{length}
use Rattle.ox_checkpoint.proofs.leads.+leads_down.Given as goal

-- how many are left
abbrev pub decreases-leads_down : goal.decreases-leads_down
decreases-leads_down l = length l.changes.now

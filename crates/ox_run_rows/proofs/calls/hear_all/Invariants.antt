use Rattle.ox_run_rows.specs.Live.{IsLive}
use Rattle.ox_run_rows.proofs.calls.hear_all.Given as goal

abbrev pub invariant-loop-size : goal.invariant-loop-size
invariant-loop-size g l = IsLive l.link l.site

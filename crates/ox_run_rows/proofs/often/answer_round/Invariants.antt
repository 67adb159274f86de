use Rattle.ox_desk.specs.Desk.{Rests}
use Rattle.ox_run_rows.proofs.often.answer_round.Given as goal

abbrev pub invariant-loop-request : goal.invariant-loop-request
invariant-loop-request g l = Rests g.S.Site l.desk l.site

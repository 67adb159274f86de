use Rattle.ox_desk.specs.Desk.{Rests}
use Rattle.ox_run_rows.proofs.often.answer_often.Given as goal

abbrev pub invariant-loop : goal.invariant-loop
invariant-loop g l = Rests g.S.Site l.desk l.site

use Rattle.ox_part_tests.specs.Served.{IsServed}
use Rattle.ox_part_tests.proofs.turns.served.Served.make_turns.Given as goal

abbrev pub invariant-loop : goal.invariant-loop
invariant-loop g l = IsServed l.self.turns l.self.site

use Rattle.ox_index.specs.Chain.{stack_in}
use Rattle.ox_store.proofs.TurningLemmas.{goes_none}
use Rattle.ox_store.proofs.turning.turn_where_due.Goals as goal

pub returns-then-not-is_turn_due-clause-goes : goal.returns-then-not-is_turn_due-clause-goes
returns-then-not-is_turn_due-clause-goes g c =
    goes_none g.S.Site (stack_in c.args.chain.now) g.met.S.Site.logs_now g.met.S.Site.only_now ⊥ c.args.tail c.args.site.now (λ no. no) c.requires.holds

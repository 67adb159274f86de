use Rattle.ox_held.proofs.Gathering.{is_held}
use Rattle.ox_held.proofs.held.Gathered.into_held.Goals as goal

pub returns : goal.returns
returns c = λ index places gathers.
    is_held index places c.args.self c.in_ok-into_balances.field-0 c.rising.result gathers c.in_ok-into_balances.ensures
    c.rising.ensures.rising c.rising.ensures.same

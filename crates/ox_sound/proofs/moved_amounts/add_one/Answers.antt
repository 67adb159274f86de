use Rattle.ox_sound.proofs.SumLemmas.{added}
use Rattle.ox_sound.proofs.moved_amounts.add_one.Goals as goal

pub returns : goal.returns
returns c = λ yes other.
    added c.args.sums.now c.insert.new.self c.args.id c.amount_at.result c.args.amount c.in-Some.sum c.amount_at.ensures c.in-Some.ensures.1 c.in_ok-insert.ensures.updates.0 other

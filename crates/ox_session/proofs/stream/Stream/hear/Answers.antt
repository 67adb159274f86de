-- What is known of the bytes stays so.
use Rattle.ox_session.proofs.Coming.{keeps_on}
use Rattle.ox_session.proofs.stream.Stream.hear.Goals as goal

pub invariant_of-self : goal.invariant_of-self
invariant_of-self c =
    keeps_on c.put.result c.self.inside.bytes c.args.bytes.now c.put.new.self
    c.self.inside.looked c.self.inside.head c.put.ensures.ok c.put.ensures.err c.self.invariant

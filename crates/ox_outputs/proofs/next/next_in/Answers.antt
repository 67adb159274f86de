use Rattle.ox_outputs.proofs.NextLemmas.{next_begins}
use Rattle.ox_outputs.proofs.next.next_in.Goals as goal

pub loop-place-init : goal.loop-place-init
loop-place-init c = next_begins c.args.past c.args.held.now.slots c.requires

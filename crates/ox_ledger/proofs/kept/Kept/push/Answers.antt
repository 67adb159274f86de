use Rattle.std.proofs.Common.{sym}
use Rattle.ox_ledger.proofs.KeptLemmas.{places_push}
use Rattle.ox_ledger.proofs.kept.Kept.push.Goals as goal

pub invariant_of-self-2 : goal.invariant_of-self-2
invariant_of-self-2 g c = rw c.in_ok-push.ensures.items (places_push c.self.inside.stood.entries c.self.inside.items.items c.args.value c.self.invariant)

pub returns-clause-ok : goal.returns-clause-ok
returns-clause-ok g c = rw (sym c.self.view_is) (λ i. record { items = c.in_ok-push.ensures.items i; stood = c.self.inside.stood.entries })

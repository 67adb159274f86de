use Rattle.std.proofs.Common.{Some, refl}
use Rattle.ox_ledger.proofs.KeptLemmas.{more_told, none_told}
use Rattle.ox_ledger.proofs.kept.shown.Goals as goal

pub loop-place-init : goal.loop-place-init
loop-place-init g c = none_told c.args.stood.now c.into_iter-place-iterator.result c.in_ok-shown.shown.items c.in_ok-shown.ensures.items c.into_iter-place-iterator.ensures.into_iter_gives.0 c.len.ensures.ordered

pub loop-place-preserved : goal.loop-place-preserved
loop-place-preserved g c =
    more_told c.args.stood.now.entries c.loop-place.place-iterator c.next.new.self c.loop-place.shown.items c.push.new.self.items (c.in-Some.place.now, c.in-Some.value.now) (Some c.in-Some.value)
    c.in-Some.ensures.steps c.in_ok-push.ensures.items refl c.loop-place.invariant

use Rattle.std.proofs.Common.{ap, subst, sym, ◌∙◌, List}
use Rattle.ox_allocation.specs.Balances.{Balance, with_more}
use Rattle.ox_allocation.specs.Kept.{runes_in}
use Rattle.ox_allocation.specs.declared.balances.Kept.{Kept}
use Rattle.ox_allocation.proofs.Gathering.{AreBelow, more_behind}
use Rattle.ox_allocation.proofs.balances.Kept.add.Goals as goal

pub returns-in_ok-push-in-Rising-clause-ok : goal.returns-in_ok-push-in-Rising-clause-ok
returns-in_ok-push-in-Rising-clause-ok c =
    let below = subst (λ (runes : List Balance). AreBelow c.args.id runes) c.deref.ensures (c.is_above.ensures c.if-is_above.true) in
    c.in_ok-push-in-Rising.ensures.ok
    ∙ (more_behind c.in-Rising.runes.items c.args.id c.args.amount c.requires.some below ∙ ap (λ (kept : Kept). with_more (runes_in kept) c.args.id c.args.amount) (sym c.in-Rising.is))

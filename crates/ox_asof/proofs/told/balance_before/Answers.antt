use Rattle.std.proofs.Common.{◌∙◌, ap, sym, List, [], unwrap_or}
use Rattle.std.specs.FinMap.{get}
use Rattle.ox_allocation.specs.Balances.{Balance}
use Rattle.ox_asof.specs.Said.{by, meant}
use Rattle.ox_asof.specs.declared.said.Said.{Said}
use Rattle.ox_asof.proofs.Ending.{balances_rise}
use Rattle.ox_asof.proofs.Pasts.{held_there}
use Rattle.ox_asof.proofs.told.balance_before.Goals as goal

pub oldest_said-requires : goal.oldest_said-requires
oldest_said-requires g c =
    balances_rise (g.V.View.chain c.args.view.now) (g.V.View.index c.args.view.now) c.args.undone.now c.requires

pub returns-in-Stood : goal.returns-in-Stood
returns-in-Stood g c =
    let index = g.V.View.index c.args.view.now in
    held_there index c.args.undone.now c.args.at.now (meant c.oldest_said.result) _ c.oldest_said.ensures
    (c.as_slice.ensures ∙ ap (λ (s : Said (List Balance)). unwrap_or (by (meant s) (get index.bal c.args.at.now)) []) (sym c.in-Stood.is))

pub returns-in-Gone : goal.returns-in-Gone
returns-in-Gone g c =
    let index = g.V.View.index c.args.view.now in
    held_there index c.args.undone.now c.args.at.now (meant c.oldest_said.result) _ c.oldest_said.ensures
    (ap (λ (s : Said (List Balance)). unwrap_or (by (meant s) (get index.bal c.args.at.now)) []) (sym c.in-Gone.is))

pub returns-in-Nothing : goal.returns-in-Nothing
returns-in-Nothing g c =
    let index = g.V.View.index c.args.view.now in
    held_there index c.args.undone.now c.args.at.now (meant c.oldest_said.result) _ c.oldest_said.ensures
    (c.balance.ensures ∙ ap (λ (s : Said (List Balance)). unwrap_or (by (meant s) (get index.bal c.args.at.now)) []) (sym c.in-Nothing.is))

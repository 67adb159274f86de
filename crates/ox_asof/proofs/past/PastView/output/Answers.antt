use Rattle.std.proofs.Common.{◌∙◌, ap, sym}
use Rattle.std.specs.FinMap.{get}
use Rattle.ox_rules.specs.declared.rows.OutRow.{OutRow}
use Rattle.ox_asof.specs.Said.{by, meant}
use Rattle.ox_asof.specs.declared.said.Said.{Said}
use Rattle.ox_asof.proofs.Ending.{outputs_rise}
use Rattle.ox_asof.proofs.Pasts.{stood_there}
use Rattle.ox_asof.proofs.past.PastView.output.Goals as goal

pub oldest_said-requires : goal.oldest_said-requires
oldest_said-requires g c =
    let past = c.args.self.now in
    outputs_rise (g.V.View.chain past.view.now) (g.V.View.index past.view.now) past.undone past.end

pub returns-in-Stood : goal.returns-in-Stood
returns-in-Stood g c =
    let past = c.args.self.now in
    let index = g.V.View.index past.view.now in
    stood_there index past.undone c.args.at.now (meant c.oldest_said.result) _ c.oldest_said.ensures
    (ap (λ (s : Said OutRow). by (meant s) (get index.outs c.args.at.now)) (sym c.in-Stood.is))

pub returns-in-Gone : goal.returns-in-Gone
returns-in-Gone g c =
    let past = c.args.self.now in
    let index = g.V.View.index past.view.now in
    stood_there index past.undone c.args.at.now (meant c.oldest_said.result) _ c.oldest_said.ensures
    (ap (λ (s : Said OutRow). by (meant s) (get index.outs c.args.at.now)) (sym c.in-Gone.is))

pub returns-in-Nothing : goal.returns-in-Nothing
returns-in-Nothing g c =
    let past = c.args.self.now in
    let index = g.V.View.index past.view.now in
    stood_there index past.undone c.args.at.now (meant c.oldest_said.result) _ c.oldest_said.ensures
    (c.output.ensures ∙ ap (λ (s : Said OutRow). by (meant s) (get index.outs c.args.at.now)) (sym c.in-Nothing.is))

use Rattle.std.proofs.Common.{◌∙◌}
use Rattle.ox_asof.specs.Undone.{undone_by}
use Rattle.ox_asof.proofs.Showing.{balance_hidden, balance_told}
use Rattle.ox_asof.proofs.past.PastView.balance.Goals as goal

pub balance_before-requires : goal.balance_before-requires
balance_before-requires g c = c.args.self.now.end

pub returns-then-not-self : goal.returns-then-not-self
returns-then-not-self g c =
    let past = c.args.self.now in
    balance_hidden past.has_runes (undone_by (g.V.View.index past.view.now) past.undone) c.args.at.now c.if-not-self.true

pub returns : goal.returns
returns g c =
    let past = c.args.self.now in
    c.balance_before.ensures ∙ balance_told past.has_runes (undone_by (g.V.View.index past.view.now) past.undone) c.args.at.now c.if-not-self.false

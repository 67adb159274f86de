use Rattle.std.proofs.Common.{sym, ap, subst, ◌≤◌, ◌<◌, length}
use Rattle.ox_allocation.specs.Balances.{amount_in}
use Rattle.ox_allocation.specs.Dealing.{Held, IsDealt, Stage}
use Rattle.ox_allocation.proofs.Giving.{gives_one}
use Rattle.ox_allocation.proofs.Owing.{dealt_after_gift, hands_after_gift, stage_of}
use Rattle.ox_allocation.proofs.deal.Deal.give.Goals as goal

pub invariant_of-self : goal.invariant_of-self
invariant_of-self c =
    subst (λ (held : Held). IsDealt (amount_in c.self.inside.left) held c.self.inside.holders.now c.self.inside.owed) (sym c.in_err-give.ensures.err) c.self.invariant

pub invariant_of-self-2 : goal.invariant_of-self-2
invariant_of-self-2 c =
    let there = subst (λ (stage : Stage). c.args.place < length stage.outputs) (sym c.self.view_is) c.requires.place in
    let enough = subst (λ (stage : Stage). c.args.amount ≤ amount_in stage.left c.args.id) (sym c.self.view_is) c.requires.amount in
    dealt_after_gift c.self.inside.hands c.give.new.self c.self.inside.left c.spend.new.self c.self.inside.holders.now c.self.inside.owed (record { output = c.args.place; id = c.args.id; amount = c.args.amount }) c.self.invariant there enough
    c.in_ok-give.ensures.ok c.spend.ensures.left

pub returns : goal.returns
returns c =
    let given = c.in_ok-give.ensures.ok in
    let there = subst (λ (stage : Stage). c.args.place < length stage.outputs) (sym c.self.view_is) c.requires.place in
    rw (sym c.self.view_is) (gives_one (stage_of c.self.inside.hands c.self.inside.left c.self.inside.holders.now c.self.inside.owed) (stage_of c.give.new.self c.spend.new.self c.self.inside.holders.now c.self.inside.owed)
    (record { output = c.args.place; id = c.args.id; amount = c.args.amount }) (ap (λ (held : Held). held.outputs) given)
    (hands_after_gift c.self.inside.hands c.give.new.self (amount_in c.self.inside.left) c.self.inside.holders.now c.self.inside.owed (record { output = c.args.place; id = c.args.id; amount = c.args.amount }) c.self.invariant there given)
    c.spend.ensures.left c.spend.ensures.ids)

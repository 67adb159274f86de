use Rattle.std.proofs.Common.{◌≡◌, ◌≤◌, ◌*◌, length, subst, sym}
use Rattle.ox_allocation.specs.Balances.{amount_in}
use Rattle.ox_allocation.specs.Dealing.{Stage}
use Rattle.ox_allocation.specs.Gifts.{holders}
use Rattle.ox_allocation.proofs.Owing.{dealt_once_owed, gives_owed, owed_fits}
use Rattle.ox_allocation.proofs.deal.Deal.owe.Goals as goal

pub add-requires : goal.add-requires
add-requires c =
    let summed = subst (λ (stage : Stage). c.args.sum ≡ length (holders stage.outputs) * c.args.amount) (sym c.self.view_is) c.requires.sum in
    let enough = subst (λ (stage : Stage). c.args.sum ≤ amount_in stage.left c.args.id) (sym c.self.view_is) c.requires.enough in
    owed_fits c.self.inside.hands c.self.inside.left c.self.inside.holders.now c.self.inside.owed c.args.id c.args.amount c.args.sum c.self.invariant summed c.requires.some enough

pub invariant_of-self-2 : goal.invariant_of-self-2
invariant_of-self-2 c =
    let summed = subst (λ (stage : Stage). c.args.sum ≡ length (holders stage.outputs) * c.args.amount) (sym c.self.view_is) c.requires.sum in
    let enough = subst (λ (stage : Stage). c.args.sum ≤ amount_in stage.left c.args.id) (sym c.self.view_is) c.requires.enough in
    dealt_once_owed c.self.inside.hands c.self.inside.left c.spend.new.self c.self.inside.holders.now c.self.inside.owed c.add.new.self c.args.id c.args.amount c.args.sum c.self.invariant c.in_ok-add.ensures.ok
    c.spend.ensures.left summed enough

pub returns : goal.returns
returns c =
    let summed = subst (λ (stage : Stage). c.args.sum ≡ length (holders stage.outputs) * c.args.amount) (sym c.self.view_is) c.requires.sum in
    let enough = subst (λ (stage : Stage). c.args.sum ≤ amount_in stage.left c.args.id) (sym c.self.view_is) c.requires.enough in
    rw (sym c.self.view_is) (gives_owed c.self.inside.hands c.self.inside.left c.spend.new.self c.self.inside.holders.now c.self.inside.owed c.add.new.self c.args.id c.args.amount c.args.sum c.self.invariant c.in_ok-add.ensures.ok
    c.spend.ensures.left c.spend.ensures.ids summed c.requires.some enough)

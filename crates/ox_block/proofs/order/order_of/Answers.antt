use Rattle.std.proofs.Common.{◌∙◌, sym, ap, rules}
use Rattle.std.specs.Ordering.{nat_cmp}
use Rattle.ox_block.proofs.FrontsDecideOrder.{fronts_decide}
use Rattle.ox_block.proofs.order.order_of.Goals as goal

pub returns-else-my_front-other_front : goal.returns-else-my_front-other_front
returns-else-my_front-other_front c =
    c.cmp-else-my_front-other_front.ensures ∙ (ap (λ n. nat_cmp n c.front-other_front.result) c.front-my_front.ensures ∙ ap (nat_cmp _) c.front-other_front.ensures)
    ∙ sym (fronts_decide 8 0 c.args.mine.now c.args.others.now c.requires.mine c.requires.others (search rules) (search rules) (λ e. c.if-my_front-other_front.false (c.front-my_front.ensures ∙ (e ∙ sym c.front-other_front.ensures))))

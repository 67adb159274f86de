use Rattle.std.proofs.Common.{◌++◌, ◌∷◌, [], ap, ◌∙◌, List, ℕ, arith}
use Rattle.ox_block.proofs.StringsInTurn.{count_within, one_more}
use Rattle.ox_block.proofs.witness.Witness.push.Goals as goal

pub overflow_add-self : goal.overflow_add-self
overflow_add-self c = omega (arith, count_within c.self.inside.count c.self.inside.bytes.items c.self.invariant, c.self.inside.bytes.small)

pub invariant_of-self-2 : goal.invariant_of-self-2
invariant_of-self-2 c =
    let text = c.as_slice.ensures.value ∙ c.in_ok-put_string.ensures [] c.new-spelled.ensures.items in
    (one_more c.self.inside.count c.self.inside.bytes.items c.args.item.now c.extend_from_slice.new.self.items c.self.invariant (omega arith)
    (c.in_ok-extend_from_slice.ensures.items ∙ ap (λ (t : List ℕ). c.self.inside.bytes.items ++ t) text)).strings

pub returns-clause-ok : goal.returns-clause-ok
returns-clause-ok c =
    let text = c.as_slice.ensures.value ∙ c.in_ok-put_string.ensures [] c.new-spelled.ensures.items in
    (one_more c.self.inside.count c.self.inside.bytes.items c.args.item.now c.extend_from_slice.new.self.items c.self.invariant (omega arith)
    (c.in_ok-extend_from_slice.ensures.items ∙ ap (λ (t : List ℕ). c.self.inside.bytes.items ++ t) text)).are
    ∙ ap (λ (items : List (List ℕ)). items ++ c.args.item.now ∷ []) c.self.view_is

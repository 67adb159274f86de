use Rattle.std.proofs.Common.{rules, arith, ◌∷◌, List, IsPermutation, get_or, length, ap, subst}
use Rattle.ox_shards.proofs.TagLemmas.{tags_left, tag_low, left_after}
use Rattle.ox_shards.proofs.shard.Shard.take.Goals as goal

pub swap_remove-requires : goal.swap_remove-requires
swap_remove-requires g c = (search rules, tag_low g.K.Sharded.tag c.self.inside.tags.items c.self.inside.entries.items c.args.self.now c.args.place c.self.invariant c.self.view_is c.requires)

pub invariant_of-self : goal.invariant_of-self
invariant_of-self g c =
    tags_left g.K.Sharded.tag c.self.inside.tags.items c.swap_remove.new.self.items c.self.inside.entries.items c.swap_remove-2.new.self.items c.args.place c.swap_remove.result c.swap_remove-2.result
    (omega (arith, c.requires, ap length c.self.view_is)) c.self.invariant c.swap_remove.ensures.items c.swap_remove-2.ensures.items

pub returns-clause-left : goal.returns-clause-left
returns-clause-left g c = λ d.
    subst (λ (l : List (g.row.K.Denot × g.row.V.Denot)). IsPermutation l (get_or l c.args.place d ∷ c.swap_remove-2.new.self.items)) c.self.view_is
    (left_after c.self.inside.entries.items c.swap_remove-2.new.self.items c.args.place c.swap_remove-2.result d
    (omega (arith, c.requires, ap length c.self.view_is)) c.swap_remove-2.ensures.value c.swap_remove-2.ensures.items)

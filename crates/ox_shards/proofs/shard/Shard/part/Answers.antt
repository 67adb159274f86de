use Rattle.std.proofs.Common.{rules, arith, ◌∙◌, ◌++◌, ap, length}
use Rattle.ox_shards.specs.Lines.{is_last}
use Rattle.ox_shards.specs.Shards.{Entries, going}
use Rattle.ox_shards.proofs.TagLemmas.{as_many}
use Rattle.ox_shards.proofs.shard.Shard.part.Goals as goal

pub deal-requires : goal.deal-requires
deal-requires g c =
    let same = as_many g.K.Sharded.tag c.self.inside.tags.items c.self.inside.entries.items c.self.invariant in
    search (rules, arith, same)

pub write_tags-requires : goal.write_tags-requires
write_tags-requires g c =
    let same = as_many g.K.Sharded.tag c.self.inside.tags.items c.self.inside.entries.items c.self.invariant in
    let none = ap length (c.reserve_exact-2.ensures.items ∙ c.last.view_is ∙ c.requires) in
    omega (arith, same, none, c.deal.ensures.both, c.len-most.ensures.value, c.len-most.ensures.fits, ap length c.deref.ensures.value)

pub write_tags-requires-2 : goal.write_tags-requires-2
write_tags-requires-2 g c =
    let same = as_many g.K.Sharded.tag c.self.inside.tags.items c.self.inside.entries.items c.self.invariant in
    search (rules, arith, same)

pub returns-clause-go : goal.returns-clause-go
returns-clause-go g c =
    c.shrink_to_fit-2.ensures.items ∙ c.deal.ensures.go
    ∙ ap (λ (l : Entries g.row.K.Denot g.row.V.Denot). l ++ going (λ key. is_last c.args.lines.now (g.K.Sharded.spread key)) c.self.inside.entries.items) (c.reserve_exact-2.ensures.items ∙ c.last.view_is ∙ c.requires)
    ∙ ap (going (λ key. is_last c.args.lines.now (g.K.Sharded.spread key))) c.self.view_is

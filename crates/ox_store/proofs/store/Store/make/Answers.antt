use Rattle.std.proofs.Common.{◌∙◌, ap, subst, sym}
use Rattle.ox_outside.specs.declared.site.Which.TheVariants.{A}
use Rattle.ox_gated.specs.declared.head.Head.{Head}
use Rattle.ox_gated.proofs.Writing.{writes_looking}
use Rattle.ox_gated.specs.WritesOn.{writes_then}
use Rattle.ox_index.specs.Chain.{stack_in}
use Rattle.ox_store.specs.Heads.{Names}
use Rattle.ox_store.proofs.FilesOfStores.{after_turn}
use Rattle.ox_store.proofs.HeadLemmas.{names_first}
use Rattle.ox_store.proofs.store.Store.make.Goals as goal

pub invariant_of-result : goal.invariant_of-result
invariant_of-result g c =
    let chain = stack_in c.in-Ok-first_parts.chain in
    subst (λ (h : Head). Names h chain) (sym (c.in-Ok-make.ensures.kept.1 ∙ c.in-Ok-first_parts.ensures.head))
    (names_first c.args.name c.args.depth chain c.requires.0 c.requires.1 c.in-Ok-first_parts.ensures.stack)

pub returns-clause-stands : goal.returns-clause-stands
returns-clause-stands g c told =
    let first = c.in-Ok-first_parts in
    after_turn A first.checkpoint (g.S.Site.seen c.make.new.site) (stack_in first.chain) (ap (λ (h : Head). h.version) first.ensures.head) first.ensures.file
    (c.in-Ok-make.ensures.stands (c.are_empty.ensures.looks.calls.as_told ∙ told))

pub returns-clause-writes : goal.returns-clause-writes
returns-clause-writes g c =
    writes_then g.S.Site g.met.S.Site.logs_now c.args.site.now c.are_empty.new.site c.make.new.site
    (writes_looking g.S.Site g.met.S.Site.logs_now c.args.site.now c.are_empty.new.site c.are_empty.ensures.looks) c.make.ensures.writes

use Rattle.std.proofs.Common.{arith, sym, ap, Some, ◌∙◌}
use Rattle.std.specs.Prelude.{slice_get, slice_index}
use Rattle.std.proofs.lemmas.Option.{slice_get-get_or}
use Rattle.ox_range_index.specs.Index.{counts_from}
use Rattle.ox_range_index.proofs.index.RangeIndex.get.Goals as goal

pub satoshi_at-requires-clause-counted : goal.satoshi_at-requires-clause-counted
satoshi_at-requires-clause-counted c =
    c.deref.ensures.value
    ∙ (c.self.invariant.searched c.in-Some.tables c.in-Some.is).counted
    ∙ ap (counts_from 0) (sym c.runs.ensures.exact)

pub returns-in-None : goal.returns-in-None
returns-in-None c =
    ap Some c.at.ensures
    ∙ sym (slice_get-get_or c.self.inside.ranges.now c.args.place 0 (omega (arith, c.if-place-self.false, c.self.invariant.whole)))
    ∙ ap (λ numbers. slice_get numbers c.args.place) c.self.view_is

pub returns-in-Some : goal.returns-in-Some
returns-in-Some c =
    ap Some (c.satoshi_at.ensures ∙ ap (λ numbers. slice_index numbers c.args.place) c.runs.ensures.numbers)
    ∙ sym (slice_get-get_or c.self.inside.ranges.now c.args.place 0 (omega (arith, c.if-place-self.false, c.self.invariant.whole)))
    ∙ ap (λ numbers. slice_get numbers c.args.place) c.self.view_is

use Rattle.std.proofs.Common.{◌∙◌, sym}
use Rattle.ox_sound.proofs.KeepsPassLemmas.{found_behind, found_here, found_in_front}
use Rattle.ox_sound.proofs.new_runes.is_found.Goals as goal

pub loop-left-preserved-in-Less : goal.loop-left-preserved-in-Less
loop-left-preserved-in-Less c = λ some.
    c.loop-left.invariant (found_behind c.args.id c.loop-left.left.now c.split_at.result.0.now c.split_at.result.1.now c.in-Some.rest.now c.in-Some.row.now c.split_at.ensures.by_index.0 c.in-Some.ensures.cases.0 some)

pub returns-in-Equal : goal.returns-in-Equal
returns-in-Equal c = λ yes.
    c.loop-left.invariant (found_here c.args.id c.loop-left.left.now c.split_at.result.0.now c.split_at.result.1.now c.in-Some.rest.now c.in-Some.row.now c.split_at.ensures.by_index.0 c.in-Some.ensures.cases.0 (sym c.cmp.ensures ∙ c.in-Equal.is))

pub loop-left-preserved : goal.loop-left-preserved
loop-left-preserved c = λ some.
    c.loop-left.invariant (found_in_front c.args.id c.loop-left.left.now c.split_at.result.0.now c.split_at.result.1.now c.split_at.ensures.by_index.0 some)

use Rattle.std.proofs.Common.{◌≡◌, ◌∙◌, ◌+◌, ◌<◌, ◌≤◌, sym, arith}
use Rattle.ox_outputs.proofs.StartLemmas.{some_found, last_found, below_start, counts_there}
use Rattle.ox_outputs.proofs.starts.last_slot.Goals as goal

pub returns-then-is_some-clause-some : goal.returns-then-is_some-clause-some
returns-then-is_some-clause-some c = some_found c.args.slots.now c.args.starts.now c.args.number c.loop-first.at (c.in-Some.first, c.in-Some.slot) c.counted-found.result c.loop-first.invariant.low c.loop-first.invariant.rest c.in-Some.ensures.some c.counted-found.ensures

pub returns-then-is_some-clause-last : goal.returns-then-is_some-clause-last
returns-then-is_some-clause-last c = last_found c.args.slots.now c.args.starts.now c.args.number c.loop-first.at (c.in-Some.first, c.in-Some.slot) c.counted-found.result c.loop-first.invariant.low c.loop-first.invariant.rest c.in-Some.ensures.some c.counted-found.ensures (sym c.is_some.ensures ∙ c.if-is_some.true)

pub loop-first-preserved : goal.loop-first-preserved
loop-first-preserved c =
    let below = below_start c.args.slots.now c.args.starts.now c.args.number c.loop-first.at (c.in-Some.first, c.in-Some.slot) c.counted-found.result c.loop-first.invariant.low c.loop-first.invariant.rest c.in-Some.ensures.some c.counted-found.ensures (sym c.is_some.ensures ∙ c.if-is_some.false) in
    let next : c.in-Some-checked_sub.before + 1 ≡ c.in-Some.first = omega (arith, c.in-Some-checked_sub.ensures) in record {
      low = omega (arith, next, c.in-Some.ensures.some.low, c.loop-first.invariant.low);
      rest = λ first slot there to. let under : first < c.in-Some.first = below first slot there to in omega (arith, next, under);
    }

pub returns-in-None-clause-last : goal.returns-in-None-clause-last
returns-in-None-clause-last c = λ first slot there last.
    let below = below_start c.args.slots.now c.args.starts.now c.args.number c.loop-first.at (c.in-Some.first, c.in-Some.slot) c.counted-found.result c.loop-first.invariant.low c.loop-first.invariant.rest c.in-Some.ensures.some c.counted-found.ensures (sym c.is_some.ensures ∙ c.if-is_some.false) first slot there last.0 in
    absurd (omega (arith, c.in-None.ensures, below))

pub returns-clause-last : goal.returns-clause-last
returns-clause-last c = λ first slot there last.
    let above : c.loop-first.at < first = c.in_default.ensures.none first (counts_there c.args.slots.now c.args.starts.now first slot there) in
    let to : first ≤ c.loop-first.at = c.loop-first.invariant.rest first slot there last.0 in
    absurd (omega (arith, above, to))

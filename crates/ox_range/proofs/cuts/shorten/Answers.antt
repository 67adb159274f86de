use Rattle.std.proofs.Common.{◌-◌, arith}
use Rattle.ox_range.proofs.RunLemmas.{zero_run, maximal-take}
use Rattle.ox_range.proofs.CutLemmas.{cut_between, cut_within, front_maximal}
use Rattle.ox_range.proofs.cuts.shorten.Goals as goal

pub returns-then-before-place-clause-front : goal.returns-then-before-place-clause-front
returns-then-before-place-clause-front c =
    let inside = rw c.deref.ensures.value at (c.cut_at-index.ensures.inside c.if-before-place.true) in
    let before = rw c.deref.ensures.value at c.cut_at-index.ensures.before in
    let cut = cut_within c.args.runs.now.items c.cut_at-index.result.0 (c.args.place - c.cut_at-index.result.1) c.args.place zero_run inside.0 (omega (arith, inside.1, c.if-before-place.true)) (omega (arith, before, c.if-before-place.true)) in
    rw c.cut_within.ensures cut.0

pub returns-then-before-place-clause-maximal : goal.returns-then-before-place-clause-maximal
returns-then-before-place-clause-maximal c =
    let inside = rw c.deref.ensures.value at (c.cut_at-index.ensures.inside c.if-before-place.true) in
    let maximal = front_maximal c.args.runs.now.items c.cut_at-index.result.0 (c.args.place - c.cut_at-index.result.1) zero_run c.requires.maximal inside.0 (omega (arith, c.if-before-place.true)) (omega (arith, inside.1, c.if-before-place.true)) in
    rw c.cut_within.ensures maximal

pub returns-else-before-place-clause-front : goal.returns-else-before-place-clause-front
returns-else-before-place-clause-front c =
    let before = rw c.deref.ensures.value at c.cut_at-index.ensures.before in
    let cut = cut_between c.args.runs.now.items c.cut_at-index.result.0 c.args.place (omega (arith, before, c.cut_at-index.ensures.from, c.if-before-place.false)) in
    rw c.truncate.ensures.items cut.0

pub returns-else-before-place-clause-maximal : goal.returns-else-before-place-clause-maximal
returns-else-before-place-clause-maximal c =
    rw c.truncate.ensures.items (maximal-take c.cut_at-index.result.0 c.args.runs.now.items c.requires.maximal)

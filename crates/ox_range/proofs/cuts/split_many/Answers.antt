use Rattle.std.proofs.Common.{◌-◌, arith}
use Rattle.ox_range.proofs.RunLemmas.{zero_run, maximal-at, maximal-take, maximal-drop}
use Rattle.ox_range.proofs.CutLemmas.{cut_between, cut_within, front_maximal, rest_maximal, on_ok, if_ok, in_both}
use Rattle.ox_range.proofs.KeptLemmas.{kept_rest}
use Rattle.ox_range.proofs.cuts.split_many.Goals as goal

pub split_within-requires-clause-rest : goal.split_within-requires-clause-rest
split_within-requires-clause-rest c =
    let inside = rw c.deref.ensures.value at (c.cut_at-index.ensures.inside c.if-before-place.true) in
    let before = rw c.deref.ensures.value at c.cut_at-index.ensures.before in
    let cut = cut_within c.args.runs.now.items c.cut_at-index.result.0 (c.args.place - c.cut_at-index.result.1) c.args.place zero_run inside.0 (omega (arith, inside.1, c.if-before-place.true)) (omega (arith, before, c.if-before-place.true)) in
    let maximal = rest_maximal c.args.runs.now.items c.cut_at-index.result.0 (c.args.place - c.cut_at-index.result.1) zero_run c.requires.kept.maximal inside.0 (omega (arith, inside.1, c.if-before-place.true)) in
    kept_rest c.args.runs.now.items _ c.args.len c.args.place c.requires.kept c.requires.within maximal cut.1

pub split_between-requires-clause-rest : goal.split_between-requires-clause-rest
split_between-requires-clause-rest c =
    let before = rw c.deref.ensures.value at c.cut_at-index.ensures.before in
    let cut = cut_between c.args.runs.now.items c.cut_at-index.result.0 c.args.place (omega (arith, before, c.cut_at-index.ensures.from, c.if-before-place.false)) in
    kept_rest c.args.runs.now.items _ c.args.len c.args.place c.requires.kept c.requires.within (maximal-drop c.cut_at-index.result.0 c.args.runs.now.items c.requires.kept.maximal) cut.1

pub split_within-requires-clause-fits : goal.split_within-requires-clause-fits
split_within-requires-clause-fits c =
    let inside = rw c.deref.ensures.value at (c.cut_at-index.ensures.inside c.if-before-place.true) in
    (maximal-at c.args.runs.now.items c.cut_at-index.result.0 zero_run c.requires.kept.maximal inside.0).1

pub returns-then-before-place-clause-front : goal.returns-then-before-place-clause-front
returns-then-before-place-clause-front c =
    let inside = rw c.deref.ensures.value at (c.cut_at-index.ensures.inside c.if-before-place.true) in
    let before = rw c.deref.ensures.value at c.cut_at-index.ensures.before in
    let cut = cut_within c.args.runs.now.items c.cut_at-index.result.0 (c.args.place - c.cut_at-index.result.1) c.args.place zero_run inside.0 (omega (arith, inside.1, c.if-before-place.true)) (omega (arith, before, c.if-before-place.true)) in
    on_ok c.split_within.result _ _ (λ items. rw items cut.0) c.split_within.ensures.front

pub returns-then-before-place-clause-rest : goal.returns-then-before-place-clause-rest
returns-then-before-place-clause-rest c =
    let inside = rw c.deref.ensures.value at (c.cut_at-index.ensures.inside c.if-before-place.true) in
    let before = rw c.deref.ensures.value at c.cut_at-index.ensures.before in
    let cut = cut_within c.args.runs.now.items c.cut_at-index.result.0 (c.args.place - c.cut_at-index.result.1) c.args.place zero_run inside.0 (omega (arith, inside.1, c.if-before-place.true)) (omega (arith, before, c.if-before-place.true)) in
    if_ok c.split_within.result _ _ (λ rest items. rw items cut.1) c.split_within.ensures.rest

pub returns-then-before-place-clause-front_maximal : goal.returns-then-before-place-clause-front_maximal
returns-then-before-place-clause-front_maximal c =
    let inside = rw c.deref.ensures.value at (c.cut_at-index.ensures.inside c.if-before-place.true) in
    let maximal = front_maximal c.args.runs.now.items c.cut_at-index.result.0 (c.args.place - c.cut_at-index.result.1) zero_run c.requires.kept.maximal inside.0 (omega (arith, c.if-before-place.true)) (omega (arith, inside.1, c.if-before-place.true)) in
    in_both c.split_within.result _ _ _ (λ items. rw items maximal) (λ same. rw same c.requires.kept.maximal) c.split_within.ensures.front c.split_within.ensures.err

pub returns-else-before-place-clause-front : goal.returns-else-before-place-clause-front
returns-else-before-place-clause-front c =
    let before = rw c.deref.ensures.value at c.cut_at-index.ensures.before in
    let cut = cut_between c.args.runs.now.items c.cut_at-index.result.0 c.args.place (omega (arith, before, c.cut_at-index.ensures.from, c.if-before-place.false)) in
    on_ok c.split_between.result _ _ (λ items. rw items cut.0) c.split_between.ensures.front

pub returns-else-before-place-clause-rest : goal.returns-else-before-place-clause-rest
returns-else-before-place-clause-rest c =
    let before = rw c.deref.ensures.value at c.cut_at-index.ensures.before in
    let cut = cut_between c.args.runs.now.items c.cut_at-index.result.0 c.args.place (omega (arith, before, c.cut_at-index.ensures.from, c.if-before-place.false)) in
    if_ok c.split_between.result _ _ (λ rest items. rw items cut.1) c.split_between.ensures.rest

pub returns-else-before-place-clause-front_maximal : goal.returns-else-before-place-clause-front_maximal
returns-else-before-place-clause-front_maximal c =
    in_both c.split_between.result _ _ _ (λ items. rw items (maximal-take c.cut_at-index.result.0 c.args.runs.now.items c.requires.kept.maximal)) (λ same. rw same c.requires.kept.maximal) c.split_between.ensures.front c.split_between.ensures.err

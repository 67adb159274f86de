use Rattle.std.proofs.Common.{◌≡◌, arith, ◌∙◌, length, true, true≢false, sym, ◌-◌}
use Rattle.ox_range.specs.Runs.{GoesOn}
use Rattle.ox_range.proofs.RunLemmas.{zero_run, numbers-append}
use Rattle.ox_range.proofs.CutLemmas.{append_maximal, joined_maximal, joined_numbers, count_within, on_ok, in_both, extended_ok, extended_err}
use Rattle.ox_range.proofs.joins.extend_runs.Goals as goal

pub extend_joined-requires-clause-fits : goal.extend_joined-requires-clause-fits
extend_joined-requires-clause-fits c =
    let on : GoesOn c.args.runs.now.items c.args.tail.now = rw c.deref.ensures.value at (c.goes_on.ensures.0 c.if-goes_on.true) in
    omega (arith, c.requires.fits, on.some, count_within c.args.runs.now.items (length c.args.runs.now.items - 1) zero_run (omega (arith, on.some)), count_within c.args.tail.now 0 zero_run on.more)

pub returns-then-goes_on-clause-numbers : goal.returns-then-goes_on-clause-numbers
returns-then-goes_on-clause-numbers c =
    let on : GoesOn c.args.runs.now.items c.args.tail.now = rw c.deref.ensures.value at (c.goes_on.ensures.0 c.if-goes_on.true) in
    on_ok c.extend_joined.result _ _ (λ items. rw items (joined_numbers c.args.runs.now.items c.args.tail.now on)) c.extend_joined.ensures.items

pub returns-then-goes_on-clause-maximal : goal.returns-then-goes_on-clause-maximal
returns-then-goes_on-clause-maximal c =
    let on : GoesOn c.args.runs.now.items c.args.tail.now = rw c.deref.ensures.value at (c.goes_on.ensures.0 c.if-goes_on.true) in
    in_both c.extend_joined.result _ _ _ (λ items. rw items (joined_maximal c.args.runs.now.items c.args.tail.now c.requires.maximal c.requires.tail on)) (λ same. rw same c.requires.maximal) c.extend_joined.ensures.items c.extend_joined.ensures.err

pub returns-else-goes_on-clause-numbers : goal.returns-else-goes_on-clause-numbers
returns-else-goes_on-clause-numbers c =
    on_ok c.extend_from_slice.result _ _ (λ items. rw items (numbers-append c.args.runs.now.items c.args.tail.now)) (extended_ok c.extend_from_slice.result _ _ _ c.extend_from_slice.ensures.items)

pub returns-else-goes_on-clause-maximal : goal.returns-else-goes_on-clause-maximal
returns-else-goes_on-clause-maximal c =
    let apart : ¬ GoesOn c.args.runs.now.items c.args.tail.now = λ on. let yes : c.goes_on.result ≡ true = c.goes_on.ensures.1 (rw c.deref.ensures.value on) in true≢false (sym yes ∙ c.if-goes_on.false) in
    in_both c.extend_from_slice.result _ _ _ (λ items. rw items (append_maximal c.args.runs.now.items c.args.tail.now c.requires.maximal c.requires.tail apart)) (λ same. rw same c.requires.maximal)
    (extended_ok c.extend_from_slice.result _ _ _ c.extend_from_slice.ensures.items) (extended_err c.extend_from_slice.result _ _ _ c.extend_from_slice.ensures.items)

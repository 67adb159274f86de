use Rattle.std.proofs.Common.{◌≡◌, ◌∙◌, sym, ap, subst, List, ℕ}
use Rattle.std.specs.BTreeMap.{is_at}
use Rattle.std.specs.List.{dedup}
use Rattle.std.specs.List.Sorted.{IsStrictlySortedBy}
use Rattle.std.specs.Map.{keys_of, lookup}
use Rattle.std.proofs.lemmas.List.Sorted.{All-permutation}
use Rattle.ox_block.specs.declared.block.OutPoint.{OutPoint}
use Rattle.ox_rules.specs.Outputs.{outpoint_cmp}
use Rattle.ox_outputs.specs.Differing.{outpoint_in, pairs_in}
use Rattle.ox_outputs.specs.Fronts.{IsFronted}
use Rattle.ox_outputs.proofs.DifferingRows.{found_first, found_numbered, first_sorted, have_one}
use Rattle.ox_outputs.proofs.FrontLemmas.{firsts_of, found_stably, pairs_sorted}
use Rattle.ox_outputs.proofs.differing.oldest.Goals as goal

pub returns-clause-places : goal.returns-clause-places
returns-clause-places c = λ q.
    let changed = c.args.changed.now in
    let at = outpoint_in changed in
    let numbered = c.in_ok-places.places.items in
    let sorted = c.sort.new.places.items in
    let all = c.in_ok-places.ensures.fronts in
    let still = All-permutation (IsFronted at) numbered sorted c.sort.ensures.permutation all in
    let kept : pairs_in changed c.keep_first.new.places.items ≡ dedup have_one (pairs_in changed sorted) = ap (pairs_in changed) c.keep_first.ensures ∙ firsts_of at sorted still in
    ap (lookup (is_at (outpoint_cmp q))) kept
    ∙ found_first q (pairs_in changed sorted)
    ∙ found_stably at numbered sorted all still c.in_ok-sort.ensures.stable q
    ∙ ap (lookup (is_at (outpoint_cmp q))) c.in_ok-places.ensures.pairs
    ∙ found_numbered q 0 changed

pub returns-clause-ordered : goal.returns-clause-ordered
returns-clause-ordered c =
    let changed = c.args.changed.now in
    let at = outpoint_in changed in
    let sorted = c.sort.new.places.items in
    let still = All-permutation (IsFronted at) c.in_ok-places.places.items sorted c.sort.ensures.permutation c.in_ok-places.ensures.fronts in
    let kept : pairs_in changed c.keep_first.new.places.items ≡ dedup have_one (pairs_in changed sorted) = ap (pairs_in changed) c.keep_first.ensures ∙ firsts_of at sorted still in
    subst (λ (l : List (OutPoint × ℕ)). IsStrictlySortedBy outpoint_cmp (keys_of l)) (sym kept)
    (first_sorted (pairs_in changed sorted) (pairs_sorted at sorted still c.in_ok-sort.ensures.sorted))

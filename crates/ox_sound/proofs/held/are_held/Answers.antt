use Rattle.std.proofs.Common.{◌∙◌, ◌&&◌, ◌∷◌, [], Bool, List, ap, length, map, refl, sym}
use Rattle.std.specs.List.{list_all}
use Rattle.std.specs.Map.Iter.{deref_pair}
use Rattle.std.proofs.lemmas.List.{map-append}
use Rattle.std.proofs.lemmas.Map.Iter.{iter_end, iter_turn}
use Rattle.ox_block.specs.declared.block.OutPoint.{OutPoint}
use Rattle.ox_allocation.specs.Balances.{Balance}
use Rattle.ox_ledger.specs.Runes.{Placement}
use Rattle.ox_sound.specs.Amounts.{is_among, outputs_in}
use Rattle.ox_sound.specs.Rows.{are_amounts, are_known, is_held}
use Rattle.ox_sound.proofs.HeldLemmas.{all_held, held_is, more_held, one_fails, same_known}
use Rattle.std.proofs.lemmas.Bool.{and_left, and_right}
use Rattle.ox_sound.proofs.held.are_held.Goals as goal
use Rattle.ox_sound.proofs.held.are_held.Goals.{then-not-contains_key-via-then-not-contains_key, then-not-contains_key-via-else-not-contains_key+then-not-are_known}

pub loop-at-init : goal.loop-at-init
loop-at-init c = λ runes held are. refl

pub loop-at-preserved : goal.loop-at-preserved
loop-at-preserved c = λ runes held are.
    let done = map (deref_pair {K = OutPoint} {X = List Balance}) c.loop-at.yielded in
    let shown = map-append (deref_pair {K = OutPoint} {X = List Balance}) c.loop-at.yielded ((c.in-Some.at, c.in-Some.balances) ∷ []) in
    let known = c.are_known.ensures ∙ ap (are_amounts (is_among c.args.amounts.now)) c.as_slice.ensures ∙ same_known c.args.amounts.now runes held c.in-Some.balances.now are in
    let both = held_is c.args.outs.now runes c.in-Some.at.now c.in-Some.balances.now c.contains_key.result c.are_known.result c.contains_key.ensures known in
    let here = both ∙ ap (λ (x : Bool). x && c.are_known.result) c.if-not-contains_key.false ∙ c.if-not-are_known.false in
    ap (list_all (is_held runes (outputs_in c.args.outs.now))) shown ∙ more_held runes (outputs_in c.args.outs.now) done (c.in-Some.at.now, c.in-Some.balances.now) (c.loop-at.invariant runes held are) here

pub returns-then-not-contains_key : goal.returns-then-not-contains_key
returns-then-not-contains_key c = λ runes held are.
    let turn = iter_turn (deref_pair {K = OutPoint} {X = List Balance}) c.args.bal.now.entries c.loop-at.yielded c.into_iter-at-iterator.result c.loop-at.at-iterator c.next.new.self c.next.result
    (c.into_iter-at-iterator.ensures.into_iter_gives ∙ c.iter-at-items.ensures.rest) c.loop-at.yielded_by (c.in-Some.at, c.in-Some.balances) c.in-Some.is c.next.ensures.steps in
    let known = are_known runes c.in-Some.balances.now in
    let one : Placement = (c.in-Some.at.now, c.in-Some.balances.now) in
    let fails = one_fails runes (outputs_in c.args.outs.now) c.args.bal.now (length c.loop-at.yielded) one c.iter-at-items.ensures.ordered turn.1 in
    elim c.then-not-contains_key.branch [
      | then-not-contains_key-via-then-not-contains_key w ↦
          sym (fails (held_is c.args.outs.now runes c.in-Some.at.now c.in-Some.balances.now c.contains_key.result known c.contains_key.ensures refl ∙ and_left c.contains_key.result known w.if-not-contains_key.true))
      | then-not-contains_key-via-else-not-contains_key+then-not-are_known w ↦
          let same = w.are_known.ensures ∙ ap (are_amounts (is_among c.args.amounts.now)) w.as_slice.ensures ∙ same_known c.args.amounts.now runes held c.in-Some.balances.now are in
          sym (fails (held_is c.args.outs.now runes c.in-Some.at.now c.in-Some.balances.now c.contains_key.result w.are_known.result c.contains_key.ensures same ∙ and_right c.contains_key.result w.are_known.result w.if-not-are_known.true))
    ]

pub returns : goal.returns
returns c = λ runes held are.
    let whole = (iter_end (deref_pair {K = OutPoint} {X = List Balance}) c.args.bal.now.entries c.loop-at.yielded c.into_iter-at-iterator.result c.loop-at.at-iterator c.next.new.self c.next.result
    (c.into_iter-at-iterator.ensures.into_iter_gives ∙ c.iter-at-items.ensures.rest) c.loop-at.yielded_by c.in-None.is c.next.ensures.steps).0 in
    sym (all_held runes (outputs_in c.args.outs.now) c.args.bal.now (map (deref_pair {K = OutPoint} {X = List Balance}) c.loop-at.yielded) c.iter-at-items.ensures.ordered whole (c.loop-at.invariant runes held are))

use Rattle.std.proofs.Common.{◌∙◌, ap, arith, map, subst, sym, drop, ◌≡◌, ◌++◌, ◌<◌, length, List, [], ◌∷◌, ◌+◌}
use Rattle.std.specs.Prelude.{All}
use Rattle.ox_block.specs.declared.block.OutPoint.{OutPoint}
use Rattle.ox_rules.specs.declared.rows.OutRow.{OutRow}
use Rattle.ox_outputs.specs.InOrder.{IsFilled, entries_in, entry_of}
use Rattle.ox_outputs.specs.declared.fronted.Fronted.{Fronted}
use Rattle.ox_outputs.proofs.InOrderLemmas.{none_more_row, one_more_filled, one_more_row}
use Rattle.ox_outputs.proofs.in_order.filled.Goals.{in-Some+in_ok-push, in_default}
use Rattle.ox_outputs.proofs.in_order.filled.Goals as goal

pub loop-place-preserved : goal.loop-place-preserved
loop-place-preserved c =
    let slots = c.args.held.now.slots in
    let k = c.loop-place.place in
    let places = c.loop-place.places.items in
    let now = c.match-filled_in.places.items in
    let low : k < length slots = omega (arith, c.loop-place-test.true, c.end-place-end.ensures) in
    elim c.match-filled_in.branch [
      | in-Some+in_ok-push w ↦
          let e : OutPoint × OutRow = (w.in-Some.cell.at.now, w.in-Some.cell.row.now) in
          let pushed : now ≡ places ++ w.new.result ∷ [] = ap (λ v. v.items) w.places-is ∙ w.in_ok-push.ensures.items in
          record {
            entries = one_more_row slots places now w.new.result e k (entries_in slots) low w.in-Some.ensures w.new.ensures.place pushed c.loop-place.invariant.entries;
            fronts = one_more_filled slots places now w.new.result e k w.in-Some.ensures w.new.ensures.place w.new.ensures.front pushed c.loop-place.invariant.fronts;
          }
      | in_default w ↦
          let same : now ≡ places = ap (λ v. v.items) w.places-is in
          record {
            entries = subst (λ (l : List Fronted). map (entry_of slots) l ++ entries_in (drop (k + 1) slots) ≡ entries_in slots) (sym same) (none_more_row slots places k (entries_in slots) low w.in_default.ensures c.loop-place.invariant.entries);
            fronts = subst (All (IsFilled slots)) (sym same) c.loop-place.invariant.fronts;
          }
    ]

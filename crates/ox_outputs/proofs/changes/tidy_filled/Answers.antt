use Rattle.std.proofs.Common.{rules, ◌≡◌, ◌∙◌, ℕ, suc, true, false, sym, ap, inl, inr, drop, length, length-append, add-one, List, [], ◌∷◌, ◌++◌, Option, is_some, ⊎_elim}
use Rattle.std.specs.Prelude.{◌⊎◌}
use Rattle.std.specs.Iterator.Adapters.{zip_first, zip_second}
use Rattle.std.specs.Slice.Iter.{iter_rest}
use Rattle.std.proofs.lemmas.Slice.Zip.{Zip-so_far, either_empty_from_Zip, zip_turn}
use Rattle.ox_rules.specs.declared.rows.OutRow.{OutRow}
use Rattle.ox_outputs.specs.declared.slot_of.SlotOf.{SlotOf}
use Rattle.ox_outputs.specs.Slots.{tidied_at, filled_before}
use Rattle.ox_outputs.proofs.SlotLemmas.{none_left, filled_here, empty_here, tidied_first, rows_still}
use Rattle.ox_outputs.proofs.changes.tidy_filled.Goals as goal

pub loop-spot-preserved-then-is_some : goal.loop-spot-preserved-then-is_some
loop-spot-preserved-then-is_some c =
    let n = length c.loop-spot.yielded in
    let changed : List SlotOf = c.args.changed.now in
    let before : List (Option OutRow) = c.args.before.now in
    let s = c.into_iter-spot-iterator.result in
    let first : iter_rest (zip_first s) ≡ changed = search rules in
    let second : iter_rest (zip_second s) ≡ before = search rules in
    let turn = zip_turn changed before c.loop-spot.yielded s c.loop-spot.spot-iterator c.next.new.self c.next.result first second c.loop-spot.yielded_by (c.in-Some.spot, c.in-Some.row) c.in-Some.is c.next.ensures.steps in
    let some : is_some c.in-Some.row.now ≡ true = search rules in
    let here = filled_here changed before n c.in-Some.spot.now c.in-Some.row.now turn.0 turn.1 turn.2 turn.3 some in
    let next : length (c.loop-spot.yielded ++ (c.in-Some.spot, c.in-Some.row) ∷ []) ≡ suc n = length-append c.loop-spot.yielded ((c.in-Some.spot, c.in-Some.row) ∷ []) ∙ add-one n in record {
      rows = c.tidy.ensures.rows ∙ c.loop-spot.invariant.rows;
      filled = rows_still c.args.slots.now c.loop-spot.slots c.tidy.new.self c.loop-spot.invariant.rows c.loop-spot.invariant.filled c.tidy.ensures.filled;
      tidied = λ p.
          ap (λ (k : ℕ). tidied_at (filled_before (drop k changed) (drop k before)) c.tidy.new.self p) next
          ∙ tidied_first (filled_before (drop (suc n) changed) (drop (suc n) before)) c.in-Some.spot.now c.loop-spot.slots c.tidy.new.self c.tidy.ensures.here c.tidy.ensures.others p
          ∙ ap (λ (l : List SlotOf). tidied_at l c.loop-spot.slots p) (sym here)
          ∙ c.loop-spot.invariant.tidied p;
    }

pub loop-spot-preserved : goal.loop-spot-preserved
loop-spot-preserved c =
    let n = length c.loop-spot.yielded in
    let changed : List SlotOf = c.args.changed.now in
    let before : List (Option OutRow) = c.args.before.now in
    let s = c.into_iter-spot-iterator.result in
    let first : iter_rest (zip_first s) ≡ changed = search rules in
    let second : iter_rest (zip_second s) ≡ before = search rules in
    let turn = zip_turn changed before c.loop-spot.yielded s c.loop-spot.spot-iterator c.next.new.self c.next.result first second c.loop-spot.yielded_by (c.in-Some.spot, c.in-Some.row) c.in-Some.is c.next.ensures.steps in
    let none : is_some c.in-Some.row.now ≡ false = search rules in
    let here = empty_here changed before n c.in-Some.spot.now c.in-Some.row.now turn.0 turn.1 turn.2 turn.3 none in
    let next : length (c.loop-spot.yielded ++ (c.in-Some.spot, c.in-Some.row) ∷ []) ≡ suc n = length-append c.loop-spot.yielded ((c.in-Some.spot, c.in-Some.row) ∷ []) ∙ add-one n in record {
      rows = c.loop-spot.invariant.rows;
      filled = c.loop-spot.invariant.filled;
      tidied = λ p.
          ap (λ (k : ℕ). tidied_at (filled_before (drop k changed) (drop k before)) c.loop-spot.slots p) next
          ∙ ap (λ (l : List SlotOf). tidied_at l c.loop-spot.slots p) (sym here)
          ∙ c.loop-spot.invariant.tidied p;
    }

pub returns-clause-tidied : goal.returns-clause-tidied
returns-clause-tidied c = λ p.
    let s = c.into_iter-spot-iterator.result in
    let t = c.loop-spot.spot-iterator in
    let n = length c.loop-spot.yielded in
    let changed : List SlotOf = c.args.changed.now in
    let before : List (Option OutRow) = c.args.before.now in
    let first : iter_rest (zip_first s) ≡ changed = search rules in
    let second : iter_rest (zip_second s) ≡ before = search rules in
    let far = Zip-so_far c.loop-spot.yielded s t c.loop-spot.yielded_by in
    let left : (drop n changed ≡ []) ⊎ (drop n before ≡ []) = ⊎_elim
    (λ none. inl (ap (drop n) (sym first) ∙ sym far.0 ∙ none))
    (λ none. inr (ap (drop n) (sym second) ∙ sym far.1 ∙ none))
    (either_empty_from_Zip t c.next.new.self c.next.result c.in-None.is c.next.ensures.steps) in
    sym (ap (λ (l : List SlotOf). tidied_at l c.loop-spot.slots p) (none_left (drop n changed) (drop n before) left)) ∙ c.loop-spot.invariant.tidied p

use Rattle.std.proofs.Common.{◌≡◌, ◌∙◌, ap, List, Option, None, [], ◌∷◌, ◌++◌}
use Rattle.ox_rules.specs.declared.rows.OutRow.{OutRow}
use Rattle.ox_outputs.specs.declared.slot_of.SlotOf.{SlotOf}
use Rattle.ox_outputs.specs.Locator.{kept_at}
use Rattle.ox_outputs.specs.Slots.{rows_of, undone}
use Rattle.ox_outputs.proofs.SlotLemmas.{keep_same, known_more, both_grown, mark_kept, same_mark}
use Rattle.ox_outputs.proofs.RowLemmas.{runs_alike, once_alike, stay_same}
use Rattle.ox_outputs.proofs.OutputsLemmas.{once_less, sound_same}
use Rattle.ox_outputs.proofs.outputs.Outputs.set_aside.Goals as goal

pub invariant_of-self : goal.invariant_of-self
invariant_of-self c =
    let self = c.args.self.now in
    record { sound = sound_same self.slots self.locator self.changed.items c.reserve_one.new.changed.items self.before.items c.reserve_one.new.before.items self.sound c.reserve_one.ensures.spots c.reserve_one.ensures.rows }

pub invariant_of-self-2 : goal.invariant_of-self-2
invariant_of-self-2 c =
    let self = c.args.self.now in
    let rows = rows_of c.take_from-taken.new.slots in
    let taken = c.take_from-taken.result in
    let spot = c.args.spot in
    let changed : c.note.new.changed.items ≡ self.changed.items ++ spot ∷ [] = c.note.ensures.spots ∙ ap (λ (l : List SlotOf). l ++ spot ∷ []) c.reserve_one.ensures.spots in
    let before : c.note.new.before.items ≡ self.before.items ++ taken ∷ [] = c.note.ensures.rows ∙ ap (λ (l : List (Option OutRow)). l ++ taken ∷ []) c.reserve_one.ensures.rows in
    let mark = mark_kept self.before.items c.note.new.before.items self.changed.items c.note.new.changed.items (rows_of self.slots) rows taken None spot before changed c.take_from-taken.ensures.rows c.take_from-taken.ensures.row self.sound.paired in record {
      sound = record {
        known = known_more self.changed.items c.note.new.changed.items spot self.slots c.take_from-taken.new.slots changed self.sound.known (c.take_from-taken.ensures.places spot.place ∙ c.requires) (keep_same self.slots c.take_from-taken.new.slots c.take_from-taken.ensures.places);
        paired = both_grown self.before.items c.note.new.before.items self.changed.items c.note.new.changed.items _ _ before changed self.sound.paired;
        once = once_less (rows_of self.slots) rows spot.at self.sound.once c.take_from-taken.ensures.rows;
        once_before = once_alike (undone self.before.items self.changed.items (rows_of self.slots)) _ self.sound.once_before mark;
        runs = c.take_from-taken.ensures.runs;
        runs_before = runs_alike (kept_at self.locator) (kept_at c.take_from-taken.new.locator) self.slots c.take_from-taken.new.slots (undone self.before.items self.changed.items (rows_of self.slots)) _ self.sound.runs_before c.take_from-taken.ensures.same (stay_same _ self.slots c.take_from-taken.new.slots c.take_from-taken.ensures.places) mark;
      };
    }

pub returns-clause-mark : goal.returns-clause-mark
returns-clause-mark c =
    let self = c.args.self.now in
    let taken = c.take_from-taken.result in
    let spot = c.args.spot in
    let changed : c.note.new.changed.items ≡ self.changed.items ++ spot ∷ [] = c.note.ensures.spots ∙ ap (λ (l : List SlotOf). l ++ spot ∷ []) c.reserve_one.ensures.spots in
    let before : c.note.new.before.items ≡ self.before.items ++ taken ∷ [] = c.note.ensures.rows ∙ ap (λ (l : List (Option OutRow)). l ++ taken ∷ []) c.reserve_one.ensures.rows in
    same_mark self.marked _ _ (mark_kept self.before.items _ self.changed.items _ (rows_of self.slots) _ taken None spot before changed c.take_from-taken.ensures.rows c.take_from-taken.ensures.row self.sound.paired)

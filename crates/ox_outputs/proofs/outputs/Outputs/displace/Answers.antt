use Rattle.std.proofs.Common.{◌≡◌, ◌∙◌, refl, ap, List, Option, Some, [], ◌∷◌, ◌++◌}
use Rattle.ox_rules.specs.declared.rows.OutRow.{OutRow}
use Rattle.ox_outputs.specs.declared.slot_of.SlotOf.{SlotOf}
use Rattle.ox_outputs.specs.Locator.{kept_at}
use Rattle.ox_outputs.specs.Slots.{rows_of, undone}
use Rattle.ox_outputs.proofs.SlotLemmas.{keep_same, known_more, known_still, both_grown, both_still, mark_kept, mark_still, same_mark}
use Rattle.ox_outputs.proofs.RowLemmas.{runs_alike, once_alike, stay_same}
use Rattle.ox_outputs.proofs.OutputsLemmas.{once_more, sound_same}
use Rattle.ox_outputs.proofs.outputs.Outputs.displace.Goals as goal

pub invariant_of-self : goal.invariant_of-self
invariant_of-self c =
    let self = c.args.self.now in
    record { sound = sound_same self.slots self.locator self.changed.items c.reserve_one.new.changed.items self.before.items c.reserve_one.new.before.items self.sound c.reserve_one.ensures.spots c.reserve_one.ensures.rows }

pub invariant_of-self-in-Break-1 : goal.invariant_of-self-in-Break-1
invariant_of-self-in-Break-1 c =
    let self = c.args.self.now in
    let rows = rows_of c.displace_at.new.slots in
    let same = c.in_err-displaced.ensures.err in
    let mark = mark_still self.before.items c.reserve_one.new.before.items self.changed.items c.reserve_one.new.changed.items (rows_of self.slots) rows c.reserve_one.ensures.rows c.reserve_one.ensures.spots same in record {
      sound = record {
        known = known_still self.changed.items c.reserve_one.new.changed.items self.slots c.displace_at.new.slots c.reserve_one.ensures.spots self.sound.known (keep_same self.slots c.displace_at.new.slots c.displace_at.ensures.places);
        paired = both_still self.before.items c.reserve_one.new.before.items self.changed.items c.reserve_one.new.changed.items c.reserve_one.ensures.rows c.reserve_one.ensures.spots self.sound.paired;
        once = once_alike (rows_of self.slots) rows self.sound.once same;
        once_before = once_alike (undone self.before.items self.changed.items (rows_of self.slots)) _ self.sound.once_before mark;
        runs = c.displace_at.ensures.runs;
        runs_before = runs_alike (kept_at self.locator) (kept_at c.displace_at.new.locator) self.slots c.displace_at.new.slots (undone self.before.items self.changed.items (rows_of self.slots)) _ self.sound.runs_before c.displace_at.ensures.same (stay_same _ self.slots c.displace_at.new.slots c.displace_at.ensures.places) mark;
      };
    }

pub invariant_of-self-2 : goal.invariant_of-self-2
invariant_of-self-2 c =
    let self = c.args.self.now in
    let rows = rows_of c.displace_at.new.slots in
    let spot = c.args.spot in
    let changed : c.note.new.changed.items ≡ self.changed.items ++ spot ∷ [] = c.note.ensures.spots ∙ ap (λ (l : List SlotOf). l ++ spot ∷ []) c.reserve_one.ensures.spots in
    let before : c.note.new.before.items ≡ self.before.items ++ Some c.in_ok-displaced.field-0.kept ∷ [] = c.note.ensures.rows ∙ ap (λ (l : List (Option OutRow)). l ++ Some c.in_ok-displaced.field-0.kept ∷ []) c.reserve_one.ensures.rows in
    let mark = mark_kept self.before.items c.note.new.before.items self.changed.items c.note.new.changed.items (rows_of self.slots) rows (Some c.in_ok-displaced.field-0.kept) (Some c.args.row) spot before changed c.in_ok-displaced.ensures.rows c.in_ok-displaced.ensures.kept self.sound.paired in record {
      sound = record {
        known = known_more self.changed.items c.note.new.changed.items spot self.slots c.displace_at.new.slots changed self.sound.known (c.displace_at.ensures.places spot.place ∙ c.requires.spot) (keep_same self.slots c.displace_at.new.slots c.displace_at.ensures.places);
        paired = both_grown self.before.items c.note.new.before.items self.changed.items c.note.new.changed.items _ _ before changed self.sound.paired;
        once = once_more (rows_of self.slots) rows c.args.spot.at c.args.row self.sound.once c.requires.may c.in_ok-displaced.ensures.rows;
        once_before = once_alike (undone self.before.items self.changed.items (rows_of self.slots)) _ self.sound.once_before mark;
        runs = c.displace_at.ensures.runs;
        runs_before = runs_alike (kept_at self.locator) (kept_at c.displace_at.new.locator) self.slots c.displace_at.new.slots (undone self.before.items self.changed.items (rows_of self.slots)) _ self.sound.runs_before c.displace_at.ensures.same (stay_same _ self.slots c.displace_at.new.slots c.displace_at.ensures.places) mark;
      };
    }

pub returns-in_default-clause-mark : goal.returns-in_default-clause-mark
returns-in_default-clause-mark c =
    let self = c.args.self.now in
    let rows = rows_of self.slots in
    same_mark self.marked _ _ (mark_still self.before.items c.reserve_one.new.before.items self.changed.items c.reserve_one.new.changed.items rows rows c.reserve_one.ensures.rows c.reserve_one.ensures.spots refl)

pub returns-clause-mark : goal.returns-clause-mark
returns-clause-mark c =
    let self = c.args.self.now in
    let rows = rows_of c.displace_at.new.slots in
    let spot = c.args.spot in
    let changed : c.note.new.changed.items ≡ self.changed.items ++ spot ∷ [] = c.note.ensures.spots ∙ ap (λ (l : List SlotOf). l ++ spot ∷ []) c.reserve_one.ensures.spots in
    let before : c.note.new.before.items ≡ self.before.items ++ Some c.in_ok-displaced.field-0.kept ∷ [] = c.note.ensures.rows ∙ ap (λ (l : List (Option OutRow)). l ++ Some c.in_ok-displaced.field-0.kept ∷ []) c.reserve_one.ensures.rows in
    same_mark self.marked _ _ (mark_kept self.before.items c.note.new.before.items self.changed.items c.note.new.changed.items (rows_of self.slots) rows (Some c.in_ok-displaced.field-0.kept) (Some c.args.row) spot before changed c.in_ok-displaced.ensures.rows c.in_ok-displaced.ensures.kept self.sound.paired)

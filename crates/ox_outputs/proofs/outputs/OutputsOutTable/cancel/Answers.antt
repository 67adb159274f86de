use Rattle.std.proofs.Common.{◌≡◌, ◌∙◌, ap, arith, length, List}
use Rattle.std.specs.FinMap as map
use Rattle.ox_rules.specs.Outputs.{Outputs as Rows}
use Rattle.ox_outputs.specs.declared.slot_of.SlotOf.{SlotOf}
use Rattle.ox_outputs.specs.Locator.{live_at, kept_at}
use Rattle.ox_outputs.specs.Slots.{rows_of, undone}
use Rattle.ox_outputs.proofs.RowLemmas.{Stay, runs_alike, once_alike}
use Rattle.ox_outputs.proofs.OutputsLemmas.{known_none, undone_none}
use Rattle.ox_outputs.proofs.outputs.OutputsOutTable.cancel.Goals as goal

pub invariant_of-self : goal.invariant_of-self
invariant_of-self c =
    let self = c.args.self.now in
    let was : Rows = undone self.before.items self.changed.items (rows_of self.slots) in
    let slots = c.forget.new.slots in
    let rows = rows_of slots in
    let changed = c.forget.new.changed.items in
    let before = c.go_back.new.before.items in
    let back : rows_of c.go_back.new.slots ≡ was = c.go_back.ensures.rows ∙ ap (λ (l : List SlotOf). undone self.before.items l (rows_of self.slots)) c.deref.ensures.value in
    let same = c.forget.ensures.rows ∙ back in
    let none = c.forget.ensures.none in
    let stay : Stay was self.slots slots = λ p at row is there. c.forget.ensures.filled p at row (c.go_back.ensures.places p ∙ is) (ap (λ (o : Rows). map.get o at) back ∙ there) in record {
      sound = record {
        known = known_none changed slots none;
        paired = omega (arith, ap length none, ap length c.go_back.ensures.none);
        once = once_alike was rows self.sound.once_before same;
        once_before = once_alike was (undone before changed rows) self.sound.once_before (undone_none before changed rows none ∙ same);
        runs = runs_alike (kept_at self.locator) (live_at c.cancel.new.self) self.slots slots was rows self.sound.runs_before c.cancel.ensures.live stay same;
        runs_before = runs_alike (kept_at self.locator) (kept_at c.cancel.new.self) self.slots slots was (undone before changed rows) self.sound.runs_before c.cancel.ensures.kept stay (undone_none before changed rows none ∙ same);
      };
    }

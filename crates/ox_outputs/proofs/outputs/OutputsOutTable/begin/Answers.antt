use Rattle.std.proofs.Common.{◌≡◌, ◌∙◌, ap, arith, refl, length, []}
use Rattle.ox_outputs.specs.Locator.{live_at, kept_at}
use Rattle.ox_outputs.specs.Slots.{rows_of, undone}
use Rattle.ox_outputs.proofs.RowLemmas.{lead_still, runs_alike, once_alike}
use Rattle.ox_outputs.proofs.OutputsLemmas.{known_none, undone_none}
use Rattle.ox_outputs.proofs.outputs.OutputsOutTable.begin.Goals as goal

pub invariant_of-self : goal.invariant_of-self
invariant_of-self c =
    let self = c.args.self.now in
    let rows = rows_of c.settle.new.slots in
    let changed = c.settle.new.changed.items in
    let before = c.settle.new.before.items in
    let none = c.settle.ensures.none in
    let cleared : before ≡ [] = c.settle.ensures.none_before in
    let same = undone_none before changed rows none ∙ c.settle.ensures.rows in
    let live = live_at c.begin.new.self in
    let lead = lead_still self.slots (live_at self.locator) live self.sound.runs c.begin.ensures.live in record {
      sound = record {
        known = known_none changed c.settle.new.slots none;
        paired = omega (arith, ap length none, ap length cleared);
        once = once_alike (rows_of self.slots) rows self.sound.once c.settle.ensures.rows;
        once_before = once_alike (rows_of self.slots) (undone before changed rows) self.sound.once same;
        runs = runs_alike live live self.slots c.settle.new.slots (rows_of self.slots) rows lead (λ q. refl) c.settle.ensures.filled c.settle.ensures.rows;
        runs_before = runs_alike live (kept_at c.begin.new.self) self.slots c.settle.new.slots (rows_of self.slots) (undone before changed rows) lead c.begin.ensures.kept c.settle.ensures.filled same;
      };
    }

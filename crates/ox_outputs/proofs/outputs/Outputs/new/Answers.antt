use Rattle.std.proofs.Common.{◌≡◌, ◌∙◌, ap, arith, length}
use Rattle.std.specs.FinMap as map
use Rattle.ox_outputs.specs.Locator.{live_at, kept_at}
use Rattle.ox_outputs.specs.Slots.{rows_of, undone}
use Rattle.ox_outputs.proofs.OutputsLemmas.{none_once, none_runs, known_none, undone_none}
use Rattle.ox_outputs.proofs.outputs.Outputs.new.Goals as goal

pub invariant_of-result : goal.invariant_of-result
invariant_of-result c =
    let changed = c.new-2.result.items in
    let before = c.new-3.result.items in
    let rows : rows_of c.new.result ≡ map.empty = ap rows_of c.new.ensures in
    let none = c.new-2.ensures.items in record {
      sound = record {
        known = known_none changed c.new.result none;
        paired = omega (arith, ap length none, ap length c.new-3.ensures.items);
        once = none_once (rows_of c.new.result) rows;
        once_before = none_once (undone before changed (rows_of c.new.result)) (undone_none before changed (rows_of c.new.result) none ∙ rows);
        runs = none_runs (live_at c.new-4.result) c.new.result (rows_of c.new.result) rows;
        runs_before = none_runs (kept_at c.new-4.result) c.new.result (undone before changed (rows_of c.new.result)) (undone_none before changed (rows_of c.new.result) none ∙ rows);
      };
    }

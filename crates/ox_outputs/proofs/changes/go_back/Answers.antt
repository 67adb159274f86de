use Rattle.std.proofs.Common.{◌≡◌, ◌∙◌, ◌<◌, ◌≤◌, sym, ap, arith, length, length-append, List, Option, [], ◌∷◌}
use Rattle.ox_rules.specs.declared.rows.OutRow.{OutRow}
use Rattle.ox_outputs.specs.Slots.{rows_of, undone}
use Rattle.ox_outputs.proofs.SlotLemmas.{keep_same, no_rows, some_there, spot_known, spots_kept, undo_step}
use Rattle.ox_outputs.proofs.changes.go_back.Goals as goal

pub exchange-changed-requires : goal.exchange-changed-requires
exchange-changed-requires c =
    let popped = c.in-Some.ensures.items in
    let fits : c.len.result < length c.args.changed.now = omega (arith, c.loop-row.invariant.short, ap length popped, length-append c.pop.new.self.items (c.in-Some.row ∷ [])) in
    some_there _ _ (spot_known _ c.args.changed.now c.loop-row.slots c.len.result fits c.loop-row.invariant.known)

pub loop-row-preserved-in-Some : goal.loop-row-preserved-in-Some
loop-row-preserved-in-Some c =
    let popped = c.in-Some.ensures.items in
    let fits : c.len.result < length c.args.changed.now = omega (arith, c.loop-row.invariant.short, ap length popped, length-append c.pop.new.self.items (c.in-Some.row ∷ [])) in
    let at : c.len.result ≡ length c.pop.new.self.items = omega (arith, c.len.ensures) in
    let short : length c.pop.new.self.items ≤ length c.args.changed.now = omega (arith, c.loop-row.invariant.short, ap length popped, length-append c.pop.new.self.items (c.in-Some.row ∷ [])) in
    let spot = spot_known _ c.args.changed.now c.loop-row.slots c.len.result fits c.loop-row.invariant.known in record {
      rows = undo_step _ c.loop-row.before.items c.pop.new.self.items c.in-Some.row c.args.changed.now _ _ _ c.len.result popped c.loop-row.invariant.short at (c.exchange-changed.ensures.rows _ spot) c.loop-row.invariant.rows;
      short = short;
      known = spots_kept c.args.changed.now c.loop-row.slots c.exchange-changed.new.self (keep_same c.loop-row.slots c.exchange-changed.new.self c.exchange-changed.ensures.places) c.loop-row.invariant.known;
      places = λ p. c.exchange-changed.ensures.places p ∙ c.loop-row.invariant.places p;
    }

pub loop-row-preserved : goal.loop-row-preserved
loop-row-preserved c =
    let popped = c.in-Some.ensures.items in
    let fits : c.len.result < length c.args.changed.now = omega (arith, c.loop-row.invariant.short, ap length popped, length-append c.pop.new.self.items (c.in-Some.row ∷ [])) in
    let at : c.len.result ≡ length c.pop.new.self.items = omega (arith, c.len.ensures) in
    let short : length c.pop.new.self.items ≤ length c.args.changed.now = omega (arith, c.loop-row.invariant.short, ap length popped, length-append c.pop.new.self.items (c.in-Some.row ∷ [])) in
    let spot = spot_known _ c.args.changed.now c.loop-row.slots c.len.result fits c.loop-row.invariant.known in record {
      rows = undo_step _ c.loop-row.before.items c.pop.new.self.items c.in-Some.row c.args.changed.now _ _ _ c.len.result popped c.loop-row.invariant.short at (c.exchange-changed.ensures.rows _ spot) c.loop-row.invariant.rows;
      short = short;
      known = spots_kept c.args.changed.now c.loop-row.slots c.exchange-changed.new.self (keep_same c.loop-row.slots c.exchange-changed.new.self c.exchange-changed.ensures.places) c.loop-row.invariant.known;
      places = λ p. c.exchange-changed.ensures.places p ∙ c.loop-row.invariant.places p;
    }

pub returns-clause-rows : goal.returns-clause-rows
returns-clause-rows c =
    let none : c.loop-row.before.items ≡ [] = no_rows _ (omega (arith, c.in_default.ensures.cases)) in
    sym (ap (λ (r : List (Option OutRow)). undone r c.args.changed.now (rows_of c.loop-row.slots)) none) ∙ c.loop-row.invariant.rows

use Rattle.std.proofs.Common.{◌≡◌, ◌∙◌, sym, ap, subst, refl, None, Some, Option}
use Rattle.std.specs.FinMap as map
use Rattle.ox_block.specs.declared.block.OutPoint.{OutPoint}
use Rattle.ox_rules.specs.declared.rows.OutRow.{OutRow}
use Rattle.ox_rules.specs.Outputs.{MayStand, Outputs}
use Rattle.ox_outputs.specs.Locator.{live_at}
use Rattle.ox_outputs.specs.Slots.{rows_of, put_slot}
use Rattle.ox_outputs.proofs.SlotLemmas.{get-put_slot_same, put_slot-put_slot}
use Rattle.ox_outputs.proofs.RowLemmas.{runs_alike, stay_kept}
use Rattle.ox_outputs.proofs.OutputsLemmas.{err_so, some_and}
use Rattle.ox_outputs.proofs.changes.fill_empty.Goals as goal

-- a row that was put at an outpoint stands there
there : (rows filled : Outputs) (at : OutPoint) (row : OutRow) → filled ≡ map.insert rows at row → map.get filled at ≡ Some row
there rows filled at row is = ap (λ (o : Outputs). map.get o at) is ∙ get-put_slot_same rows at (Some row)

-- without it all is as before
before : (rows filled : Outputs) (at : OutPoint) (row : OutRow) → filled ≡ map.insert rows at row → map.get rows at ≡ None → put_slot filled at None ≡ rows
before rows filled at row is none =
    ap (λ (x : Outputs). put_slot x at None) is
    ∙ ap (λ (x : Option OutRow). put_slot (put_slot rows at (Some row)) at x) (sym none)
    ∙ put_slot-put_slot rows at (Some row)

back : (o : Option OutRow) (x row : OutRow) → Some x ≡ o → o ≡ Some row → x ≡ row
back o x row is stands = let both : Some x ≡ Some row = is ∙ stands in cc both

pub returns-in_err-place-clause-runs : goal.returns-in_err-place-clause-runs
returns-in_err-place-clause-runs c =
    let rows = rows_of c.args.slots.now in
    runs_alike (live_at c.args.locator.now) (live_at c.args.locator.now) c.args.slots.now c.fill.new.self rows (rows_of c.fill.new.self) c.requires.runs (λ q. refl)
    (stay_kept rows c.args.slots.now c.fill.new.self c.fill.ensures.places) c.in_err-place.ensures.err

pub arrive_at-requires-clause-runs : goal.arrive_at-requires-clause-runs
arrive_at-requires-clause-runs c =
    let rows = rows_of c.args.slots.now in
    let filled = rows_of c.fill.new.self in
    runs_alike (live_at c.args.locator.now) (live_at c.args.locator.now) c.args.slots.now c.fill.new.self rows (put_slot filled c.args.at None) c.requires.runs (λ q. refl)
    (stay_kept rows c.args.slots.now c.fill.new.self c.fill.ensures.places)
    (before rows filled c.args.at c.args.row c.in_ok-place.ensures.rows c.requires.none)

pub arrive_at-requires-clause-may : goal.arrive_at-requires-clause-may
arrive_at-requires-clause-may c =
    let rows = rows_of c.args.slots.now in
    let filled = rows_of c.fill.new.self in
    let others = put_slot filled c.args.at None in
    some_and (λ (row : OutRow). MayStand c.args.at row.sats others) (map.get filled c.args.at) c.args.row (there rows filled c.args.at c.args.row c.in_ok-place.ensures.rows)
    (subst (MayStand c.args.at c.args.row.sats) (sym (before rows filled c.args.at c.args.row c.in_ok-place.ensures.rows c.requires.none)) c.requires.may)

pub returns-clause-handed_back : goal.returns-clause-handed_back
returns-clause-handed_back c =
    let stands = there (rows_of c.args.slots.now) (rows_of c.fill.new.self) c.args.at c.args.row c.in_ok-place.ensures.rows in
    err_so c.arrive_at.result (λ e is. back (map.get (rows_of c.fill.new.self) c.args.at) e.row c.args.row is stands) c.arrive_at.ensures.handed_back

pub returns-clause-err : goal.returns-clause-err
returns-clause-err c =
    let rows = rows_of c.args.slots.now in
    let filled = rows_of c.fill.new.self in
    err_so c.arrive_at.result (λ e is. is ∙ before rows filled c.args.at c.args.row c.in_ok-place.ensures.rows c.requires.none) c.arrive_at.ensures.err

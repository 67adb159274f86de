use Rattle.std.proofs.Common.{◌∙◌, ap, refl, Some}
use Rattle.std.specs.FinMap as map
use Rattle.ox_rules.specs.Outputs.{Outputs}
use Rattle.ox_outputs.specs.Locator.{live_at}
use Rattle.ox_outputs.specs.Slots.{rows_of}
use Rattle.ox_outputs.proofs.SlotLemmas.{get-put_slot}
use Rattle.ox_outputs.proofs.RowLemmas.{arrive_rows, runs_alike, stay_same}
use Rattle.ox_outputs.proofs.changes.displace_at.Goals as goal

pub returns-clause-runs : goal.returns-clause-runs
returns-clause-runs c =
    let at = c.args.spot.at in
    let row = c.args.row in
    let slots = c.args.slots.now in
    let rows = rows_of slots in
    let new = rows_of c.exchange.new.self in
    let moved = live_at c.displace_copied.new.locator in
    let come = arrive_rows (live_at c.args.locator.now) moved slots rows new at row c.args.spot.place
    (λ q. ap (λ (o : Outputs). map.get o q) (c.exchange.ensures.rows at c.requires.spot) ∙ get-put_slot rows at (Some row) q)
    c.requires.may c.requires.runs c.requires.spot c.in-Ok.ensures.ok in
    runs_alike moved moved slots c.exchange.new.self new new come (λ q. refl) (stay_same new slots c.exchange.new.self c.exchange.ensures.places) refl

pub returns-clause-rows : goal.returns-clause-rows
returns-clause-rows c = c.exchange.ensures.rows c.args.spot.at c.requires.spot

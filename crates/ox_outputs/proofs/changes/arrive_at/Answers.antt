use Rattle.std.proofs.Common.{◌∙◌, sym, None}
use Rattle.std.specs.FinMap as map
use Rattle.ox_rules.specs.declared.rows.OutRow.{OutRow}
use Rattle.ox_rules.specs.Outputs.{MayStand}
use Rattle.ox_outputs.specs.Locator.{live_at}
use Rattle.ox_outputs.specs.Slots.{rows_of, put_slot}
use Rattle.ox_outputs.proofs.SlotLemmas.{get-put_slot}
use Rattle.ox_outputs.proofs.RowLemmas.{arrive_rows, gets_again, elsewhere_is}
use Rattle.ox_outputs.proofs.OutputsLemmas.{and_so}
use Rattle.ox_outputs.proofs.changes.arrive_at.Goals as goal

pub returns-in-Ok-clause-runs : goal.returns-in-Ok-clause-runs
returns-in-Ok-clause-runs c =
    let at = c.args.spot.at in
    let rows = rows_of c.args.slots.now in
    let outs = put_slot rows at None in
    let row = c.in-Some.row.now in
    let there = sym (c.in-Some.ensures.row at c.requires.spot) in
    arrive_rows (live_at c.args.locator.now) (live_at c.arrive.new.self) c.args.slots.now outs rows at row c.args.spot.place
    (gets_again rows outs at row there (λ q other. get-put_slot rows at None q ∙ elsewhere_is _ None (map.get rows q) other))
    (and_so (λ (row : OutRow). MayStand at row.sats outs) (map.get rows at) row there c.requires.may)
    c.requires.runs c.requires.spot c.in-Ok.ensures.ok

use Rattle.std.proofs.Common.{◌∙◌, sym}
use Rattle.ox_outputs.specs.Located.{standing}
use Rattle.ox_outputs.specs.Locator.{live_at}
use Rattle.ox_outputs.specs.Slots.{rows_of}
use Rattle.ox_outputs.proofs.RowLemmas.{found_none, found_exact, standing_runs}
use Rattle.ox_outputs.proofs.outputs.Outputs.locate.Goals as goal

pub returns-in_err-place : goal.returns-in_err-place
returns-in_err-place c =
    let self = c.args.self.now in
    let live = live_at self.locator in
    c.from_residual.ensures
    ∙ sym (found_none (standing self.slots live) self.slots (rows_of self.slots) c.args.sat c.find.result (standing_runs self.slots live self.sound.runs) self.sound.once c.find.ensures.last c.in_err-place.was)

pub returns : goal.returns
returns c =
    let self = c.args.self.now in
    let live = live_at self.locator in
    found_exact (standing self.slots live) self.slots (rows_of self.slots) c.args.sat c.find.result (standing_runs self.slots live self.sound.runs) self.sound.once c.find.ensures.last
    c.in_ok-place.place c.locate.result c.in_ok-place.was c.in_ok-place.ensures.live c.locate.ensures

-- What has a spelling keeps to the form.
use Rattle.std.proofs.Common.{List}
use Rattle.std.proofs.lemmas.List.Elements.{All-weaker}
use Rattle.ox_block.specs.declared.block.OutPoint.{OutPoint}
use Rattle.ox_rules.specs.declared.rows.OutRow.{OutRow}
use Rattle.ox_ledger.specs.Runes.{Placement}
use Rattle.ox_model.specs.Index.{Index}
use Rattle.ox_model.specs.declared.change.Change.{Change}
use Rattle.ox_rows.specs.Fits.{AreSats}
use Rattle.ox_rows.specs.RowFits.{AreHeld, FitsChange, FitsIndex, FitsOutput, FitsOutputs, FitsPlacement, FitsPlacements, KeepsChange, KeepsIndex, KeepsOutputs, KeepsPlacements}

keeps_outputs : (rows : List (OutPoint × OutRow)) → FitsOutputs rows → KeepsOutputs rows
keeps_outputs rows h = record {
  rising = h.rising;
  sats = All-weaker FitsOutput (λ (placed : OutPoint × OutRow). AreSats placed.1.sats) (λ placed fits. fits.1.sats.sats) rows h.each.1;
}

keeps_placements : (rows : List Placement) → FitsPlacements rows → KeepsPlacements rows
keeps_placements rows h = record {
  rising = h.rising;
  held = All-weaker FitsPlacement (λ (placed : Placement). AreHeld placed.1) (λ placed fits. fits.1.held) rows h.each.1;
}

pub keeps_change : (change : Change) → FitsChange change → KeepsChange change
keeps_change change h = record {
  gone = keeps_outputs change.gone h.gone;
  came = keeps_outputs change.came h.came;
  lost = h.lost.sats;
  before = keeps_placements change.runes.before h.before;
  after = keeps_placements change.runes.after h.after;
  counts = h.counts.rising;
}

pub keeps_index : (index : Index) → FitsIndex index → KeepsIndex index
keeps_index index h = record { outs = keeps_outputs _ h.outs; lost = h.lost.sats; bal = keeps_placements _ h.bal }

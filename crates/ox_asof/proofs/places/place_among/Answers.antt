use Rattle.std.proofs.Common.{◌∙◌, ◌+◌, List, drop, ap, sym}
use Rattle.ox_block.specs.declared.block.OutPoint.{OutPoint}
use Rattle.ox_rules.specs.declared.rows.OutRow.{OutRow}
use Rattle.ox_rules.specs.Where.{place_among}
use Rattle.ox_asof.proofs.Fronts.{drop_item}
use Rattle.ox_asof.proofs.Whereabouts.{passed_by}
use Rattle.ox_asof.proofs.places.place_among.Goals as goal

pub loop-at-preserved : goal.loop-at-preserved
loop-at-preserved c =
    let outputs = c.args.outputs.now in
    let n = c.loop-at.at-index in
    passed_by c.loop-at-item.result (drop (n + 1) outputs) c.args.sat (sym c.place_of.ensures ∙ c.in-None.is)
    ∙ sym (ap (λ (l : List (OutPoint × OutRow)). place_among l c.args.sat) (drop_item outputs n c.loop-at-item.result c.loop-at-test.true c.loop-at-item.is))
    ∙ c.loop-at.invariant

use Rattle.std.proofs.Common.{◌≡◌, ◌∙◌, ◌-◌, ◌<◌, ℕ, length, sym, subst, arith, List, Some}
use Rattle.std.specs.FinMap.{get}
use Rattle.ox_block.specs.declared.block.OutPoint.{OutPoint}
use Rattle.ox_rules.specs.declared.rows.OutRow.{OutRow}
use Rattle.ox_rules.specs.Outputs.{MayStand, Outputs}
use Rattle.ox_outputs.specs.Differing.{FitIn}
use Rattle.ox_outputs.proofs.DifferingRows.{may_place}
use Rattle.ox_outputs.proofs.TurnLemmas.{placed_more}
use Rattle.ox_outputs.proofs.differing.place_all.Goals as goal

pub place-requires : goal.place-requires
place-requires g c =
    let left : ℕ = c.loop-left.left in
    let list : List (OutPoint × OutRow) = c.as_slice-list.result.now in
    let e : OutPoint × OutRow = c.index-list-left.result in
    let old : Outputs = g.O.OutTable.contents c.args.table.now in
    let now : Outputs = g.O.OutTable.contents c.loop-left.table in
    let before : Outputs = c.requires.0 in
    let less : left - 1 < length list = omega (arith, c.loop-left-test.true, c.loop-left.invariant.within) in
    let fit : FitIn before old list = subst (FitIn before old) (sym c.as_slice-list.ensures) c.requires.1 in
    let here : get before e.0 ≡ Some e.1 = subst (λ (x : OutPoint × OutRow). get before x.0 ≡ Some x.1) (sym c.index-list-left.is) (fit.placed (left - 1) e less) in
    subst (λ (r : OutRow). MayStand e.0 r.sats now) (sym c.in_ok-copy.ensures) (may_place before old now list left (left - 1) e fit c.loop-left.invariant.rows here)

pub loop-left-preserved-in_ok-_displaced : goal.loop-left-preserved-in_ok-_displaced
loop-left-preserved-in_ok-_displaced g c =
    let contents = g.O.OutTable.contents in record {
      within = omega (arith, c.loop-left.invariant.within);
      rows = placed_more (contents c.args.table.now) (contents c.loop-left.table) (contents c.place.new.self) c.as_slice-list.result.now c.loop-left.left (c.loop-left.left - 1) c.index-list-left.result _ (omega (arith, c.loop-left-test.true))
          (omega (arith, c.loop-left-test.true, c.loop-left.invariant.within)) c.index-list-left.is c.in_ok-copy.ensures c.loop-left.invariant.rows c.in_ok-_displaced.ensures.ok;
      mark = c.place.ensures.mark ∙ c.loop-left.invariant.mark;
    }

pub loop-left-preserved : goal.loop-left-preserved
loop-left-preserved g c =
    let contents = g.O.OutTable.contents in record {
      within = omega (arith, c.loop-left.invariant.within);
      rows = placed_more (contents c.args.table.now) (contents c.loop-left.table) (contents c.place.new.self) c.as_slice-list.result.now c.loop-left.left (c.loop-left.left - 1) c.index-list-left.result _ (omega (arith, c.loop-left-test.true))
          (omega (arith, c.loop-left-test.true, c.loop-left.invariant.within)) c.index-list-left.is c.in_ok-copy.ensures c.loop-left.invariant.rows c.in_ok-_displaced.ensures.ok;
      mark = c.place.ensures.mark ∙ c.loop-left.invariant.mark;
    }

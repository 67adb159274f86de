use Rattle.std.proofs.Common.{◌∙◌, refl, ap, arith}
use Rattle.std.specs.FinMap as map
use Rattle.ox_transfer.specs.declared.so_far.MovedSoFar.{MovedSoFar}
use Rattle.ox_transfer.proofs.Places.{place_first, none_lost, none_left, fewer, place_more, place_done, lost_more, apart_next, apart_onward}
use Rattle.ox_transfer.proofs.place.place_outputs.Goals as goal

pub loop-index-init : goal.loop-index-init
loop-index-init g c = record {
  so_far = place_first _ _ c.new-displaced.ensures.items;
  each = omega (arith, c.requires.each);
  gone = none_lost _ _ c.new-displaced.ensures.items;
  apart = c.requires.apart;
  others = refl;
  mark = refl;
}

pub place_row-requires : goal.place_row-requires
place_row-requires g c = record {
  apart = apart_next (g.O.OutTable.contents c.loop-index.table) c.loop-index.so_far.parts.items c.pop.new.self.items c.in-Some.sats c.loop-index.so_far.lost c.in-Some.ensures.items c.loop-index.invariant.apart;
}

pub loop-index-preserved : goal.loop-index-preserved
loop-index-preserved g c = record {
  so_far = place_more c.args.so_far.now.height c.args.txid c.loop-index.index c.args.outputs.now c.loop-index.so_far.parts.items c.pop.new.self.items _ _ _ _ c.index-outputs-index.result c.in-Some.sats _ c.loop-index-test.true c.index-outputs-index.is c.in-Some.ensures.items
      (c.in_ok-place_row.ensures.table ∙ λ i. map.insert (g.O.OutTable.contents c.loop-index.table) (record { txid = c.args.txid; index = c.loop-index.index }) (record { script = c.in_ok-try_clone.ensures.bytes i; height = (c.loop-index.invariant.others i).height; sats = c.in-Some.sats })) c.in_ok-place_row.ensures.rows c.loop-index.invariant.so_far;
  each = fewer c.loop-index.so_far.parts.items c.pop.new.self.items c.in-Some.sats _ _ c.in-Some.ensures.items c.loop-index.invariant.each;
  gone = lost_more _ _ _ _ _ _ c.in_ok-place_row.ensures.rows c.loop-index.invariant.gone c.in_ok-place_row.ensures.lost;
  apart = apart_onward _ _ _ _ c.loop-index.so_far.parts.items c.pop.new.self.items c.in-Some.sats _ _ c.in-Some.ensures.items refl c.in_ok-place_row.ensures.table c.in_ok-place_row.ensures.lost c.loop-index.invariant.apart;
  others = ap (λ (s : MovedSoFar). record s { lost = c.place_row.new.lost; parts = c.pop.new.self }) c.loop-index.invariant.others;
  mark = c.in_ok-place_row.ensures.mark ∙ c.loop-index.invariant.mark;
}

pub returns : goal.returns
returns g c = record {
  rows = place_done c.args.so_far.now.height c.args.txid c.loop-index.index c.args.outputs.now _ _ _ _ c.loop-index-test.false c.loop-index.invariant.so_far;
  lost = c.loop-index.invariant.gone;
  emptied = none_left c.loop-index.so_far.parts.items c.loop-index.index _ c.loop-index-test.false c.loop-index.invariant.each;
  others = c.loop-index.invariant.others;
  mark = c.loop-index.invariant.mark;
}

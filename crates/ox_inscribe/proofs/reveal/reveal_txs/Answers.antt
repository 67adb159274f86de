use Rattle.std.proofs.Common.{arith, refl, ap, ◌∙◌, ◌++◌, Bool, List, length, ◌<◌}
use Rattle.ox_inscribe.specs.Reveal.{revealed_by_all, revealing_all}
use Rattle.ox_inscribe.specs.Scenes.{fees_of}
use Rattle.ox_inscribe.proofs.FrontLaws.{all_front, still_front}
use Rattle.ox_inscribe.proofs.TurnLaws.{turn_rows, turn_fees, over_rows, over_fees, moves_more, moves_long}
use Rattle.ox_inscribe.proofs.reveal.reveal_txs.Goals as goal

pub loop-place-init : goal.loop-place-init
loop-place-init c = record {
  rows = refl;
  fees = ap (λ (all : List Bool). all ++ fees_of (revealed_by_all c.args.rows.now.rows (revealing_all c.args.height c.args.txs.now c.args.moved.now))) c.new-fees.ensures.items;
  moved = c.requires.moved;
  front = all_front c.args.rows.now.rows;
  jubilee = refl;
}

pub reveal_tx-requires : goal.reveal_tx-requires
reveal_tx-requires c =
    let too : c.loop-place.place < length c.args.moved.now = omega (arith, c.loop-place-test.true, moves_long c.args.txs.now c.args.moved.now c.requires.moved) in record {
      moved = (moves_more c.loop-place.place c.args.txs.now c.args.moved.now c.index-txs-place.result c.index-moved-place.result c.loop-place-test.true too c.index-txs-place.is c.index-moved-place.is c.loop-place.invariant.moved).0;
    }

pub returns-in_err-reveal_tx-clause-front : goal.returns-in_err-reveal_tx-clause-front
returns-in_err-reveal_tx-clause-front c = still_front c.args.rows.now.rows c.loop-place.rows.rows c.reveal_tx.new.rows.rows c.loop-place.invariant.front c.in_err-reveal_tx.ensures.front

pub returns-in_err-reveal_tx-clause-jubilee : goal.returns-in_err-reveal_tx-clause-jubilee
returns-in_err-reveal_tx-clause-jubilee c = c.in_err-reveal_tx.ensures.jubilee ∙ c.loop-place.invariant.jubilee

pub loop-place-preserved : goal.loop-place-preserved
loop-place-preserved c =
    let too : c.loop-place.place < length c.args.moved.now = omega (arith, c.loop-place-test.true, moves_long c.args.txs.now c.args.moved.now c.requires.moved) in
    let pushed = c.in_ok-reveal_tx.ensures.rows in record {
      rows = turn_rows c.args.height c.loop-place.place c.args.txs.now c.args.moved.now c.index-txs-place.result c.index-moved-place.result c.loop-place.rows.rows c.reveal_tx.new.rows.rows _ c.loop-place-test.true too c.index-txs-place.is c.index-moved-place.is pushed c.loop-place.invariant.rows;
      fees = turn_fees c.args.height c.loop-place.place c.args.txs.now c.args.moved.now c.index-txs-place.result c.index-moved-place.result c.loop-place.rows.rows c.reveal_tx.new.rows.rows c.loop-place.fees.items c.reveal_tx.new.fees.items _ c.loop-place-test.true too c.index-txs-place.is c.index-moved-place.is pushed c.in_ok-reveal_tx.ensures.fees c.loop-place.invariant.fees;
      moved = (moves_more c.loop-place.place c.args.txs.now c.args.moved.now c.index-txs-place.result c.index-moved-place.result c.loop-place-test.true too c.index-txs-place.is c.index-moved-place.is c.loop-place.invariant.moved).1;
      front = still_front c.args.rows.now.rows c.loop-place.rows.rows c.reveal_tx.new.rows.rows c.loop-place.invariant.front c.in_ok-reveal_tx.ensures.front;
      jubilee = c.in_ok-reveal_tx.ensures.jubilee ∙ c.loop-place.invariant.jubilee;
    }

pub returns-clause-rows : goal.returns-clause-rows
returns-clause-rows c = over_rows c.args.height c.loop-place.place c.args.txs.now c.args.moved.now c.loop-place.rows.rows _ c.loop-place-test.false c.loop-place.invariant.rows

pub returns-clause-fees : goal.returns-clause-fees
returns-clause-fees c = over_fees c.args.height c.loop-place.place c.args.txs.now c.args.moved.now c.loop-place.rows.rows c.loop-place.fees.items _ c.loop-place-test.false c.loop-place.invariant.fees

pub returns-clause-front : goal.returns-clause-front
returns-clause-front c = c.loop-place.invariant.front

pub returns-clause-jubilee : goal.returns-clause-jubilee
returns-clause-jubilee c = c.loop-place.invariant.jubilee

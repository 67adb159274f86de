use Rattle.std.proofs.Common.{◌∙◌, ◌++◌, List, ℕ, refl, sym, ap, subst, ◌^◌, arith, length}
use Rattle.std.proofs.lemmas.Result.{err_from_is_err_and}
use Rattle.std.proofs.lemmas.List.{length-map}
use Rattle.std.proofs.lemmas.List.Elements.{All-get_or}
use Rattle.ox_block.specs.Hashes.{txid}
use Rattle.ox_transfer.specs.Apart.{Apart}
use Rattle.ox_transfer.specs.Counts.{Counted}
use Rattle.ox_transfer.specs.Parts.{spent_of}
use Rattle.ox_transfer.proofs.Spends.{none_spent, id_at, spend_more, spend_fails, spend_done}
use Rattle.ox_transfer.proofs.spend.spend_txs.Goals as goal

pub loop-index-init : goal.loop-index-init
loop-index-init g c =
    let none = ap (λ (l : List ℕ). l ++ c.empty-2.result) c.empty.ensures ∙ c.empty-2.ensures in record {
      so_far = none_spent (g.O.OutTable.contents c.args.table.now) (spent_of (record { alloc = c.args.alloc; height = c.args.height; moved = c.in_ok-with_capacity.field-0; lost = c.empty.result; fees = c.empty-2.result; parts = c.new.result }) (g.O.OutTable.contents c.args.table.now)) _ c.in_ok-with_capacity.ensures.items c.empty.ensures c.empty-2.ensures;
      apart = subst (Apart (2 ^ 63) (g.O.OutTable.contents c.args.table.now)) (sym none) c.requires.apart;
      height = refl;
      mark = refl;
    }

pub bounds-ids-index : goal.bounds-ids-index
bounds-ids-index g c = omega (arith, ap (λ (l : List (List ℕ)). length l) c.requires.ids, length-map c.args.txs.now txid)

pub spend_tx-requires : goal.spend_tx-requires
spend_tx-requires g c = record {
  id = id_at c.args.txs.now c.args.ids.now c.loop-index.index c.index-txs-index.result c.requires.ids c.loop-index-test.true c.index-txs-index.is;
  counted = subst Counted (sym c.index-txs-index.is) (All-get_or Counted c.args.txs.now c.loop-index.index c.index-txs-index.result c.loop-index-test.true c.requires.counted);
  apart = c.loop-index.invariant.apart;
}

pub loop-index-preserved : goal.loop-index-preserved
loop-index-preserved g c = record {
  so_far = spend_more c.args.height c.loop-index.index c.args.txs.now c.index-txs-index.result (spent_of c.loop-index.so_far (g.O.OutTable.contents c.loop-index.table)) (spent_of c.spend_tx.new.so_far (g.O.OutTable.contents c.spend_tx.new.table)) _ c.loop-index-test.true c.index-txs-index.is (rw c.loop-index.invariant.height at c.in_ok-spend_tx.ensures.spent) c.loop-index.invariant.so_far;
  apart = c.in_ok-spend_tx.ensures.apart;
  height = c.in_ok-spend_tx.ensures.height ∙ c.loop-index.invariant.height;
  mark = c.in_ok-spend_tx.ensures.mark ∙ c.loop-index.invariant.mark;
}

pub returns-in_err-spend_tx-clause-spent : goal.returns-in_err-spend_tx-clause-spent
returns-in_err-spend_tx-clause-spent g c =
    let p = err_from_is_err_and c.from_residual-in_err-spend_tx.result c.from_residual-in_err-spend_tx.ensures.1 in
    rw (p.1, p.2) (spend_fails c.args.height c.loop-index.index c.args.txs.now c.index-txs-index.result (spent_of c.loop-index.so_far (g.O.OutTable.contents c.loop-index.table)) c.in_err-spend_tx.field-0.0 _ c.loop-index-test.true c.index-txs-index.is (rw c.loop-index.invariant.height at c.in_err-spend_tx.ensures.spent) c.loop-index.invariant.so_far)

pub returns-clause-spent : goal.returns-clause-spent
returns-clause-spent g c = spend_done c.args.height c.loop-index.index c.args.txs.now (spent_of c.loop-index.so_far (g.O.OutTable.contents c.loop-index.table)) _ c.loop-index-test.false c.loop-index.invariant.so_far

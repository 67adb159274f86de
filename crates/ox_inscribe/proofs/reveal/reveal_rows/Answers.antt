use Rattle.std.proofs.Common.{ap, ap₂, sym, subst, ◌∙◌, ◌≡◌, ◌++◌, List, length, take, drop}
use Rattle.std.specs.List.{AllZip}
use Rattle.ox_block.specs.declared.block.Tx.{Tx}
use Rattle.ox_rules.specs.declared.moved.MovedTx.{MovedTx}
use Rattle.ox_inscribe.specs.Moves.{IsMoveOf}
use Rattle.ox_inscribe.specs.Reveal.{in_order, revealed_by_all, revealing_all}
use Rattle.ox_inscribe.specs.Shelved.{Numbered}
use Rattle.ox_inscribe.proofs.MapLaws.{on_ok}
use Rattle.ox_inscribe.proofs.OrderLaws.{flags_fit, ordered, ordered_front}
use Rattle.ox_inscribe.proofs.reveal.reveal_rows.Goals as goal

pub reveal_txs-requires : goal.reveal_txs-requires
reveal_txs-requires c =
    let txs : c.behind_first-txs.result.now ≡ drop 1 c.args.block.now.txs = c.behind_first-txs.ensures ∙ ap (λ (all : List Tx). drop 1 all) c.as_slice.ensures in
    let moved : c.behind_first-moved.result.now ≡ drop 1 c.args.moved.now.txs = c.behind_first-moved.ensures ∙ ap (λ (all : List MovedTx). drop 1 all) c.as_slice-2.ensures in record {
      moved = subst (λ (ts : List Tx). AllZip IsMoveOf ts c.behind_first-moved.result.now) (sym txs) (subst (λ (ms : List MovedTx). AllZip IsMoveOf (drop 1 c.args.block.now.txs) ms) (sym moved) c.requires.moved);
    }

pub returns-in_err-fees-clause-front : goal.returns-in_err-fees-clause-front
returns-in_err-fees-clause-front c = subst (λ (all : Numbered). take (length all.rows) c.reveal_txs.new.rows.rows ≡ all.rows) c.expect.ensures c.in_err-fees.ensures.front

pub put_in_order-requires : goal.put_in_order-requires
put_in_order-requires c = record {
  each = (flags_fit c.expect.new.self.rows c.reveal_txs.new.rows.rows c.deref.result.now _ c.in_ok-fees.ensures.rows (c.deref.ensures.value ∙ c.in_ok-fees.ensures.fees)).1;
}

pub returns-clause-front : goal.returns-clause-front
returns-clause-front c =
    subst (λ (all : Numbered). take (length all.rows) c.put_in_order.new.rows.rows ≡ all.rows) c.expect.ensures
    (ordered_front c.expect.new.self.rows c.reveal_txs.new.rows.rows c.put_in_order.new.rows.rows c.deref.result.now _ c.in_ok-fees.ensures.rows (c.deref.ensures.value ∙ c.in_ok-fees.ensures.fees) c.put_in_order.ensures.front)

pub returns-clause-rows : goal.returns-clause-rows
returns-clause-rows c =
    let txs : c.behind_first-txs.result.now ≡ drop 1 c.args.block.now.txs = c.behind_first-txs.ensures ∙ ap (λ (all : List Tx). drop 1 all) c.as_slice.ensures in
    let moved : c.behind_first-moved.result.now ≡ drop 1 c.args.moved.now.txs = c.behind_first-moved.ensures ∙ ap (λ (all : List MovedTx). drop 1 all) c.as_slice-2.ensures in
    on_ok c.put_in_order.result c.put_in_order.ensures.rows
    (λ is. ordered c.expect.new.self.rows c.reveal_txs.new.rows.rows c.put_in_order.new.rows.rows c.deref.result.now _ c.in_ok-fees.ensures.rows (c.deref.ensures.value ∙ c.in_ok-fees.ensures.fees) is
    ∙ ap₂ (λ (ts : List Tx) (ms : List MovedTx). c.expect.new.self.rows ++ in_order (revealed_by_all c.expect.new.self.rows (revealing_all c.args.height ts ms))) txs moved
    ∙ ap (λ (all : Numbered). all.rows ++ in_order (revealed_by_all all.rows (revealing_all c.args.height (drop 1 c.args.block.now.txs) (drop 1 c.args.moved.now.txs)))) c.expect.ensures)

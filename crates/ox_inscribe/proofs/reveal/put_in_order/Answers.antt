use Rattle.std.proofs.Common.{arith, sym, ◌∙◌, ◌-◌, length, take, drop}
use Rattle.std.specs.Prelude.{not}
use Rattle.ox_inscribe.specs.Scenes.{rows_if}
use Rattle.ox_inscribe.proofs.FrontLaws.{cut_front, still_front}
use Rattle.ox_inscribe.proofs.MapLaws.{on_ok}
use Rattle.ox_inscribe.proofs.OrderLaws.{as_before, together}
use Rattle.ox_inscribe.proofs.reveal.put_in_order.Goals as goal

pub returns-then-not-any_set-clause-rows : goal.returns-then-not-any_set-clause-rows
returns-then-not-any_set-clause-rows c = as_before c.args.fees.now c.args.rows.now.rows c.requires.each (sym c.any_set.ensures ∙ c.if-not-any_set.true)

pub returns-in_err-kept-clause-front : goal.returns-in_err-kept-clause-front
returns-in_err-kept-clause-front c = c.in_err-kept.ensures.front

pub returns-in_err-put_back-clause-front : goal.returns-in_err-put_back-clause-front
returns-in_err-put_back-clause-front c = cut_front (length c.args.rows.now.rows - length c.args.fees.now) c.args.rows.now.rows c.take_apart.new.rows.rows c.put_back.new.rows.rows (omega arith) c.in_ok-kept.ensures.rows c.in_err-put_back.ensures.front

pub returns-clause-rows : goal.returns-clause-rows
returns-clause-rows c =
    let rows = c.args.rows.now.rows in
    let fees = c.args.fees.now in
    on_ok c.put_back-2.result c.put_back-2.ensures.rows
    (λ is. together c.take_apart.new.rows.rows c.put_back.new.rows.rows c.put_back-2.new.rows.rows (take (length rows - length fees) rows) c.in_ok-kept.kept.items c.in_ok-kept.gone.items
    (rows_if not fees (drop (length rows - length fees) rows)) (rows_if (λ fee. fee) fees (drop (length rows - length fees) rows))
    c.in_ok-kept.ensures.rows c.in_ok-put_back.ensures.rows is c.in_ok-kept.ensures.kept c.in_ok-kept.ensures.gone)

pub returns-clause-front : goal.returns-clause-front
returns-clause-front c =
    cut_front (length c.args.rows.now.rows - length c.args.fees.now) c.args.rows.now.rows c.take_apart.new.rows.rows c.put_back-2.new.rows.rows (omega arith) c.in_ok-kept.ensures.rows
    (still_front c.take_apart.new.rows.rows c.put_back.new.rows.rows c.put_back-2.new.rows.rows c.in_ok-put_back.ensures.front c.put_back-2.ensures.front)

use Rattle.ox_outside.proofs.Log.{grows_weaker}
use Rattle.ox_index.specs.Chain.{stack_in}
use Rattle.ox_app.proofs.FeedAnswers.{answered_line}
use Rattle.std.proofs.Common.{◌∙◌, ap}
use Rattle.std.specs.Prelude.{Err}
use Rattle.std.proofs.lemmas.Result.{err_from_is_err_and}
use Rattle.ox_app.proofs.Stops.{feed_stops}
use Rattle.ox_app.proofs.fold.next_answer.Goals as goal

pub returns-clause-told : goal.returns-clause-told
returns-clause-told g c =
    grows_weaker _ _ (g.S.Site.log c.args.site.now) (g.S.Site.log c.next.new.site)
    (λ events answers. answered_line (stack_in c.args.chain.now) c.in_ok-line.line c.args.lines.now c.next.new.self (stack_in c.args.chain.now) (stack_in c.answer.new.chain) c.in_ok-answer.field-0 events c.in_ok-answer.ensures answers)
    c.in_ok-line.ensures.told

pub returns-in_err-line-clause-counted : goal.returns-in_err-line-clause-counted
returns-in_err-line-clause-counted g c =
    let p = err_from_is_err_and c.from_residual.result c.from_residual.ensures.1 in
    feed_stops c.from_residual.result c.in_err-line.field-0.0 _ _ (p.1 ∙ ap Err p.2) c.in_err-line.ensures.counted

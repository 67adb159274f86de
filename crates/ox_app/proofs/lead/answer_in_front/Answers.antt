use Rattle.std.proofs.Common.{inl, inr, refl, sym, subst}
use Rattle.std.proofs.lemmas.Result.{err_from_is_err_and}
use Rattle.ox_app.specs.OneFrame.{AnswersInFront}
use Rattle.ox_app.proofs.FrontAnswers.{lead_ended, lead_have, lead_other}
use Rattle.ox_app.proofs.lead.answer_in_front.Goals as goal

pub returns-in_err-at-clause-answers : goal.returns-in_err-at-clause-answers
returns-in_err-at-clause-answers c =
    let p = err_from_is_err_and c.from_residual.result c.from_residual.ensures.1 in
    rw (p.1, p.2) (lead_ended c.args.leader.now c.args.frames.now c.in_err-at.field-0.0 c.in_err-at.ensures)

pub returns-in-Have-clause-answers : goal.returns-in-Have-clause-answers
returns-in-Have-clause-answers c =
    let gives = rw c.in-Have.is at c.in_ok-at.ensures in
    subst (AnswersInFront c.args.leader.now c.args.frames.now) (sym c.ok_or.ensures.value)
    (lead_have c.args.leader.now c.args.frames.now c.in-Have.at c.next.result gives c.next.ensures.answer c.next.ensures.fits)

pub returns-in_default : goal.returns-in_default
returns-in_default c = record {
  answers = lead_other c.args.leader.now c.args.frames.now c.in_ok-at.field-0 c.in_ok-at.ensures c.in_default.not-Have;
  status = inr (inl refl);
}

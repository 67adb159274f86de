use Rattle.std.proofs.Common.{[], sym, ◌∙◌}
use Rattle.std.proofs.lemmas.Bool.{eqb-true}
use Rattle.ox_envelope.proofs.PayloadLemmas.{empty_next, fields-end, body_pushes-end, is_incomplete-end}
use Rattle.ox_envelope.proofs.payload.split_payload.Goals as goal

pub returns-in-None-clause-fields : goal.returns-in-None-clause-fields
returns-in-None-clause-fields c =
    let next = empty_next c.loop-at.tag c.args.pushes.now c.loop-at.at (record { ref_ptr = (0, 0); now = [] }) c.in-None.is c.loop-at-test.true (eqb-true _ 0 (sym c.is_empty.ensures ∙ c.if-is_empty.true)) in
    fields-end _ c.loop-at.tag c.args.pushes.now c.loop-at.at next c.loop-at.invariant.fields

pub returns-in-None-clause-body : goal.returns-in-None-clause-body
returns-in-None-clause-body c =
    let next = empty_next c.loop-at.tag c.args.pushes.now c.loop-at.at (record { ref_ptr = (0, 0); now = [] }) c.in-None.is c.loop-at-test.true (eqb-true _ 0 (sym c.is_empty.ensures ∙ c.if-is_empty.true)) in
    body_pushes-end c.loop-at.tag c.args.pushes.now _ c.loop-at.at next c.split_at.ensures.back c.loop-at.invariant.body

pub returns-in-None-clause-incomplete : goal.returns-in-None-clause-incomplete
returns-in-None-clause-incomplete c =
    let next = empty_next c.loop-at.tag c.args.pushes.now c.loop-at.at (record { ref_ptr = (0, 0); now = [] }) c.in-None.is c.loop-at-test.true (eqb-true _ 0 (sym c.is_empty.ensures ∙ c.if-is_empty.true)) in
    is_incomplete-end c.loop-at.tag c.args.pushes.now c.loop-at.at next c.loop-at.invariant.incomplete

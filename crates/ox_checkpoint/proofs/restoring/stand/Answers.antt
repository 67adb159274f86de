use Rattle.std.proofs.Common.{◌∙◌, sym, subst, arith}
use Rattle.std.proofs.lemmas.Result.{err_from_is_err_and}
use Rattle.std.specs.Prelude.{Result}
use Rattle.ox_model.specs.Stack.{Stack}
use Rattle.ox_checkpoint.specs.Unjudged.{IsUnjudged}
use Rattle.ox_checkpoint.proofs.FileLemmas.{all_done, body_stands, goes_on, unjudged_body, unjudged_here}
use Rattle.ox_checkpoint.proofs.restoring.stand.Goals as goal

pub loop-record-init : goal.loop-record-init
loop-record-init c = rw c.as_slice-record-items.ensures (body_stands c.args.head.now c.args.body.now c.args.records.now c.in_ok-standing.standing c.in_ok-standing.ensures.stack)

pub returns-in_err-standing : goal.returns-in_err-standing
returns-in_err-standing c =
    let p = err_from_is_err_and c.from_residual.result c.from_residual.ensures.1 in
    rw (p.1, p.2) (record { stack = tt; place = unjudged_body c.args.head.now c.args.body.now c.args.records.now c.in_err-standing.field-0.0 c.in_err-standing.ensures.place })

pub returns-in_err-standing-2 : goal.returns-in_err-standing-2
returns-in_err-standing-2 c =
    let p = err_from_is_err_and c.from_residual-in_err-standing-2.result c.from_residual-in_err-standing-2.ensures.1 in
    let why = c.in_err-standing-2.field-0.0 in
    let here = unjudged_here c.loop-record.standing c.as_slice-record-items.result.now c.loop-record.record-index c.record-item.result why (omega arith) c.record-item.is c.in_err-standing-2.ensures.place in
    let whole = subst (λ (r : Result Stack _). IsUnjudged r why) c.loop-record.invariant here in
    rw (p.1, p.2) (record { stack = tt; place = whole })

pub loop-record-preserved : goal.loop-record-preserved
loop-record-preserved c =
    sym (goes_on c.loop-record.standing c.in_ok-standing-2.standing c.as_slice-record-items.result.now c.loop-record.record-index c.record-item.result (omega arith) c.record-item.is c.in_ok-standing-2.ensures.stack) ∙ c.loop-record.invariant

pub returns : goal.returns
returns c = record {
  stack = sym c.loop-record.invariant ∙ all_done c.loop-record.standing c.as_slice-record-items.result.now c.loop-record.record-index (omega arith);
  place = tt;
}

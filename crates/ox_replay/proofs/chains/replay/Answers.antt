use Rattle.std.proofs.Common.{◌≡◌, ◌∙◌, ◌==◌, ℕ, true, length, sym, subst}
use Rattle.std.proofs.lemmas.Result.{err_from_is_err_and}
use Rattle.std.specs.Prelude.{Result}
use Rattle.ox_files.specs.OldStands.{OldFault}
use Rattle.ox_index.specs.Chain.{stack_in}
use Rattle.ox_model.specs.Stack.{Stack}
use Rattle.ox_replay.specs.Replay.{IsReplayFault}
use Rattle.ox_replay.proofs.ReplayByRecord.{body_there, fault_here, goes_on, all_redone}
use Rattle.ox_replay.proofs.chains.replay.Goals as goal

pub returns-in_err-redo-clause-fault : goal.returns-in_err-redo-clause-fault
returns-in_err-redo-clause-fault c =
    let p = err_from_is_err_and c.from_residual.result c.from_residual.ensures.1 in
    let none : (length c.args.body.now == 0) ≡ true = sym c.is_empty.ensures ∙ c.if-not-is_empty.false in
    let here = fault_here (stack_in c.loop-number.chain) c.as_slice-record-items.result.now c.loop-number.number c.record-item.result c.in_err-redo.field-0.0 c.loop-number-test.true c.record-item.is c.in_err-redo.ensures.fault in
    let whole = subst (λ (r : Result Stack (OldFault ℕ)). IsReplayFault r c.in_err-redo.field-0.0) (c.loop-number.invariant ∙ sym (body_there c.args.head.now c.args.body.now c.args.records.now none)) here in
    rw (p.1, p.2) whole

pub loop-number-preserved : goal.loop-number-preserved
loop-number-preserved c =
    sym (goes_on (stack_in c.loop-number.chain) (stack_in c.redo.new.chain) c.as_slice-record-items.result.now c.loop-number.number c.record-item.result c.loop-number-test.true c.record-item.is c.in_ok-redo.ensures.stack) ∙ c.loop-number.invariant

pub returns-clause-stack : goal.returns-clause-stack
returns-clause-stack c =
    let none : (length c.args.body.now == 0) ≡ true = sym c.is_empty.ensures ∙ c.if-not-is_empty.false in
    body_there c.args.head.now c.args.body.now c.args.records.now none ∙ sym c.loop-number.invariant ∙ all_redone (stack_in c.loop-number.chain) c.as_slice-record-items.result.now c.loop-number.number c.loop-number-test.false

use Rattle.std.proofs.Common.{◌∙◌, Ok, ap, sym}
use Rattle.std.proofs.lemmas.Result.{err_from_is_err_and}
use Rattle.ox_model.specs.Stack.{Stack}
use Rattle.ox_checkpoint.proofs.restoring.restore.Goals as goal

pub returns-in_err-standing : goal.returns-in_err-standing
returns-in_err-standing c =
    let p = err_from_is_err_and c.from_residual.result c.from_residual.ensures.1 in
    rw (p.1, p.2) (record { stack = tt; place = c.in_err-standing.ensures.place })

pub returns-in-Ok : goal.returns-in-Ok
returns-in-Ok c = record {
  stack = c.in_ok-standing.ensures.stack ∙ ap (λ (s : Stack). Ok s) (sym c.in-Ok.ensures);
  place = tt;
}

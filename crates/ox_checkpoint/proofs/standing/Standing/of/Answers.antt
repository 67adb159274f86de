use Rattle.std.proofs.Common.{◌∙◌, ap}
use Rattle.std.proofs.lemmas.Result.{IfOk-weaker}
use Rattle.ox_files.specs.Body.{stack_in}
use Rattle.ox_checkpoint.proofs.standing.Standing.of.Goals as goal

pub returns-in_default : goal.returns-in_default
returns-in_default c = ap (stack_in c.args.profile c.args.depth) (rw c.in_default.is at c.in_ok-index.ensures)

pub returns : goal.returns
returns c = IfOk-weaker c.of_kept.result _ _ (λ found is. is ∙ ap (stack_in c.args.profile c.args.depth) (rw c.in-Some.is at c.in_ok-index.ensures)) c.of_kept.ensures

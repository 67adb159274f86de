-- The files that the last of several runs left stand for a chain that the kept lines of all chose.
use Rattle.std.proofs.Common.{◌≡◌, ◌∙◌, List, [], ◌∷◌, sym, ap}
use Rattle.std.specs.Prelude.{Result, Ok}
use Rattle.ox_outside.specs.Files.{Files}
use Rattle.ox_model.specs.Machine.{Machine, stack_of, turn}
use Rattle.ox_model.specs.Replies.{after}
use Rattle.ox_files.specs.Runs.{first_lines, kept_lines, LastOf, Run, RunInTurn}
use Rattle.ox_model.specs.Stack.{Stack}
use Rattle.ox_files.specs.Stands.{Misfit, stands}
use Rattle.ox_model.proofs.AnswersOfStacks.{after_joined, after_none}

-- a machine's stack, as files give it
abbrev given : Machine → Result Stack Misfit
given machine = Ok (stack_of machine)

pub last_of_runs : (machine : Machine) (files : Files) (runs : List Run) → stands files ≡ Ok (stack_of machine)
    → RunInTurn files runs → LastOf machine files runs
last_of_runs machine files [] is follow = record {
  kept = [];
  each = tt;
  stands_for = is ∙ ap given (sym (after_none turn machine));
}
last_of_runs machine files (run ∷ runs) is follow =
    let left = follow.0 machine is in
    let lines = first_lines left.kept run in
    let rest = last_of_runs (after machine lines) run.left runs left.stands_for follow.1 in record {
      kept = left.kept ∷ rest.kept;
      each = (record { counted = left.counted; acknowledged = left.acknowledged }, rest.each);
      stands_for = rest.stands_for ∙ ap given (sym (after_joined turn machine lines (kept_lines runs rest.kept)));
    }

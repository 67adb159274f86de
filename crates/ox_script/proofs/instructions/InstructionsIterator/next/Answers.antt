use Rattle.std.proofs.Common.{ap, ◌∙◌}
use Rattle.ox_script.specs.Script.{items_of, is_cut}
use Rattle.ox_script.proofs.ScriptLemmas.{GivesItem-end, GivesItem-cut}
use Rattle.ox_script.proofs.instructions.InstructionsIterator.next.Goals as goal

pub returns-in_err-op-clause-steps : goal.returns-in_err-op-clause-steps
returns-in_err-op-clause-steps c =
    rw c.from_residual.ensures (GivesItem-end _ c.self.inside.met_cut c.self.inside.rest.now c.self.view_is c.in_err-op.ensures.cases)

pub returns-in-None-clause-steps : goal.returns-in-None-clause-steps
returns-in-None-clause-steps c =
    let begins = c.in_ok-op.ensures.cases.0 in
    let none = ap items_of begins ∙ c.in-None.ensures.cut.0 in
    let cut = ap is_cut begins ∙ c.in-None.ensures.cut.1 in
    GivesItem-cut _ c.self.inside.met_cut c.self.inside.rest.now c.self.view_is none cut

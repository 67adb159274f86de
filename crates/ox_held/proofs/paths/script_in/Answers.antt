use Rattle.std.proofs.Common.{ℕ, List, ◌∙◌, sym, ap, take}
use Rattle.ox_address.specs.Spelled.{script_in}
use Rattle.ox_held.proofs.PathLemmas.{its_script, no_script}
use Rattle.ox_held.proofs.paths.script_in.Goals as goal

pub returns-in-Ok : goal.returns-in-Ok
returns-in-Ok c =
    sym (its_script c.hrp_in.result.now (take c.in-Ok.len c.read.new.into) c.args.text.now c.hrp_in.ensures.lawful c.in-Ok.ensures.found)
    ∙ ap (λ (hrp : List ℕ). script_in hrp c.args.text.now) c.hrp_in.ensures.exact

pub returns-in-Err : goal.returns-in-Err
returns-in-Err c =
    sym (no_script c.hrp_in.result.now c.args.text.now c.hrp_in.ensures.lawful (λ script is. let no = c.in-Err.ensures.only script is in absurd (cc no)))
    ∙ ap (λ (hrp : List ℕ). script_in hrp c.args.text.now) c.hrp_in.ensures.exact

use Rattle.std.proofs.Common.{sym, ap, ◌∙◌, ℕ, List, length, Bool}
use Rattle.std.specs.Prelude.{◌==◌, not}
use Rattle.ox_inscribe.specs.Inscriptions.{is_on}
use Rattle.ox_inscribe.specs.Reveal.{bears}
use Rattle.ox_inscribe.proofs.StandLaws.{any_where}
use Rattle.ox_inscribe.proofs.parents.bears.Goals as goal

pub returns-in-Some : goal.returns-in-Some
returns-in-Some c =
    ap (λ (b : Bool). not b) c.is_empty.ensures
    ∙ ap (λ (numbers : List ℕ). not (length numbers == 0)) c.on.ensures
    ∙ any_where (is_on c.in-Some.sat) 0 c.args.rows.now.rows
    ∙ ap (bears c.args.rows.now.rows) (sym c.in-Some.is)

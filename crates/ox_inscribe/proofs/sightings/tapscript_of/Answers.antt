use Rattle.std.proofs.Common.{sym, ap, ◌∙◌, Option, List, ℕ, []}
use Rattle.std.specs.Prelude.{unwrap_or}
use Rattle.ox_inscribe.proofs.SeenLaws.{given_or, tapscript_at}
use Rattle.ox_inscribe.proofs.sightings.tapscript_of.Goals as goal

pub returns-in-Some-tapscript_place : goal.returns-in-Some-tapscript_place
returns-in-Some-tapscript_place c =
    given_or c.get.result _ c.unwrap_or.result c.unwrap_or.ensures
    ∙ ap (λ (found : Option (List ℕ)). unwrap_or found []) (c.get.ensures ∙ tapscript_at c.args.input.now.witness c.in-Some.last.now c.in-Some-tapscript_place.place (sym c.in-Some.ensures) (λ before long. c.in-Some-tapscript_place.ensures.script before (long ∙ sym c.len.ensures)))

use Rattle.std.proofs.Common.{◌≡◌, [], ◌∷◌, ◌++◌, ap, ◌∙◌, sym, rules}
use Rattle.ox_script.specs.Witness.{item_at, tapscript_place}
use Rattle.ox_script.proofs.WitnessLemmas.{tapscript-place}
use Rattle.ox_script.proofs.witness.tapscript_place.Goals as goal

pub returns-clause-script : goal.returns-clause-script
returns-clause-script c = λ before count.
    let last = c.args.last.now in
    let place : c.checked_sub.result ≡ tapscript_place c.args.items last = search rules in
    tapscript-place before last ∙ ap (λ items. item_at (before ++ last ∷ []) (tapscript_place items last)) count ∙ ap (item_at (before ++ last ∷ [])) (sym place)

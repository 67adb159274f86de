use Rattle.std.proofs.Common.{◌∙◌, ap, false}
use Rattle.std.specs.Option.{option_map_or}
use Rattle.ox_ledger.specs.Runes.{is_taken}
use Rattle.ox_ledger.proofs.ArtifactLemmas.{taken_is}
use Rattle.ox_ledger.proofs.artifact.is_taken.Goals as goal

pub returns-in-Some : goal.returns-in-Some
returns-in-Some c =
    c.is_some.ensures ∙ taken_is c.args.table.now.now c.in-Some.name c.by_name.result c.by_name.ensures
    ∙ ap (λ name. option_map_or (is_taken c.args.table.now.now) name false) c.in-Some.ensures

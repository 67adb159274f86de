use Rattle.std.proofs.Common.{◌∙◌, sym}
use Rattle.std.specs.Prelude.{is_some}
use Rattle.ox_ledger.specs.Runes.{by_id}
use Rattle.ox_sound.proofs.KeepsPassLemmas.{either_found}
use Rattle.ox_sound.proofs.new_runes.is_known.Goals as goal

pub returns : goal.returns
returns c = λ yes.
    either_found c.is_found.result c.is_found-2.result (is_some (by_id c.args.runes.now c.args.id)) (is_some (by_id c.args.appended.now c.args.id)) c.is_found.ensures c.is_found-2.ensures (sym c.is_either.ensures ∙ yes)

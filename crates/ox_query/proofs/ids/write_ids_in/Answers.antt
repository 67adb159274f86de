use Rattle.std.proofs.Common.{List, ℕ}
use Rattle.ox_replies.specs.Inscriptions.{ids_on_all}
use Rattle.ox_query.specs.Written.{tokens_of}
use Rattle.ox_query.proofs.Steps.{same}
use Rattle.ox_query.proofs.ids.write_ids_in.Goals as goal

pub returns : goal.returns
returns g c =
    same (λ (numbers : List ℕ). tokens_of (ids_on_all (g.V.View.index c.args.live.now).inscriptions numbers))
    c.runs.ensures.numbers c.write_ids_on_runs.ensures

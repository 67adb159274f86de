use Rattle.std.proofs.Common.{rules}
use Rattle.std.proofs.lemmas.Fn.{dedup_same}
use Rattle.ox_marked.proofs.LogLemmas.{have_one}
use Rattle.ox_marked.proofs.marked.keep_first.Goals as goal

pub returns : goal.returns
returns g c = dedup_same _ (have_one g.met.K.Ord.total) _ (λ x y b f' x' y' k. search rules) _ _ c.dedup_by.ensures.filtered

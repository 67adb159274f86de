use Rattle.std.proofs.Common.{rules}
use Rattle.std.proofs.lemmas.Fn.{dedup_same}
use Rattle.std.specs.Ordering.{eq_by_cmp}
use Rattle.ox_outputs.specs.Differing.{outpoint_in}
use Rattle.ox_outputs.specs.Fronts.{fronted_cmp}
use Rattle.ox_outputs.proofs.differing.keep_first.Goals as goal

pub returns : goal.returns
returns c = dedup_same _ (eq_by_cmp (fronted_cmp (outpoint_in c.args.changed.now))) _ (λ x y b f' x' y' k. search rules) _ _ c.dedup_by.ensures.filtered

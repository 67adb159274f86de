use Rattle.std.proofs.Common.{rules}
use Rattle.std.proofs.lemmas.Fn.{always_returns_same}
use Rattle.ox_outputs.specs.Differing.{outpoint_in}
use Rattle.ox_outputs.proofs.FrontLemmas.{places_rank}
use Rattle.ox_outputs.proofs.differing.sort.Goals as goal

pub returns-clause-sorted : goal.returns-clause-sorted
returns-clause-sorted c =
    c.in_ok-sort_by.ensures.sorted _ (places_rank (outpoint_in c.args.changed.now)) (always_returns_same _ _ _ (λ a r f' k. search rules))

pub returns-clause-stable : goal.returns-clause-stable
returns-clause-stable c =
    c.in_ok-sort_by.ensures.stable _ (places_rank (outpoint_in c.args.changed.now)) (always_returns_same _ _ _ (λ a r f' k. search rules))

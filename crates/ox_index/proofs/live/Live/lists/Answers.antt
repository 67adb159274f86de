use Rattle.std.proofs.Common.{◌∙◌}
use Rattle.ox_index.proofs.live.Live.lists.Goals as goal

pub front-requires : goal.front-requires
front-requires c = c.args.self.now.within.lost_there

pub returns-clause-hashes : goal.returns-clause-hashes
returns-clause-hashes c = c.from_vec.ensures ∙ c.in_ok-hashes.ensures.items ∙ c.hashes.ensures

pub returns-clause-lost : goal.returns-clause-lost
returns-clause-lost c = c.in_ok-lost.ensures

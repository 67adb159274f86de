use Rattle.ox_model.proofs.Ended.{lead_down}
use Rattle.ox_index.specs.Live.{index_in, profile_in}
use Rattle.ox_index.proofs.chain.Chain.changes.Goals as goal

pub returns-clause-lead : goal.returns-clause-lead
returns-clause-lead c =
    let chain = c.args.self.now in
    lead_down (profile_in chain.live) (index_in chain.live) chain.changes.kept chain.lead

use Rattle.ox_index.specs.Chain.{stack_in, taken_back_in}
use Rattle.ox_model.specs.Step.{step}
use Rattle.ox_store.proofs.CommandsInMemory.{change_back, change_connected, left_back, left_by_none, on_both, on_ok}
use Rattle.ox_store.proofs.store.obey.Goals as goal

pub returns-in-Connect-clause-change : goal.returns-in-Connect-clause-change
returns-in-Connect-clause-change c =
    let old = stack_in c.args.chain.now in
    let new = c.connect.new.self in
    on_ok c.connect.result (λ is. change_connected old (stack_in new) (step old.profile old.index c.as_slice.result.now) (taken_back_in new) c.args.chain.now.some is c.connect.ensures.none_back) c.connect.ensures.ok

pub returns-in-Connect-clause-left : goal.returns-in-Connect-clause-left
returns-in-Connect-clause-left c =
    let old = stack_in c.args.chain.now in
    let new = c.connect.new.self in
    on_ok c.connect.result (λ is. left_by_none old (stack_in new) (step old.profile old.index c.as_slice.result.now) (taken_back_in new) c.args.chain.now.some is c.connect.ensures.none_back) c.connect.ensures.ok

pub returns-in-Disconnect-clause-change : goal.returns-in-Disconnect-clause-change
returns-in-Disconnect-clause-change c =
    let new = c.disconnect.new.self in
    on_both c.disconnect.result (change_back (stack_in c.args.chain.now) (stack_in new) (taken_back_in new) c.args.chain.now.live.sound) c.disconnect.ensures.ok c.disconnect.ensures.change

pub returns-in-Disconnect-clause-left : goal.returns-in-Disconnect-clause-left
returns-in-Disconnect-clause-left c =
    let new = c.disconnect.new.self in
    on_ok c.disconnect.result (left_back (stack_in new) (stack_in c.args.chain.now).index (taken_back_in new)) c.disconnect.ensures.change

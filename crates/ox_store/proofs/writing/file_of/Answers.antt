use Rattle.std.proofs.lemmas.Result.{IfOk-weaker}
use Rattle.ox_index.specs.Chain.{stack_in}
use Rattle.ox_store.proofs.WritingLemmas.{file_of_stack}
use Rattle.ox_store.proofs.writing.file_of.Goals as goal

pub checkpoint_of-requires-clause-head : goal.checkpoint_of-requires-clause-head
checkpoint_of-requires-clause-head c = c.requires.lawful

pub returns-clause-stack : goal.returns-clause-stack
returns-clause-stack c =
    let stack = stack_in c.args.chain.now in
    IfOk-weaker c.checkpoint_of.result _ _ (λ whole is. file_of_stack c.args.head.now stack c.in_ok-body.body whole c.requires c.in_ok-body.ensures is) c.checkpoint_of.ensures

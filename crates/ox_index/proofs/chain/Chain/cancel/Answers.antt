use Rattle.std.proofs.Common.{sym}
use Rattle.ox_index.specs.Live.{index_in, marked_in, profile_in}
use Rattle.ox_index.proofs.Cancelling.{some_before, some_mark, stack_then_is}
use Rattle.ox_index.proofs.chain.Chain.cancel.Goals as goal

pub cancel-requires : goal.cancel-requires
cancel-requires c =
    let chain = c.args.self.now in
    some_before (profile_in chain.live) chain.depth (marked_in chain.live) chain.changes.before c.requires

pub cancel-requires-2 : goal.cancel-requires-2
cancel-requires-2 c =
    let chain = c.args.self.now in
    some_mark (profile_in chain.live) chain.depth (marked_in chain.live) chain.changes.before c.requires

pub returns-clause-stack : goal.returns-clause-stack
returns-clause-stack c =
    let chain = c.args.self.now in
    sym (stack_then_is (profile_in c.cancel-2.new.self) (profile_in chain.live) chain.depth (marked_in chain.live) (index_in c.cancel-2.new.self) chain.changes.before c.cancel.new.self.kept
    (sym c.cancel-2.ensures.profile) (sym c.cancel-2.ensures.index) (sym c.cancel.ensures.kept))

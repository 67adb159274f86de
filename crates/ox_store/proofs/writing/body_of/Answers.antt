use Rattle.std.proofs.Common.{[], arith}
use Rattle.ox_index.specs.Chain.{stack_in}
use Rattle.ox_index.specs.Live.{index_in, profile_in}
use Rattle.ox_index.proofs.KeptBlocks.{length-older_by}
use Rattle.ox_store.proofs.WritingLemmas.{body_of_stack, ends_so}
use Rattle.ox_store.proofs.writing.body_of.Goals as goal

pub put_body-requires-clause-end : goal.put_body-requires-clause-end
put_body-requires-clause-end c =
    let stack = stack_in c.args.chain.now in
    let live = c.live.result.now in
    ends_so stack.profile (profile_in live) stack.index (index_in live) c.changes.result.now.kept c.live.ensures.profile c.live.ensures.index c.changes.ensures.end

pub returns-in-Ok : goal.returns-in-Ok
returns-in-Ok c =
    let chain = c.args.chain.now in
    let index = index_in c.live.result.now in
    let changes = c.changes.result.now.kept in
    body_of_stack (stack_in chain) index changes c.put_body.new.sink c.live.ensures.index c.changes.ensures.lead c.changes.ensures.end
    (omega (arith, length-older_by (index_in chain.live) chain.changes.kept, chain.kept)) chain.live.sound c.in-Ok.ensures.fits
    (c.in-Ok.ensures.ok [] c.empty-body.ensures)

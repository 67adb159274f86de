use Rattle.std.proofs.Common.{◌≡◌}
use Rattle.std.proofs.lemmas.Result.{IfOk-weaker}
use Rattle.ox_model.specs.Change.{undone}
use Rattle.ox_index.specs.Chain.{stack_in}
use Rattle.ox_index.proofs.KeptBlocks.{newest_ends}
use Rattle.ox_checkpoint.proofs.KeepLemmas.{keeps_change}
use Rattle.ox_rows.specs.RowFits.{FitsChange}
use Rattle.ox_rows.specs.RowSpelling.{change_rows}
use Rattle.ox_store.proofs.WritingLemmas.{and_ok, none_there, rows_lead}
use Rattle.ox_store.proofs.writing.newest_rows.Goals as goal

pub write_change-requires : goal.write_change-requires
write_change-requires c =
    let chain = c.args.chain.now in
    let stack = stack_in chain in
    let change = c.in-Some.change.now in
    let ends = newest_ends stack.profile stack.index c.changes.result.now.kept change c.changes.ensures.end c.in-Some.ensures in
    keeps_change stack.profile (undone stack.index change) stack.index change chain.live.parts.known ends.leads ends.sound chain.live.sound

pub returns : goal.returns
returns c before block is =
    let chain = c.args.chain.now in
    let stack = stack_in chain in
    let change = c.in-Some.change.now in
    IfOk-weaker c.write_change.result _ _
    (λ rows spelled. rows_lead before stack block c.changes.result.now.kept change rows is chain.some c.changes.ensures.lead c.in-Some.ensures chain.live.sound spelled.1 spelled.0)
    (and_ok c.write_change.result (λ rows. rows ≡ change_rows change) (λ rows. FitsChange change) c.write_change.ensures.rows c.write_change.ensures.fits)

pub unreachable-requires : goal.unreachable-requires
unreachable-requires c =
    let stack = stack_in c.args.chain.now in
    none_there stack.index stack.older c.changes.result.now.kept c.changes.ensures.lead c.in-None.ensures c.requires

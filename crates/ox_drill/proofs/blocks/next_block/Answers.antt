use Rattle.std.proofs.Common.{◌∙◌, ap, get_or}
use Rattle.ox_block.specs.Spelling.{spell}
use Rattle.ox_drill.proofs.MadeBlocks.{block_is, next_is}
use Rattle.ox_drill.proofs.blocks.next_block.Goals as goal

pub returns-clause-bytes : goal.returns-clause-bytes
returns-clause-bytes c =
    let behind = c.args.behind.now in
    c.in_ok-bytes.ensures ∙ ap spell (block_is behind.height behind c.in_ok-block.block c.requires.place c.in_ok-block.ensures)

pub returns-clause-next : goal.returns-clause-next
returns-clause-next c =
    let behind = c.args.behind.now in
    let block = c.in_ok-block.block in
    let first = c.index-as_slice-0.result in
    next_is behind.height block c.hash-tip.result c.txid_of-paid.result first (block_is behind.height behind block c.requires.place c.in_ok-block.ensures)
    c.hash-tip.ensures c.txid_of-paid.ensures (c.index-as_slice-0.is ∙ ap (λ all. get_or all 0 first) c.as_slice.ensures)

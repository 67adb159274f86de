use Rattle.ox_replies.specs.Blocks.{block_tree}
use Rattle.ox_query.proofs.Arrays.{first_tree}
use Rattle.ox_query.proofs.block.block_body.Goals as goal

pub returns : goal.returns
returns c =
    let tree = block_tree c.args.height c.args.hash.now in
    c.into_bytes.ensures tree (first_tree c.new-out.result c.write_block.new.out tree c.new-out.ensures c.write_block.ensures)

use Rattle.ox_replies.specs.Runes.{rune_tree}
use Rattle.ox_query.proofs.Arrays.{first_tree}
use Rattle.ox_query.proofs.rune.body_with.Goals as goal

pub returns : goal.returns
returns g c =
    let tree = rune_tree (g.V.View.index c.args.live.now) c.args.n c.args.row.now in
    c.into_bytes.ensures tree (first_tree c.new-out.result c.write_rune.new.out tree c.new-out.ensures c.write_rune.ensures)

use Rattle.ox_replies.specs.Pages.{page_tree}
use Rattle.ox_query.proofs.Arrays.{first_tree}
use Rattle.ox_query.proofs.pages.body_of_page.Goals as goal

pub returns : goal.returns
returns g c =
    let tree = page_tree g.R.Numbered.id_of (g.R.Numbered.rows (g.V.View.index c.args.live.now)) c.args.page in
    c.into_bytes.ensures tree (first_tree c.new-out.result c.write_page.new.out tree c.new-out.ensures c.write_page.ensures)

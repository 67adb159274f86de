use Rattle.std.proofs.Common.{map}
use Rattle.serde_json.specs.Data.{array}
use Rattle.serde_json.specs.View.{items_of}
use Rattle.ox_query.specs.Paged.{page_end}
use Rattle.ox_query.specs.Written.{tokens_of}
use Rattle.ox_query.proofs.PageRows.{entries_are, more_are}
use Rattle.ox_query.proofs.Steps.{same, ◌▸◌}
use Rattle.ox_query.proofs.pages.write_page.Goals as goal

pub returns : goal.returns
returns g c =
    let rows = g.R.Numbered.rows (g.V.View.index c.args.live.now) in
    let len = c.count.result in
    let page = c.page_of-rows in
    c.begin_object.ensures
    ▸ c.key.ensures
    ▸ same (λ entries. tokens_of (array (items_of (map g.R.Numbered.id_of entries))))
    (entries_are c.args.page len rows c.count.ensures page.result.first page.result.end page.ensures.first page.ensures.end) c.write_ids_between.ensures
    ▸ same (λ more. page_end more c.args.page) (more_are c.args.page len rows c.count.ensures page.result.more page.ensures.more) c.write_page_end.ensures
    ▸ c.end_object.ensures

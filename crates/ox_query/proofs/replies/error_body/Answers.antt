use Rattle.ox_replies.specs.Errors.{error_tree}
use Rattle.ox_query.proofs.Arrays.{first_tree}
use Rattle.ox_query.proofs.replies.error_body.Goals as goal

pub returns : goal.returns
returns c =
    let tree = error_tree c.args.status in
    c.into_bytes.ensures tree (first_tree c.new-out.result c.write_error.new.out tree c.new-out.ensures c.write_error.ensures)

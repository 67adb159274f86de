use Rattle.ox_replies.proofs.Floats.{tree_plain}
use Rattle.ox_replies.proofs.laws.trees_have_no_floats.Goals as goal

pub returns : goal.returns
returns c = tree_plain

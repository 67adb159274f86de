-- Key by key.
use Rattle.ox_replies.proofs.Rising.{error_rises, tree_rises}
use Rattle.ox_replies.proofs.keys.trees_have_rising_keys.Goals as goal

pub returns : goal.returns
returns c = record { trees = tree_rises; errors = error_rises }

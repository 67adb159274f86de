use Rattle.ox_follow.proofs.Following.{holds_prefixes}
use Rattle.ox_pieces.specs.Stood.{rules_of}
use Rattle.ox_pieces.proofs.laws.followers_hold_prefixes.Goals as goal

pub returns : goal.returns
returns c generation body stack events = holds_prefixes (rules_of stack) generation body stack events

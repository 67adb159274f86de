use Rattle.ox_ledger.proofs.TurnSteps.{pointer_within}
use Rattle.ox_ledger.proofs.tables.deal.Goals as goal

pub allocate-requires : goal.allocate-requires
allocate-requires c = record { pointer = pointer_within c.in-Stone.stone c.args.outputs.now c.args.artifact c.in-Stone.is c.requires }

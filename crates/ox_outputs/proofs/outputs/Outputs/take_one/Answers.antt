use Rattle.std.proofs.Common.{sym}
use Rattle.ox_outputs.specs.Slots.{rows_of}
use Rattle.ox_outputs.proofs.SlotLemmas.{put_none}
use Rattle.ox_outputs.proofs.outputs.Outputs.take_one.Goals as goal

pub returns-in-None-clause-ok : goal.returns-in-None-clause-ok
returns-in-None-clause-ok c = sym (put_none (rows_of c.args.self.now.slots) c.args.at.now c.in-None.ensures.none)

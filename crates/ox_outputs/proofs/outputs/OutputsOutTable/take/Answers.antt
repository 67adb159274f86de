use Rattle.std.proofs.Common.{sym}
use Rattle.ox_outputs.specs.Slots.{rows_of}
use Rattle.ox_outputs.proofs.SlotLemmas.{put_none}
use Rattle.ox_outputs.proofs.outputs.OutputsOutTable.take.Goals as goal

pub returns-in_default-clause-ok : goal.returns-in_default-clause-ok
returns-in_default-clause-ok c = sym (put_none (rows_of c.args.self.now.slots) c.args.at.now c.in_default.ensures.none)

pub returns-in_default-row-clause-ok : goal.returns-in_default-row-clause-ok
returns-in_default-row-clause-ok c =
    sym (put_none (rows_of c.args.self.now.slots) c.args.at.now (sym (c.in_default-row.ensures.row c.args.at.now c.in-Some.ensures.some)))

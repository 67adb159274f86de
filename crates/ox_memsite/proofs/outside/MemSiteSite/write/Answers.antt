use Rattle.std.proofs.Common.{List, Some, ap, refl}
use Rattle.ox_outside.specs.Event.{Event}
use Rattle.ox_memsite.proofs.Disks.{write_written, write_cut_short, write_log, write_crash, write_call}
use Rattle.ox_memsite.proofs.outside.MemSiteSite.write.Goals as goal

pub returns-clause-written : goal.returns-clause-written
returns-clause-written c told = write_written c.args.file c.args.at c.args.bytes.now c.write.result _ _ c.write.ensures.outcome

pub returns-clause-cut_short : goal.returns-clause-cut_short
returns-clause-cut_short c told = write_cut_short c.args.file c.args.at c.args.bytes.now c.write.result _ _ c.write.ensures.outcome

pub returns-clause-logged : goal.returns-clause-logged
returns-clause-logged c = ap (λ (l : List Event). Some l) (write_log c.args.file c.args.at c.args.bytes.now c.write.result _ _ c.write.ensures.outcome)

pub returns-clause-crash : goal.returns-clause-crash
returns-clause-crash c = write_crash c.args.file c.args.at c.args.bytes.now c.write.result _ _ (c.requires refl) c.write.ensures.outcome

pub returns-clause-call : goal.returns-clause-call
returns-clause-call c = write_call c.args.file c.args.at c.args.bytes.now c.write.result _ _ c.write.ensures.outcome

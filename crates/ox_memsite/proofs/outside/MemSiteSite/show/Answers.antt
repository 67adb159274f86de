use Rattle.std.proofs.Common.{List, Some, ap}
use Rattle.ox_outside.specs.Event.{Event}
use Rattle.ox_memsite.proofs.Moves.{show_noted, noted_log, noted_files, noted_call}
use Rattle.ox_memsite.proofs.outside.MemSiteSite.show.Goals as goal

pub returns-clause-logged : goal.returns-clause-logged
returns-clause-logged c = ap (λ (l : List Event). Some l) (noted_log _ _ _ (show_noted c.args.channel c.args.bytes.now c.show.result _ _ c.show.ensures.outcome))

pub returns-clause-files : goal.returns-clause-files
returns-clause-files c = noted_files _ _ _ (show_noted c.args.channel c.args.bytes.now c.show.result _ _ c.show.ensures.outcome)

pub returns-clause-call : goal.returns-clause-call
returns-clause-call c = noted_call _ _ _ (show_noted c.args.channel c.args.bytes.now c.show.result _ _ c.show.ensures.outcome)

use Rattle.std.proofs.Common.{◌≡◌, List, Some, ap, subst}
use Rattle.ox_outside.specs.Answers.{NeverNamed, IsOpenLink}
use Rattle.ox_outside.specs.Event.{Event}
use Rattle.ox_outside.proofs.Links.{door_opens}
use Rattle.ox_memsite.specs.World.{log_of}
use Rattle.ox_memsite.proofs.RoomLemmas.{past_unnamed}
use Rattle.ox_memsite.proofs.Moves.{door_noted, noted_log, noted_files, noted_call}
use Rattle.ox_memsite.proofs.outside.MemSiteSite.door.Goals as goal

pub returns-clause-logged : goal.returns-clause-logged
returns-clause-logged c = ap (λ (l : List Event). Some l) (noted_log _ _ _ (door_noted c.args.door c.door.result _ _ c.door.ensures.outcome))

pub returns-clause-files : goal.returns-clause-files
returns-clause-files c = noted_files _ _ _ (door_noted c.args.door c.door.result _ _ c.door.ensures.outcome)

pub returns-clause-call : goal.returns-clause-call
returns-clause-call c = noted_call _ _ _ (door_noted c.args.door c.door.result _ _ c.door.ensures.outcome)

pub returns-clause-unnamed : goal.returns-clause-unnamed
returns-clause-unnamed c log is =
    let same : log_of c.args.self.now ≡ log = cc is in
    subst (λ (l : List Event). NeverNamed c.door.result l) same (past_unnamed c.door.result _ c.door.ensures.past)

pub returns-clause-open : goal.returns-clause-open
returns-clause-open c log is =
    let same : log_of c.door.new.self ≡ log = cc is in
    subst (λ (l : List Event). IsOpenLink c.door.result l) same (door_opens c.args.door c.door.result _ _ c.door.ensures.number
    (past_unnamed c.door.result _ c.door.ensures.past)
    (noted_log _ _ _ (door_noted c.args.door c.door.result _ _ c.door.ensures.outcome)))

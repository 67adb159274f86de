-- Files of which each crash leaves what is read, while nothing is written; and what is said of the
-- files as read is said then of each crash.
use Rattle.std.proofs.Common.{◌≡◌, ◌∙◌, List, Option, Some, sym, subst}
use Rattle.ox_outside.specs.Crash.{AddsNothing, LeavesFiles, Remains}
use Rattle.ox_outside.specs.Event.{Event}
use Rattle.ox_outside.specs.Files.{Files}
use Rattle.ox_outside.specs.Log.{Grows}
use Rattle.ox_outside.specs.declared.site.Site.{Ghosts as Meanings}
use Rattle.ox_gated.specs.Tail.{IsSettled}

module _ {S : Type 0} (means : Meanings S) where
  pub settled_talking : (old new : S) → LeavesFiles means.seen means.may_leave old new → IsSettled means old → IsSettled means new
  settled_talking old new files settled r left =
      let q = files.none_new r left in
      q.2 ∙ settled q.0 q.1 ∙ sym files.files

  pub settled_looking : (old new : S) → AddsNothing means.seen means.log means.may_leave old new → IsSettled means old → IsSettled means new
  settled_looking old new nothing settled r left = settled r (nothing.crash r left) ∙ sym nothing.files

  pub said_of_each : (logs_now : (site : S) (r : Remains) → means.may_leave site r → means.log site ≡ Some r.log) → (P : Files → List Event → Type 0) (first : Option (List Event)) (site : S)
      → IsSettled means site → Grows (P (means.seen site)) first (means.log site) → (r : Remains) → means.may_leave site r → Grows (P r.files) first (Some r.log)
  said_of_each logs_now P first site settled grows r left =
      subst (λ (f : Files). Grows (P f) first (Some r.log)) (sym (settled r left))
      (subst (λ (now : Option (List Event)). Grows (P (means.seen site)) first now) (logs_now site r left) grows)

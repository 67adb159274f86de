-- A run that only talks goes on, whatever it says.
use Rattle.std.proofs.Common.{List}
use Rattle.ox_outside.specs.Event.{Event}
use Rattle.ox_outside.specs.declared.site.Site.{Ghosts as Meanings}
use Rattle.ox_outside.specs.Log.{Grows}
use Rattle.ox_app.specs.Fold.{Anything}
use Rattle.ox_outside.proofs.OnlyTalks.{talks_then}
use Rattle.ox_outside.specs.Runs.{OnlyTalks}

module _ {S : Type 0} (means : Meanings S) where
  abbrev Talks : (List Event → Type 0) → S → S → Type 0
  Talks P old new = OnlyTalks means P old new

  pub talks_on : (P Q : List Event → Type 0) (old mid new : S) → Talks Anything old mid → Grows P (means.log old) (means.log mid) → Talks Q mid new → Talks Anything old new
  talks_on P Q old mid new first grown then_ =
      talks_then means Anything P Q Anything old mid new (λ x any. tt) (λ x y p q. tt) first grown then_

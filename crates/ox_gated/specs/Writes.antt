-- What calls on files alone leave of the log.
use Rattle.std.specs.Prelude.{◌≡◌, Some}
use Rattle.ox_outside.specs.Runs.{Calls, LeavesOnly}
use Rattle.ox_outside.specs.declared.site.Site.{Ghosts as Meanings}

-- A run of calls that only writes: no event of a channel is logged, and at each moment of it a
-- crash leaves the log as it stood.
pub record OnlyWrites {S : Type 0} (means : Meanings S) (old new : S) : Type 0 where
  pub calls : Calls means old new
  pub as_logged : means.log new ≡ means.log old
  pub moments : LeavesOnly means old new (λ r. means.log old ≡ Some r.log)

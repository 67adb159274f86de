-- How a run of calls on files goes on: what it leaves of the log, and which of its calls failed.
use Rattle.std.proofs.Common.{◌≡◌, ◌∙◌, sym, subst}
use Rattle.std.specs.Prelude.{Some, Result, Err}
use Rattle.ox_outside.specs.Counts.{Counts, IsFailure, StopsAtFault, NoFault}
use Rattle.ox_outside.specs.Crash.{Remains, OneCall}
use Rattle.ox_outside.specs.Runs.{OnlyLooks}
use Rattle.ox_outside.specs.declared.site.Site.{Ghosts as Meanings}
use Rattle.ox_outside.proofs.Calls.{then_call, leaves_on, leaves_weaker}
use Rattle.ox_outside.proofs.Counts.{stops_as, went_on}
use Rattle.ox_gated.specs.Writes.{OnlyWrites}

-- ---- the log

module _ {S : Type 0} (means : Meanings S) (logs_now : (site : S) (r : Remains) → means.may_leave site r → means.log site ≡ Some r.log) where
  -- one that looks only writes nothing
  pub writes_looking : (old new : S) → OnlyLooks means old new → OnlyWrites means old new
  writes_looking old new looks = record {
    calls = looks.calls;
    as_logged = looks.nothing.as_logged;
    moments = leaves_weaker means old new _ _ (λ r left. logs_now old r left) looks.moments;
  }

  -- one call more
  pub writes_call : (old mid new : S) → OnlyWrites means old mid → means.log new ≡ means.log mid → OneCall means.told means.counts means.clock means.may_leave means.left_since mid new → OnlyWrites means old new
  writes_call old mid new first same call = record {
    calls = then_call means old mid new first.calls call;
    as_logged = same ∙ first.as_logged;
    moments = leaves_on means old mid new _ first.moments call (λ r left. sym first.as_logged ∙ sym same ∙ logs_now new r left);
  }

-- ---- the counts

-- of calls that did their work none failed
pub all_worked : (old new : Counts) → StopsAtFault ⊥ ⊥ ⊥ old new → NoFault old new
all_worked old new stops = went_on ⊥ ⊥ ⊥ old new (λ no. no) (λ no. no) (λ no. no) stops

-- the answer is a failure, whichever call it was that failed
pub ends_failed : {T E : Type 0} (P : Type 0) (result : Result T E) (e : E) (old new : Counts) → result ≡ Err e → StopsAtFault P ⊥ ⊥ old new → StopsAtFault (IsFailure result) ⊥ ⊥ old new
ends_failed P result e old new is stops = stops_as P ⊥ ⊥ (IsFailure result) ⊥ ⊥ old new (λ failed. subst IsFailure (sym is) tt) (λ no. no) (λ no. no) stops

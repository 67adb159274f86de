-- How a run of calls that only writes begins and goes on.
use Rattle.std.proofs.Common.{◌≡◌, ◌∙◌, refl, sym}
use Rattle.std.specs.Prelude.{Some}
use Rattle.ox_outside.proofs.Calls.{calls_then, leaves_at_first, leaves_then, leaves_weaker}
use Rattle.ox_outside.proofs.Calls.{no_call}
use Rattle.ox_outside.specs.Crash.{Remains}
use Rattle.ox_outside.specs.declared.site.Site.{Ghosts as Meanings}
use Rattle.ox_gated.specs.Writes.{OnlyWrites}

-- ---- what a site's laws say of what a crash leaves

-- since now, only what it may leave
abbrev pub OnlyNow : {S : Type 0} → Meanings S → Type 0
OnlyNow means =
    (site : _) (r : Remains) → means.left_since site (means.clock site) r
    → means.may_leave site r

-- the log as it stands
abbrev pub LogsNow : {S : Type 0} → Meanings S → Type 0
LogsNow means =
    (site : _) (r : Remains) → means.may_leave site r → means.log site ≡ Some r.log

-- ---- runs

-- before the first call
pub writes_none : {S : Type 0} (means : Meanings S) → OnlyNow means → LogsNow means → (site : S)
    → OnlyWrites means site site
writes_none means only_now logs_now site = record {
  calls = no_call means site;
  as_logged = refl;
  moments = leaves_at_first means site _ (λ r left. logs_now site r (only_now site r left));
}

-- two runs, one after the other
pub writes_then : {S : Type 0} (means : Meanings S) → LogsNow means → (old mid new : S)
    → OnlyWrites means old mid → OnlyWrites means mid new → OnlyWrites means old new
writes_then means logs_now old mid new first then_ = record {
  calls = calls_then means old mid new first.calls then_.calls;
  as_logged = then_.as_logged ∙ first.as_logged;
  moments = leaves_then means old mid new _ first.moments
      (leaves_weaker means mid new _ _ (λ r is. sym first.as_logged ∙ is) then_.moments);
}

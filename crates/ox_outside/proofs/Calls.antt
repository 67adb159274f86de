-- How a run of calls goes on: what it promises, what a crash leaves during it, and that it only looks.
use Rattle.std.proofs.Common.{◌∙◌, inl, inr, ⊎_elim, refl, arith}
use Rattle.ox_outside.specs.Crash.{Remains, OneCall, AddsNothing}
use Rattle.ox_outside.specs.Runs.{Calls, LeavesOnly, OnlyLooks}
use Rattle.ox_outside.specs.declared.site.Site.{Ghosts as Meanings}
use Rattle.ox_outside.proofs.Counts.{none_fell_yet, none_fell_then}

module _ {S : Type 0} (means : Meanings S) where
  pub no_call : (site : S) → Calls means site site
  no_call site = record { as_told = refl; none_fell = none_fell_yet (means.counts site); later = omega arith; keeps = λ t r le left. left }

  pub calls_then : (old mid new : S) → Calls means old mid → Calls means mid new → Calls means old new
  calls_then old mid new first then_ = record {
    as_told = then_.as_told ∙ first.as_told;
    none_fell = none_fell_then _ _ _ first.none_fell then_.none_fell;
    later = omega (arith, first.later, then_.later);
    keeps = λ t r le left. then_.keeps t r (omega (arith, le, first.later)) (first.keeps t r le left);
  }

  pub one_call : (old new : S) → OneCall means.told means.counts means.clock means.may_leave means.left_since old new → Calls means old new
  one_call old new call = record { as_told = call.as_told; none_fell = call.none_fell; later = call.later; keeps = call.keeps }

  pub then_call : (old mid new : S) → Calls means old mid → OneCall means.told means.counts means.clock means.may_leave means.left_since mid new → Calls means old new
  then_call old mid new first call = calls_then old mid new first (one_call mid new call)

  -- one call more, after which a crash leaves what has P
  pub leaves_on : (old mid new : S) (P : Remains → Type 0) → LeavesOnly means old mid P → OneCall means.told means.counts means.clock means.may_leave means.left_since mid new
      → ((r : Remains) → means.may_leave new r → P r) → LeavesOnly means old new P
  leaves_on old mid new P so_far call here = record {
    later = omega (arith, so_far.later, call.later);
    each = λ r left. ⊎_elim (so_far.each r) (here r) (call.nothing_else (means.clock old) r so_far.later left);
    before = λ t r le left. ⊎_elim (so_far.before t r le) (λ now. inr (here r now)) (call.nothing_else t r (omega (arith, le, so_far.later)) left);
  }

  -- before the first call
  pub leaves_at_first : (site : S) (P : Remains → Type 0) → ((r : Remains) → means.left_since site (means.clock site) r → P r) → LeavesOnly means site site P
  leaves_at_first site P here = record { later = omega arith; each = here; before = λ t r le left. inl left }

  -- two runs, one after the other
  pub leaves_then : (old mid new : S) (P : Remains → Type 0) → LeavesOnly means old mid P → LeavesOnly means mid new P → LeavesOnly means old new P
  leaves_then old mid new P first then_ = record {
    later = omega (arith, first.later, then_.later);
    each = λ r left. ⊎_elim (first.each r) (λ p. p) (then_.before (means.clock old) r first.later left);
    before = λ t r le left. ⊎_elim (first.before t r le) (λ p. inr p) (then_.before t r (omega (arith, le, first.later)) left);
  }

  pub leaves_weaker : (old new : S) (P Q : Remains → Type 0) → ((r : Remains) → P r → Q r) → LeavesOnly means old new P → LeavesOnly means old new Q
  leaves_weaker old new P Q weaker so_far = record {
    later = so_far.later;
    each = λ r left. weaker r (so_far.each r left);
    before = λ t r le left. ⊎_elim (λ l. inl l) (λ p. inr (weaker r p)) (so_far.before t r le left);
  }

  -- ---- runs that only look

  pub looks_none : (only_now : (site : S) (r : Remains) → means.left_since site (means.clock site) r → means.may_leave site r) (site : S) → OnlyLooks means site site
  looks_none only_now site = record {
    calls = no_call site;
    nothing = record { files = refl; as_logged = refl; crash = λ r left. left };
    moments = leaves_at_first site (means.may_leave site) (only_now site);
  }

  pub looks_then : (old mid new : S) → OnlyLooks means old mid → OnlyLooks means mid new → OnlyLooks means old new
  looks_then old mid new first then_ = record {
    calls = calls_then old mid new first.calls then_.calls;
    nothing = record {
      files = then_.nothing.files ∙ first.nothing.files;
      as_logged = then_.nothing.as_logged ∙ first.nothing.as_logged;
      crash = λ r left. first.nothing.crash r (then_.nothing.crash r left);
    };
    moments = leaves_then old mid new (means.may_leave old) first.moments (leaves_weaker mid new (means.may_leave mid) (means.may_leave old) first.nothing.crash then_.moments);
  }

  -- one call more
  pub looks_call : (old mid new : S) → OnlyLooks means old mid → AddsNothing means.seen means.log means.may_leave mid new → OneCall means.told means.counts means.clock means.may_leave means.left_since mid new → OnlyLooks means old new
  looks_call old mid new first nothing call = record {
    calls = then_call old mid new first.calls call;
    nothing = record {
      files = nothing.files ∙ first.nothing.files;
      as_logged = nothing.as_logged ∙ first.nothing.as_logged;
      crash = λ r left. first.nothing.crash r (nothing.crash r left);
    };
    moments = leaves_on old mid new (means.may_leave old) first.moments call (λ r left. first.nothing.crash r (nothing.crash r left));
  }

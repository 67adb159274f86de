-- What the call on a link's channel comes to.
use Rattle.std.proofs.Common.{suc, ◌≡◌, ◌≤◌, ◌==◌, length, sym, arith, ◌∙◌, ℕ, Bool, true, false, List, [], ◌∷◌, ◌++◌, Option, Some, None, refl, ap, inl, inr, ◌⊎◌, if◌then◌else◌}
use Rattle.std.specs.Option.{ForSome}
use Rattle.ox_outside.specs.Crash.{LeavesFiles, OneCall, Remains}
use Rattle.ox_outside.specs.Event.{Event, Broke, fault_events, has_broken}
use Rattle.ox_outside.specs.Log.{Adds}
use Rattle.ox_outside.specs.declared.site.Site.{Ghosts as Meanings}
use Rattle.ox_outside.proofs.Log.{adds_grows}
use Rattle.ox_outside.proofs.OnlyTalks.{talks_once}
use Rattle.ox_session.specs.Link.{Link}
use Rattle.ox_turns.specs.Turn.{Comes, ComesTo}
use Rattle.ox_turns.specs.declared.link.Came.{Came}

abbrev pub OnlyNow : {S : Type 0} → Meanings S → Type 0
OnlyNow {S = S} means = (site : S) (r : Remains) → means.left_since site (means.clock site) r → means.may_leave site r

abbrev pub LogsNow : {S : Type 0} → Meanings S → Type 0
LogsNow {S = S} means = (site : S) (r : Remains) → means.may_leave site r → means.log site ≡ Some r.log

pub comes_by : {S : Type 0} (means : Meanings S) → OnlyNow means → LogsNow means → (came : Came) (c : ℕ) (old new : Link) (before after : S) (events : List Event)
    → Comes came c old new events → Adds (λ log. events) (means.log before) (means.log after) → LeavesFiles means.seen means.may_leave before after
    → OneCall means.told means.counts means.clock means.may_leave means.left_since before after → ComesTo means came c old new before after
comes_by means only_now logs_now came c old new before after events comes adds files call = record {
  events = events;
  comes = comes;
  adds = adds;
  talks = talks_once means only_now logs_now (λ (added : List Event). (added ≡ []) ⊎ (added ≡ events)) before after (inl refl) files call
      (adds_grows (λ log. events) (λ (added : List Event). (added ≡ []) ⊎ (added ≡ events)) (means.log before) (means.log after) (λ log. inr refl) adds);
}

-- the first failure of a link is logged
pub adds_broke : (c : ℕ) (old new : Option (List Event)) → ForSome old (λ log. has_broken c log ≡ false) → Adds (fault_events c) old new → Adds (λ log. Broke c ∷ []) old new
adds_broke c None new whole adds = adds
adds_broke c (Some log) new whole adds = adds ∙ ap (λ (b : Bool). Some (log ++ (if b then [] else Broke c ∷ []))) (whole log refl)

never : (n : ℕ) → (suc n == 0) ≡ false
never n = grind arith

-- what a test for no bytes says
pub empty_is : (l : List ℕ) (b : Bool) → b ≡ (length l == 0) → b ≡ true → l ≡ []
empty_is [] b is so = refl
empty_is (x ∷ l) b is so = absurd (let e : false ≡ true = sym (never (length l)) ∙ sym is ∙ so in cc e)

pub some_is : (l : List ℕ) (b : Bool) → b ≡ (length l == 0) → b ≡ false → 1 ≤ length l
some_is [] b is so = absurd (let e : true ≡ false = sym is ∙ so in cc e)
some_is (x ∷ l) b is so = omega arith

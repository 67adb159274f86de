-- What is known of a link that no event names yet, and of one that is open.
use Rattle.std.proofs.Common.{◌≡◌, ◌∙◌, ◌≤◌, ◌++◌, ◌||◌, ◌&&◌, ◌==◌, ℕ, Bool, true, false, not, List, [], ◌∷◌, if◌then◌else◌, refl, sym, ap, subst, arith}
use Rattle.std.specs.Prelude.{Option, Some, None, Result, Ok, Err}
use Rattle.ox_outside.specs.Answers.{IsLinkNumber, NeverNamed, IsOpenLink}
use Rattle.ox_outside.specs.Event.{Event, Opened, Heard, Ended, Showed, Broke, GaveUp, Shut, is_named, heard_bytes, shown_bytes, has_ended, has_broken, was_opened, was_shut, has_given_up, is_there, is_open, hear_events, show_events, door_events}
use Rattle.ox_outside.specs.declared.site.Doorway.{Doorway}
use Rattle.ox_outside.specs.declared.site.Failed.{Failed}
use Rattle.ox_outside.specs.declared.site.Heard.{Heard as HeardAnswer}
use Rattle.ox_outside.specs.declared.site.Heard.TheVariants.{Bytes, NotYet as HeardNothing, End}
use Rattle.ox_outside.specs.declared.site.Shown.{Shown as ShownAnswer}
use Rattle.ox_outside.specs.declared.site.Shown.TheVariants.{Took, NotYet as TookNothing}
use Rattle.ox_outside.proofs.Event.{was_opened-append, was_shut-append, has_given_up-append}

left_false : (a b : Bool) → (a || b) ≡ false → a ≡ false
left_false true b is = is
left_false false b is = refl

right_false : (a b : Bool) → (a || b) ≡ false → b ≡ false
right_false true b is = absurd (cc is)
right_false false b is = is

neither : (a b : Bool) → a ≡ false → b ≡ false → (a || b) ≡ false
neither true b is_a is_b = is_a
neither false b is_a is_b = is_b

module _ (channel : ℕ) where
  another : (c : ℕ) (log : List Event) → ((c == channel) || is_named channel log) ≡ false → (c == channel) ≡ false
  another c log is = left_false (c == channel) (is_named channel log) is

  none_later : (c : ℕ) (log : List Event) → ((c == channel) || is_named channel log) ≡ false → is_named channel log ≡ false
  none_later c log is = right_false (c == channel) (is_named channel log) is

  passed_over : (b : Bool) (x y : List ℕ) → b ≡ false → y ≡ [] → (if b then x else y) ≡ []
  passed_over true x y is none = absurd (cc is)
  passed_over false x y is none = none

  pub unnamed_heard : (log : List Event) → is_named channel log ≡ false → heard_bytes channel log ≡ []
  unnamed_heard [] is = refl
  unnamed_heard (Heard c bytes ∷ log) is = passed_over (c == channel) (bytes ++ heard_bytes channel log) (heard_bytes channel log) (another c log is) (unnamed_heard log (none_later c log is))
  unnamed_heard (Opened c door ∷ log) is = unnamed_heard log (none_later c log is)
  unnamed_heard (Ended c ∷ log) is = unnamed_heard log (none_later c log is)
  unnamed_heard (Showed c bytes ∷ log) is = unnamed_heard log (none_later c log is)
  unnamed_heard (Broke c ∷ log) is = unnamed_heard log (none_later c log is)
  unnamed_heard (GaveUp c ∷ log) is = unnamed_heard log (none_later c log is)
  unnamed_heard (Shut c ∷ log) is = unnamed_heard log (none_later c log is)

  pub unnamed_shown : (log : List Event) → is_named channel log ≡ false → shown_bytes channel log ≡ []
  unnamed_shown [] is = refl
  unnamed_shown (Showed c bytes ∷ log) is = passed_over (c == channel) (bytes ++ shown_bytes channel log) (shown_bytes channel log) (another c log is) (unnamed_shown log (none_later c log is))
  unnamed_shown (Opened c door ∷ log) is = unnamed_shown log (none_later c log is)
  unnamed_shown (Heard c bytes ∷ log) is = unnamed_shown log (none_later c log is)
  unnamed_shown (Ended c ∷ log) is = unnamed_shown log (none_later c log is)
  unnamed_shown (Broke c ∷ log) is = unnamed_shown log (none_later c log is)
  unnamed_shown (GaveUp c ∷ log) is = unnamed_shown log (none_later c log is)
  unnamed_shown (Shut c ∷ log) is = unnamed_shown log (none_later c log is)

  pub unnamed_ended : (log : List Event) → is_named channel log ≡ false → has_ended channel log ≡ false
  unnamed_ended [] is = refl
  unnamed_ended (Ended c ∷ log) is = neither (c == channel) _ (another c log is) (unnamed_ended log (none_later c log is))
  unnamed_ended (Opened c door ∷ log) is = unnamed_ended log (none_later c log is)
  unnamed_ended (Heard c bytes ∷ log) is = unnamed_ended log (none_later c log is)
  unnamed_ended (Showed c bytes ∷ log) is = unnamed_ended log (none_later c log is)
  unnamed_ended (Broke c ∷ log) is = unnamed_ended log (none_later c log is)
  unnamed_ended (GaveUp c ∷ log) is = unnamed_ended log (none_later c log is)
  unnamed_ended (Shut c ∷ log) is = unnamed_ended log (none_later c log is)

  pub unnamed_broken : (log : List Event) → is_named channel log ≡ false → has_broken channel log ≡ false
  unnamed_broken [] is = refl
  unnamed_broken (Broke c ∷ log) is = neither (c == channel) _ (another c log is) (unnamed_broken log (none_later c log is))
  unnamed_broken (Opened c door ∷ log) is = unnamed_broken log (none_later c log is)
  unnamed_broken (Heard c bytes ∷ log) is = unnamed_broken log (none_later c log is)
  unnamed_broken (Ended c ∷ log) is = unnamed_broken log (none_later c log is)
  unnamed_broken (Showed c bytes ∷ log) is = unnamed_broken log (none_later c log is)
  unnamed_broken (GaveUp c ∷ log) is = unnamed_broken log (none_later c log is)
  unnamed_broken (Shut c ∷ log) is = unnamed_broken log (none_later c log is)

  pub unnamed_given_up : (log : List Event) → is_named channel log ≡ false → has_given_up channel log ≡ false
  unnamed_given_up [] is = refl
  unnamed_given_up (GaveUp c ∷ log) is = neither (c == channel) _ (another c log is) (unnamed_given_up log (none_later c log is))
  unnamed_given_up (Opened c door ∷ log) is = unnamed_given_up log (none_later c log is)
  unnamed_given_up (Heard c bytes ∷ log) is = unnamed_given_up log (none_later c log is)
  unnamed_given_up (Ended c ∷ log) is = unnamed_given_up log (none_later c log is)
  unnamed_given_up (Showed c bytes ∷ log) is = unnamed_given_up log (none_later c log is)
  unnamed_given_up (Broke c ∷ log) is = unnamed_given_up log (none_later c log is)
  unnamed_given_up (Shut c ∷ log) is = unnamed_given_up log (none_later c log is)

  pub unnamed_shut : (log : List Event) → is_named channel log ≡ false → was_shut channel log ≡ false
  unnamed_shut [] is = refl
  unnamed_shut (Shut c ∷ log) is = neither (c == channel) _ (another c log is) (unnamed_shut log (none_later c log is))
  unnamed_shut (Opened c door ∷ log) is = unnamed_shut log (none_later c log is)
  unnamed_shut (Heard c bytes ∷ log) is = unnamed_shut log (none_later c log is)
  unnamed_shut (Ended c ∷ log) is = unnamed_shut log (none_later c log is)
  unnamed_shut (Showed c bytes ∷ log) is = unnamed_shut log (none_later c log is)
  unnamed_shut (Broke c ∷ log) is = unnamed_shut log (none_later c log is)
  unnamed_shut (GaveUp c ∷ log) is = unnamed_shut log (none_later c log is)

or_true : (a b : Bool) → b ≡ true → (a || (b || false)) ≡ true
or_true true b is = refl
or_true false true is = refl
or_true false false is = is

open_where : (z o s : Bool) → z ≡ false → o ≡ true → s ≡ false → (not z && (z || (o && not s))) ≡ true
open_where true o s is_z is_o is_s = absurd (cc is_z)
open_where false true false is_z is_o is_s = refl
open_where false true true is_z is_o is_s = absurd (cc is_s)
open_where false false s is_z is_o is_s = absurd (cc is_o)

not_zero : (channel : ℕ) → 1 ≤ channel → (channel == 0) ≡ false
not_zero channel one = grind (arith, one)

same : (n : ℕ) → (n == n) ≡ true
same n = grind arith

-- a link that comes under a number that no event names is open
pub opened_open : (channel : ℕ) (door : Doorway) (log : List Event) → 1 ≤ channel → is_named channel log ≡ false → is_open channel (log ++ Opened channel door ∷ []) ≡ true
opened_open channel door log one is = open_where (channel == 0) _ _ (not_zero channel one)
    (was_opened-append channel log (Opened channel door ∷ []) ∙ or_true (was_opened channel log) (channel == channel) (same channel))
    (was_shut-append channel log (Opened channel door ∷ []) ∙ neither (was_shut channel log) false (unnamed_shut channel log is) refl)

-- the same of what a door answers
pub door_opens : (door : Doorway) (result : Result (Option ℕ) Failed) (log new : List Event) → IsLinkNumber result → NeverNamed result log → new ≡ log ++ door_events door result log → IsOpenLink result new
door_opens door (Ok (Some channel)) log new number unnamed is = ap (is_open channel) is ∙ opened_open channel door log number unnamed
door_opens door (Ok None) log new number unnamed is = tt
door_opens door (Err failed) log new number unnamed is = tt

there_where : (z t : Bool) → (not z && t) ≡ true → t ≡ true
there_where true t is = absurd (cc is)
there_where false t is = is

-- an open link is there
pub open_there : (channel : ℕ) (log : List Event) → is_open channel log ≡ true → is_there channel log ≡ true
open_there channel log is = there_where (channel == 0) (is_there channel log) is

-- ---- what stays so as other events are logged

still_where : (z o s more_o more_s : Bool) → more_s ≡ false → (z || (o && not s)) ≡ true → (z || ((o || more_o) && not (s || more_s))) ≡ true
still_where true o s more_o more_s none is = refl
still_where false true false more_o false none is = refl
still_where false true false more_o true none is = absurd (cc none)
still_where false true true more_o more_s none is = absurd (cc is)
still_where false false s more_o more_s none is = absurd (cc is)

still_both : (z t more : Bool) → (t ≡ true → more ≡ true) → (not z && t) ≡ true → (not z && more) ≡ true
still_both true t more follows is = absurd (cc is)
still_both false t more follows is = follows is

module _ (channel : ℕ) (log more : List Event) where
  pub still_there : was_shut channel more ≡ false → is_there channel log ≡ true → is_there channel (log ++ more) ≡ true
  still_there none is =
      subst (λ (o : Bool). ((channel == 0) || (o && not (was_shut channel (log ++ more)))) ≡ true) (sym (was_opened-append channel log more)) (
      subst (λ (s : Bool). ((channel == 0) || ((was_opened channel log || was_opened channel more) && not s)) ≡ true) (sym (was_shut-append channel log more)) (
      still_where (channel == 0) (was_opened channel log) (was_shut channel log) (was_opened channel more) (was_shut channel more) none is))

  pub still_open : was_shut channel more ≡ false → is_open channel log ≡ true → is_open channel (log ++ more) ≡ true
  still_open none is = still_both (channel == 0) (is_there channel log) (is_there channel (log ++ more)) (still_there none) is

  pub still_whole : has_given_up channel more ≡ false → has_given_up channel log ≡ false → has_given_up channel (log ++ more) ≡ false
  still_whole none is = has_given_up-append channel log more ∙ neither (has_given_up channel log) (has_given_up channel more) is none

-- a failure shuts no link, and gives none up
module _ (c channel : ℕ) where
  fault_shuts : (b : Bool) → was_shut c (if b then [] else Broke channel ∷ []) ≡ false
  fault_shuts true = refl
  fault_shuts false = refl

  fault_gives_up : (b : Bool) → has_given_up c (if b then [] else Broke channel ∷ []) ≡ false
  fault_gives_up true = refl
  fault_gives_up false = refl

  -- nor does what is heard or shown
  pub hear_shuts_none : (room : List ℕ) (result : Result HeardAnswer Failed) (log : List Event) → was_shut c (hear_events channel room result log) ≡ false
  hear_shuts_none room (Ok (Bytes n)) log = refl
  hear_shuts_none room (Ok HeardNothing) log = refl
  hear_shuts_none room (Ok End) log = refl
  hear_shuts_none room (Err failed) log = fault_shuts (has_broken channel log)

  pub hear_gives_none_up : (room : List ℕ) (result : Result HeardAnswer Failed) (log : List Event) → has_given_up c (hear_events channel room result log) ≡ false
  hear_gives_none_up room (Ok (Bytes n)) log = refl
  hear_gives_none_up room (Ok HeardNothing) log = refl
  hear_gives_none_up room (Ok End) log = refl
  hear_gives_none_up room (Err failed) log = fault_gives_up (has_broken channel log)

  pub show_shuts_none : (bytes : List ℕ) (result : Result ShownAnswer Failed) (log : List Event) → was_shut c (show_events channel bytes result log) ≡ false
  show_shuts_none bytes (Ok (Took n)) log = refl
  show_shuts_none bytes (Ok TookNothing) log = refl
  show_shuts_none bytes (Err failed) log = fault_shuts (has_broken channel log)

  pub show_gives_none_up : (bytes : List ℕ) (result : Result ShownAnswer Failed) (log : List Event) → has_given_up c (show_events channel bytes result log) ≡ false
  show_gives_none_up bytes (Ok (Took n)) log = refl
  show_gives_none_up bytes (Ok TookNothing) log = refl
  show_gives_none_up bytes (Err failed) log = fault_gives_up (has_broken channel log)

-- a link that comes under a number that no event names hasn't given up
pub opened_whole : (channel : ℕ) (door : Doorway) (log : List Event) → is_named channel log ≡ false → has_given_up channel (log ++ Opened channel door ∷ []) ≡ false
opened_whole channel door log is = still_whole channel log (Opened channel door ∷ []) refl (unnamed_given_up channel log is)

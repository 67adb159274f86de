-- What more events do to the room that is owed, and to the numbers that a log names.
use Rattle.std.proofs.Common.{◌≡◌, ◌<◌, ◌≤◌, ℕ, zero, suc, ◌+◌, ◌*◌, max, Bool, true, false, List, [], ◌∷◌, ◌++◌, ◌||◌, ◌==◌, refl, sym, subst, arith, inl, inr}
use Rattle.std.proofs.lemmas.Bool.{cases_eq, eqb-true}
use Rattle.std.specs.Prelude.{Option, Some, None, Result, Ok, Err}
use Rattle.ox_outside.specs.Answers.{NeverNamed}
use Rattle.ox_outside.specs.Event.{Event, Opened, Heard, Ended, Showed, Broke, GaveUp, Shut, channel_of, is_named, has_broken, has_given_up, was_opened, was_shut}
use Rattle.ox_outside.specs.declared.site.Failed.{Failed}
use Rattle.ox_outside.proofs.Event.{has_broken-append, has_given_up-append, was_shut-append}
use Rattle.ox_memsite.specs.Opened.{IsPast}
use Rattle.ox_memsite.specs.Room.{channels_in, one_unless, room_owed_by, room_owed}

one_at_most : (b : Bool) → one_unless b ≤ 1
one_at_most true = omega arith
one_at_most false = omega arith

one_or : (a b : Bool) → one_unless (a || b) ≤ one_unless a
one_or true b = omega arith
one_or false b = one_at_most b

pub owed_most : (n : ℕ) (log : List Event) → room_owed n log ≤ 3 * n
owed_most zero log = omega arith
owed_most (suc n) log = omega (arith, owed_most n log, one_at_most (has_broken n log), one_at_most (has_given_up n log), one_at_most (was_shut n log))

-- more events never let more be owed
room_owed_by-append : (channel : ℕ) (log more : List Event) → room_owed_by channel (log ++ more) ≤ room_owed_by channel log
room_owed_by-append channel log more =
    let broke : one_unless (has_broken channel (log ++ more)) ≤ one_unless (has_broken channel log) = subst (λ (b : Bool). one_unless b ≤ one_unless (has_broken channel log)) (sym (has_broken-append channel log more)) (one_or _ _) in
    let gave : one_unless (has_given_up channel (log ++ more)) ≤ one_unless (has_given_up channel log) = subst (λ (b : Bool). one_unless b ≤ one_unless (has_given_up channel log)) (sym (has_given_up-append channel log more)) (one_or _ _) in
    let shut : one_unless (was_shut channel (log ++ more)) ≤ one_unless (was_shut channel log) = subst (λ (b : Bool). one_unless b ≤ one_unless (was_shut channel log)) (sym (was_shut-append channel log more)) (one_or _ _) in
    omega (arith, broke, gave, shut)

pub room_owed-append : (n : ℕ) (log more : List Event) → room_owed n (log ++ more) ≤ room_owed n log
room_owed-append zero log more = omega arith
room_owed-append (suc n) log more =
    let one : room_owed_by n (log ++ more) ≤ room_owed_by n log = room_owed_by-append n log more in
    omega (arith, room_owed-append n log more, one)

-- where one channel owes one less, so do all
owed_one : (n channel : ℕ) (log more : List Event) → channel < n → room_owed_by channel (log ++ more) + 1 ≤ room_owed_by channel log → room_owed n (log ++ more) + 1 ≤ room_owed n log
owed_one zero channel log more below less = absurd (omega (arith, below))
owed_one (suc n) channel log more below less = elim (cases_eq channel n) [
  | inl same ↦
      let one : room_owed_by n (log ++ more) + 1 ≤ room_owed_by n log = subst (λ (k : ℕ). room_owed_by k (log ++ more) + 1 ≤ room_owed_by k log) same less in
      omega (arith, room_owed-append n log more, one)
  | inr other ↦
      let one : room_owed_by n (log ++ more) ≤ room_owed_by n log = room_owed_by-append n log more in
      let rest = owed_one n channel log more (omega (arith, below, other)) less in
      omega (arith, rest, one)
]

spent : (a b : Bool) → a ≡ false → b ≡ true → one_unless (a || b) + 1 ≤ one_unless a
spent true b is_false is_true = absurd (cc is_false)
spent false true is_false is_true = omega arith
spent false false is_false is_true = absurd (cc is_true)

pub eqb-same : (n : ℕ) → (n == n) ≡ true
eqb-same n = grind arith

module _ (n channel : ℕ) (log : List Event) (below : channel < n) where
  or_itself : (b : Bool) → b ≡ true → (b || false) ≡ true
  or_itself true is = refl
  or_itself false is = is

  less_by : (x y z x' y' z' : ℕ) → x' + 1 ≤ x → y' ≤ y → z' ≤ z → x' + y' + z' + 1 ≤ x + y + z
  less_by x y z x' y' z' hx hy hz = omega (arith, hx, hy, hz)

  pub owed_broke : has_broken channel log ≡ false → room_owed n (log ++ Broke channel ∷ []) + 1 ≤ room_owed n log
  owed_broke whole = owed_one n channel log (Broke channel ∷ []) below (
      let broke : one_unless (has_broken channel (log ++ Broke channel ∷ [])) + 1 ≤ one_unless (has_broken channel log) = subst (λ (b : Bool). one_unless b + 1 ≤ one_unless (has_broken channel log)) (sym (has_broken-append channel log (Broke channel ∷ []))) (spent _ _ whole (or_itself _ (eqb-same channel))) in
      let gave : one_unless (has_given_up channel (log ++ Broke channel ∷ [])) ≤ one_unless (has_given_up channel log) = subst (λ (b : Bool). one_unless b ≤ one_unless (has_given_up channel log)) (sym (has_given_up-append channel log (Broke channel ∷ []))) (one_or _ _) in
      let shut : one_unless (was_shut channel (log ++ Broke channel ∷ [])) ≤ one_unless (was_shut channel log) = subst (λ (b : Bool). one_unless b ≤ one_unless (was_shut channel log)) (sym (was_shut-append channel log (Broke channel ∷ []))) (one_or _ _) in
      omega (arith, broke, gave, shut))

  pub owed_gave_up : has_given_up channel log ≡ false → room_owed n (log ++ GaveUp channel ∷ []) + 1 ≤ room_owed n log
  owed_gave_up whole = owed_one n channel log (GaveUp channel ∷ []) below (
      let broke : one_unless (has_broken channel (log ++ GaveUp channel ∷ [])) ≤ one_unless (has_broken channel log) = subst (λ (b : Bool). one_unless b ≤ one_unless (has_broken channel log)) (sym (has_broken-append channel log (GaveUp channel ∷ []))) (one_or _ _) in
      let gave : one_unless (has_given_up channel (log ++ GaveUp channel ∷ [])) + 1 ≤ one_unless (has_given_up channel log) = subst (λ (b : Bool). one_unless b + 1 ≤ one_unless (has_given_up channel log)) (sym (has_given_up-append channel log (GaveUp channel ∷ []))) (spent _ _ whole (or_itself _ (eqb-same channel))) in
      let shut : one_unless (was_shut channel (log ++ GaveUp channel ∷ [])) ≤ one_unless (was_shut channel log) = subst (λ (b : Bool). one_unless b ≤ one_unless (was_shut channel log)) (sym (was_shut-append channel log (GaveUp channel ∷ []))) (one_or _ _) in
      omega (arith, broke, gave, shut))

  pub owed_shut : was_shut channel log ≡ false → room_owed n (log ++ Shut channel ∷ []) + 1 ≤ room_owed n log
  owed_shut whole = owed_one n channel log (Shut channel ∷ []) below (
      let broke : one_unless (has_broken channel (log ++ Shut channel ∷ [])) ≤ one_unless (has_broken channel log) = subst (λ (b : Bool). one_unless b ≤ one_unless (has_broken channel log)) (sym (has_broken-append channel log (Shut channel ∷ []))) (one_or _ _) in
      let gave : one_unless (has_given_up channel (log ++ Shut channel ∷ [])) ≤ one_unless (has_given_up channel log) = subst (λ (b : Bool). one_unless b ≤ one_unless (has_given_up channel log)) (sym (has_given_up-append channel log (Shut channel ∷ []))) (one_or _ _) in
      let shut : one_unless (was_shut channel (log ++ Shut channel ∷ [])) + 1 ≤ one_unless (was_shut channel log) = subst (λ (b : Bool). one_unless b + 1 ≤ one_unless (was_shut channel log)) (sym (was_shut-append channel log (Shut channel ∷ []))) (spent _ _ whole (or_itself _ (eqb-same channel))) in
      omega (arith, broke, gave, shut))

-- ---- the numbers that a log names

pub one_at_least : (log : List Event) → 1 ≤ channels_in log
one_at_least [] = omega arith
one_at_least (event ∷ log) = omega (arith, one_at_least log)

pub channels_in-append : (x y : List Event) → channels_in (x ++ y) ≡ max (channels_in x) (channels_in y)
channels_in-append [] y = omega (arith, one_at_least y)
channels_in-append (event ∷ x) y = omega (arith, channels_in-append x y)

later_than : (a b : Bool) → (a ≡ true → ⊥) → b ≡ false → (a || b) ≡ false
later_than true b never is = absurd (never refl)
later_than false b never is = is

-- a number past every one of the log is named by no event
pub never_named : (channel : ℕ) (log : List Event) → channels_in log ≤ channel → is_named channel log ≡ false
never_named channel [] past = refl
never_named channel (event ∷ log) past = later_than (channel_of event == channel) (is_named channel log)
    (λ same. let e : channel_of event ≡ channel = eqb-true (channel_of event) channel same in omega (arith, e, past))
    (never_named channel log (omega (arith, past)))

-- the same of what a door answers
pub past_unnamed : (result : Result (Option ℕ) Failed) (log : List Event) → IsPast result log → NeverNamed result log
past_unnamed (Ok (Some channel)) log past = never_named channel log past
past_unnamed (Ok None) log past = tt
past_unnamed (Err failed) log past = tt

or_cases : (a b : Bool) (P : Type 0) → (a || b) ≡ true → (a ≡ true → P) → (b ≡ true → P) → P
or_cases true b P is left right = left refl
or_cases false b P is left right = right is

pub opened_below : (channel : ℕ) (log : List Event) → was_opened channel log ≡ true → channel < channels_in log
opened_below channel [] is = absurd (cc is)
opened_below channel (Opened c door ∷ log) is = or_cases (c == channel) (was_opened channel log) (channel < channels_in (Opened c door ∷ log)) is
    (λ same. let e : c ≡ channel = eqb-true c channel same in omega (arith, e))
    (λ later. omega (arith, opened_below channel log later))
opened_below channel (Heard c bytes ∷ log) is = omega (arith, opened_below channel log is)
opened_below channel (Ended c ∷ log) is = omega (arith, opened_below channel log is)
opened_below channel (Showed c bytes ∷ log) is = omega (arith, opened_below channel log is)
opened_below channel (Broke c ∷ log) is = omega (arith, opened_below channel log is)
opened_below channel (GaveUp c ∷ log) is = omega (arith, opened_below channel log is)
opened_below channel (Shut c ∷ log) is = omega (arith, opened_below channel log is)

pub broken_below : (channel : ℕ) (log : List Event) → has_broken channel log ≡ true → channel < channels_in log
broken_below channel [] is = absurd (cc is)
broken_below channel (Broke c ∷ log) is = or_cases (c == channel) (has_broken channel log) (channel < channels_in (Broke c ∷ log)) is
    (λ same. let e : c ≡ channel = eqb-true c channel same in omega (arith, e))
    (λ later. omega (arith, broken_below channel log later))
broken_below channel (Heard c bytes ∷ log) is = omega (arith, broken_below channel log is)
broken_below channel (Ended c ∷ log) is = omega (arith, broken_below channel log is)
broken_below channel (Showed c bytes ∷ log) is = omega (arith, broken_below channel log is)
broken_below channel (Opened c door ∷ log) is = omega (arith, broken_below channel log is)
broken_below channel (GaveUp c ∷ log) is = omega (arith, broken_below channel log is)
broken_below channel (Shut c ∷ log) is = omega (arith, broken_below channel log is)

not_true : (b : Bool) → (b ≡ true → ⊥) → b ≡ false
not_true true never = absurd (never refl)
not_true false _ = refl

pub never_broken : (channel : ℕ) (log : List Event) → channels_in log ≤ channel → has_broken channel log ≡ false
never_broken channel log past = not_true _ (λ is. omega (arith, past, broken_below channel log is))

pub never_opened : (channel : ℕ) (log : List Event) → channels_in log ≤ channel → was_opened channel log ≡ false
never_opened channel log past = not_true _ (λ is. omega (arith, past, opened_below channel log is))

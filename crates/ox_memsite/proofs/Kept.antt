-- One more step keeps the fields of a site in order.
use Rattle.std.proofs.Common.{◌≡◌, ◌≢◌, ◌∙◌, ◌<◌, ◌≤◌, ◌+◌, ◌*◌, max, ℕ, Bool, true, false, List, [], ◌∷◌, ◌++◌, ◌||◌, ◌&&◌, ◌==◌, not, length, get_or, set, inl, inr, if◌then◌else◌, refl, sym, ap, subst, arith, append_assoc, length-append}
use Rattle.std.proofs.lemmas.Bool.{cases_eq, cases_lt, eqb-true}
use Rattle.std.proofs.lemmas.Grind.{get_or-set_at}
use Rattle.std.proofs.lemmas.List.{append-nil, get_or-set_other, length-set, get_or_append_left, get_or_push}
use Rattle.ox_outside.specs.Disk.{Disk, synced_disk}
use Rattle.ox_outside.specs.Event.{Event, Broke, has_broken, has_given_up, was_opened, was_shut, is_there, is_open}
use Rattle.ox_outside.specs.Files.{Files, file_of, with_bytes}
use Rattle.ox_outside.specs.declared.site.Doorway.{Doorway}
use Rattle.ox_outside.specs.declared.site.Which.{Which}
use Rattle.ox_outside.specs.declared.site.Which.TheVariants.{A, B}
use Rattle.ox_outside.proofs.Event.{has_broken-append}
use Rattle.ox_memsite.proofs.RoomLemmas.{owed_most, owed_broke, owed_gave_up, owed_shut, channels_in-append, one_at_least, never_broken, never_opened, opened_below, eqb-same}
use Rattle.ox_memsite.specs.Room.{channels_in, room_owed}
use Rattle.ox_memsite.specs.Heard.{steps_with}
use Rattle.ox_memsite.specs.Kept.{IsKept}
use Rattle.ox_memsite.specs.Plain.{IsPlain}
use Rattle.ox_memsite.specs.World.{is_same, disk_step, disk_after, disk_of, event_of, events_of}
use Rattle.ox_memsite.specs.declared.said.Said.{Said}
use Rattle.ox_memsite.specs.declared.said.Said.TheVariants.{Bytes, NotYet, End}
use Rattle.ox_memsite.specs.declared.step.Step.{Step}
use Rattle.ox_memsite.specs.declared.step.Step.TheVariants as steps

pub disk_after-append : (which : Which) (disk : Disk) (x y : List Step) → disk_after which disk (x ++ y) ≡ disk_after which (disk_after which disk x) y
disk_after-append which disk [] y = refl
disk_after-append which disk (step ∷ x) y = disk_after-append which (disk_step which disk step) x y

pub events_of-append : (x y : List Step) → events_of (x ++ y) ≡ events_of x ++ events_of y
events_of-append [] y = refl
events_of-append (step ∷ x) y = ap (λ (l : List Event). event_of step ++ l) (events_of-append x y) ∙ sym (append_assoc (event_of step) (events_of x) (events_of y))

pub events_of-push : (done : List Step) (step : Step) → events_of (done ++ step ∷ []) ≡ events_of done ++ event_of step
events_of-push done step = events_of-append done (step ∷ []) ∙ ap (λ (l : List Event). events_of done ++ l) (append-nil (event_of step))

pub or_false : (a b : Bool) → b ≡ false → (a || b) ≡ a
or_false true b is = refl
or_false false b is = is

pub or_true : (a b : Bool) → b ≡ true → (a || b) ≡ true
or_true true b is = refl
or_true false b is = is

or_itself : (b : Bool) → b ≡ true → (b || false) ≡ true
or_itself true is = refl
or_itself false is = is

unless_true : (b : Bool) → (b ≡ true → ⊥) → (b || false) ≡ false
unless_true true never = absurd (never refl)
unless_true false _ = refl

pub itself : (c channel : ℕ) → c ≡ channel → ((channel == c) || false) ≡ true
itself c channel same = subst (λ (n : ℕ). ((channel == n) || false) ≡ true) (sym same) (or_itself (channel == channel) (eqb-same channel))

pub another : (c channel : ℕ) → c ≢ channel → ((channel == c) || false) ≡ false
another c channel other = unless_true (channel == c) (λ is. other (sym (eqb-true channel c is)))

there_or : (a b c : Bool) (P : Type 0) → (a || (b && c)) ≡ true → (a ≡ true → P) → (b ≡ true → P) → P
there_or true b c P is left right = left refl
there_or false true c P is left right = right refl
there_or false false c P is left right = absurd (cc is)

-- a step that is heard, ended or shown on this channel
abbrev pub IsOf : ℕ → Step → Type 0
IsOf channel (steps.Heard c bytes) = c ≡ channel
IsOf channel (steps.Ended c) = c ≡ channel
IsOf channel (steps.Showed c bytes) = c ≡ channel
IsOf channel step = ⊥

pub seen_write : (which file : Which) (disk : Disk) (at : ℕ) (bytes : List ℕ) → (disk_step which disk (steps.Wrote file at bytes)).seen ≡ (if is_same which file then with_bytes at bytes disk.seen else disk.seen)
seen_write A A disk at bytes = refl
seen_write A B disk at bytes = refl
seen_write B A disk at bytes = refl
seen_write B B disk at bytes = refl

pub seen_torn : (which file : Which) (disk : Disk) (at n : ℕ) → (disk_step which disk (steps.Tore file at n)).seen ≡ disk.seen
seen_torn A A disk at n = refl
seen_torn A B disk at n = refl
seen_torn B A disk at n = refl
seen_torn B B disk at n = refl

pub seen_synced : (which file : Which) (disk : Disk) → (disk_step which disk (steps.Synced file)).seen ≡ disk.seen
seen_synced A A disk = refl
seen_synced A B disk = refl
seen_synced B A disk = refl
seen_synced B B disk = refl

module _ (first : Files) (a b : List ℕ) (past done : List Step) (broken : List Bool) (count spare heard size : ℕ) (kept : IsKept first a b past done broken count spare heard size) where
  abbrev log : List Event
  log = events_of past ++ events_of done

  log_with : (step : Step) → events_of past ++ events_of (done ++ step ∷ []) ≡ (events_of past ++ events_of done) ++ event_of step
  log_with step = ap (λ (l : List Event). events_of past ++ l) (events_of-push done step) ∙ sym (append_assoc (events_of past) (events_of done) (event_of step))

  seen_a : (step : Step) (a' : List ℕ) → a' ≡ (disk_step A (disk_of first done A) step).seen → a' ≡ (disk_of first (done ++ step ∷ []) A).seen
  seen_a step a' is = is ∙ sym (ap (λ (d : Disk). d.seen) (disk_after-append A (synced_disk (file_of first A)) done (step ∷ [])))

  seen_b : (step : Step) (b' : List ℕ) → b' ≡ (disk_step B (disk_of first done B) step).seen → b' ≡ (disk_of first (done ++ step ∷ []) B).seen
  seen_b step b' is = is ∙ sym (ap (λ (d : Disk). d.seen) (disk_after-append B (synced_disk (file_of first B)) done (step ∷ [])))

  -- the numbers that the log names, with those of one more step
  numbers_with : (step : Step) (count' : ℕ) → count ≤ count' → channels_in (event_of step) ≤ count' → channels_in (events_of past ++ events_of (done ++ step ∷ [])) ≤ count'
  numbers_with step count' le named = subst (λ (l : List Event). channels_in l ≤ count') (sym (log_with step)) (
      let both = channels_in-append (events_of past ++ events_of done) (event_of step) in
      let e : channels_in ((events_of past ++ events_of done) ++ event_of step) ≤ count' = omega (arith, both, kept.numbers, le, named) in e)

  flag_with : (step : Step) (channel : ℕ) → has_broken channel (event_of step) ≡ false → has_broken channel (events_of past ++ events_of (done ++ step ∷ [])) ≡ has_broken channel (events_of past ++ events_of done)
  flag_with step channel whole = ap (has_broken channel) (log_with step) ∙ has_broken-append channel (events_of past ++ events_of done) (event_of step) ∙ or_false (has_broken channel (events_of past ++ events_of done)) (has_broken channel (event_of step)) whole

  -- a step that breaks no channel, after which there is ample room
  pub kept_step : (step : Step) (done' : List Step) (a' b' : List ℕ) (spare' heard' size' : ℕ) → done' ≡ done ++ step ∷ []
      → a' ≡ (disk_step A (disk_of first done A) step).seen → b' ≡ (disk_step B (disk_of first done B) step).seen
      → ((channel : ℕ) → has_broken channel (event_of step) ≡ false) → channels_in (event_of step) ≤ count → 3 * count ≤ spare' → heard' ≤ size' → IsKept first a' b' past done' broken count spare' heard' size'
  kept_step step done' a' b' spare' heard' size' is is_a is_b whole named room within =
      subst (λ (l : List Step). IsKept first a' b' past l broken count spare' heard' size') (sym is) (
      record {
        file_a = seen_a step a' is_a;
        file_b = seen_b step b' is_b;
        flags = λ channel below. kept.flags channel below ∙ sym (flag_with step channel (whole channel));
        as_many = kept.as_many;
        numbers = numbers_with step count (omega arith) named;
        few = kept.few;
        room = (let most = owed_most count (events_of past ++ events_of (done ++ step ∷ [])) in omega (arith, most, room));
        within = within;
      }
      )

  -- nothing happened, and there is ample room
  pub kept_room : (spare' heard' : ℕ) → 3 * count ≤ spare' → heard' ≤ size → IsKept first a b past done broken count spare' heard' size
  kept_room spare' heard' room within = record {
    file_a = kept.file_a;
    file_b = kept.file_b;
    flags = kept.flags;
    as_many = kept.as_many;
    numbers = kept.numbers;
    few = kept.few;
    room = (let most = owed_most count (events_of past ++ events_of done) in omega (arith, most, room));
    within = within;
  }

  -- an event that takes one place of the room that is owed
  kept_event : (step : Step) (done' : List Step) (broken' : List Bool) (spare' : ℕ) → done' ≡ done ++ step ∷ []
      → (disk_step A (disk_of first done A) step).seen ≡ (disk_of first done A).seen → (disk_step B (disk_of first done B) step).seen ≡ (disk_of first done B).seen
      → ((channel : ℕ) → channel < count → get_or broken' channel false ≡ has_broken channel (events_of past ++ events_of (done ++ step ∷ []))) → length broken' ≡ count
      → channels_in (event_of step) ≤ count → room_owed count ((events_of past ++ events_of done) ++ event_of step) + 1 ≤ room_owed count (events_of past ++ events_of done) → spare' + 1 ≡ spare
      → IsKept first a b past done' broken' count spare' heard size
  kept_event step done' broken' spare' is same_a same_b flags as_many named less took =
      subst (λ (l : List Step). IsKept first a b past l broken' count spare' heard size) (sym is) (
      record {
        file_a = seen_a step a (kept.file_a ∙ sym same_a);
        file_b = seen_b step b (kept.file_b ∙ sym same_b);
        flags = flags;
        as_many = as_many;
        numbers = numbers_with step count (omega arith) named;
        few = kept.few;
        room = subst (λ (l : List Event). room_owed count l ≤ spare') (sym (log_with step)) (omega (arith, less, took, kept.room));
        within = kept.within;
      }
      )

  named_below : (channel : ℕ) → channel < count → max (channel + 1) 1 ≤ count
  named_below channel below = omega (arith, below)

  pub kept_gave_up : (channel : ℕ) (done' : List Step) (spare' : ℕ) → channel < count → has_given_up channel (events_of past ++ events_of done) ≡ false → done' ≡ done ++ steps.GaveUp channel ∷ [] → spare' + 1 ≡ spare
      → IsKept first a b past done' broken count spare' heard size
  kept_gave_up channel done' spare' below once is took = kept_event (steps.GaveUp channel) done' broken spare' is refl refl
      (λ c lt. kept.flags c lt ∙ sym (flag_with (steps.GaveUp channel) c refl)) kept.as_many (named_below channel below) (owed_gave_up count channel (events_of past ++ events_of done) below once) took

  pub kept_shut : (channel : ℕ) (done' : List Step) (spare' : ℕ) → channel < count → was_shut channel (events_of past ++ events_of done) ≡ false → done' ≡ done ++ steps.Shut channel ∷ [] → spare' + 1 ≡ spare
      → IsKept first a b past done' broken count spare' heard size
  kept_shut channel done' spare' below once is took = kept_event (steps.Shut channel) done' broken spare' is refl refl
      (λ c lt. kept.flags c lt ∙ sym (flag_with (steps.Shut channel) c refl)) kept.as_many (named_below channel below) (owed_shut count channel (events_of past ++ events_of done) below once) took

  -- the step that breaks a channel
  pub kept_break : (channel : ℕ) (done' : List Step) (spare' : ℕ) → channel < count → has_broken channel (events_of past ++ events_of done) ≡ false → done' ≡ done ++ steps.Broke channel ∷ [] → spare' + 1 ≡ spare
      → IsKept first a b past done' (set broken channel true) count spare' heard size
  kept_break channel done' spare' below whole is took = kept_event (steps.Broke channel) done' (set broken channel true) spare' is refl refl
      (λ c lt.
      let before = has_broken c (events_of past ++ events_of done) in
      let here : has_broken c (events_of past ++ events_of (done ++ steps.Broke channel ∷ [])) ≡ (before || ((channel == c) || false)) = ap (has_broken c) (log_with (steps.Broke channel)) ∙ has_broken-append c (events_of past ++ events_of done) (Broke channel ∷ []) in
      elim (cases_eq c channel) [
        | inl same ↦ get_or-set_at broken channel c true false same (omega (arith, below, kept.as_many)) ∙ sym (here ∙ or_true before ((channel == c) || false) (itself c channel same))
        | inr other ↦ get_or-set_other broken channel c true false other ∙ kept.flags c lt ∙ sym (here ∙ or_false before ((channel == c) || false) (another c channel other))
      ])
      (length-set broken channel true ∙ kept.as_many) (named_below channel below) (owed_broke count channel (events_of past ++ events_of done) below whole) took

  -- a link that comes
  pub kept_opened : (door : Doorway) (done' : List Step) (spare' count' : ℕ) (broken' : List Bool) → broken' ≡ broken ++ false ∷ [] → count' ≡ count + 1 → count < 4294967296
      → done' ≡ done ++ steps.Opened count door ∷ [] → 3 * count' ≤ spare' → IsKept first a b past done' broken' count' spare' heard size
  kept_opened door done' spare' count' broken' is_broken is_count few is room =
      subst (λ (l : List Step). IsKept first a b past l broken' count' spare' heard size) (sym is) (
      subst (λ (l : List Bool). IsKept first a b past (done ++ steps.Opened count door ∷ []) l count' spare' heard size) (sym is_broken) (
      record {
        file_a = seen_a (steps.Opened count door) a kept.file_a;
        file_b = seen_b (steps.Opened count door) b kept.file_b;
        flags = λ channel below. elim (cases_lt channel count) [
          | inl lt ↦ get_or_append_left broken (false ∷ []) false channel (omega (arith, lt, kept.as_many)) ∙ kept.flags channel lt ∙ sym (flag_with (steps.Opened count door) channel refl)
          | inr ge ↦ get_or_push broken false false channel (let e : length broken ≡ channel = omega (arith, ge, below, is_count, kept.as_many) in e)
              ∙ sym (flag_with (steps.Opened count door) channel refl ∙ never_broken channel (events_of past ++ events_of done) (omega (arith, kept.numbers, ge)))
        ];
        as_many = length-append broken (false ∷ []) ∙ (let e : length broken + 1 ≡ count' = omega (arith, kept.as_many, is_count) in e);
        numbers = numbers_with (steps.Opened count door) count' (omega (arith, is_count)) (let e : max (count + 1) 1 ≤ count' = omega (arith, is_count) in e);
        few = omega (arith, is_count, few);
        room = (let most = owed_most count' (events_of past ++ events_of (done ++ steps.Opened count door ∷ [])) in omega (arith, most, room));
        within = kept.within;
      }
      ))

  -- the count is a number that was never opened
  pub unopened : was_opened count (events_of past ++ events_of done) ≡ false
  unopened = never_opened count (events_of past ++ events_of done) kept.numbers

  pub one_counted : 1 ≤ count
  one_counted = (let one = one_at_least (events_of past ++ events_of done) in omega (arith, kept.numbers, one))

  pub kept_write : (file : Which) (at : ℕ) (bytes : List ℕ) (done' : List Step) (a' b' : List ℕ) (spare' : ℕ) → done' ≡ done ++ steps.Wrote file at bytes ∷ []
      → a' ≡ (if is_same A file then with_bytes at bytes a else a) → b' ≡ (if is_same B file then with_bytes at bytes b else b) → 3 * count ≤ spare' → IsKept first a' b' past done' broken count spare' heard size
  kept_write file at bytes done' a' b' spare' is is_a is_b room = kept_step (steps.Wrote file at bytes) done' a' b' spare' heard size is
      (is_a ∙ ap (λ (l : List ℕ). if is_same A file then with_bytes at bytes l else l) kept.file_a ∙ sym (seen_write A file (disk_of first done A) at bytes))
      (is_b ∙ ap (λ (l : List ℕ). if is_same B file then with_bytes at bytes l else l) kept.file_b ∙ sym (seen_write B file (disk_of first done B) at bytes))
      (λ channel. refl) one_counted room kept.within

  -- a step that leaves what is read as it is and breaks no channel, after which there is ample room
  pub kept_plain : (step : Step) (done' : List Step) (spare' : ℕ) → IsPlain count step → done' ≡ done ++ step ∷ [] → 3 * count ≤ spare' → IsKept first a b past done' broken count spare' heard size
  kept_plain step done' spare' plain is room = kept_step step done' a b spare' heard size is
      (kept.file_a ∙ sym (plain.seen A (disk_of first done A))) (kept.file_b ∙ sym (plain.seen B (disk_of first done B))) plain.whole (omega (arith, plain.named, one_counted)) room kept.within

  -- an event of a channel that is counted
  pub kept_noted : (step : Step) (channel : ℕ) (done' : List Step) (spare' heard' : ℕ) → done' ≡ done ++ step ∷ [] → IsOf channel step → channel < count → 3 * count ≤ spare' → heard' ≤ size
      → IsKept first a b past done' broken count spare' heard' size
  kept_noted (steps.Heard c bytes) channel done' spare' heard' is same below room within = kept_step (steps.Heard c bytes) done' a b spare' heard' size is kept.file_a kept.file_b (λ channel. refl) (let e : max (c + 1) 1 ≤ count = omega (arith, same, below) in e) room within
  kept_noted (steps.Ended c) channel done' spare' heard' is same below room within = kept_step (steps.Ended c) done' a b spare' heard' size is kept.file_a kept.file_b (λ channel. refl) (let e : max (c + 1) 1 ≤ count = omega (arith, same, below) in e) room within
  kept_noted (steps.Showed c bytes) channel done' spare' heard' is same below room within = kept_step (steps.Showed c bytes) done' a b spare' heard' size is kept.file_a kept.file_b (λ channel. refl) (let e : max (c + 1) 1 ≤ count = omega (arith, same, below) in e) room within
  kept_noted (_) channel done' spare' heard' is same below room within = absurd same

  -- a channel that is there is counted
  pub there_below : (channel : ℕ) → is_there channel (events_of past ++ events_of done) ≡ true → channel < count
  there_below channel there = there_or (channel == 0) (was_opened channel (events_of past ++ events_of done)) (not (was_shut channel (events_of past ++ events_of done))) (channel < count) there
      (λ is_zero. let e : channel ≡ 0 = eqb-true channel 0 is_zero in omega (arith, e, one_counted))
      (λ opened. let lt = opened_below channel (events_of past ++ events_of done) opened in omega (arith, kept.numbers, lt))

  -- what a channel said
  pub kept_said : (said : Said) (channel : ℕ) (done' : List Step) (spare' heard' : ℕ) → done' ≡ steps_with channel said done → channel < count → 3 * count ≤ spare' → heard' ≤ size
      → IsKept first a b past done' broken count spare' heard' size
  kept_said (Bytes bytes) channel done' spare' heard' is below room within = kept_noted (steps.Heard channel bytes) channel done' spare' heard' is refl below room within
  kept_said NotYet channel done' spare' heard' is below room within = subst (λ (l : List Step). IsKept first a b past l broken count spare' heard' size) (sym is) (kept_room spare' heard' room within)
  kept_said End channel done' spare' heard' is below room within = kept_noted (steps.Ended channel) channel done' spare' heard' is refl below room within

  -- the same files and steps, and ample room
  pub kept_same : (a' b' : List ℕ) (done' : List Step) (spare' heard' : ℕ) → a' ≡ a → b' ≡ b → done' ≡ done → 3 * count ≤ spare' → heard' ≤ size
      → IsKept first a' b' past done' broken count spare' heard' size
  kept_same a' b' done' spare' heard' is_a is_b is room within =
      subst (λ (l : List ℕ). IsKept first l b' past done' broken count spare' heard' size) (sym is_a) (
      subst (λ (l : List ℕ). IsKept first a l past done' broken count spare' heard' size) (sym is_b) (
      subst (λ (l : List Step). IsKept first a b past l broken count spare' heard' size) (sym is) (kept_room spare' heard' room within)))

  -- the same, where the channels are as many
  pub kept_count : (count' : ℕ) → count' ≡ count → IsKept first a b past done broken count' spare heard size
  kept_count count' is = subst (λ (n : ℕ). IsKept first a b past done broken n spare heard size) (sym is) kept

  -- there is room for each event that can't be refused
  pub spare_break : (channel : ℕ) → channel < count → has_broken channel (events_of past ++ events_of done) ≡ false → 1 ≤ spare
  spare_break channel below whole = (let less = owed_broke count channel (events_of past ++ events_of done) below whole in omega (arith, less, kept.room))

  pub spare_gave_up : (channel : ℕ) → channel < count → has_given_up channel (events_of past ++ events_of done) ≡ false → 1 ≤ spare
  spare_gave_up channel below once = (let less = owed_gave_up count channel (events_of past ++ events_of done) below once in omega (arith, less, kept.room))

  pub spare_shut : (channel : ℕ) → channel < count → was_shut channel (events_of past ++ events_of done) ≡ false → 1 ≤ spare
  spare_shut channel below open_ = (let less = owed_shut count channel (events_of past ++ events_of done) below open_ in omega (arith, less, kept.room))

-- a step put behind steps that are the same
pub pushed : (x y z : List Step) (step step' : Step) → z ≡ y ++ step ∷ [] → y ≡ x → step ≡ step' → z ≡ x ++ step' ∷ []
pushed x y z step step' is same same_step = is ∙ ap (λ (l : List Step). l ++ step ∷ []) same ∙ ap (λ (s : Step). x ++ s ∷ []) same_step

and_left : (a b : Bool) → (a && b) ≡ true → b ≡ true
and_left true b is = is
and_left false b is = absurd (cc is)

not_false : (b : Bool) → not b ≡ true → b ≡ false
not_false true is = absurd (cc is)
not_false false is = refl

unshut : (a b c : Bool) → (not a && (a || (b && not c))) ≡ true → c ≡ false
unshut true b c is = absurd (cc is)
unshut false true c is = not_false c is
unshut false false c is = absurd (cc is)

-- an open link is there, and wasn't shut
pub open_there : (channel : ℕ) (log : List Event) → is_open channel log ≡ true → is_there channel log ≡ true
open_there channel log is = and_left (not (channel == 0)) (is_there channel log) is

pub open_unshut : (channel : ℕ) (log : List Event) → is_open channel log ≡ true → was_shut channel log ≡ false
open_unshut channel log is = unshut (channel == 0) (was_opened channel log) (was_shut channel log) is

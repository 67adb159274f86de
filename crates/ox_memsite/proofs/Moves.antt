-- What the exact clauses of a site in memory say of it as a site.
use Rattle.std.proofs.Common.{◌≡◌, ◌∙◌, ◌⊎◌, ◌≤◌, ◌<◌, ◌+◌, inl, inr, ⊎_elim, ℕ, zero, suc, Bool, true, false, List, [], ◌∷◌, ◌++◌, length, set, take, drop, Option, Some, None, if◌then◌else◌, refl, sym, ap, subst, arith, length-append, append_assoc}
use Rattle.std.specs.Prelude.{Result, Ok, Err}
use Rattle.std.proofs.lemmas.Bool.{cases_lt}
use Rattle.std.proofs.lemmas.Bool.Decides.{nat_tests}
use Rattle.std.proofs.lemmas.List.{append-nil, take_all, take_at, take-append-le}
use Rattle.ox_outside.specs.Counts.{NoneFell, Rose, greatest}
use Rattle.ox_outside.specs.Crash.{Remains, OneCall, LeavesFiles}
use Rattle.ox_outside.specs.Disk.{Disk, IsImage, synced_disk}
use Rattle.ox_outside.specs.Event.{Event, Opened, Heard, Showed, Broke, has_broken, fault_events, hear_events, show_events, door_events}
use Rattle.ox_outside.specs.Files.{Files, file_of}
use Rattle.ox_outside.specs.declared.site.Doorway.{Doorway}
use Rattle.ox_outside.specs.declared.site.Doorway.TheVariants.{Public, Operator}
use Rattle.ox_outside.specs.declared.site.Failed.{Failed}
use Rattle.ox_outside.specs.declared.site.Heard.{Heard as HeardAnswer}
use Rattle.ox_outside.specs.declared.site.Shown.{Shown as ShownAnswer}
use Rattle.ox_outside.specs.declared.site.Shown.TheVariants.{Took, NotYet as TookNothing}
use Rattle.ox_outside.specs.declared.site.Which.{Which}
use Rattle.ox_outside.specs.declared.site.Which.TheVariants.{A, B}
use Rattle.ox_memsite.specs.Channels.{channel_at, at_channel, silent_channel, next_count, hear_fault, show_fault, next_script}
use Rattle.ox_memsite.specs.Heard.{Hears, Shows, answer_of, bytes_of, after_said, after_saying, channels_after}
use Rattle.ox_memsite.specs.Opened.{DoorEnds}
use Rattle.ox_memsite.specs.World.{World, disk_after, disk_of, events_of, seen_of, log_of, Left, MayLeave, LeftSince, counts_of, idles_at, after_call, after_step, after_starving, after_disk_fault, after_door_fault, after_hear_fault, after_show_fault, after_idle, after_opening, Ends}
use Rattle.ox_memsite.specs.declared.channel.Channel.{Channel}
use Rattle.ox_memsite.specs.declared.said.Said.{Said}
use Rattle.ox_memsite.specs.declared.said.Said.TheVariants.{Bytes, NotYet, End}
use Rattle.ox_memsite.specs.declared.step.Step.{Step}
use Rattle.ox_memsite.specs.declared.step.Step.TheVariants as steps
use Rattle.ox_memsite.proofs.Kept.{disk_after-append, events_of-append}

counted_more : (n : ℕ) → n ≤ next_count n
counted_more n = grind (arith, nat_tests)

pub counted_rose : (n : ℕ) → Rose n (next_count n)
counted_rose n = elim (cases_lt n greatest) [
  | inl less ↦ inl (let e : n < next_count n = grind (arith, nat_tests) in e)
  | inr full ↦ inr (let e : greatest ≤ next_count n = grind (arith, nat_tests) in e)
]

-- no count of the channel fell
pub record NoLess (old new : Channel) : Type 0 where
  pub hear : old.hear_faults ≤ new.hear_faults
  pub show : old.show_faults ≤ new.show_faults
  pub not_yets : old.not_yets ≤ new.not_yets

no_less_same : (one : Channel) → NoLess one one
no_less_same one = record { hear = omega arith; show = omega arith; not_yets = omega arith }

no_less_then : (x y z : Channel) → NoLess x y → NoLess y z → NoLess x z
no_less_then x y z first then_ = record { hear = omega (arith, first.hear, then_.hear); show = omega (arith, first.show, then_.show); not_yets = omega (arith, first.not_yets, then_.not_yets) }

-- nor of any
abbrev pub NoneLess : List Channel → List Channel → Type 0
NoneLess old new = (channel : ℕ) → NoLess (channel_at old channel) (channel_at new channel)

none_less_same : (channels : List Channel) → NoneLess channels channels
none_less_same channels channel = no_less_same (channel_at channels channel)

none_less_set : (channels : List Channel) (i : ℕ) (one : Channel) → NoLess (channel_at channels i) one → NoneLess channels (set channels i one)
none_less_set [] i one less channel = no_less_same silent_channel
none_less_set (c ∷ channels) zero one less zero = less
none_less_set (c ∷ channels) zero one less (suc channel) = no_less_same (channel_at channels channel)
none_less_set (c ∷ channels) (suc i) one less zero = no_less_same c
none_less_set (c ∷ channels) (suc i) one less (suc channel) = none_less_set channels i one less channel

none_less_push : (channels : List Channel) (one : Channel) → NoLess silent_channel one → NoneLess channels (channels ++ one ∷ [])
none_less_push [] one less zero = less
none_less_push [] one less (suc channel) = no_less_same silent_channel
none_less_push (c ∷ channels) one less zero = no_less_same c
none_less_push (c ∷ channels) one less (suc channel) = none_less_push channels one less channel

-- from old to new no more than one thing happened
pub record Moves (old new : World) (more : List Step) : Type 0 where
  pub first : new.first ≡ old.first
  pub past : new.past ≡ old.past
  pub steps : new.steps ≡ old.steps ++ more
  pub disk : old.disk_faults ≤ new.disk_faults
  pub door : old.door_faults ≤ new.door_faults
  pub channels : NoneLess old.channels new.channels
  pub public : old.public_idles ≤ new.public_idles
  pub operator : old.operator_idles ≤ new.operator_idles

module _ (old new : World) (more : List Step) (moves : Moves old new more) where
  idles_more : (door : Doorway) → idles_at old door ≤ idles_at new door
  idles_more Public = moves.public
  idles_more Operator = moves.operator

  none_fell : NoneFell (counts_of old) (counts_of new)
  none_fell = record {
    disk = moves.disk;
    door = moves.door;
    hear = λ channel. (moves.channels channel).hear;
    show = λ channel. (moves.channels channel).show;
    not_yets = λ channel. (moves.channels channel).not_yets;
    door_idles = λ door. idles_more door;
  }

  longer : length new.steps ≡ length old.steps + length more
  longer = ap length moves.steps ∙ length-append old.steps more

  left_before : (k : ℕ) (r : Remains) → k ≤ length old.steps → Left new.first new.past (take k new.steps) r → Left old.first old.past (take k old.steps) r
  left_before k r le left =
      let same_front : take k new.steps ≡ take k old.steps = ap (λ (l : List Step). take k l) moves.steps ∙ take-append-le k old.steps more le in
      subst (λ (l : List Step). Left old.first old.past l r) same_front (subst (λ (p : List Event). Left old.first p (take k new.steps) r) moves.past (subst (λ (f : Files). Left f new.past (take k new.steps) r) moves.first left))

  left_after : (k : ℕ) (r : Remains) → k ≤ length old.steps → Left old.first old.past (take k old.steps) r → Left new.first new.past (take k new.steps) r
  left_after k r le left =
      let same_front : take k new.steps ≡ take k old.steps = ap (λ (l : List Step). take k l) moves.steps ∙ take-append-le k old.steps more le in
      subst (λ (f : Files). Left f new.past (take k new.steps) r) (sym moves.first) (subst (λ (p : List Event). Left old.first p (take k new.steps) r) (sym moves.past) (subst (λ (l : List Step). Left old.first old.past l r) (sym same_front) left))

  nothing_else : length more ≤ 1 → (t : ℕ) (r : Remains) → t ≤ length old.steps → LeftSince new t r → LeftSince old t r ⊎ MayLeave new r
  nothing_else short t r le left = elim (cases_lt (length old.steps) left.0) [
    | inl later ↦ inr (subst (λ (l : List Step). Left new.first new.past l r) (take_all left.0 new.steps (omega (arith, longer))) left.3)
    | inr earlier ↦ inl (left.0, left.1, earlier, left_before left.0 r earlier left.3)
  ]

  pub one_call : length more ≤ 1 → OneCall (λ w. true) counts_of (λ w. length w.steps) MayLeave LeftSince old new
  one_call short = record {
    as_told = refl;
    none_fell = none_fell;
    later = omega (arith, longer);
    nothing_else = nothing_else short;
    keeps = λ t r le left. (left.0, left.1, (let e : left.0 ≤ length new.steps = omega (arith, longer, left.2) in e), left_after left.0 r left.2 left.3);
  }

-- what a site is like after each kind of change
module _ (old : World) where
  pub failed_disk : Moves old (after_disk_fault (after_call old)) []
  failed_disk = record { first = refl; past = refl; steps = sym (append-nil old.steps); disk = counted_more old.disk_faults; door = omega arith; channels = none_less_same old.channels; public = omega arith; operator = omega arith }

  pub starved_disk : Moves old (after_disk_fault (after_starving (after_call old))) []
  starved_disk = record { first = refl; past = refl; steps = sym (append-nil old.steps); disk = counted_more old.disk_faults; door = omega arith; channels = none_less_same old.channels; public = omega arith; operator = omega arith }

  pub did_one : (step : Step) → Moves old (after_step step (after_call old)) (step ∷ [])
  did_one step = record { first = refl; past = refl; steps = refl; disk = omega arith; door = omega arith; channels = none_less_same old.channels; public = omega arith; operator = omega arith }

  pub failed_did : (step : Step) → Moves old (after_disk_fault (after_step step (after_call old))) (step ∷ [])
  failed_did step = record { first = refl; past = refl; steps = refl; disk = counted_more old.disk_faults; door = omega arith; channels = none_less_same old.channels; public = omega arith; operator = omega arith }

-- ---- events alone

-- The steps are events alone: they leave each file's disk as it is.
abbrev pub IsQuiet : List Step → Type 0
IsQuiet more = (which : Which) (disk : Disk) → disk_after which disk more ≡ disk

-- at most one event was noted, and these events were added to the log
pub record Noted (old new : World) (events : List Event) : Type 0 where
  pub more : List Step
  pub moves : Moves old new more
  pub short : length more ≤ 1
  pub quiet : IsQuiet more
  pub events_are : events_of more ≡ events

disk_more : (old new : World) (more : List Step) (which : Which) → Moves old new more → disk_of new.first new.steps which ≡ disk_after which (disk_of old.first old.steps which) more
disk_more old new more which moves =
    ap (λ (f : Files). disk_of f new.steps which) moves.first
    ∙ ap (λ (l : List Step). disk_of old.first l which) moves.steps
    ∙ disk_after-append which (synced_disk (file_of old.first which)) old.steps more

log_more : (old new : World) (more : List Step) → Moves old new more → log_of new ≡ log_of old ++ events_of more
log_more old new more moves =
    ap (λ (p : List Event). p ++ events_of new.steps) moves.past
    ∙ ap (λ (l : List Step). old.past ++ events_of l) moves.steps
    ∙ ap (λ (l : List Event). old.past ++ l) (events_of-append old.steps more)
    ∙ sym (append_assoc old.past (events_of old.steps) (events_of more))

module _ (old new : World) (events : List Event) (noted : Noted old new events) where
  same_disk : (which : Which) → disk_of new.first new.steps which ≡ disk_of old.first old.steps which
  same_disk which = disk_more old new noted.more which noted.moves ∙ noted.quiet which (disk_of old.first old.steps which)

  pub noted_log : log_of new ≡ log_of old ++ events
  noted_log = log_more old new noted.more noted.moves ∙ ap (λ (l : List Event). log_of old ++ l) noted.events_are

  pub noted_call : OneCall (λ w. true) counts_of (λ w. length w.steps) MayLeave LeftSince old new
  noted_call = one_call old new noted.more noted.moves noted.short

  pub noted_files : LeavesFiles seen_of MayLeave old new
  noted_files = record {
    files = λ i. record { a = (same_disk A i).seen; b = (same_disk B i).seen };
    none_new = λ r left. (
      record { files = r.files; log = log_of old },
      record {
        a = subst (λ (d : Disk). IsImage d r.files.a) (same_disk A) left.a;
        b = subst (λ (d : Disk). IsImage d r.files.b) (same_disk B) left.b;
        log = refl;
      },
      refl,
    );
    none_gone = λ q left. (
      record { files = q.files; log = log_of new },
      record {
        a = subst (λ (d : Disk). IsImage d q.files.a) (sym (same_disk A)) left.a;
        b = subst (λ (d : Disk). IsImage d q.files.b) (sym (same_disk B)) left.b;
        log = refl;
      },
      refl,
    );
  }

-- a change of the channels that logs nothing, after which a failure is logged where it is the first
broken : (old w : World) (channel : ℕ) (b : Bool) → Moves old w [] → Noted old (if b then w else after_step (steps.Broke channel) w) (if b then [] else Broke channel ∷ [])
broken old w channel true moves = record { more = []; moves = moves; short = omega arith; quiet = λ which disk. refl; events_are = refl }
broken old w channel false moves = record {
  more = steps.Broke channel ∷ [];
  moves = record {
    first = moves.first;
    past = moves.past;
    steps = ap (λ (l : List Step). l ++ steps.Broke channel ∷ []) (moves.steps ∙ append-nil old.steps);
    disk = moves.disk;
    door = moves.door;
    channels = moves.channels;
    public = moves.public;
    operator = moves.operator;
  };
  short = omega arith;
  quiet = λ which disk. refl;
  events_are = refl;
}

module _ (old : World) (channel : ℕ) where
  hear_more : NoneLess old.channels (at_channel channel hear_fault old.channels)
  hear_more = none_less_set old.channels channel _ (record { hear = counted_more _; show = omega arith; not_yets = omega arith })

  show_more : NoneLess old.channels (at_channel channel show_fault old.channels)
  show_more = none_less_set old.channels channel _ (record { hear = omega arith; show = counted_more _; not_yets = omega arith })

  pub hear_failed : Noted old (after_hear_fault channel (after_call old)) (fault_events channel (log_of old))
  hear_failed = broken old _ channel (has_broken channel (log_of old)) (record { first = refl; past = refl; steps = sym (append-nil old.steps); disk = omega arith; door = omega arith; channels = hear_more; public = omega arith; operator = omega arith })

  pub hear_starved : Noted old (after_hear_fault channel (after_starving (after_call old))) (fault_events channel (log_of old))
  hear_starved = broken old _ channel (has_broken channel (log_of old)) (record { first = refl; past = refl; steps = sym (append-nil old.steps); disk = omega arith; door = omega arith; channels = hear_more; public = omega arith; operator = omega arith })

  pub show_failed : Noted old (after_show_fault channel (after_call old)) (fault_events channel (log_of old))
  show_failed = broken old _ channel (has_broken channel (log_of old)) (record { first = refl; past = refl; steps = sym (append-nil old.steps); disk = omega arith; door = omega arith; channels = show_more; public = omega arith; operator = omega arith })

  pub show_starved : Noted old (after_show_fault channel (after_starving (after_call old))) (fault_events channel (log_of old))
  show_starved = broken old _ channel (has_broken channel (log_of old)) (record { first = refl; past = refl; steps = sym (append-nil old.steps); disk = omega arith; door = omega arith; channels = show_more; public = omega arith; operator = omega arith })

script_more : (channel : ℕ) (b : Bool) (room : ℕ) (channels : List Channel) → NoneLess channels (if b then channels else at_channel channel (next_script room) channels)
script_more channel true room channels = none_less_same channels
script_more channel false room channels = none_less_set channels channel _ (record { hear = omega arith; show = omega arith; not_yets = omega arith })

none_less_then : (x y z : List Channel) → NoneLess x y → NoneLess y z → NoneLess x z
none_less_then x y z first then_ channel = no_less_then _ _ _ (first channel) (then_ channel)

-- what a channel said is noted
said_noted : (channel room : ℕ) (said : Said) (filled rest : List ℕ) (old : World) → filled ≡ bytes_of said ++ rest
    → Noted old (after_said channel said (after_saying channel room (after_call old))) (hear_events channel filled (Ok (answer_of said)) (log_of old))
said_noted channel room (Bytes bytes) filled rest old is = record {
  more = steps.Heard channel bytes ∷ [];
  moves = record { first = refl; past = refl; steps = refl; disk = omega arith; door = omega arith; channels = script_more channel _ room old.channels; public = omega arith; operator = omega arith };
  short = omega arith;
  quiet = λ which disk. refl;
  events_are = ap (λ (l : List ℕ). Heard channel l ∷ []) (sym (ap (λ (l : List ℕ). take (length bytes) l) is ∙ take_at bytes rest (length bytes) refl));
}
said_noted channel room NotYet filled rest old is = record {
  more = [];
  moves = record {
    first = refl;
    past = refl;
    steps = sym (append-nil old.steps);
    disk = omega arith;
    door = omega arith;
    channels = none_less_then old.channels (channels_after channel room old.channels) _ (script_more channel _ room old.channels) (none_less_set (channels_after channel room old.channels) channel _ (record { hear = omega arith; show = omega arith; not_yets = counted_more _ }));
    public = omega arith;
    operator = omega arith;
  };
  short = omega arith;
  quiet = λ which disk. refl;
  events_are = refl;
}
said_noted channel room End filled rest old is = record {
  more = steps.Ended channel ∷ [];
  moves = record { first = refl; past = refl; steps = refl; disk = omega arith; door = omega arith; channels = script_more channel _ room old.channels; public = omega arith; operator = omega arith };
  short = omega arith;
  quiet = λ which disk. refl;
  events_are = refl;
}

pub hear_noted : (channel : ℕ) (room filled : List ℕ) (result : Result HeardAnswer Failed) (old new : World) → Ends (Hears channel room filled) (after_hear_fault channel) (after_hear_fault channel) result old new → Noted old new (hear_events channel filled result (log_of old))
hear_noted channel room filled (Ok answer) old new ends =
    let h = ends.1 in
    subst (λ (w : World). Noted old w (hear_events channel filled (Ok answer) (log_of old))) (sym h.after) (
    subst (λ (x : HeardAnswer). Noted old (after_said channel h.said (after_saying channel (length room) (after_call old))) (hear_events channel filled (Ok x) (log_of old))) (sym h.answers) (
    said_noted channel (length room) h.said filled (drop (length (bytes_of h.said)) room) old h.front))
hear_noted channel room filled (Err e) old new ends = ⊎_elim
    (λ listed. subst (λ (w : World). Noted old w (fault_events channel (log_of old))) (sym listed.1) (hear_failed old channel))
    (λ starved. subst (λ (w : World). Noted old w (fault_events channel (log_of old))) (sym starved) (hear_starved old channel))
    ends

pub show_noted : (channel : ℕ) (bytes : List ℕ) (result : Result ShownAnswer Failed) (old new : World) → Ends (Shows channel bytes) (after_show_fault channel) (after_show_fault channel) result old new → Noted old new (show_events channel bytes result (log_of old))
show_noted channel bytes (Ok (Took n)) old new ends =
    let whole : take n bytes ≡ bytes = take_all n bytes (let size : n ≡ length bytes = cc (ends.1.whole) in omega (arith, size)) in
    subst (λ (w : World). Noted old w (Showed channel (take n bytes) ∷ [])) (sym (ends.1.after)) (
    record {
      more = steps.Showed channel bytes ∷ [];
      moves = did_one old (steps.Showed channel bytes);
      short = omega arith;
      quiet = λ which disk. refl;
      events_are = ap (λ (l : List ℕ). Showed channel l ∷ []) (sym whole);
    }
    )
show_noted channel bytes (Ok TookNothing) old new ends = absurd (let e : TookNothing ≡ Took (length bytes) = ends.1.whole in cc e)
show_noted channel bytes (Err e) old new ends = ⊎_elim
    (λ listed. subst (λ (w : World). Noted old w (fault_events channel (log_of old))) (sym listed.1) (show_failed old channel))
    (λ starved. subst (λ (w : World). Noted old w (fault_events channel (log_of old))) (sym starved) (show_starved old channel))
    ends

-- ---- links

idle_noted : (door : Doorway) (old : World) → Noted old (after_idle door (after_call old)) []
idle_noted Public old = record {
  more = [];
  moves = record { first = refl; past = refl; steps = sym (append-nil old.steps); disk = omega arith; door = omega arith; channels = none_less_same old.channels; public = counted_more old.public_idles; operator = omega arith };
  short = omega arith;
  quiet = λ which disk. refl;
  events_are = refl;
}
idle_noted Operator old = record {
  more = [];
  moves = record { first = refl; past = refl; steps = sym (append-nil old.steps); disk = omega arith; door = omega arith; channels = none_less_same old.channels; public = omega arith; operator = counted_more old.operator_idles };
  short = omega arith;
  quiet = λ which disk. refl;
  events_are = refl;
}

opening_moves : (door : Doorway) (old : World) → Moves old (after_opening door (after_call old)) (steps.Opened (length old.channels) door ∷ [])
opening_moves Public old = record { first = refl; past = refl; steps = refl; disk = omega arith; door = omega arith; channels = none_less_push old.channels _ (record { hear = omega arith; show = omega arith; not_yets = omega arith }); public = omega arith; operator = omega arith }
opening_moves Operator old = record { first = refl; past = refl; steps = refl; disk = omega arith; door = omega arith; channels = none_less_push old.channels _ (record { hear = omega arith; show = omega arith; not_yets = omega arith }); public = omega arith; operator = omega arith }

door_fault_noted : (old w : World) → Moves old w [] → Noted old w []
door_fault_noted old w moves = record { more = []; moves = moves; short = omega arith; quiet = λ which disk. refl; events_are = refl }

module _ (old : World) where
  door_failed : Noted old (after_door_fault (after_call old)) []
  door_failed = door_fault_noted old _ (record { first = refl; past = refl; steps = sym (append-nil old.steps); disk = omega arith; door = counted_more old.door_faults; channels = none_less_same old.channels; public = omega arith; operator = omega arith })

  door_starved : Noted old (after_door_fault (after_starving (after_call old))) []
  door_starved = door_fault_noted old _ (record { first = refl; past = refl; steps = sym (append-nil old.steps); disk = omega arith; door = counted_more old.door_faults; channels = none_less_same old.channels; public = omega arith; operator = omega arith })

pub door_noted : (door : Doorway) (result : Result (Option ℕ) Failed) (old new : World) → DoorEnds door result old new → Noted old new (door_events door result (log_of old))
door_noted door (Ok (Some channel)) old new ends =
    subst (λ (w : World). Noted old w (Opened channel door ∷ [])) (sym ends.after) (
    record {
      more = steps.Opened (length old.channels) door ∷ [];
      moves = opening_moves door old;
      short = omega arith;
      quiet = λ which disk. refl;
      events_are = ap (λ (n : ℕ). Opened n door ∷ []) (sym ends.number);
    }
    )
door_noted door (Ok None) old new ends = subst (λ (w : World). Noted old w []) (sym ends.after) (idle_noted door old)
door_noted door (Err e) old new ends = ⊎_elim
    (λ listed. subst (λ (w : World). Noted old w []) (sym listed.after) (door_failed old))
    (λ other. ⊎_elim
    (λ used_up. subst (λ (w : World). Noted old w []) (sym used_up.after) (door_failed old))
    (λ starved. subst (λ (w : World). Noted old w []) (sym starved) (door_starved old))
    other)
    ends

-- a step that needs no memory and isn't counted as a call
pub step_noted : (old : World) (step : Step) (events : List Event) → events_of (step ∷ []) ≡ events → IsQuiet (step ∷ []) → Noted old (after_step step old) events
step_noted old step events is quiet = record {
  more = step ∷ [];
  moves = record { first = refl; past = refl; steps = refl; disk = omega arith; door = omega arith; channels = none_less_same old.channels; public = omega arith; operator = omega arith };
  short = omega arith;
  quiet = quiet;
  events_are = is;
}

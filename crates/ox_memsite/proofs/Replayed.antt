-- One more step of a replay, of a log, of what was shown, of the channels of a log, and of a script.
use Rattle.std.proofs.Common.{◌≡◌, ◌∙◌, ◌<◌, ◌+◌, max, ℕ, Bool, true, false, ◌||◌, List, [], ◌∷◌, ◌++◌, length, get_or, take, drop, ◌≤◌, inl, inr, refl, sym, ap, arith, append_assoc}
use Rattle.std.proofs.lemmas.Bool.{cases_eq}
use Rattle.std.proofs.lemmas.Grind.{get_or-set_at}
use Rattle.std.proofs.lemmas.List.{take_more, append-nil, length-set, get_or-set_other, take-append-le, take_all}
use Rattle.ox_outside.specs.Disk.{Disk}
use Rattle.ox_outside.specs.Event.{shown_bytes, has_broken}
use Rattle.ox_outside.specs.declared.site.Which.{Which}
use Rattle.ox_outside.proofs.Event.{shown_bytes-append, has_broken-append}
use Rattle.ox_memsite.specs.Flags.{flags_with, flags_after}
use Rattle.ox_memsite.specs.Room.{channels_in}
use Rattle.ox_memsite.specs.Script.{without_empty, kept_said}
use Rattle.ox_memsite.specs.World.{disk_step, disk_after, event_of, events_of}
use Rattle.ox_memsite.specs.declared.said.Said.{Said}
use Rattle.ox_memsite.specs.declared.step.Step.{Step}
use Rattle.ox_memsite.specs.declared.step.Step.TheVariants as steps
use Rattle.ox_memsite.proofs.Kept.{disk_after-append, events_of-push, or_false, or_true, itself, another}
use Rattle.ox_memsite.proofs.RoomLemmas.{channels_in-append}

pub disk_after_more : (which : Which) (disk : Disk) (steps : List Step) (i : ℕ) (d : Step) → i < length steps → disk_after which disk (take (i + 1) steps) ≡ disk_step which (disk_after which disk (take i steps)) (get_or steps i d)
disk_after_more which disk steps i d lt = ap (λ (l : List Step). disk_after which disk l) (take_more steps i d lt) ∙ disk_after-append which disk (take i steps) (get_or steps i d ∷ [])

pub events_of_more : (steps : List Step) (i : ℕ) (d : Step) → i < length steps → events_of (take (i + 1) steps) ≡ events_of (take i steps) ++ event_of (get_or steps i d)
events_of_more steps i d lt = ap events_of (take_more steps i d lt) ∙ events_of-push (take i steps) (get_or steps i d)

pub shown_more : (channel : ℕ) (steps : List Step) (i : ℕ) (d : Step) → i < length steps → shown_bytes channel (events_of (take (i + 1) steps)) ≡ shown_bytes channel (events_of (take i steps)) ++ shown_bytes channel (event_of (get_or steps i d))
shown_more channel steps i d lt = ap (shown_bytes channel) (events_of_more steps i d lt) ∙ shown_bytes-append channel (events_of (take i steps)) (event_of (get_or steps i d))

pub named_more : (steps : List Step) (i : ℕ) (d : Step) → i < length steps → channels_in (events_of (take (i + 1) steps)) ≡ max (channels_in (events_of (take i steps))) (channels_in (event_of (get_or steps i d)))
named_more steps i d lt = ap channels_in (events_of_more steps i d lt) ∙ channels_in-append (events_of (take i steps)) (event_of (get_or steps i d))

-- ---- scripts

without_empty-append : (x y : List Said) → without_empty (x ++ y) ≡ without_empty x ++ without_empty y
without_empty-append [] y = refl
without_empty-append (entry ∷ x) y = ap (λ (l : List Said). kept_said entry ++ l) (without_empty-append x y) ∙ sym (append_assoc (kept_said entry) (without_empty x) (without_empty y))

pub without_empty-push : (script : List Said) (i : ℕ) (d : Said) → i < length script → without_empty (take (i + 1) script) ≡ without_empty (take i script) ++ kept_said (get_or script i d)
without_empty-push script i d lt =
    ap without_empty (take_more script i d lt)
    ∙ without_empty-append (take i script) (get_or script i d ∷ [])
    ∙ ap (λ (l : List Said). without_empty (take i script) ++ l) (append-nil (kept_said (get_or script i d)))

-- ---- which channels have broken

flags_after-append : (flags : List Bool) (x y : List Step) → flags_after (x ++ y) flags ≡ flags_after y (flags_after x flags)
flags_after-append flags [] y = refl
flags_after-append flags (step ∷ x) y = flags_after-append (flags_with step flags) x y

pub flags_more : (flags : List Bool) (steps : List Step) (i : ℕ) (d : Step) → i < length steps → flags_after (take (i + 1) steps) flags ≡ flags_with (get_or steps i d) (flags_after (take i steps) flags)
flags_more flags steps i d lt = ap (λ (l : List Step). flags_after l flags) (take_more steps i d lt) ∙ flags_after-append flags (take i steps) (get_or steps i d ∷ [])

pub length-flags_with : (step : Step) (flags : List Bool) → length (flags_with step flags) ≡ length flags
length-flags_with (steps.Broke channel) flags = length-set flags channel true
length-flags_with (_) flags = refl

pub length-flags_after : (done : List Step) (flags : List Bool) → length (flags_after done flags) ≡ length flags
length-flags_after [] flags = refl
length-flags_after (step ∷ done) flags = length-flags_after done (flags_with step flags) ∙ length-flags_with step flags

-- flags that were lent as a slice, back in their place
pub written_back : (n : ℕ) (new old : List Bool) → n ≤ length new → length new ≤ n → take n (new ++ drop (length new) old) ≡ new
written_back n new old within all = take-append-le n new (drop (length new) old) within ∙ take_all n new all

flag_step : (step : Step) (flags : List Bool) (channel : ℕ) → channel < length flags → get_or (flags_with step flags) channel false ≡ (get_or flags channel false || has_broken channel (event_of step))
flag_step (steps.Broke c) flags channel lt = elim (cases_eq channel c) [
  | inl same ↦ get_or-set_at flags c channel true false same (omega (arith, lt, same)) ∙ sym (or_true (get_or flags channel false) _ (itself channel c same))
  | inr other ↦ get_or-set_other flags c channel true false other ∙ sym (or_false (get_or flags channel false) _ (another channel c other))
]
flag_step (_) flags channel lt = sym (or_false (get_or flags channel false) false refl)

or_assoc : (a b c : Bool) → ((a || b) || c) ≡ (a || (b || c))
or_assoc true b c = refl
or_assoc false b c = refl

-- the flags say of each channel among them whether it has broken
pub flags_say : (done : List Step) (flags : List Bool) (channel : ℕ) → channel < length flags → get_or (flags_after done flags) channel false ≡ (get_or flags channel false || has_broken channel (events_of done))
flags_say [] flags channel lt = sym (or_false (get_or flags channel false) false refl)
flags_say (step ∷ done) flags channel lt =
    flags_say done (flags_with step flags) channel (omega (arith, lt, length-flags_with step flags))
    ∙ ap (λ (b : Bool). b || has_broken channel (events_of done)) (flag_step step flags channel lt)
    ∙ or_assoc (get_or flags channel false) (has_broken channel (event_of step)) (has_broken channel (events_of done))
    ∙ ap (λ (b : Bool). get_or flags channel false || b) (sym (has_broken-append channel (event_of step) (events_of done)))

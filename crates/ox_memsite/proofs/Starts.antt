-- The fields of a site at its beginning, and what a channel said.
use Rattle.std.proofs.Common.{◌≡◌, ◌∙◌, ◌<◌, ◌≤◌, ◌*◌, ℕ, zero, suc, Bool, true, false, ◌||◌, ◌==◌, List, [], ◌∷◌, ◌++◌, length, get_or, take, drop, if◌then◌else◌, refl, sym, ap, subst, arith}
use Rattle.std.specs.Prelude.{replicate, slice_index_or, Result, Ok, Err, OnErr}
use Rattle.std.proofs.lemmas.List.{append-nil, length-replicate, length-set, length-take, take-append-le, take_all}
use Rattle.ox_outside.specs.Event.{Event, has_broken}
use Rattle.ox_outside.specs.Files.{Files}
use Rattle.ox_outside.specs.declared.site.Doorway.{Doorway}
use Rattle.ox_outside.specs.declared.site.Heard.{Heard as HeardAnswer}
use Rattle.ox_memsite.specs.Channels.{new_channel, next_script, nothing_yet, channel_at, at_channel, script_of}
use Rattle.ox_memsite.specs.Flags.{flags_after}
use Rattle.ox_memsite.specs.Heard.{Hears, said_input, said_by, input_after, channels_after, channels_with, steps_with, bytes_of, answer_of}
use Rattle.ox_memsite.specs.Kept.{IsKept}
use Rattle.ox_memsite.specs.Room.{channels_in}
use Rattle.ox_memsite.specs.Script.{said_bytes, said_next}
use Rattle.ox_memsite.specs.World.{World, events_of, waiting_at, public_after, operator_after, after_opening}
use Rattle.ox_memsite.specs.declared.channel.Channel.{Channel}
use Rattle.ox_memsite.specs.declared.said.Said.{Said}
use Rattle.ox_memsite.specs.declared.said.Said.TheVariants.{Bytes, NotYet, End}
use Rattle.ox_memsite.specs.declared.step.Step.{Step}
use Rattle.ox_memsite.specs.declared.step.Step.TheVariants as steps
use Rattle.ox_memsite.proofs.Replayed.{flags_say, length-flags_after}
use Rattle.ox_memsite.proofs.RoomLemmas.{owed_most}

none_broken : (n i : ℕ) → get_or (replicate n false) i false ≡ false
none_broken zero i = refl
none_broken (suc n) zero = refl
none_broken (suc n) (suc i) = none_broken n i

module _ (past : List Step) (count : ℕ) where
  flags_first : (channel : ℕ) → channel < count → get_or (flags_after past (replicate count false)) channel false ≡ has_broken channel (events_of past ++ [])
  flags_first channel below =
      flags_say past (replicate count false) channel (omega (arith, below, length-replicate count false))
      ∙ ap (λ (b : Bool). b || has_broken channel (events_of past)) (none_broken count channel)
      ∙ ap (has_broken channel) (sym (append-nil (events_of past)))

  named_first : count ≡ channels_in (events_of past) → channels_in (events_of past ++ []) ≤ count
  named_first is = subst (λ (l : List Event). channels_in l ≤ count) (sym (append-nil (events_of past))) (omega (arith, is))

  first_kept : (first : Files) (a b : List ℕ) (spare size : ℕ) → a ≡ first.a → b ≡ first.b → count ≡ channels_in (events_of past) → count ≤ 4294967296 → 3 * count ≤ spare
      → IsKept first a b past [] (flags_after past (replicate count false)) count spare 0 size
  first_kept first a b spare size is_a is_b is few room = record {
    file_a = is_a;
    file_b = is_b;
    flags = flags_first;
    as_many = length-flags_after past (replicate count false) ∙ length-replicate count false;
    numbers = named_first is;
    few = few;
    room = (let most = owed_most count (events_of past ++ []) in omega (arith, most, room));
    within = omega arith;
  }

  -- a site at its beginning
  pub kept_first : (first : Files) (a b : List ℕ) (spare size : ℕ) (done : List Step) (broken : List Bool) (count' : ℕ) → a ≡ first.a → b ≡ first.b → count ≡ channels_in (events_of past) → count ≤ 4294967296 → 3 * count ≤ spare
      → done ≡ [] → broken ≡ flags_after past (replicate count false) → count' ≡ count → IsKept first a b past done broken count' spare 0 size
  kept_first first a b spare size done broken count' is_a is_b is few room none is_broken as_many =
      subst (λ (l : List Step). IsKept first a b past l broken count' spare 0 size) (sym none) (
      subst (λ (l : List Bool). IsKept first a b past [] l count' spare 0 size) (sym is_broken) (
      subst (λ (n : ℕ). IsKept first a b past [] (flags_after past (replicate count false)) n spare 0 size) (sym as_many) (
      first_kept first a b spare size is_a is_b is few room)))

-- ---- what a channel said

-- a list that was lent as a slice, back in its place
pub back_same : {A : Type 0} (n : ℕ) (new old : List A) → length old ≡ n → length new ≡ length old → take n (new ++ drop (length new) old) ≡ new
back_same n new old size same = take-append-le n new (drop (length new) old) (omega (arith, size, same)) ∙ take_all n new (omega (arith, size, same))

length-one_of : (b : Bool) (x y : List Channel) (n : ℕ) → length x ≡ n → length y ≡ n → length (if b then x else y) ≡ n
length-one_of true x y n is_x is_y = is_x
length-one_of false x y n is_x is_y = is_y

pub length-channels_after : (channel room : ℕ) (channels : List Channel) → length (channels_after channel room channels) ≡ length channels
length-channels_after channel room channels = length-one_of (channel == 0) channels (at_channel channel (next_script room) channels) (length channels) refl (length-set channels channel (next_script room (channel_at channels channel)))

pub length-channels_with : (channel : ℕ) (said : Said) (channels : List Channel) → length (channels_with channel said channels) ≡ length channels
length-channels_with channel (Bytes bytes) channels = refl
length-channels_with channel NotYet channels = length-set channels channel (nothing_yet (channel_at channels channel))
length-channels_with channel End channels = refl

fits_input : (room : ℕ) (input : List ℕ) → length (bytes_of (said_input room input)) ≤ room
fits_input room [] = omega arith
fits_input room (byte ∷ input) = omega (arith, length-take room (byte ∷ input))

fits_bytes : (room : ℕ) (bytes : List ℕ) → length (bytes_of (said_bytes room bytes)) ≤ room
fits_bytes room [] = omega arith
fits_bytes room (byte ∷ bytes) = omega (arith, length-take room (byte ∷ bytes))

fits_next : (room : ℕ) (script : List Said) → length (bytes_of (said_next room script)) ≤ room
fits_next room [] = omega arith
fits_next room (Bytes bytes ∷ rest) = fits_bytes room bytes
fits_next room (NotYet ∷ rest) = omega arith
fits_next room (End ∷ rest) = omega arith

fits_one_of : (b : Bool) (x y : Said) (room : ℕ) → length (bytes_of x) ≤ room → length (bytes_of y) ≤ room → length (bytes_of (if b then x else y)) ≤ room
fits_one_of true x y room is_x is_y = is_x
fits_one_of false x y room is_x is_y = is_y

-- what is said fits the room
pub said_fits : (channel room : ℕ) (input : List ℕ) (channels : List Channel) (said : Said) → said ≡ said_by channel room input channels → length (bytes_of said) ≤ room
said_fits channel room input channels said is = subst (λ (s : Said). length (bytes_of s) ≤ room) (sym is) (
    fits_one_of (channel == 0) (said_input room input) (said_next room (script_of channels channel)) room (fits_input room input) (fits_next room (script_of channels channel)))

-- a result that is an error has what is said of one
pub always_err : {T E : Type 0} (result : Result T E) (P : Type 0) → P → OnErr result P
always_err (Ok x) P p = tt
always_err (Err e) P p = p

pub same_world : (w old : World) (done : List Step) (input : List ℕ) (channels : List Channel) → w ≡ old → done ≡ w.steps → input ≡ w.input → channels ≡ w.channels → (record w { steps = done; input = input; channels = channels }) ≡ old
same_world w old done input channels is same_steps same_input same_channels =
    let inner : (record w { steps = done; input = input; channels = channels }) ≡ w = λ i. record w { steps = same_steps i; input = same_input i; channels = same_channels i } in
    inner ∙ is

pub hears : (channel : ℕ) (into filled : List ℕ) (answer : HeardAnswer) (w old : World) (said : Said) (done : List Step) (input : List ℕ) (channels : List Channel) → w ≡ old
    → said ≡ said_by channel (length into) w.input w.channels → answer ≡ answer_of said → filled ≡ bytes_of said ++ drop (length (bytes_of said)) into
    → done ≡ steps_with channel said w.steps → input ≡ input_after channel (length into) w.input → channels ≡ channels_with channel said (channels_after channel (length into) w.channels)
    → Hears channel into filled answer old (record w { steps = done; input = input; channels = channels })
hears channel into filled answer w old said done input channels is is_next answers front same_steps same_input same_channels =
    subst (λ (o : World). Hears channel into filled answer o (record w { steps = done; input = input; channels = channels })) is (
    record {
      said = said;
      is_next = is_next;
      answers = answers;
      front = front;
      after = λ i. record w { steps = same_steps i; input = same_input i; channels = same_channels i };
    }
    )

pub opens : (door : Doorway) (w old : World) (public operator : List (List Said)) (done : List Step) (channels : List Channel) → w ≡ old
    → public ≡ public_after door w.at_public → operator ≡ operator_after door w.at_operator
    → done ≡ w.steps ++ steps.Opened (length w.channels) door ∷ []
    → channels ≡ w.channels ++ new_channel (slice_index_or (waiting_at w door) 0 []) ∷ []
    → (record w { at_public = public; at_operator = operator; steps = done; channels = channels }) ≡ after_opening door old
opens door w old public operator done channels is same_public same_operator same_steps same_channels =
    let inner : (record w { at_public = public; at_operator = operator; steps = done; channels = channels }) ≡ after_opening door w =
    λ i. record w { at_public = same_public i; at_operator = same_operator i; steps = same_steps i; channels = same_channels i } in
    inner ∙ ap (after_opening door) is

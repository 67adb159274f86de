-- Free slots, and whose turn it is.
use Rattle.std.proofs.Common.{◌<◌, ◌≡◌, ◌≢◌, ◌∙◌, ◌≤◌, ℕ, zero, suc, ◌+◌, ◌-◌, Bool, true, false, List, [], ◌∷◌, ◌++◌, length, drop, get_or, set, map, Option, Some, None, if◌then◌else◌, refl, sym, ap, subst, arith, ⊎_elim}
use Rattle.std.specs.Prelude.{is_some, IsSome, replicate}
use Rattle.std.specs.List.{list_any}
use Rattle.std.specs.Option.{option_map, option_or}
use Rattle.std.proofs.lemmas.List.{get_or_read, length-map}
use Rattle.ox_outside.specs.declared.site.Doorway.TheVariants.{Public, Operator}
use Rattle.ox_session.specs.Link.{new_link}
use Rattle.ox_links.specs.Rotation.{Who, door_of, link_of, first_who, is_free, places}
use Rattle.ox_turns.specs.Follows.{Holds}
use Rattle.ox_turns.specs.Places.{Places, channels_of, IsFirstOn, IsLowestFree, IsNext}
use Rattle.ox_turns.specs.Turn.{IsReady}
use Rattle.ox_turns.specs.declared.slot.Slot.{Slot}
use Rattle.ox_turns.proofs.Following.{first_nil}
use Rattle.ox_turns.proofs.Turned.{holds_set}

pub none_free : (slots : List (Option Slot)) → ((below : ℕ) → below < length slots → get_or slots below None ≢ None) → list_any is_free (channels_of slots) ≡ false
none_free [] taken = refl
none_free (None ∷ slots) taken = absurd (taken 0 (omega arith) refl)
none_free (Some a ∷ slots) taken = none_free slots (λ below less. taken (suc below) (let e : suc below < suc (length slots) = omega (arith, less) in e))

-- all that are in slots are ready, with one replaced by one that is
pub ready_set : (slots : List (Option Slot)) (at : ℕ) (v : Option Slot) → at < length slots → ((i : ℕ) (a : Slot) → Holds slots i a → IsReady a.session) → ((a : Slot) → v ≡ Some a → IsReady a.session)
    → (i : ℕ) (a : Slot) → Holds (set slots at v) i a → IsReady a.session
ready_set slots at v inside all one i a held = ⊎_elim (λ own. one a own.1) (λ other. all i a other.1) (holds_set slots at i v a inside held)

pub ready_new : (slot a : Slot) → slot.session ≡ new_link → Some slot ≡ Some a → IsReady a.session
ready_new slot a silent is =
    let e : slot ≡ a = cc is in
    subst (λ (s : Slot). IsReady s.session) e (subst IsReady (sym silent) (record { answered = refl; listens = refl; at_rest = record { goes_on = λ none. refl; asks_nothing = λ none. first_nil } }))

-- ---- places

some_free : (slots : List (Option Slot)) (at : ℕ) → at < length slots → get_or slots at None ≡ None → list_any is_free (channels_of slots) ≡ true
some_free [] at inside free = absurd (omega (arith, inside))
some_free (None ∷ slots) at inside free = refl
some_free (Some a ∷ slots) zero inside free = absurd (let e : Some a ≡ None = free in let no : ⊥ = cc e in no)
some_free (Some a ∷ slots) (suc at) inside free = some_free slots at (let e : suc at < suc (length slots) = inside in omega (arith, e)) free

pub doors_at : (free : Bool) (rest : List (Option Who)) (place : ℕ) → place < 2 → is_some (get_or ((if free then Some (door_of Public) ∷ Some (door_of Operator) ∷ [] else None ∷ None ∷ []) ++ rest) place None) ≡ free
doors_at true rest zero less = refl
doors_at true rest (suc zero) less = refl
doors_at true rest (suc (suc place)) less = absurd (omega (arith, less))
doors_at false rest zero less = refl
doors_at false rest (suc zero) less = refl
doors_at false rest (suc (suc place)) less = absurd (omega (arith, less))

pub door_on : (slots : List (Option Slot)) (o : Option ℕ) (place : ℕ) → IsLowestFree slots o → place < 2 → is_some o ≡ is_some (get_or (places (channels_of slots)) place None)
door_on slots None place lowest less = sym (doors_at (list_any is_free (channels_of slots)) (map (option_map link_of) (channels_of slots)) place less ∙ lowest)
door_on slots (Some at) place lowest less = sym (doors_at (list_any is_free (channels_of slots)) (map (option_map link_of) (channels_of slots)) place less ∙ some_free slots at lowest.0 lowest.1)

links_at : (slots : List (Option Slot)) (j : ℕ) → get_or (map (option_map link_of) (channels_of slots)) j None ≡ option_map (λ (slot : Slot). link_of slot.channel) (get_or slots j None)
links_at [] j = refl
links_at (None ∷ slots) zero = refl
links_at (Some a ∷ slots) zero = refl
links_at (s ∷ slots) (suc j) = links_at slots j

behind_doors : (free : Bool) (rest : List (Option Who)) (place : ℕ) → 2 ≤ place → get_or ((if free then Some (door_of Public) ∷ Some (door_of Operator) ∷ [] else None ∷ None ∷ []) ++ rest) place None ≡ get_or rest (place - 2) None
behind_doors free rest zero le = absurd (omega (arith, le))
behind_doors free rest (suc zero) le = absurd (omega (arith, le))
behind_doors true rest (suc (suc place)) le = ap (λ (k : ℕ). get_or rest k None) (let e : place ≡ suc (suc place) - 2 = omega arith in e)
behind_doors false rest (suc (suc place)) le = ap (λ (k : ℕ). get_or rest k None) (let e : place ≡ suc (suc place) - 2 = omega arith in e)

pub slot_at : (slots : List (Option Slot)) (place : ℕ) → 2 ≤ place → get_or (places (channels_of slots)) place None ≡ option_map (λ (slot : Slot). link_of slot.channel) (get_or slots (place - 2) None)
slot_at slots place le = behind_doors (list_any is_free (channels_of slots)) (map (option_map link_of) (channels_of slots)) place le ∙ links_at slots (place - 2)

is_some_map : {A B : Type 0} (f : A → B) (o : Option A) → is_some (option_map f o) ≡ is_some o
is_some_map f None = refl
is_some_map f (Some a) = refl

pub slot_on : (slots : List (Option Slot)) (place : ℕ) → 2 ≤ place → is_some (get_or slots (place - 2) None) ≡ is_some (get_or (places (channels_of slots)) place None)
slot_on slots place le = sym (ap is_some (slot_at slots place le) ∙ is_some_map (λ (slot : Slot). link_of slot.channel) (get_or slots (place - 2) None))

first_here : (n at : ℕ) (ps : List (Option Who)) (who : Who) → get_or ps at None ≡ Some who → first_who n (drop at ps) ≡ Some (n, who)
first_here n zero [] who is = absurd (let e : None ≡ Some who = is in let no : ⊥ = cc e in no)
first_here n (suc at) [] who is = absurd (let e : None ≡ Some who = is in let no : ⊥ = cc e in no)
first_here n zero (None ∷ ps) who is = absurd (let e : None ≡ Some who = is in let no : ⊥ = cc e in no)
first_here n zero (Some w ∷ ps) who is = ap (λ (x : Who). Some (n, x)) (let e : Some w ≡ Some who = is in let f : w ≡ who = cc e in f)
first_here n (suc at) (p ∷ ps) who is = first_here n at ps who is

-- of a place that isn't passed over
pub first_at : (channels : List (Option ℕ)) (place at : ℕ) → first_who place (drop place (places channels)) ≡ first_who at (drop at (places channels)) → is_some (get_or (places channels) at None) ≡ true
    → (who : Who) × (first_who place (drop place (places channels)) ≡ Some (at, who)) × (get_or (places channels) at None ≡ Some who)
first_at channels place at so_far on = by (get_or (places channels) at None) refl
  where
    by : (o : Option Who) → get_or (places channels) at None ≡ o → (who : Who) × (first_who place (drop place (places channels)) ≡ Some (at, who)) × (get_or (places channels) at None ≡ Some who)
    by None is = absurd (let e : false ≡ true = ap is_some (sym is) ∙ on in cc e)
    by (Some who) is = (who, so_far ∙ first_here at at (places channels) who is, is)

none_left : (ps : List (Option Who)) (n at : ℕ) → length ps ≤ at → first_who n (drop at ps) ≡ None
none_left [] n zero le = refl
none_left [] n (suc at) le = refl
none_left (p ∷ ps) n zero le = absurd (omega (arith, le))
none_left (p ∷ ps) n (suc at) le = none_left ps n at (let e : suc (length ps) ≤ suc at = le in omega (arith, e))

places_length : (channels : List (Option ℕ)) → length (places channels) ≡ 2 + length channels
places_length channels = by (list_any is_free channels)
  where
    by : (free : Bool) → length ((if free then Some (door_of Public) ∷ Some (door_of Operator) ∷ [] else None ∷ None ∷ []) ++ map (option_map link_of) channels) ≡ 2 + length channels
    by true = let e : suc (suc (length (map (option_map link_of) channels))) ≡ 2 + length channels = omega (arith, length-map channels (option_map link_of)) in e
    by false = let e : suc (suc (length (map (option_map link_of) channels))) ≡ 2 + length channels = omega (arith, length-map channels (option_map link_of)) in e

pub none_at : (slots : List (Option Slot)) (n at : ℕ) → length slots ≡ 32 → 34 ≤ at → first_who n (drop at (places (channels_of slots))) ≡ None
none_at slots n at many le = none_left (places (channels_of slots)) n at (omega (arith, many, le, places_length (channels_of slots), length-map slots (option_map (λ (s : Slot). s.channel))))

pub within_some : (slots : List (Option Slot)) (i : ℕ) → IsSome (get_or slots i None) → i < length slots
within_some [] i some = absurd (let e : false ≡ true = some in cc e)
within_some (s ∷ slots) zero some = omega arith
within_some (s ∷ slots) (suc i) some = let e : i < length slots = within_some slots i some in omega (arith, e)

pub held_here : (slots : List (Option Slot)) (at : ℕ) (o : Option Slot) (slot : Slot) → at < length slots → o ≡ get_or slots at o → o ≡ Some slot → Holds slots at slot
held_here slots at o slot inside read is = sym (get_or_read slots at o inside read None) ∙ is

-- the link that was read in a slot, behind a view and within it
pub slot_seen : (within outer : Places) → within ≡ outer → (at : ℕ) (o : Option Slot) (slot : Slot) → IsSome (get_or outer.slots at None) → o ≡ get_or within.slots at o → o ≡ Some slot
    → (at < length within.slots) × Holds within.slots at slot × Holds outer.slots at slot
slot_seen within outer same at o slot some read is =
    let inside = subst (λ (p : Places). at < length p.slots) (sym same) (within_some outer.slots at some) in
    let held = held_here within.slots at o slot inside read is in
    (inside, held, subst (λ (p : Places). Holds p.slots at slot) same held)

pub set_again : (slots : List (Option Slot)) (at : ℕ) (a b : Option Slot) → set (set slots at a) at b ≡ set slots at b
set_again [] at a b = refl
set_again (s ∷ slots) zero a b = refl
set_again (s ∷ slots) (suc at) a b = ap (λ (l : List (Option Slot)). s ∷ l) (set_again slots at a b)

-- somebody's turn it always is
pub somebody : (slots : List (Option Slot)) (n : ℕ) → 1 ≤ length slots → first_who n (places (channels_of slots)) ≡ None → ⊥
somebody [] n some none = omega (arith, some)
somebody (None ∷ slots) n some none = cc none
somebody (Some a ∷ slots) n some none = by (list_any is_free (channels_of slots)) none
  where
    by : (free : Bool) → first_who n ((if free then Some (door_of Public) ∷ Some (door_of Operator) ∷ [] else None ∷ None ∷ []) ++ Some (link_of a.channel) ∷ map (option_map link_of) (channels_of slots)) ≡ None → ⊥
    by true is = cc is
    by false is = cc is

-- from a place on and round
pub next_here : (channels : List (Option ℕ)) (place at : ℕ) → IsFirstOn channels place (Some at) → IsNext channels place at
next_here channels place at first = (first.0, ap (λ (o : Option (ℕ × Who)). option_or o (first_who 0 (places channels))) first.1, first.2)

pub next_round : (channels : List (Option ℕ)) (place at : ℕ) → IsFirstOn channels place None → IsFirstOn channels 0 (Some at) → IsNext channels place at
next_round channels place at none first = (first.0, ap (λ (o : Option (ℕ × Who)). option_or o (first_who 0 (places channels))) none ∙ first.1, first.2)

-- no slot of these holds a link
pub none_held : (n i : ℕ) (slot : Slot) → get_or (replicate n None) i None ≡ Some slot → ⊥
none_held zero i slot is = let e : None ≡ Some slot = is in cc e
none_held (suc n) zero slot is = let e : None ≡ Some slot = is in cc e
none_held (suc n) (suc i) slot is = none_held n i slot is

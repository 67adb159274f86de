-- Turns behind others: their log, their number, whose turn it was, and their idle ones.
use Rattle.std.proofs.Common.{◌≡◌, ◌∙◌, ◌≤◌, ◌<◌, ℕ, suc, ◌+◌, List, [], ◌∷◌, ◌++◌, length, Some, refl, sym, ap, subst, arith, inl, inr, length-append, Bool, true, false, ◌&&◌, ⊎_elim, cond}
use Rattle.std.proofs.lemmas.Bool.{eqb-true}
use Rattle.std.proofs.lemmas.Grind.{flat_map-append}
use Rattle.std.proofs.lemmas.List.{append-nil}
use Rattle.std.proofs.lemmas.List.Sums.{sum_by-append}
use Rattle.ox_outside.specs.Counts.{Counts, NoneFell, Rose}
use Rattle.ox_outside.specs.Event.{Event}
use Rattle.ox_outside.specs.declared.site.Doorway.{Doorway}
use Rattle.ox_outside.specs.declared.site.Doorway.TheVariants.{Public, Operator}
use Rattle.ox_links.specs.Rotation.{Who, door_of, link_of, slots_in, next_turn}
use Rattle.ox_links.specs.Serving.{Server}
use Rattle.ox_links.specs.Turned.{AreTurns, CountsIdles, CutShort, IsCut, IsTurn, RoseBy, Turn, Turned, idle_turns, is_idle, is_same, logged_by}
use Rattle.ox_links.proofs.Turns.{turns_join}
use Rattle.ox_turns.specs.Turn.{RoseIdle}

abbrev pub one_turn : Who → List Event → Turn
one_turn who events = record { who = who; events = events }

pub logged_join : (one two : List Turn) → logged_by (one ++ two) ≡ logged_by one ++ logged_by two
logged_join one two = flat_map-append (λ (t : Turn). t.events) one two

pub logged_more : (turns : List Turn) (who : Who) (events : List Event) → logged_by (turns ++ one_turn who events ∷ []) ≡ logged_by turns ++ events
logged_more turns who events = logged_join turns (one_turn who events ∷ []) ∙ ap (λ (l : List Event). logged_by turns ++ l) (append-nil events)

pub one_more : {A : Type 0} (list : List A) (a : A) → length (list ++ a ∷ []) ≡ suc (length list)
one_more list a = let e = length-append list (a ∷ []) in omega (arith, e)

-- one turn more, behind those since a start
pub turns_more : {X C : Type 0} (server : Server X C) (first : X) (start place at : ℕ) (turns : List Turn) (who : Who) (events : List Event)
    → AreTurns server first [] start turns place → next_turn place (slots_in (logged_by turns)) ≡ Some (at, who) → IsTurn server first (logged_by turns) who events
    → AreTurns server first [] start (turns ++ one_turn who events ∷ []) (suc at)
turns_more server first start place at turns who events made next turn =
    turns_join server first [] start place (suc at) turns (one_turn who events ∷ []) made (at, next, turn, refl)

-- ---- idle turns

idle_join : (who : Who) (one two : List Turn) → idle_turns who (one ++ two) ≡ idle_turns who one + idle_turns who two
idle_join who one two = sum_by-append _ one two

rose_join : (a b old mid new : ℕ) → mid ≤ new → RoseBy a old mid → RoseBy b mid new → RoseBy (a + b) old new
rose_join a b old mid new le (inl x) (inl y) = inl (omega (arith, x, y))
rose_join a b old mid new le x (inr y) = inr y
rose_join a b old mid new le (inr x) y = inr (omega (arith, x, le))

rose_as : (a b old new : ℕ) → b ≡ a → RoseBy a old new → RoseBy b old new
rose_as a b old new is rose = subst (λ (n : ℕ). RoseBy n old new) (sym is) rose

pub idles_join : (one two : List Turn) (old mid new : Counts) → NoneFell mid new → CountsIdles one old mid → CountsIdles two mid new → CountsIdles (one ++ two) old new
idles_join one two old mid new none_fell first then_ = record {
  doors = λ door. rose_as _ _ _ _ (idle_join (door_of door) one two) (rose_join _ _ _ _ _ (none_fell.door_idles door) (first.doors door) (then_.doors door));
  links = λ channel. rose_as _ _ _ _ (idle_join (link_of channel) one two) (rose_join _ _ _ _ _ (none_fell.not_yets channel) (first.links channel) (then_.links channel));
}

pub idles_none : (counts : Counts) → CountsIdles [] counts counts
idles_none counts = record { doors = λ door. inl (omega arith); links = λ channel. inl (omega arith) }

idle_is : (who : Who) (events : List Event) → is_idle (one_turn who events) ≡ true → events ≡ []
idle_is who [] is = refl
idle_is who (event ∷ events) is = absurd (cc is)

left_so : (a b : Bool) → (a && b) ≡ true → a ≡ true
left_so true b is = refl
left_so false b is = is

right_so : (a b : Bool) → (a && b) ≡ true → b ≡ true
right_so true b is = is
right_so false b is = absurd (cc is)

same_door : (door : Doorway) (who : Who) → is_same (door_of door) who ≡ true → who ≡ door_of door
same_door Public (door_of Public) is = refl
same_door Public (door_of Operator) is = absurd (cc is)
same_door Public (link_of c) is = absurd (cc is)
same_door Operator (door_of Public) is = absurd (cc is)
same_door Operator (door_of Operator) is = refl
same_door Operator (link_of c) is = absurd (cc is)

same_link : (channel : ℕ) (who : Who) → is_same (link_of channel) who ≡ true → who ≡ link_of channel
same_link channel (door_of Public) is = absurd (cc is)
same_link channel (door_of Operator) is = absurd (cc is)
same_link channel (link_of c) is = ap link_of (sym (eqb-true channel c is))

rose_if : (b : Bool) (old new : ℕ) → old ≤ new → (b ≡ true → Rose old new) → RoseBy (0 + cond b 1 0) old new
rose_if true old new le rose = ⊎_elim (λ less. inl (omega (arith, less))) (λ full. inr full) (rose refl)
rose_if false old new le rose = inl (omega (arith, le))

-- one turn, which its own count has where it is idle
pub idle_one : (who : Who) (events : List Event) (old new : Counts) → NoneFell old new → (events ≡ [] → RoseIdle who old new) → CountsIdles (one_turn who events ∷ []) old new
idle_one who events old new none_fell rose = record {
  doors = λ door. rose_if (is_same (door_of door) who && is_idle (one_turn who events)) _ _ (none_fell.door_idles door) (λ is.
      subst (λ (w : Who). RoseIdle w old new) (same_door door who (left_so _ _ is)) (rose (idle_is who events (right_so (is_same (door_of door) who) _ is))));
  links = λ channel. rose_if (is_same (link_of channel) who && is_idle (one_turn who events)) _ _ (none_fell.not_yets channel) (λ is.
      subst (λ (w : Who). RoseIdle w old new) (same_link channel who (left_so _ _ is)) (rose (idle_is who events (right_so (is_same (link_of channel) who) _ is))));
}

-- ---- runs

pub turned_so : {X C : Type 0} (server : Server X C) (first : X) (old new : Counts) (turns : List Turn) (end : ℕ) → AreTurns server first [] 0 turns end → CountsIdles turns old new
    → Turned server first (length turns) old new (logged_by turns)
turned_so server first old new turns end made idles = record {
  turns = turns;
  many = refl;
  end = end;
  made = made;
  idles = idles;
  logged = refl;
}

pub cut_so : {X C : Type 0} (server : Server X C) (first : X) (n : ℕ) (turns : List Turn) (end : ℕ) (cut : List Event) → length turns < n → AreTurns server first [] 0 turns end
    → IsCut server first (logged_by turns) end cut → CutShort server first n (logged_by turns ++ cut)
cut_so server first n turns end cut fewer made is_cut = record { turns = turns; fewer = fewer; end = end; made = made; cut = cut; is_cut = is_cut; logged = refl }

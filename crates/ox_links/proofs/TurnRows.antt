-- Turns written by hand.
use Rattle.std.proofs.Common.{if◌then◌else◌, length, sym, ◌≡◌, ◌∙◌, ◌==◌, ◌&&◌, ℕ, zero, suc, ◌+◌, Bool, true, false, List, [], ◌∷◌, ◌++◌, Option, Some, None, refl, ap, inl, inr, arith}
use Rattle.std.specs.List.{AllByRecursion, count_by, filter}
use Rattle.std.proofs.Math.Bool.{and-false}
use Rattle.std.proofs.lemmas.List.Sums.{length-filter}
use Rattle.ox_outside.specs.Counts.{Counts}
use Rattle.ox_outside.specs.Event.{Event, Opened, Heard, Showed, Broke, GaveUp, Shut}
use Rattle.ox_outside.specs.declared.site.Doorway.{Doorway}
use Rattle.ox_outside.specs.declared.site.Doorway.TheVariants.{Public, Operator}
use Rattle.ox_links.specs.Rotation.{Who, door_of, link_of, next_turn, slots_in}
use Rattle.ox_links.specs.Turned.{AreTurns, CutShort, IsTurn, RoseBy, Turn, Turned, idle_turns, is_idle, is_same, logged_by}
use Rattle.ox_links.proofs.Toy.{toy}

abbrev turn_of : Who → List Event → Turn
turn_of who events = record { who = who; events = events }

-- ---- 33 links at the doors
opened : ℕ → ℕ → List Event
opened c zero = []
opened c (suc n) = Opened c Public ∷ opened (c + 1) n

-- no slot is free: both doors are passed over
full : next_turn 0 (slots_in (opened 1 32)) ≡ Some (2, link_of 1)
unfolding opened
full = refl

-- once link 5 is shut, the next turn behind the last slot is the public door's
freed : next_turn 34 (slots_in (opened 1 32 ++ Shut 5 ∷ [])) ≡ Some (0, door_of Public)
unfolding opened
freed = refl

-- and the 33rd takes slot 4
taken : slots_in (opened 1 32 ++ Shut 5 ∷ Opened 33 Public ∷ []) ≡ slots_in (opened 1 4 ++ Opened 33 Public ∷ opened 6 27)
unfolding opened
taken = refl

-- ---- nine turns, two requests in one hearing
nine : List Turn
nine =
    turn_of (door_of Public) (Opened 1 Public ∷ []) ∷ turn_of (door_of Operator) [] ∷ turn_of (link_of 1) (Heard 1 (5 ∷ 5 ∷ []) ∷ [])
    ∷ turn_of (door_of Public) [] ∷ turn_of (door_of Operator) [] ∷ turn_of (link_of 1) (Showed 1 (1 ∷ 0 ∷ []) ∷ [])
    ∷ turn_of (door_of Public) [] ∷ turn_of (door_of Operator) [] ∷ turn_of (link_of 1) (Showed 1 (1 ∷ 0 ∷ []) ∷ []) ∷ []

nine_made : AreTurns toy 0 [] 0 nine 3
unfolding nine
nine_made = (
  0,
  refl,
  ((1, refl, omega arith, refl), refl),
  (
    1,
    refl,
    tt,
    (
      2,
      refl,
      (refl, inl refl),
      (
        0,
        refl,
        tt,
        (
          1,
          refl,
          tt,
          (
            2,
            refl,
            (refl, inl refl),
            (
              0,
              refl,
              tt,
              (
                1,
                refl,
                tt,
                (2, refl, (refl, inl refl), refl),
              ),
            ),
          ),
        ),
      ),
    ),
  ),
)

nine_idle : idle_turns (door_of Public) nine ∷ idle_turns (door_of Operator) nine ∷ idle_turns (link_of 1) nine ∷ [] ≡ 2 ∷ 3 ∷ 0 ∷ []
unfolding nine
nine_idle = refl

no_counts : Counts
no_counts = record { disk = 0; door = 0; hear = λ c. 0; show = λ c. 0; not_yets = λ c. 0; door_idles = λ d. 0 }

idles : Doorway → ℕ
idles Public = 2
idles Operator = 3

idled : Counts
idled = record { disk = 0; door = 0; hear = λ c. 0; show = λ c. 0; not_yets = λ c. 0; door_idles = idles }

filter_none : {A : Type 0} (p : A → Bool) (list : List A) → AllByRecursion (λ (a : A). p a ≡ false) list → filter p list ≡ []
filter_none p [] none = refl
filter_none p (a ∷ list) none = ap (λ (b : Bool). if b then a ∷ filter p list else filter p list) none.0 ∙ filter_none p list none.1

count_none : {A : Type 0} (p : A → Bool) (list : List A) → AllByRecursion (λ (a : A). p a ≡ false) list → count_by p list ≡ 0
count_none p list none = sym (length-filter p list) ∙ ap length (filter_none p list none)

-- no link has an idle turn
nine_links : (channel : ℕ) → idle_turns (link_of channel) nine ≡ 0
unfolding nine
nine_links channel =
    let heard = and-false (channel == 1) in
    count_none (λ (t : Turn). is_same (link_of channel) t.who && is_idle t) nine
    (refl, (refl, (heard, (refl, (refl, (heard, (refl, (refl, (heard, tt)))))))))

-- they make a run
nine_turned : Turned toy 0 9 no_counts idled (logged_by nine)
unfolding nine no_counts idled idles
nine_turned = record {
  turns = nine;
  many = refl;
  end = 3;
  made = nine_made;
  idles = record { doors = doors; links = λ channel. inl (let none = nine_links channel in omega (arith, none)) };
  logged = refl;
}
  where
    doors : (door : Doorway) → RoseBy (idle_turns (door_of door) nine) 0 (idles door)
    doors Public = inl (omega arith)
    doors Operator = inl (omega arith)

-- ---- turns with a link that gives up
giving_up : List Turn
giving_up =
    turn_of (door_of Public) [] ∷ turn_of (door_of Operator) (Opened 1 Operator ∷ []) ∷ turn_of (link_of 1) (Heard 1 (0 ∷ []) ∷ GaveUp 1 ∷ [])
    ∷ turn_of (door_of Public) [] ∷ turn_of (door_of Operator) [] ∷ turn_of (link_of 1) (Showed 1 (53 ∷ []) ∷ Shut 1 ∷ [])
    ∷ turn_of (door_of Public) [] ∷ []

giving_up_made : AreTurns toy 0 [] 0 giving_up 1
unfolding giving_up
giving_up_made = (
  0,
  refl,
  tt,
  (
    1,
    refl,
    ((1, refl, omega arith, refl), refl),
    (
      2,
      refl,
      (refl, inr (refl, refl, refl)),
      (
        0,
        refl,
        tt,
        (
          1,
          refl,
          tt,
          (
            2,
            refl,
            (refl, inl refl),
            (0, refl, tt, refl),
          ),
        ),
      ),
    ),
  ),
)

-- ---- no turns

heard_and_due : List Event
heard_and_due = Opened 1 Public ∷ Heard 1 (5 ∷ []) ∷ []

-- nothing is heard while an answer is due
not_heard : IsTurn toy 0 heard_and_due (link_of 1) (Heard 1 (5 ∷ []) ∷ []) → ⊥
unfolding heard_and_due
not_heard turn = absurd (cc turn.0)

-- a link that broke doesn't give up, it is shut
not_given_up : IsTurn toy 0 heard_and_due (link_of 1) (Broke 1 ∷ GaveUp 1 ∷ []) → ⊥
unfolding heard_and_due
not_given_up (is_first, inl shut) = absurd (cc shut)
not_given_up (is_first, inr gives) = absurd (cc gives.1)

broken_is_shut : IsTurn toy 0 heard_and_due (link_of 1) (Broke 1 ∷ Shut 1 ∷ [])
unfolding heard_and_due
broken_is_shut = (refl, inl refl)

-- no link is shut while an answer is due
not_shut : IsTurn toy 0 heard_and_due (link_of 1) (Showed 1 (1 ∷ []) ∷ Shut 1 ∷ []) → ⊥
unfolding heard_and_due
not_shut (is_first, inl shut) = absurd (cc shut)
not_shut (is_first, inr gives) = absurd (cc gives.0)

is_links : Option (ℕ × Who) → Bool
is_links None = true
is_links (Some whose) = of_who whose.1
  where
    of_who : Who → Bool
    of_who (door_of door) = false
    of_who (link_of channel) = true

-- a door has no turn while no slot is free
no_door : (end : ℕ) → AreTurns toy 0 (opened 1 32) 0 (turn_of (door_of Public) [] ∷ []) end → ⊥
unfolding opened is_links
no_door end turns =
    let e : true ≡ false = ap is_links turns.1 in
    absurd (cc e)

-- ---- cut in the third turn, behind its hearing
cut_short : CutShort toy 0 9 (Opened 1 Operator ∷ Heard 1 (0 ∷ []) ∷ [])
unfolding giving_up
cut_short = record {
  turns = turn_of (door_of Public) [] ∷ turn_of (door_of Operator) (Opened 1 Operator ∷ []) ∷ [];
  fewer = omega arith;
  end = 2;
  made = (0, refl, tt, (1, refl, ((1, refl, omega arith, refl), refl), refl));
  cut = Heard 1 (0 ∷ []) ∷ [];
  is_cut = (2, link_of 1, refl, refl);
  logged = refl;
}

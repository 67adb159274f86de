-- Turns go round.
use Rattle.std.proofs.Common.{◌≡◌, ◌∙◌, ℕ, zero, suc, ◌+◌, ◌≤◌, List, [], ◌∷◌, ◌++◌, length, map, take, drop, Option, Some, None, refl, sym, ap, subst, arith, append_assoc, length-append}
use Rattle.std.specs.Prelude.{slice_get, ⊤}
use Rattle.std.specs.Option.{option_or}
use Rattle.std.proofs.lemmas.List.{append-nil, take-append-drop, take-append-le}
use Rattle.ox_outside.specs.Event.{Event}
use Rattle.ox_links.specs.Rotation.{Who, first_who, next_turn, places, slots_in}
use Rattle.ox_links.specs.Round.{SlotsStay, numbered, round_from}
use Rattle.ox_links.specs.Serving.{Server}
use Rattle.ox_links.specs.Turned.{AreTurns, Turn, logged_by}

-- ---- the first

first_numbered : (k : ℕ) (on : List (Option Who)) → first_who k on ≡ slice_get (numbered k on) 0
first_numbered k [] = refl
first_numbered k (None ∷ on) = first_numbered (suc k) on
first_numbered k (Some who ∷ on) = refl

numbered-append : (k : ℕ) (a b : List (Option Who)) → numbered k (a ++ b) ≡ numbered k a ++ numbered (k + length a) b
numbered-append k [] b = let e : k ≡ k + 0 = omega arith in ap (λ (n : ℕ). numbered n b) e
numbered-append k (None ∷ a) b =
    let e : suc k + length a ≡ k + suc (length a) = omega arith in
    numbered-append (suc k) a b ∙ ap (λ (n : ℕ). numbered (suc k) a ++ numbered n b) e
numbered-append k (Some who ∷ a) b =
    let e : suc k + length a ≡ k + suc (length a) = omega arith in
    ap (λ (l : List (ℕ × Who)). (k, who) ∷ l) (numbered-append (suc k) a b ∙ ap (λ (n : ℕ). numbered (suc k) a ++ numbered n b) e)

all_numbered : (a b : List (Option Who)) → numbered 0 (a ++ b) ≡ numbered 0 a ++ numbered (length a) b
all_numbered a b =
    let e : 0 + length a ≡ length a = omega arith in
    numbered-append 0 a b ∙ ap (λ (n : ℕ). numbered 0 a ++ numbered n b) e

first_or : {A : Type 0} (x y : List A) → option_or (slice_get x 0) (slice_get (y ++ x) 0) ≡ slice_get (x ++ y) 0
first_or [] y = ap (λ (l : List _). slice_get l 0) (append-nil y)
first_or (a ∷ x) y = refl

-- once round from between two parts of the rotation
abbrev circle : List (Option Who) → List (Option Who) → List (ℕ × Who)
circle a b = numbered (length a) b ++ numbered 0 a

drop_front : {A : Type 0} (a b : List A) → drop (length a) (a ++ b) ≡ b
drop_front [] b = refl
drop_front (x ∷ a) b = drop_front a b

take_front : {A : Type 0} (a b : List A) → take (length a) (a ++ b) ≡ a
take_front [] b = refl
take_front (x ∷ a) b = ap (λ (l : List _). x ∷ l) (take_front a b)

-- the number of those that are taken matters only where some are left
taken_number : (k n : ℕ) (on : List (Option Who)) → numbered (k + length (take n on)) (drop n on) ≡ numbered (k + n) (drop n on)
taken_number k zero on = refl
taken_number k (suc n) [] = refl
taken_number k (suc n) (who ∷ on) =
    let e : k + suc (length (take n on)) ≡ suc k + length (take n on) = omega arith in
    let f : suc k + n ≡ k + suc n = omega arith in
    ap (λ (m : ℕ). numbered m (drop n on)) e ∙ taken_number (suc k) n on ∙ ap (λ (m : ℕ). numbered m (drop n on)) f

taken : (n : ℕ) (on : List (Option Who)) → numbered (length (take n on)) (drop n on) ≡ numbered n (drop n on)
taken n on =
    let e : length (take n on) ≡ 0 + length (take n on) = omega arith in
    let f : 0 + n ≡ n = omega arith in
    ap (λ (m : ℕ). numbered m (drop n on)) e ∙ taken_number 0 n on ∙ ap (λ (m : ℕ). numbered m (drop n on)) f

round_is : (place : ℕ) (slots : List (Option ℕ)) → round_from place slots ≡ circle (take place (places slots)) (drop place (places slots))
round_is place slots = ap (λ (l : List (ℕ × Who)). l ++ numbered 0 (take place (places slots))) (sym (taken place (places slots)))

round_at : (slots : List (Option ℕ)) (a b : List (Option Who)) → places slots ≡ a ++ b → round_from (length a) slots ≡ circle a b
round_at slots a b is =
    ap (λ (l : List (Option Who)). numbered (length a) (drop (length a) l) ++ numbered 0 (take (length a) l)) is
    ∙ ap (λ (l : List (Option Who)). numbered (length a) l ++ numbered 0 (take (length a) (a ++ b))) (drop_front a b)
    ∙ ap (λ (l : List (Option Who)). numbered (length a) b ++ numbered 0 l) (take_front a b)

pub first_of_round : (place : ℕ) (slots : List (Option ℕ)) → next_turn place slots ≡ slice_get (round_from place slots) 0
first_of_round place slots =
    let on = places slots in
    let front = take place on in
    let back = drop place on in
    let all : numbered 0 on ≡ numbered 0 front ++ numbered place back
    = ap (λ (l : List (Option Who)). numbered 0 l) (sym (take-append-drop place on)) ∙ all_numbered front back
    ∙ ap (λ (l : List (ℕ × Who)). numbered 0 front ++ l) (taken place on) in
    ap (λ (o : Option (ℕ × Who)). option_or o (first_who 0 on)) (first_numbered place back)
    ∙ ap (λ (o : Option (ℕ × Who)). option_or (slice_get (numbered place back) 0) o) (first_numbered 0 on ∙ ap (λ (l : List (ℕ × Who)). slice_get l 0) all)
    ∙ first_or (numbered place back) (numbered 0 front)

-- ---- the next ones

-- where the first of these stands, and what is behind it
record Found (k : ℕ) (on : List (Option Who)) (turn : ℕ × Who) (rest : List (ℕ × Who)) : Type 0 where
  none : List (Option Who)
  later : List (Option Who)
  split : on ≡ none ++ Some turn.1 ∷ later
  at : turn.0 ≡ k + length none
  empty : (j : ℕ) → numbered j none ≡ []
  behind : rest ≡ numbered (suc turn.0) later

found : (k : ℕ) (on : List (Option Who)) (turn : ℕ × Who) (rest : List (ℕ × Who)) → numbered k on ≡ turn ∷ rest → Found k on turn rest
found k [] turn rest is = absurd (cc is)
found k (None ∷ on) turn rest is =
    let later = found (suc k) on turn rest is in
    record {
      none = None ∷ later.none;
      later = later.later;
      split = ap (λ (l : List (Option Who)). None ∷ l) later.split;
      at = let e = later.at in omega (arith, e);
      empty = λ j. later.empty (suc j);
      behind = later.behind;
    }
found k (Some who ∷ on) turn rest is =
    let same : (k, who) ≡ turn = cc is in
    let behind : numbered (suc k) on ≡ rest = cc is in
    subst (λ (t : ℕ × Who). Found k (Some who ∷ on) t rest) same
    (record { none = []; later = on; split = refl; at = omega arith; empty = λ j. refl; behind = sym behind })

none_at : (k j : ℕ) (on : List (Option Who)) → numbered k on ≡ [] → numbered j on ≡ []
none_at k j [] is = refl
none_at k j (None ∷ on) is = none_at (suc k) (suc j) on is
none_at k j (Some who ∷ on) is = absurd (cc is)

-- from behind a turn on the round is this
record Steps (all : List (Option Who)) (turn : ℕ × Who) (after : List (ℕ × Who)) : Type 0 where
  front : List (Option Who)
  back : List (Option Who)
  same : all ≡ front ++ back
  len : length front ≡ suc turn.0
  round : circle front back ≡ after

steps_behind : (a b c : List (Option Who)) (turn : ℕ × Who) (rest : List (ℕ × Who)) → ((j : ℕ) → numbered j c ≡ []) → numbered (length a) b ≡ turn ∷ rest
    → Steps (a ++ (b ++ c)) turn (rest ++ (numbered 0 a ++ turn ∷ []))
steps_behind a b c turn rest empty is =
    let at = found (length a) b turn rest is in
    let mid = a ++ at.none in
    let len : length mid ≡ turn.0 = (let e = length-append a at.none in let f = at.at in omega (arith, e, f)) in
    let whole : length (mid ++ Some turn.1 ∷ []) ≡ suc turn.0 = (let e = length-append mid (Some turn.1 ∷ []) in omega (arith, e, len)) in
    record {
      front = mid ++ Some turn.1 ∷ [];
      back = at.later ++ c;
      same = ap (λ (l : List (Option Who)). a ++ (l ++ c)) at.split
          ∙ ap (λ (l : List (Option Who)). a ++ l) (append_assoc at.none (Some turn.1 ∷ at.later) c)
          ∙ sym (append_assoc a at.none (Some turn.1 ∷ at.later ++ c))
          ∙ sym (append_assoc mid (Some turn.1 ∷ []) (at.later ++ c));
      len = whole;
      round =
          ap (λ (n : ℕ). numbered n (at.later ++ c) ++ numbered 0 (mid ++ Some turn.1 ∷ [])) whole
          ∙ ap (λ (l : List (ℕ × Who)). l ++ numbered 0 (mid ++ Some turn.1 ∷ []))
          (numbered-append (suc turn.0) at.later c ∙ ap (λ (l : List (ℕ × Who)). numbered (suc turn.0) at.later ++ l) (empty _) ∙ append-nil _ ∙ sym at.behind)
          ∙ ap (λ (l : List (ℕ × Who)). rest ++ l)
          (all_numbered mid (Some turn.1 ∷ [])
          ∙ ap (λ (l : List (ℕ × Who)). l ++ numbered (length mid) (Some turn.1 ∷ []))
          (all_numbered a at.none ∙ ap (λ (l : List (ℕ × Who)). numbered 0 a ++ l) (at.empty _) ∙ append-nil _)
          ∙ ap (λ (n : ℕ). numbered 0 a ++ (n, turn.1) ∷ []) len);
    }

steps_on : (a b : List (Option Who)) (turn : ℕ × Who) (rest : List (ℕ × Who)) → circle a b ≡ turn ∷ rest → Steps (a ++ b) turn (rest ++ turn ∷ [])
steps_on a b turn rest is = by (numbered (length a) b) refl
  where
    by : (l : List (ℕ × Who)) → numbered (length a) b ≡ l → Steps (a ++ b) turn (rest ++ turn ∷ [])
    by [] none = steps_behind [] a b turn rest (λ j. none_at (length a) j b none) (sym (ap (λ (l : List (ℕ × Who)). l ++ numbered 0 a) none) ∙ is)
    by (t ∷ r) some =
        let whole : t ∷ (r ++ numbered 0 a) ≡ turn ∷ rest = sym (ap (λ (l : List (ℕ × Who)). l ++ numbered 0 a) some) ∙ is in
        let same : t ≡ turn = cc whole in
        let left : r ++ numbered 0 a ≡ rest = cc whole in
        subst (λ (l : List (Option Who)). Steps (a ++ l) turn (rest ++ turn ∷ [])) (append-nil b)
        (subst (λ (l : List (ℕ × Who)). Steps (a ++ (b ++ [])) turn (l ++ turn ∷ [])) left
        (subst (λ (l : List (ℕ × Who)). Steps (a ++ (b ++ [])) turn l) (sym (append_assoc r (numbered 0 a) (turn ∷ [])))
        (subst (λ (u : ℕ × Who). Steps (a ++ (b ++ [])) u (r ++ (numbered 0 a ++ u ∷ []))) same (steps_behind a b [] t r (λ j. refl) some))))

round_steps : (place : ℕ) (slots : List (Option ℕ)) (turn : ℕ × Who) (rest : List (ℕ × Who)) → round_from place slots ≡ turn ∷ rest → round_from (suc turn.0) slots ≡ rest ++ turn ∷ []
round_steps place slots turn rest is =
    let on = places slots in
    let next = steps_on (take place on) (drop place on) turn rest (sym (round_is place slots) ∙ is) in
    ap (λ (n : ℕ). round_from n slots) (sym next.len) ∙ round_at slots next.front next.back (sym (take-append-drop place on) ∙ next.same) ∙ next.round

-- ---- a row of them

-- these turns, each with its place, follow one another while the slots are these
abbrev Row : List (Option ℕ) → ℕ → List (ℕ × Who) → Type 0
Row slots place [] = ⊤
Row slots place (turn ∷ turns) = (next_turn place slots ≡ Some turn) × Row slots (suc turn.0) turns

row_is : (slots : List (Option ℕ)) (place : ℕ) (row : List (ℕ × Who)) → Row slots place row → length row ≤ length (round_from place slots) → row ≡ take (length row) (round_from place slots)
row_is slots place [] are few = refl
row_is slots place (turn ∷ row) are few =
    by (round_from place slots) refl few (row_is slots (suc turn.0) row are.1)
  where
    by : (round : List (ℕ × Who)) → round_from place slots ≡ round → suc (length row) ≤ length round
        → (length row ≤ length (round_from (suc turn.0) slots) → row ≡ take (length row) (round_from (suc turn.0) slots))
        → turn ∷ row ≡ take (suc (length row)) round
    by [] is few later = absurd (omega (arith, few))
    by (first ∷ rest) is few later =
        let whose : Some turn ≡ Some first = sym are.0 ∙ first_of_round place slots ∙ ap (λ (l : List (ℕ × Who)). slice_get l 0) is in
        let same : turn ≡ first = cc whose in
        let next = ap (λ (t : ℕ × Who). round_from (suc t.0) slots) same ∙ round_steps place slots first rest is in
        let within : length row ≤ length rest = omega (arith, few) in
        let many : length row ≤ length (round_from (suc turn.0) slots)
        = (let e = ap (λ (l : List (ℕ × Who)). length l) next ∙ length-append rest (first ∷ []) in omega (arith, e, within)) in
        ap (λ (t : ℕ × Who). t ∷ row) same
        ∙ ap (λ (l : List (ℕ × Who)). first ∷ l)
        (later many ∙ ap (λ (l : List (ℕ × Who)). take (length row) l) next ∙ take-append-le (length row) rest (first ∷ []) within)

-- the row of turns that were made
record MadeRow (slots : List (Option ℕ)) (place : ℕ) (turns : List Turn) : Type 0 where
  row : List (ℕ × Who)
  are : Row slots place row
  whose : map (λ (on : ℕ × Who). on.1) row ≡ map (λ (t : Turn). t.who) turns
  many : length row ≡ length turns

abbrev Stay : List (Option ℕ) → List Event → List Turn → Type 0
Stay slots past turns = (done later : List Turn) → turns ≡ done ++ later → slots_in (past ++ logged_by done) ≡ slots

row_of : {X C : Type 0} (server : Server X C) (first : X) (slots : List (Option ℕ)) (past : List Event) (place end : ℕ) (turns : List Turn)
    → AreTurns server first past place turns end → Stay slots past turns → MadeRow slots place turns
row_of server first slots past place end [] made stay = record { row = []; are = tt; whose = refl; many = refl }
row_of server first slots past place end (turn ∷ turns) made stay =
    let now : slots_in past ≡ slots = ap (λ (l : List Event). slots_in l) (sym (append-nil past)) ∙ stay [] (turn ∷ turns) refl in
    let on : Stay slots (past ++ turn.events) turns = λ done later is.
    ap (λ (l : List Event). slots_in l) (append_assoc past turn.events (logged_by done)) ∙ stay (turn ∷ done) later (ap (λ (l : List Turn). turn ∷ l) is) in
    let rest = row_of server first slots (past ++ turn.events) (suc made.0) end turns made.3 on in
    record {
      row = (made.0, turn.who) ∷ rest.row;
      are = (ap (λ (l : List (Option ℕ)). next_turn place l) (sym now) ∙ made.1, rest.are);
      whose = ap (λ (l : List Who). turn.who ∷ l) rest.whose;
      many = ap suc rest.many;
    }

pub turns_go_round : {X C : Type 0} (server : Server X C) (first : X) (past : List Event) (place end : ℕ) (turns : List Turn) → AreTurns server first past place turns end → SlotsStay past turns
    → length turns ≤ length (round_from place (slots_in past))
    → map (λ (t : Turn). t.who) turns ≡ map (λ (on : ℕ × Who). on.1) (take (length turns) (round_from place (slots_in past)))
turns_go_round server first past place end turns made stay few =
    let slots = slots_in past in
    let row = row_of server first slots past place end turns made stay in
    let is = row_is slots place row.row row.are (subst (λ (n : ℕ). n ≤ length (round_from place slots)) (sym row.many) few) in
    sym row.whose ∙ ap (λ (l : List (ℕ × Who)). map (λ (on : ℕ × Who). on.1) l) is
    ∙ ap (λ (n : ℕ). map (λ (on : ℕ × Who). on.1) (take n (round_from place slots))) row.many

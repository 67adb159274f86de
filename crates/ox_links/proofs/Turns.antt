-- Turns that follow one another, and their log.
use Rattle.std.proofs.Common.{◌≡◌, ◌∙◌, ◌==◌, ℕ, suc, Bool, true, false, List, [], ◌∷◌, ◌++◌, ◌&&◌, ◌||◌, if◌then◌else◌, refl, sym, ap, subst, append_assoc, inl, inr, ◌⊎◌}
use Rattle.std.specs.Prelude.{IsTrue}
use Rattle.std.proofs.lemmas.List.{append-nil}
use Rattle.std.proofs.lemmas.Bool.{eqb-true}
use Rattle.ox_outside.specs.Event.{Event, Opened, Heard, Ended, Showed, Broke, GaveUp, Shut}
use Rattle.ox_links.specs.GoesOn.{GoesOnWithout}
use Rattle.ox_links.specs.Rotation.{Who, door_of, link_of}
use Rattle.ox_links.specs.Serving.{Server, gives_up}
use Rattle.ox_links.specs.Turned.{AreTurns, IsTurn, Turn, is_first, logged_by}

pub turns_join : {X C : Type 0} (server : Server X C) (first : X) (past : List Event) (start middle end : ℕ) (one two : List Turn)
    → AreTurns server first past start one middle → AreTurns server first (past ++ logged_by one) middle two end → AreTurns server first past start (one ++ two) end
turns_join server first past start middle end [] two made more =
    subst (λ (k : ℕ). AreTurns server first past k two end) (sym made) (subst (λ (l : List Event). AreTurns server first l middle two end) (append-nil past) more)
turns_join server first past start middle end (turn ∷ one) two made more = (
  made.0,
  made.1,
  made.2,
  turns_join server first (past ++ turn.events) (suc made.0) middle end one two made.3
      (subst (λ (l : List Event). AreTurns server first l middle two end) (sym (append_assoc past turn.events (logged_by one))) more),
)

-- what a link logs behind its first event
abbrev IsTail : ℕ → List Event → Type 0
IsTail c rest = (rest ≡ []) ⊎ ((rest ≡ Shut c ∷ []) ⊎ (rest ≡ GaveUp c ∷ []))

tail_of : (over : Bool) (c : ℕ) (rest : List Event) → rest ≡ (if over then Shut c ∷ [] else []) → IsTail c rest
tail_of true c rest is = inr (inl is)
tail_of false c rest is = inl is

not_given : (b x : Bool) → x ≡ false → (if b then false else x) ≡ false
not_given true x is = refl
not_given false x is = is

-- behind the event of a link
behind : (c channel : ℕ) (rest more : List Event) → (c == channel) ≡ false → IsTail c rest → gives_up channel more ≡ false → gives_up channel (rest ++ more) ≡ false
behind c channel rest more other (inl is) none = ap (λ (l : List Event). gives_up channel (l ++ more)) is ∙ none
behind c channel rest more other (inr (inl is)) none = ap (λ (l : List Event). gives_up channel (l ++ more)) is ∙ not_given (c == channel) _ none
behind c channel rest more other (inr (inr is)) none = ap (λ (l : List Event). gives_up channel (l ++ more)) is ∙ ap (λ (b : Bool). b || gives_up channel more) other ∙ none

after_own : (b : Bool) (c channel : ℕ) (rest more : List Event) → (c == channel) ≡ b → IsTail c rest → gives_up channel more ≡ false → (if b then false else gives_up channel (rest ++ more)) ≡ false
after_own true c channel rest more is tail none = refl
after_own false c channel rest more is tail none = behind c channel rest more is tail none

own_then : (d c channel : ℕ) (rest more : List Event) → d ≡ c → IsTail c rest → gives_up channel more ≡ false → (if d == channel then false else gives_up channel (rest ++ more)) ≡ false
own_then d c channel rest more same tail none =
    ap (λ (k : ℕ). if k == channel then false else gives_up channel (rest ++ more)) same ∙ after_own (c == channel) c channel rest more refl tail none

left_true : (a b : Bool) → (a && b) ≡ true → a ≡ true
left_true true b is = refl
left_true false b is = is

link_goes : (c : ℕ) (due : Bool) (event : Event) (rest more : List Event) → IsTrue (is_first c due event) → IsTail c rest → GoesOnWithout more → GoesOnWithout (event ∷ rest ++ more)
link_goes c due (Opened d door) rest more is tail none channel = absurd (cc is)
link_goes c due (Heard d bytes) rest more is tail none channel = own_then d c channel rest more (eqb-true d c (left_true (d == c) _ is)) tail (none channel)
link_goes c due (Ended d) rest more is tail none channel = own_then d c channel rest more (eqb-true d c (left_true (d == c) _ is)) tail (none channel)
link_goes c due (Showed d bytes) rest more is tail none channel = own_then d c channel rest more (eqb-true d c (left_true (d == c) _ is)) tail (none channel)
link_goes c due (Broke d) rest more is tail none channel = own_then d c channel rest more (eqb-true d c is) tail (none channel)
link_goes c due (GaveUp d) rest more is tail none channel = absurd (cc is)
link_goes c due (Shut d) rest more is tail none channel = absurd (cc is)

turn_goes : {X C : Type 0} (server : Server X C) (first : X) (past : List Event) (who : Who) (events more : List Event) → IsTurn server first past who events → GoesOnWithout more → GoesOnWithout (events ++ more)
turn_goes server first past who [] more turn none = none
turn_goes server first past (door_of door) (event ∷ rest) more turn none =
    subst (λ (l : List Event). GoesOnWithout (event ∷ l ++ more)) (sym turn.1)
    (subst (λ (e : Event). GoesOnWithout (e ∷ more)) (sym turn.0.1) (λ channel. not_given (turn.0.0 == channel) _ (none channel)))
turn_goes server first past (link_of c) (event ∷ rest) more (is, inl shut) none = link_goes c _ event rest more is (tail_of _ c rest shut) none
turn_goes server first past (link_of c) (event ∷ rest) more (is, inr up) none = link_goes c _ event rest more is (inr (inr up.0)) none

pub turns_go : {X C : Type 0} (server : Server X C) (first : X) (past : List Event) (start end : ℕ) (turns : List Turn) → AreTurns server first past start turns end → GoesOnWithout (logged_by turns)
turns_go server first past start end [] made = λ channel. refl
turns_go server first past start end (turn ∷ turns) made =
    turn_goes server first past turn.who turn.events (logged_by turns) made.2 (turns_go server first (past ++ turn.events) (suc made.0) end turns made.3)

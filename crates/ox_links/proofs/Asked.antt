-- What a link asks depends on its own events and answers alone.
use Rattle.std.proofs.Common.{◌≡◌, ◌∙◌, ℕ, ◌==◌, Bool, true, false, List, [], ◌∷◌, ◌++◌, ◌&&◌, ◌||◌, not, Option, None, if◌then◌else◌, refl, ap}
use Rattle.std.specs.Prelude.{bytes_eq, slice_get}
use Rattle.std.proofs.lemmas.List.{append-nil}
use Rattle.ox_outside.specs.Event.{Event, Heard, Showed, GaveUp, channel_of, heard_bytes, shown_bytes, has_given_up}
use Rattle.ox_outside.proofs.Event.{has_given_up-append, heard_bytes-append, shown_bytes-append}
use Rattle.ox_http.specs.Talk.{Message}

-- what is asked in a stream, where so much is shown of so many replies
abbrev pub asked_of : (List ℕ → List Message) → List ℕ → List ℕ → Bool → List ℕ → ℕ → Option Message
asked_of talk heard shown given_up replies n = if bytes_eq replies shown && not given_up then slice_get (talk heard) n else None

pub asked-same : (talk : List ℕ → List Message) (heard heard' shown shown' : List ℕ) (up up' : Bool) (replies replies' : List ℕ) (n n' : ℕ)
    → heard ≡ heard' → shown ≡ shown' → up ≡ up' → replies ≡ replies' → n ≡ n' → asked_of talk heard shown up replies n ≡ asked_of talk heard' shown' up' replies' n'
asked-same talk heard heard' shown shown' up up' replies replies' n n' same_heard same_shown same_up same_replies same_n =
    ap (λ (l : List ℕ). asked_of talk l shown up replies n) same_heard
    ∙ ap (λ (l : List ℕ). asked_of talk heard' l up replies n) same_shown
    ∙ ap (λ (b : Bool). asked_of talk heard' shown' b replies n) same_up
    ∙ ap (λ (l : List ℕ). asked_of talk heard' shown' up' l n) same_replies
    ∙ ap (λ (k : ℕ). asked_of talk heard' shown' up' replies' k) same_n

pub asked-given_up : (talk : List ℕ → List Message) (heard shown replies : List ℕ) (up : Bool) (n : ℕ) → up ≡ true → asked_of talk heard shown up replies n ≡ None
asked-given_up talk heard shown replies up n is = ap (λ (b : Bool). asked_of talk heard shown b replies n) is ∙ never (bytes_eq replies shown) _
  where
    never : (b : Bool) (o : Option Message) → (if b && not true then o else None) ≡ None
    never true o = refl
    never false o = refl

-- ---- an event of another link
passed_over : (b : Bool) (x : List ℕ) → b ≡ false → (if b then x else []) ≡ []
passed_over b x is = ap (λ (c : Bool). if c then x else []) is

no_more : (b : Bool) → b ≡ false → (b || false) ≡ false
no_more b is = ap (λ (c : Bool). c || false) is

nothing_heard : (channel : ℕ) (event : Event) → (channel_of event == channel) ≡ false → heard_bytes channel (event ∷ []) ≡ []
nothing_heard channel (Heard c bytes) other = passed_over (c == channel) (bytes ++ []) other
nothing_heard channel event other = refl

nothing_shown : (channel : ℕ) (event : Event) → (channel_of event == channel) ≡ false → shown_bytes channel (event ∷ []) ≡ []
nothing_shown channel (Showed c bytes) other = passed_over (c == channel) (bytes ++ []) other
nothing_shown channel event other = refl

not_given_up : (channel : ℕ) (event : Event) → (channel_of event == channel) ≡ false → has_given_up channel (event ∷ []) ≡ false
not_given_up channel (GaveUp c) other = no_more (c == channel) other
not_given_up channel event other = refl

or-false : (b : Bool) → (b || false) ≡ b
or-false true = refl
or-false false = refl

pub heard-other : (channel : ℕ) (past : List Event) (event : Event) → (channel_of event == channel) ≡ false → heard_bytes channel (past ++ event ∷ []) ≡ heard_bytes channel past
heard-other channel past event other = heard_bytes-append channel past (event ∷ []) ∙ ap (λ (l : List ℕ). heard_bytes channel past ++ l) (nothing_heard channel event other) ∙ append-nil (heard_bytes channel past)

pub shown-other : (channel : ℕ) (past : List Event) (event : Event) → (channel_of event == channel) ≡ false → shown_bytes channel (past ++ event ∷ []) ≡ shown_bytes channel past
shown-other channel past event other = shown_bytes-append channel past (event ∷ []) ∙ ap (λ (l : List ℕ). shown_bytes channel past ++ l) (nothing_shown channel event other) ∙ append-nil (shown_bytes channel past)

pub given_up-other : (channel : ℕ) (past : List Event) (event : Event) → (channel_of event == channel) ≡ false → has_given_up channel (past ++ event ∷ []) ≡ has_given_up channel past
given_up-other channel past event other = has_given_up-append channel past (event ∷ []) ∙ ap (λ (b : Bool). has_given_up channel past || b) (not_given_up channel event other) ∙ or-false (has_given_up channel past)

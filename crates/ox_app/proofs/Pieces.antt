-- Showing bytes, piece by piece.
use Rattle.std.proofs.Common.{◌≡◌, ◌∙◌, ℕ, if◌then◌else◌, ◌||◌, Bool, true, false, List, [], ◌∷◌, ◌++◌, take, drop, refl, sym, ap, append_assoc}
use Rattle.std.specs.Prelude.{Option, Ok}
use Rattle.std.proofs.lemmas.List.{append-nil, take-append-drop}
use Rattle.std.proofs.lemmas.List.Elements.{All-append, All-cons, All-nil}
use Rattle.ox_outside.specs.declared.site.Shown.TheVariants.{Took}
use Rattle.ox_outside.specs.Event.{Event, Showed, Broke, channel_of, fault_events, has_broken, has_ended, heard_bytes, show_events, shown_bytes}
use Rattle.ox_outside.specs.Log.{Adds, Grows}
use Rattle.ox_outside.proofs.Event.{heard_bytes-append, shown_bytes-append, has_ended-append}
use Rattle.ox_outside.proofs.Log.{grows_add, grows_none, grows_weaker}
use Rattle.ox_app.specs.Show.{HearsNothing, ShowsFront, ShowsWhole}

-- these bytes are still to be shown
pub record HasShown (bytes rest : List ℕ) (events : List Event) : Type 0 where
  pub quiet : HearsNothing events
  pub shown : shown_bytes 0 events ++ rest ≡ bytes

abbrev pub Own : Event → Type 0
Own event = channel_of event ≡ 0

pub quiet_none : HearsNothing []
quiet_none = record { only = All-nil Own; unheard = refl; not_ended = refl }

quiet_one : (event : Event) → channel_of event ≡ 0 → heard_bytes 0 (event ∷ []) ≡ [] → has_ended 0 (event ∷ []) ≡ false → HearsNothing (event ∷ [])
quiet_one event own unheard not_ended = record { only = All-cons Own event [] own (All-nil Own); unheard = unheard; not_ended = not_ended }

none_joined : (a b : List ℕ) → a ≡ [] → b ≡ [] → a ++ b ≡ []
none_joined a b e f = rw (e, f) refl

neither : (a b : Bool) → a ≡ false → b ≡ false → (a || b) ≡ false
neither a b e f = rw (e, f) refl

pub quiet_then : (x y : List Event) → HearsNothing x → HearsNothing y → HearsNothing (x ++ y)
quiet_then x y p q = record {
  only = All-append Own x y p.only q.only;
  unheard = heard_bytes-append 0 x y ∙ none_joined _ _ p.unheard q.unheard;
  not_ended = has_ended-append 0 x y ∙ neither _ _ p.not_ended q.not_ended;
}

quiet_fault : (log : List Event) → HearsNothing (fault_events 0 log)
quiet_fault log = elim (has_broken 0 log) as (λ b. HearsNothing (if b then [] else Broke 0 ∷ [])) [
  | true ↦ quiet_none
  | false ↦ quiet_one (Broke 0) refl refl refl
]

fault_shows_nothing : (log : List Event) → shown_bytes 0 (fault_events 0 log) ≡ []
fault_shows_nothing log = elim (has_broken 0 log) as (λ b. shown_bytes 0 (if b then [] else Broke 0 ∷ []) ≡ []) [ true ↦ refl | false ↦ refl ]

-- before the first piece
pub showing_all : (bytes : List ℕ) (log : Option (List Event)) → Grows (HasShown bytes bytes) log log
showing_all bytes log = grows_none (HasShown bytes bytes) log (record { quiet = quiet_none; shown = refl })

takes_more : (bytes rest : List ℕ) (n : ℕ) (x : List Event) → HasShown bytes rest x → HasShown bytes (drop n rest) (x ++ Showed 0 (take n rest) ∷ [])
takes_more bytes rest n x so_far = record {
  quiet = quiet_then x (Showed 0 (take n rest) ∷ []) so_far.quiet (quiet_one (Showed 0 (take n rest)) refl refl refl);
  shown =
      ap (λ (l : List ℕ). l ++ drop n rest) (shown_bytes-append 0 x (Showed 0 (take n rest) ∷ []) ∙ ap (λ (l : List ℕ). shown_bytes 0 x ++ l) (append-nil (take n rest)))
      ∙ append_assoc (shown_bytes 0 x) (take n rest) (drop n rest)
      ∙ ap (λ (l : List ℕ). shown_bytes 0 x ++ l) (take-append-drop n rest)
      ∙ so_far.shown;
}

-- a piece was taken
pub showing_on : (bytes rest : List ℕ) (n : ℕ) (first mid now : Option (List Event)) → Grows (HasShown bytes rest) first mid
    → Adds (show_events 0 rest (Ok (Took n))) mid now → Grows (HasShown bytes (drop n rest)) first now
showing_on bytes rest n first mid now =
    grows_add (show_events 0 rest (Ok (Took n))) (HasShown bytes rest) (HasShown bytes (drop n rest)) first mid now (λ x log p. takes_more bytes rest n x p)

showing_broken : (bytes rest : List ℕ) (x log : List Event) → HasShown bytes rest x → ShowsFront bytes (x ++ fault_events 0 log)
showing_broken bytes rest x log so_far = record {
  quiet = quiet_then x (fault_events 0 log) so_far.quiet (quiet_fault log);
  shown = (
    rest,
    ap (λ (l : List ℕ). l ++ rest)
        (shown_bytes-append 0 x (fault_events 0 log) ∙ ap (λ (l : List ℕ). shown_bytes 0 x ++ l) (fault_shows_nothing log) ∙ append-nil (shown_bytes 0 x)) ∙ so_far.shown,
  );
}

-- a showing failed
pub showing_failed : (bytes rest : List ℕ) (first mid now : Option (List Event)) → Grows (HasShown bytes rest) first mid
    → Adds (fault_events 0) mid now → Grows (ShowsFront bytes) first now
showing_failed bytes rest first mid now = grows_add (fault_events 0) (HasShown bytes rest) (ShowsFront bytes) first mid now (λ x log p. showing_broken bytes rest x log p)

-- nothing is left to show
pub shown_whole : (bytes rest : List ℕ) (first now : Option (List Event)) → rest ≡ [] → Grows (HasShown bytes rest) first now → Grows (ShowsWhole bytes) first now
shown_whole bytes rest first now none = grows_weaker (HasShown bytes rest) (ShowsWhole bytes) first now
    (λ x so_far. record { quiet = so_far.quiet; shown = sym (append-nil (shown_bytes 0 x)) ∙ ap (λ (l : List ℕ). shown_bytes 0 x ++ l) (sym none) ∙ so_far.shown })

-- what was shown so far is a front of all
pub showing_front : (bytes rest : List ℕ) (first now : Option (List Event)) → Grows (HasShown bytes rest) first now → Grows (ShowsFront bytes) first now
showing_front bytes rest first now = grows_weaker (HasShown bytes rest) (ShowsFront bytes) first now (λ x so_far. record { quiet = so_far.quiet; shown = (rest, so_far.shown) })

pub front_none : (bytes : List ℕ) → ShowsFront bytes []
front_none bytes = record { quiet = quiet_none; shown = (bytes, refl) }

-- An event of another link leaves a link as it is.
use Rattle.std.proofs.Common.{◌≡◌, ◌∙◌, ℕ, Bool, true, false, List, [], ◌∷◌, ◌++◌, ◌==◌, if◌then◌else◌, Option, refl, ap, inl, inr}
use Rattle.std.proofs.lemmas.List.{append-nil}
use Rattle.std.proofs.lemmas.List.Elements.{filter-append}
use Rattle.ox_outside.specs.Event.{Event, channel_of}
use Rattle.ox_links.specs.GoesOn.{AddsOne}
use Rattle.ox_links.specs.Link.{Answer, answers_to, is_to}
use Rattle.ox_links.specs.Serving.{Server, Serving, after_event, answer_of, with_answer, with_event}
use Rattle.ox_links.proofs.Moments.{at_event}

pub answers_to-other : {C : Type 0} (channel : ℕ) (answers : List (Answer C)) (a : Answer C) → (a.channel == channel) ≡ false → answers_to channel (answers ++ a ∷ []) ≡ answers_to channel answers
answers_to-other {C = C} channel answers a other =
    filter-append (is_to channel) answers (a ∷ []) ∙ ap (λ (b : Bool). answers_to channel answers ++ (if b then a ∷ [] else [])) other ∙ append-nil (answers_to channel answers)

pub answers_to-own : {C : Type 0} (channel : ℕ) (answers : List (Answer C)) (a : Answer C) → (a.channel == channel) ≡ true → answers_to channel (answers ++ a ∷ []) ≡ answers_to channel answers ++ a ∷ []
answers_to-own {C = C} channel answers a own =
    filter-append (is_to channel) answers (a ∷ []) ∙ ap (λ (b : Bool). answers_to channel answers ++ (if b then a ∷ [] else [])) own

pub after_event_apart : {X C : Type 0} (server : Server X C) (channel : ℕ) (run : Serving X C) (event : Event) (rest : List Event) → (channel_of event == channel) ≡ false
    → answers_to channel (after_event server run event rest).answers ≡ answers_to channel run.answers
after_event_apart {C = C} server channel run event rest apart =
    let now = with_event run event in
    at_event server now event rest (λ (o : Option (Answer C)). answers_to channel (with_answer server now o).answers ≡ answers_to channel run.answers)
    (λ up. refl) (λ quiet. refl) (λ m moment. answers_to-other channel run.answers (answer_of server now (channel_of event) m) apart)

pub after_event_adds : {X C : Type 0} (server : Server X C) (run : Serving X C) (event : Event) (rest : List Event) → AddsOne (channel_of event) run.answers (after_event server run event rest).answers
after_event_adds {C = C} server run event rest =
    let now = with_event run event in
    at_event server now event rest (λ (o : Option (Answer C)). AddsOne (channel_of event) run.answers (with_answer server now o).answers)
    (λ up. inl refl) (λ quiet. inl refl) (λ m moment. inr (answer_of server now (channel_of event) m, refl, refl))

-- How a desk goes on along more answers.
use Rattle.std.proofs.Common.{◌≡◌, ◌∙◌, ℕ, ◌+◌, Bool, List, [], ◌∷◌, ◌++◌, Option, refl, sym, ap, subst}
use Rattle.ox_http.specs.declared.Request.{Request}
use Rattle.ox_outside.specs.Event.{Event, channel_of}
use Rattle.ox_links.specs.Link.{Answer}
use Rattle.ox_links.specs.Serving.{Server, Serving, start_at, answer_of, with_answer, with_event, after_event, serve_on, served_by, one_if}
use Rattle.ox_links.proofs.Moments.{at_event}
use Rattle.ox_app.specs.Along.{GoesAlong}

-- ---- the number of accepted commands

abbrev pub many_after : {C : Type 0} → ℕ → List (Answer C) → ℕ
many_after n [] = n
many_after n (answer ∷ answers) = many_after (n + one_if answer.is_accepted) answers

many_more : {C : Type 0} (n : ℕ) (answers : List (Answer C)) (answer : Answer C) → many_after n (answers ++ answer ∷ []) ≡ many_after n answers + one_if answer.is_accepted
many_more n [] answer = refl
many_more n (a ∷ answers) answer = many_more (n + one_if a.is_accepted) answers answer

module _ {X C : Type 0} (server : Server X C) where
  many_event : (run : Serving X C) (event : Event) (rest : List Event) → run.accepted ≡ many_after 0 run.answers
      → (after_event server run event rest).accepted ≡ many_after 0 (after_event server run event rest).answers
  many_event run event rest is =
      at_event server now event rest (λ (o : Option (Answer C)). (with_answer server now o).accepted ≡ many_after 0 (with_answer server now o).answers)
      (λ up. is) (λ quiet. is) (λ m moment. answered (answer_of server now (channel_of event) m) refl)
    where
      now : Serving X C
      now = with_event run event

      answered : (a : Answer C) → a.accepted ≡ run.accepted → a.accepted + one_if a.is_accepted ≡ many_after 0 (run.answers ++ a ∷ [])
      answered a by = ap (λ (n : ℕ). n + one_if a.is_accepted) (by ∙ is) ∙ sym (many_more 0 run.answers a)

  many_on : (run : Serving X C) (log : List Event) → run.accepted ≡ many_after 0 run.answers → (serve_on server run log).accepted ≡ many_after 0 (serve_on server run log).answers
  many_on run [] is = is
  many_on run (event ∷ rest) is = many_on (after_event server run event rest) rest (many_event run event rest is)

  -- of a run it is that of its answers
  pub many_of_run : (first : X) (log : List Event) → (served_by server first log).accepted ≡ many_after 0 (served_by server first log).answers
  many_of_run first log = many_on (start_at first) log refl

-- ---- a desk

module _ {X C D : Type 0} (server : Server X C) (state : D → X) (moved : D → Request → Bool → D → Type 0) (same : D → D → Type 0) where
  pub along_then : (n : ℕ) (old mid new : D) (one two : List (Answer C)) → GoesAlong server state moved same n old one mid → GoesAlong server state moved same (many_after n one) mid two new
      → GoesAlong server state moved same n old (one ++ two) new
  along_then n old mid new [] two first then_ = subst (λ (d : D). GoesAlong server state moved same n d two new) first then_
  along_then n old mid new (answer ∷ one) two first then_ = (first.0, first.1, along_then (n + one_if answer.is_accepted) first.0 mid new one two first.2 then_)

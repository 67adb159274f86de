-- How a desk went along the answers of a run.
use Rattle.std.specs.Prelude.{◌≡◌, ◌⊎◌, ℕ, ◌+◌, Bool, List, [], ◌∷◌, Option, Some, None, is_some}
use Rattle.ox_http.specs.declared.Request.{Request}
use Rattle.ox_http.specs.Talk.{Message, asks, faults}
use Rattle.ox_links.specs.Link.{Answer}
use Rattle.ox_links.specs.Serving.{Server, message_command, message_reply, next_state, one_if}

-- What an answer made of a desk; whether its link is an operator's. A request that was answered
-- moved it. A fault is answered without it. Where a link gave up, the desk had no memory, or wasn't
-- asked.
abbrev pub ByMessage : {D : Type 0} → (D → Request → Bool → D → Type 0) → (D → D → Type 0) → Bool
    → Option Message → D → D → Type 0
ByMessage moved same operator (Some (asks request)) old new = moved old request operator new
ByMessage moved same operator (Some (faults status)) old new = new ≡ old
ByMessage moved same operator None old new = (new ≡ old) ⊎ same old new

-- An answer by a desk as it was, behind so many accepted commands, and what it made of the desk.
pub record AnsweredBy {X C D : Type 0} (server : Server X C) (state : D → X)
    (moved : D → Request → Bool → D → Type 0) (same : D → D → Type 0) (accepted : ℕ) (old : D)
    (answer : Answer C) (new : D) : Type 0 where
  pub operator : Bool
  pub reply : answer.reply ≡ message_reply server (state old) operator answer.message
  pub command : answer.command ≡ message_command server operator answer.message
  pub is_accepted : answer.is_accepted ≡ is_some (next_state server (state old) answer.command)
  pub accepted_before : answer.accepted ≡ accepted
  pub desk : ByMessage moved same operator answer.message old new

-- from one desk to another by these answers, one after another
abbrev pub GoesAlong : {X C D : Type 0} → Server X C → (D → X) → (D → Request → Bool → D → Type 0)
    → (D → D → Type 0) → ℕ → D → List (Answer C) → D → Type 0
GoesAlong server state moved same accepted old [] new = new ≡ old
GoesAlong {D = D} server state moved same accepted old (answer ∷ answers) new =
    (mid : D) × AnsweredBy server state moved same accepted old answer mid
    × GoesAlong server state moved same (accepted + one_if answer.is_accepted) mid answers new

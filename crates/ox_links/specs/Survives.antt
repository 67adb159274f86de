-- What a crash leaves of a server's run.
use Rattle.std.specs.Prelude.{◌≡◌, ◌⊎◌, ℕ, suc, ◌≤◌, List, take, map, All}
use Rattle.ox_outside.specs.Event.{Event, shown_bytes}
use Rattle.ox_outside.specs.Files.{Files}
use Rattle.ox_links.specs.Link.{Answer, answers_to, reply_bytes}
use Rattle.ox_outside.specs.Shown.{IsFrontOf, acknowledgements}
use Rattle.ox_links.specs.Serving.{Server, served_by, commands_in, state_after}

-- the answers to a link of which a byte is shown
abbrev pub acknowledged_to : {C : Type 0} → ℕ → List Event → List (Answer C) → List (Answer C)
acknowledged_to channel log answers =
    let own = answers_to channel answers in
    take
    (acknowledgements (map (λ (a : Answer _). a.reply.bytes) own) (shown_bytes channel log)) own

-- Files that survive these events of a server that began in this state; `stands` says what files
-- stand for.
pub record Survives {X C : Type 0} (server : Server X C) (first : X) (stands : Files → X → Type 0)
    (events : List Event) (files : Files) : Type 0 where
  -- they stand for the state after so many of the commands
  pub kept : ℕ
  pub stands_for : stands files
      (state_after server first (take kept (commands_in (served_by server first events).answers)))
  -- which are all of them, or all but the last
  pub counted : ((served_by server first events).commands ≡ kept)
      ⊎ ((served_by server first events).commands ≡ suc kept)
  -- no byte was shown of an answer with more commands
  pub acknowledged : (channel : ℕ)
      → All (λ (a : Answer C). a.commands ≤ kept)
      (acknowledged_to channel events (served_by server first events).answers)
  -- on each link a front of its answers was shown
  pub shown : (channel : ℕ) → 1 ≤ channel
      → IsFrontOf (shown_bytes channel events)
      (reply_bytes (answers_to channel (served_by server first events).answers))

-- Servers of which nothing that was asked is left unanswered.
use Rattle.std.specs.Prelude.{◌≡◌, ℕ, ◌≤◌, Bool, [], length}
use Rattle.ox_http.specs.declared.Request.{Request}
use Rattle.ox_links.specs.Serving.{Server}

-- an empty stream says nothing, and no reply is empty
pub record Speaks {X C : Type 0} (server : Server X C) : Type 0 where
  pub nothing : server.talk [] ≡ []
  pub fault_reply : (status : ℕ) → 1 ≤ length (server.fault_reply status).bytes
  pub unavailable : 1 ≤ length server.unavailable.bytes
  pub reply : (state : X) (operator : Bool) (request : Request)
      → 1 ≤ length (server.reply state operator request).bytes

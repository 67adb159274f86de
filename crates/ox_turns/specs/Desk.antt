-- What a desk promises.
use Rattle.std.specs.Prelude.{◌≡◌, ◌⊎◌, ℕ, ◌≤◌, Bool, true, List, length, unwrap_or}
use Rattle.ox_outside.specs.Files.{Files}
use Rattle.ox_http.specs.declared.Request.{Request}
use Rattle.ox_http.specs.Talk.{talk}
use Rattle.ox_http.specs.Written.{fault_reply, unavailable, written}
use Rattle.ox_links.specs.Serving.{Server, next_state}

-- A server that reads streams as HTTP/1.1 does: a fault and running out of memory end a link, and
-- so does a request that says so, and no other. No reply is empty.
pub record IsHttp {X C : Type 0} (server : Server X C) : Type 0 where
  pub talk : (bytes : List ℕ) → server.talk bytes ≡ talk bytes
  pub fault_bytes : (status : ℕ)
      → (server.fault_reply status).bytes ≡ written (fault_reply status)
  pub fault_closes : (status : ℕ) → (server.fault_reply status).close ≡ true
  pub unavailable_bytes : server.unavailable.bytes ≡ unavailable
  pub unavailable_closes : server.unavailable.close ≡ true
  pub reply_speaks : (state : X) (operator : Bool) (request : Request)
      → 1 ≤ length (server.reply state operator request).bytes
  pub reply_closes : (state : X) (operator : Bool) (request : Request)
      → (server.reply state operator request).close ≡ request.close

-- the state behind a request, which its command may have moved
abbrev pub state_behind : {X C : Type 0} → Server X C → X → Bool → Request → X
state_behind server state operator request =
    unwrap_or (next_state server state (server.command operator request)) state

-- files stand for one state or the other
abbrev pub StandsForEither : {X : Type 0} → (Files → X → Type 0) → X → X → Files → Type 0
StandsForEither stands before after files = stands files before ⊎ stands files after

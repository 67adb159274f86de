-- A link that may still be heard, given up and shut.
use Rattle.std.specs.Prelude.{◌≡◌, ℕ, false, IsTrue}
use Rattle.ox_outside.specs.Event.{is_open, has_given_up}
use Rattle.ox_memsite.specs.World.{World, log_of}

pub record IsLive (link : ℕ) (w : World) : Type 0 where
  pub open_ : IsTrue (is_open link (log_of w))
  pub whole : has_given_up link (log_of w) ≡ false

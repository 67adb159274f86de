-- What a session is seen as, and what each of its calls makes of it.
use Rattle.std.specs.Prelude.{◌≡◌, ℕ, Bool, true, false, List, [], drop}
use Rattle.ox_http.specs.First.{whole, more, fault, first_of}
use Rattle.ox_http.specs.Written.{fault_reply, written}
use Rattle.ox_session.specs.declared.stream.Next.{Next}
use Rattle.ox_session.specs.declared.stream.Next.TheVariants.{Whole, More, Fault}
use Rattle.ox_session.specs.declared.Poll.{Poll}
use Rattle.ox_session.specs.declared.Poll.TheVariants.{Asked, Waiting, Answered, Over}

-- One link: the bytes that were heard and not answered, whether it has ended, the bytes that are
-- due, whether a request is asked and not answered, and whether the last reply says close.
pub record Link : Type 0 where
  pub heard : List ℕ
  pub ended : Bool
  pub due : List ℕ
  pub asked : Bool
  pub closing : Bool

-- a link that said nothing
abbrev pub new_link : Link
new_link = record { heard = []; ended = false; due = []; asked = false; closing = false }

-- What a stream begins with, and the bytes behind a whole request; all else leaves the stream.
abbrev pub Cuts : Next → List ℕ → List ℕ → Type 0
Cuts (Whole request) old new =
    (n : ℕ) × (first_of old ≡ whole request n) × (new ≡ drop n old)
Cuts More old new = (first_of old ≡ more) × (new ≡ old)
Cuts (Fault status) old new = (first_of old ≡ fault status) × (new ≡ old)

-- The answers of a link of which the last reply doesn't say close: a whole request is asked and
-- cut off; the reply to a fault is due, and says close; where neither is left, the link waits for
-- more or is over.
abbrev pub Says : Poll → Link → Link → Type 0
Says (Asked request) old new =
    (n : ℕ) × (first_of old.heard ≡ whole request n)
    × (new ≡ record old { heard = drop n old.heard; asked = true })
Says Answered old new =
    (status : ℕ) × (first_of old.heard ≡ fault status)
    × (new ≡ record old { due = written (fault_reply status); closing = true })
Says Waiting old new = (first_of old.heard ≡ more) × (old.ended ≡ false) × (new ≡ old)
Says Over old new = (first_of old.heard ≡ more) × (old.ended ≡ true) × (new ≡ old)

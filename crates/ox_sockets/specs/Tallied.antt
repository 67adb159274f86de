-- What the sockets count, and how they number links.
use Rattle.std.specs.Prelude.{◌≡◌, ℕ, ◌+◌, Option, Some, None, Result, Ok, Err}
use Rattle.ox_outside.specs.Counts.{Counts}
use Rattle.ox_outside.specs.declared.site.Doorway.{Doorway}
use Rattle.ox_outside.specs.declared.site.Doorway.TheVariants.{Public, Operator}
use Rattle.ox_outside.specs.declared.site.Failed.{Failed}
use Rattle.ox_sockets.specs.declared.tally.Tally.{Tally}

-- how often nobody waited at each door
abbrev pub idles_of : ℕ → ℕ → Doorway → ℕ
idles_of public operator Public = public
idles_of public operator Operator = operator

-- one count of each kind for all links together, and no files
abbrev pub counts_of : Tally → Counts
counts_of tally = record {
  disk = 0;
  door = tally.door_faults;
  hear = λ _. tally.hear_faults;
  show = λ _. tally.show_faults;
  not_yets = λ _. tally.not_yets;
  door_idles = idles_of tally.public_idles tally.operator_idles;
}

-- nothing has failed, and nobody was waited for
abbrev pub no_counts : Counts
no_counts = record {
  disk = 0;
  door = 0;
  hear = λ _. 0;
  show = λ _. 0;
  not_yets = λ _. 0;
  door_idles = idles_of 0 0;
}

-- a link's number is one above the last, and is the last from then on: so each comes once
abbrev pub CountsUp : ℕ → ℕ → Result (Option ℕ) Failed → Type 0
CountsUp old new (Ok (Some number)) = (number ≡ old + 1) × (new ≡ number)
CountsUp old new (Ok None) = new ≡ old
CountsUp old new (Err failed) = new ≡ old

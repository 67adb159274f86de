use Rattle.std.proofs.Common.{◌≡◌, ◌++◌, drop}
use Rattle.std.specs.Prelude.{map}
use Rattle.ox_envelope.specs.Payload.{inscribed_of}
use Rattle.ox_inscribe.specs.Reveal.{said_by, sightings_in}
use Rattle.ox_inscribe.proofs.sightings.see_envelopes.Given as goal

-- the envelopes so far, and those that are left
abbrev pub invariant-loop-place : goal.invariant-loop-place
invariant-loop-place l =
    l.seen.items ++ sightings_in l.input l.before l.sats l.place (map inscribed_of (drop l.place l.envelopes))
    ≡ l.initial.seen.items ++ sightings_in l.input l.before l.sats 0 (said_by l.from)

use Rattle.std.proofs.Common.{◌≡◌, ◌≤◌, ◌<◌, ◌^◌, ◌-◌, ℕ, false}
use Rattle.std.specs.Ordering.{nat_cmp}
use Rattle.ox_inscribe.specs.Shelved.{at, starts_below}
use Rattle.ox_inscribe.proofs.keys.Keys.next_on.Given as goal

-- no satoshi from the number up to the one that is looked at has a row that stands below the end
abbrev pub invariant-loop-found : goal.invariant-loop-found
invariant-loop-found l = record {
  from : l.sat ≤ l.found.0;
  fits : l.found.0 < 2 ^ 64;
  numbers : l.found.1.now ≡ at nat_cmp l.self.sats l.found.0;
  first : (sat : ℕ) → l.sat ≤ sat → sat < l.found.0 → starts_below l.end (at nat_cmp l.self.sats sat) ≡ false;
}

abbrev pub decreases-loop-found : goal.decreases-loop-found
decreases-loop-found l = 2 ^ 64 - l.found.0

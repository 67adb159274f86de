use Rattle.std.proofs.Common.{◌≡◌, drop}
use Rattle.ox_plain.specs.Ends.{places_rise}
use Rattle.ox_plain.proofs.counts.places_rise.Given as goal

-- all rise exactly where those that are left do
abbrev pub invariant-loop-change : goal.invariant-loop-change
invariant-loop-change l = places_rise l.from (drop l.change-index l.changes) ≡ places_rise 0 l.changes

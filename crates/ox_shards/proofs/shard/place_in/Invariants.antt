use Rattle.std.proofs.Common.{◌≡◌, ◌<◌, ℕ, false, get_or}
use Rattle.std.specs.BTreeMap.{is_at}
use Rattle.ox_shards.proofs.shard.place_in.Given as goal

-- no key before this place is the one
abbrev pub invariant-loop-place : goal.invariant-loop-place
invariant-loop-place g l = (k : ℕ) → k < l.place → (d : g.row.K.Denot × g.row.V.Denot) → is_at (g.K.Ord.cmp l.key) (get_or l.entries k d).0 ≡ false

use Rattle.std.proofs.Common.{◌≢◌, ◌<◌, ℕ, Some}
use Rattle.ox_asof.specs.Back.{tip_back}
use Rattle.ox_asof.proofs.back.back_to.Given as goal

-- none that is nearer is it
abbrev pub invariant-loop-back : goal.invariant-loop-back
invariant-loop-back g l = (b : ℕ) → b < l.back → tip_back (g.V.View.index l.view).hashes b ≢ Some l.hash

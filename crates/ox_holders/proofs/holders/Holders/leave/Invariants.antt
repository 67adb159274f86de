use Rattle.std.proofs.Common.{◌≡◌, ℕ, List, take}
use Rattle.std.specs.Prelude.{◌&&◌, not}
use Rattle.ox_block.specs.declared.block.OutPoint.{OutPoint}
use Rattle.ox_holders.specs.Keys.{is_among, is_in}
use Rattle.ox_holders.proofs.holders.Holders.leave.Given as goal

abbrev pub invariant-loop-at : goal.invariant-loop-at
invariant-loop-at l =
    (script : List ℕ) (place : OutPoint) →
    is_among l.self.keys.keys script place
    ≡ (is_among l.fn.self.keys.keys script place && not (is_in (take l.at-index l.rows) script place))

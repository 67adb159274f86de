use Rattle.std.proofs.Common.{◌≡◌, ℕ, List, take}
use Rattle.ox_block.specs.declared.block.OutPoint.{OutPoint}
use Rattle.ox_holders.specs.Keys.{is_among, is_in}
use Rattle.ox_holders.proofs.holders.Holders.of.Given as goal

abbrev pub invariant-loop-n : goal.invariant-loop-n
invariant-loop-n l =
    (script : List ℕ) (place : OutPoint) →
    is_among l.holders.keys.keys script place ≡ is_in (take l.n l.rows) script place

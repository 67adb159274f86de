use Rattle.std.proofs.Common.{◌≡◌, ◌≤◌, ◌+◌, ℕ, List, length}
use Rattle.std.specs.Prelude.{Result, Ok, Err, IfOk}
use Rattle.ox_gated.specs.Gate.{chain_of}
use Rattle.ox_gated.specs.Layout.{layout_of}
use Rattle.ox_gated.specs.declared.head.Head.{Head}
use Rattle.ox_gated.specs.declared.records.Walk.{Walk}
use Rattle.ox_gated.proofs.Chain.{count_of}
use Rattle.ox_gated.proofs.LayoutLaws.{laws_of}
use Rattle.ox_gated.proofs.records.walk_from.Goals as goal

counted : {E : Type 0} (head : Head) (place : ℕ) (bytes : List ℕ) (result : Result Walk E) → IfOk result (λ walk. record { records = walk.records; end = walk.end } ≡ chain_of head place bytes) → IfOk result (λ walk. IfOk walk.end (λ gate. place + length walk.records ≤ gate))
counted head place bytes (Ok walk) is = count_of (layout_of head.version) (laws_of head.version) head.generation place bytes walk.records walk.end is
counted head place bytes (Err e) is = is

pub returns-clause-count : goal.returns-clause-count
returns-clause-count c = counted c.args.head.now c.args.place c.args.bytes.now c.walk_on.result c.walk_on.ensures

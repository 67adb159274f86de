use Rattle.std.proofs.Common.{subst, sym}
use Rattle.std.specs.Prelude.{Result, Ok, Err, IfOk}
use Rattle.std.specs.Result.{result_ok}
use Rattle.ox_bytes.specs.declared.memory.Memory.{Memory}
use Rattle.ox_holders.specs.Keys.{StandFor}
use Rattle.ox_holders.specs.declared.holders.Holders.{Holders}
use Rattle.ox_model.specs.Index.{Index}
use Rattle.ox_desk.specs.Held.{AreHoldersOf}
use Rattle.ox_desk.proofs.held.holders_behind.Goals as goal

-- where there was no memory there are none
let_go : (index : Index) (step : Result Holders Memory) → IfOk step (λ behind. StandFor behind index.outs) → AreHoldersOf index (result_ok step)
let_go index (Ok behind) stand = stand
let_go index (Err e) stand = tt

pub returns : goal.returns
returns c = λ before after moves stood.
    subst (AreHoldersOf after) (sym c.ok.ensures.value)
    (let_go after c.step.result (c.step.ensures before after moves (subst (AreHoldersOf before) c.in_ok-holders.was stood)))

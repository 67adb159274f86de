-- What becomes of a stack by a payload that makes this of it: the stack after it; or the one
-- before, where it isn't accepted.
use Rattle.std.specs.Prelude.{◌≡◌, Option, Some, None}
use Rattle.ox_model.specs.Stack.{Stack}
use Rattle.ox_checkpoint.specs.declared.standing.Judgement.{Judgement}
use Rattle.ox_checkpoint.specs.declared.standing.Judgement.TheVariants.{Accepted, NotAccepted}

abbrev pub IsJudgement : Stack → Option Stack → Judgement → Type 0
IsJudgement before made (Accepted after) = made ≡ Some after
IsJudgement before made (NotAccepted kept) = (made ≡ None) × (kept ≡ before)

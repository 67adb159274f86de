use Rattle.std.proofs.Common.{◌∙◌, sym, true≢false}
use Rattle.ox_ledger.proofs.holders.push_gone.Goals as goal

pub returns-then-is_same-clause-differs : goal.returns-then-is_same-clause-differs
returns-then-is_same-clause-differs c = λ other. absurd (other (c.is_same.ensures.0 c.if-is_same.true))

pub returns-clause-same : goal.returns-clause-same
returns-clause-same c = λ same. absurd (true≢false (sym (c.is_same.ensures.1 same) ∙ c.if-is_same.false))

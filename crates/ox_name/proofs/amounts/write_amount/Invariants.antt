use Rattle.ox_name.specs.Amount.{amount_text}
use Rattle.ox_name.proofs.Decimals.{Written}
use Rattle.ox_name.proofs.amounts.write_amount.Given as goal

abbrev pub invariant-loop-part : goal.invariant-loop-part
invariant-loop-part l = Written (amount_text l.amount l.divisibility) l.into l.fn.into l.unit l.part l.len

abbrev pub decreases-loop-part : goal.decreases-loop-part
decreases-loop-part l = l.unit

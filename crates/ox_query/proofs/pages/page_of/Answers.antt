use Rattle.std.proofs.Common.{arith}
use Rattle.ox_query.proofs.pages.page_of.Goals as goal

pub returns-clause-first : goal.returns-clause-first
returns-clause-first c = omega arith

pub returns-clause-end : goal.returns-clause-end
returns-clause-end c = omega arith

use Rattle.std.proofs.Common.{rules, arith}
use Rattle.ox_shards.proofs.LineLemmas.{kept_line, lower_line}
use Rattle.ox_shards.proofs.lines.Lines.line_of.Goals as goal

pub returns-then-line-self-clause-value : goal.returns-then-line-self-clause-value
returns-then-line-self-clause-value c = kept_line c.args.self.now.level c.args.self.now.count c.half-half.result c.args.spread c.half-half.ensures c.if-line-self.true

pub returns-else-line-self-clause-value : goal.returns-else-line-self-clause-value
returns-else-line-self-clause-value c = lower_line c.args.self.now.level c.args.self.now.count c.half-half.result c.args.spread c.half-half.ensures (search (rules, arith))

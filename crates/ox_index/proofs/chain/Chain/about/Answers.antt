use Rattle.std.proofs.Common.{◌∙◌, sym, arith}
use Rattle.ox_index.specs.Live.{index_in}
use Rattle.ox_index.proofs.KeptBlocks.{length-older_by}
use Rattle.ox_index.proofs.chain.Chain.about.Goals as goal

pub overflow_cast-result : goal.overflow_cast-result
overflow_cast-result c = omega (arith, c.len.ensures, c.args.self.now.kept, c.args.self.now.few)

pub returns-clause-kept : goal.returns-clause-kept
returns-clause-kept c = c.len.ensures ∙ sym (length-older_by (index_in c.args.self.now.live) c.args.self.now.changes.kept)

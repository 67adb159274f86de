use Rattle.ox_range.proofs.KeptLemmas.{kept_alone, alone_first, no_items}
use Rattle.ox_range.proofs.cuts.run_in_front.Goals as goal

pub returns-then-is_empty-clause-kept : goal.returns-then-is_empty-clause-kept
returns-then-is_empty-clause-kept c =
    kept_alone c.args.run c.args.count (alone_first c.args.run c.args.behind.now c.args.count c.requires (no_items c.args.behind.now c.is_empty.result c.is_empty.ensures c.if-is_empty.true))

use Rattle.std.proofs.Common.{arith, sym, ◌∙◌, get_or}
use Rattle.ox_range.proofs.RunLemmas.{zero_run, none_behind}
use Rattle.ox_range.proofs.KeptLemmas.{kept_empty, kept_alone, alone_count, alone_of}
use Rattle.ox_range.proofs.few.Runs.from_slice.Goals as goal

pub returns-in-empty-clause-count : goal.returns-in-empty-clause-count
returns-in-empty-clause-count c = sym (none_behind c.args.runs.now 0 (omega (arith, c.in-empty.len_below))) ∙ c.requires.len

pub returns-in-empty-clause-kept : goal.returns-in-empty-clause-kept
returns-in-empty-clause-kept c = kept_empty

pub returns-in-len1-clause-count : goal.returns-in-len1-clause-count
returns-in-len1-clause-count c =
    alone_count (get_or c.args.runs.now 0 zero_run) c.args.count (alone_of c.args.runs.now c.args.count c.requires (omega (arith, c.in-len1.len_at_least)) (omega (arith, c.in-len1.len_below)))

pub returns-in-len1-clause-kept : goal.returns-in-len1-clause-kept
returns-in-len1-clause-kept c =
    kept_alone (get_or c.args.runs.now 0 zero_run) c.args.count (alone_of c.args.runs.now c.args.count c.requires (omega (arith, c.in-len1.len_at_least)) (omega (arith, c.in-len1.len_below)))

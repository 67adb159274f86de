use Rattle.std.proofs.Common.{◌∙◌, ◌++◌, ap, take}
use Rattle.std.specs.Prelude.{Option, option_to_list}
use Rattle.ox_range.specs.declared.runs.Run.{Run}
use Rattle.ox_checkpoint.proofs.LostLemmas.{cut_is}
use Rattle.ox_checkpoint.proofs.put.lost.first_runs.Goals as goal

pub returns : goal.returns
returns c =
    let runs = c.runs-runs.result.now in
    let whole = c.cut_at-whole.result.0 in
    let left = c.cut_at-whole.result.1 in
    ap (λ (part : Option Run). take whole runs ++ option_to_list part) c.part_at.ensures
    ∙ cut_is runs c.args.ranges.now c.args.count whole left c.runs-runs.ensures.maximal c.runs-runs.ensures.numbers (record { within = c.cut_at-whole.ensures.whole; sum = c.cut_at-whole.ensures.left; part = c.cut_at-whole.ensures.part })

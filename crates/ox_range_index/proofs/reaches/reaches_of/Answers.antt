use Rattle.std.proofs.Common.{sym, subst, List, ◌<◌, ◌^◌}
use Rattle.std.specs.Prelude.{All}
use Rattle.ox_range.specs.Runs.{end_of}
use Rattle.ox_range.specs.declared.runs.Run.{Run}
use Rattle.ox_range_index.proofs.ReachLaws.{ends_fit}
use Rattle.ox_range_index.proofs.reaches.reaches_of.Goals as goal

pub reaches_along-requires : goal.reaches_along-requires
reaches_along-requires c = subst (λ (runs : List Run). All (λ (run : Run). end_of run < 2 ^ 64) runs) (sym c.deref.ensures.value) (ends_fit c.args.runs.now c.in_ok-sorted.sorted.items c.requires c.in_ok-sorted.ensures.moved)

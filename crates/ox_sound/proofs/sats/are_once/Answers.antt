use Rattle.std.proofs.Common.{◌∙◌, sym, ap, subst, rules, All}
use Rattle.std.proofs.lemmas.List.Sorted.{All-permutation, IsNonDecreasingBy-from_sort_by_key}
use Rattle.ox_sound.specs.Amounts.{outputs_in}
use Rattle.std.specs.Prelude.{List, ◌++◌}
use Rattle.ox_range.specs.declared.runs.Run.{Run}
use Rattle.ox_rules.specs.Outputs.{sats_held}
use Rattle.ox_sound.specs.Once.{IsRun, tiles}
use Rattle.ox_sound.proofs.OnceLemmas.{sorted_tile}
use Rattle.ox_sound.proofs.sats.are_once.Goals as goal

pub do_tile-requires : goal.do_tile-requires
do_tile-requires c =
    subst (All IsRun) (sym c.deref.ensures.value)
    (All-permutation IsRun c.in_ok-runs.runs.items c.sort_unstable_by_key.new.self.items c.sort_unstable_by_key.ensures.permutation c.in_ok-runs.ensures.runs)

pub returns : goal.returns
returns c =
    let runs = c.in_ok-runs.runs.items in
    let sorted = c.sort_unstable_by_key.new.self.items in
    let rising = IsNonDecreasingBy-from_sort_by_key (λ (run : Run). run.first) sorted c.sort_unstable_by_key.ensures.sorted (λ a r q k. search rules) in
    c.do_tile.ensures ∙ ap (λ (rs : List Run). tiles 0 rs c.args.end) c.deref.ensures.value
    ∙ sorted_tile runs sorted (sats_held (outputs_in c.args.outs.now) ++ c.args.lost.now) c.args.end c.in_ok-runs.ensures.numbers c.in_ok-runs.ensures.runs c.sort_unstable_by_key.ensures.permutation rising

use Rattle.std.proofs.Common.{◌++◌, List, ap, ◌∙◌, sym, subst, All}
use Rattle.std.specs.BTreeMap.{values}
use Rattle.std.proofs.lemmas.List.Elements.{All-nil}
use Rattle.ox_rules.specs.Outputs.{sats_of}
use Rattle.ox_sound.specs.Once.{IsRun}
use Rattle.ox_sound.proofs.TableLemmas.{values_back}
use Rattle.ox_rules.specs.declared.rows.OutRow.{OutRow}
use Rattle.ox_sound.proofs.OnceLemmas.{all_rows, more_are_runs, no_rows, one_more_row}
use Rattle.ox_sound.proofs.sats.runs_in.Goals as goal

pub loop-row-init : goal.loop-row-init
loop-row-init c = record {
  numbers = no_rows c.new-runs.result.items c.into_iter-row-iterator.result (values c.args.outs.now) c.new-runs.ensures.items (c.into_iter-row-iterator.ensures.into_iter_gives ∙ c.values-row-items.ensures.rest);
  runs = subst (All IsRun) (sym c.new-runs.ensures.items) (All-nil IsRun);
}

pub loop-row-preserved : goal.loop-row-preserved
loop-row-preserved c = record {
  numbers = one_more_row c.loop-row.runs.items c.runs.result.now c.extend_from_slice.new.self.items c.in-Some.row.now c.loop-row.row-iterator c.next.new.self (sats_of (values c.args.outs.now))
      c.in_ok-extend_from_slice.ensures.items c.runs.ensures.numbers c.in-Some.ensures.steps c.loop-row.invariant.numbers;
  runs = more_are_runs c.loop-row.runs.items c.runs.result.now c.extend_from_slice.new.self.items c.in_ok-extend_from_slice.ensures.items c.loop-row.invariant.runs c.runs.ensures.maximal;
}

pub returns-clause-numbers : goal.returns-clause-numbers
returns-clause-numbers c =
    all_rows c.loop-row.runs.items c.runs-2.result.now c.extend_from_slice-2.new.self.items c.loop-row.row-iterator c.args.lost.now (sats_of (values c.args.outs.now))
    c.in_ok-extend_from_slice-2.ensures.items c.runs-2.ensures.numbers c.in-None.ensures.steps.0 c.loop-row.invariant.numbers
    ∙ ap (λ (rows : List OutRow). sats_of rows ++ c.args.lost.now) (sym (values_back c.args.outs.now.entries c.values-row-items.ensures.ordered))

pub returns-clause-runs : goal.returns-clause-runs
returns-clause-runs c =
    more_are_runs c.loop-row.runs.items c.runs-2.result.now c.extend_from_slice-2.new.self.items c.in_ok-extend_from_slice-2.ensures.items c.loop-row.invariant.runs c.runs-2.ensures.maximal

use Rattle.std.proofs.Common.{◌∙◌, ◌+◌, ◌∷◌, List, All, ap, drop, map, refl, subst, sym}
use Rattle.std.proofs.lemmas.List.{drop_all, drop_more}
use Rattle.std.proofs.lemmas.List.Elements.{All-nil}
use Rattle.ox_block.specs.declared.block.OutPoint.{OutPoint}
use Rattle.ox_rules.specs.declared.rows.OutRow.{OutRow}
use Rattle.ox_sound.specs.Keeps.{sats_in}
use Rattle.ox_sound.specs.Once.{IsRun}
use Rattle.ox_sound.proofs.OnceLemmas.{all_rows, more_are_runs, no_rows, one_more_row}
use Rattle.ox_sound.proofs.moved_sats.runs_in.Goals as goal

-- the rows alone
abbrev rows_in : List (OutPoint × OutRow) → List OutRow
rows_in rows = map (λ (e : OutPoint × OutRow). e.1) rows

pub loop-row-init : goal.loop-row-init
loop-row-init c = record {
  numbers = no_rows c.new-runs.result.items (rows_in c.args.rows.now) (rows_in c.args.rows.now) c.new-runs.ensures.items refl;
  runs = subst (All IsRun) (sym c.new-runs.ensures.items) (All-nil IsRun);
}

pub loop-row-preserved : goal.loop-row-preserved
loop-row-preserved c =
    let rows = c.args.rows.now in
    let i = c.loop-row.row-index in
    let one = c.loop-row-item.result in
    record {
      numbers = one_more_row c.loop-row.runs.items c.runs.result.now c.extend_from_slice.new.self.items one.1 (rows_in (drop i rows)) (rows_in (drop (i + 1) rows)) (sats_in rows)
          c.in_ok-extend_from_slice.ensures.items c.runs.ensures.numbers
          (ap rows_in (drop_more rows i one c.loop-row-test.true ∙ ap (λ (e : OutPoint × OutRow). e ∷ drop (i + 1) rows) (sym c.loop-row-item.is))) c.loop-row.invariant.numbers;
      runs = more_are_runs c.loop-row.runs.items c.runs.result.now c.extend_from_slice.new.self.items c.in_ok-extend_from_slice.ensures.items c.loop-row.invariant.runs c.runs.ensures.maximal;
    }

pub returns-clause-numbers : goal.returns-clause-numbers
returns-clause-numbers c =
    all_rows c.loop-row.runs.items c.runs-2.result.now c.extend_from_slice-2.new.self.items (rows_in (drop c.loop-row.row-index c.args.rows.now)) c.args.more.now (sats_in c.args.rows.now)
    c.in_ok-extend_from_slice-2.ensures.items c.runs-2.ensures.numbers (ap rows_in (drop_all c.loop-row.row-index c.args.rows.now c.loop-row-test.false)) c.loop-row.invariant.numbers

pub returns-clause-runs : goal.returns-clause-runs
returns-clause-runs c =
    more_are_runs c.loop-row.runs.items c.runs-2.result.now c.extend_from_slice-2.new.self.items c.in_ok-extend_from_slice-2.ensures.items c.loop-row.invariant.runs c.runs-2.ensures.maximal

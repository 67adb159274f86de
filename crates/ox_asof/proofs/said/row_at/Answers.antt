use Rattle.std.proofs.Common.{◌∙◌, sym}
use Rattle.ox_rules.proofs.Orders.{outpoints_exact, outpoints_total}
use Rattle.ox_plain.proofs.TableLemmas.{found_before, found_behind, sorted_before, sorted_rest}
use Rattle.ox_asof.proofs.Halving.{found_row}
use Rattle.ox_asof.proofs.said.row_at.Goals as goal

pub loop-left-preserved-in-Less : goal.loop-left-preserved-in-Less
loop-left-preserved-in-Less g c =
    let left = c.loop-left.left.now in
    let front = c.split_at.result.0.now in
    let back = c.split_at.result.1.now in
    let rest = c.in-Some.rest.now in
    let row = c.in-Some.row.now in
    record {
      sorted = sorted_rest outpoints_total left front back rest row c.split_at.ensures.by_index.0 c.in-Some.ensures.cases.0 c.loop-left.invariant.sorted;
      same = found_behind outpoints_total c.args.at.now left front back rest row c.split_at.ensures.by_index.0 c.in-Some.ensures.cases.0 c.loop-left.invariant.sorted (sym c.cmp.ensures ∙ c.in-Less.is)
          ∙ c.loop-left.invariant.same;
    }

pub returns-in-Equal : goal.returns-in-Equal
returns-in-Equal g c =
    sym (found_row outpoints_total outpoints_exact c.args.at.now c.loop-left.left.now c.split_at.result.0.now c.split_at.result.1.now c.in-Some.rest.now c.in-Some.row.now
    c.split_at.ensures.by_index.0 c.in-Some.ensures.cases.0 c.loop-left.invariant.sorted (sym c.cmp.ensures ∙ c.in-Equal.is))
    ∙ c.loop-left.invariant.same

pub loop-left-preserved : goal.loop-left-preserved
loop-left-preserved g c =
    let left = c.loop-left.left.now in
    let front = c.split_at.result.0.now in
    let back = c.split_at.result.1.now in
    record {
      sorted = sorted_before outpoints_total left front back c.split_at.ensures.by_index.0 c.loop-left.invariant.sorted;
      same = found_before outpoints_total c.args.at.now left front back c.in-Some.rest.now c.in-Some.row.now c.split_at.ensures.by_index.0 c.in-Some.ensures.cases.0 c.loop-left.invariant.sorted (sym c.cmp.ensures ∙ c.in-Greater.is)
          ∙ c.loop-left.invariant.same;
    }

use Rattle.std.proofs.Common.{◌∙◌, refl, sym, ap, subst, ◌^◌}
use Rattle.std.proofs.lemmas.Result.{err_from_is_err_and}
use Rattle.ox_rules.specs.Outputs.{sats_of}
use Rattle.ox_transfer.specs.Apart.{Apart}
use Rattle.ox_transfer.proofs.Takes.{behind_no_row, take_more, take_fails, take_done, found, joined_more, apart_more, taken_fits}
use Rattle.ox_transfer.proofs.take.take_inputs.Goals as goal

pub loop-place-init : goal.loop-place-init
loop-place-init g c = record {
  so_far = behind_no_row _ _ c.new-rows.ensures;
  joined = c.empty-sats.ensures ∙ ap sats_of (sym c.new-rows.ensures);
  apart = subst (Apart (2 ^ 63) (g.O.OutTable.contents c.args.table.now)) (sym c.empty-sats.ensures) c.requires.apart;
  mark = refl;
}

pub join-requires : goal.join-requires
join-requires g c = taken_fits (g.O.OutTable.contents c.loop-place.table) c.loop-place.sats c.index-inputs-place.result.from c.in_ok-row.row c.loop-place.invariant.apart (found _ _ _ c.in_ok-row.ensures.row)

pub loop-place-preserved : goal.loop-place-preserved
loop-place-preserved g c =
    let there = found _ _ c.in_ok-row.row c.in_ok-row.ensures.row in record {
      so_far = take_more c.args.tx c.loop-place.place c.args.inputs.now _ _ _ _ c.index-inputs-place.result c.in_ok-row.row _ c.loop-place-test.true c.index-inputs-place.is c.in_ok-row.ensures.row c.in_ok-row.ensures.left c.in_ok-push.ensures.ok c.loop-place.invariant.so_far;
      joined = joined_more c.loop-place.rows _ c.in_ok-row.row _ _ c.loop-place.invariant.joined c.in_ok-join.ensures.ok c.in_ok-push.ensures.ok;
      apart = apart_more _ _ _ _ c.index-inputs-place.result.from c.in_ok-row.row c.loop-place.invariant.apart there c.in_ok-row.ensures.left c.in_ok-join.ensures.ok;
      mark = c.take_row.ensures.mark ∙ c.loop-place.invariant.mark;
    }

pub returns-in_err-row-clause-taken : goal.returns-in_err-row-clause-taken
returns-in_err-row-clause-taken g c =
    let p = err_from_is_err_and c.from_residual.result c.from_residual.ensures.1 in
    rw (p.1, p.2) (take_fails c.args.tx c.loop-place.place c.args.inputs.now _ _ c.index-inputs-place.result c.in_err-row.field-0.0 _ c.loop-place-test.true c.index-inputs-place.is c.in_err-row.ensures.row c.loop-place.invariant.so_far)

pub returns : goal.returns
returns g c = record {
  taken = take_done c.args.tx c.loop-place.place c.args.inputs.now _ _ _ c.loop-place-test.false c.loop-place.invariant.so_far;
  joined = c.loop-place.invariant.joined;
  mark = c.loop-place.invariant.mark;
}

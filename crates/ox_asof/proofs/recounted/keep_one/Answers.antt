use Rattle.std.proofs.Common.{◌<◌, ◌∙◌, ap, sym, arith, cond, Some}
use Rattle.std.specs.BTreeMap.{get}
use Rattle.std.specs.Ordering.{is_eq, nat_cmp}
use Rattle.std.specs.Cmp.{unsigned_tied}
use Rattle.ox_etching.specs.declared.row.RuneRow.{RuneRow}
use Rattle.ox_ledger.specs.Part.{with_counts}
use Rattle.ox_asof.proofs.Recounting.{below_end, none_put, one_put, row_put}
use Rattle.ox_asof.proofs.recounted.keep_one.Goals as goal

pub returns-then-is_done : goal.returns-then-is_done
returns-then-is_done g c = λ counts are.
    none_put (g.V.View.index c.args.view.now).runes c.args.end c.args.change.now counts (get nat_cmp c.args.rows.now) are (sym c.is_done.ensures ∙ c.if-is_done.true)

pub rune-requires : goal.rune-requires
rune-requires g c =
    let less : c.args.change.now.place < c.args.end = below_end c.args.change.now.place c.args.end _ (sym c.is_done.ensures ∙ c.if-is_done.false) in
    omega (arith, less, c.requires)

pub returns : goal.returns
returns g c = λ counts are.
    one_put (g.V.View.index c.args.view.now).runes c.args.end c.args.change.now counts (get nat_cmp c.args.rows.now) are (get nat_cmp c.insert.new.self) c.rune.result.now
    (sym c.is_done.ensures ∙ c.if-is_done.false) c.rune.ensures
    (row_put (get nat_cmp c.args.rows.now) (get nat_cmp c.insert.new.self) c.args.change.now.place (with_counts c.rune.result.now c.args.change.now.before)
    (λ q. is_eq (nat_cmp c.args.change.now.place q)) (λ q. unsigned_tied c.args.change.now.place q)
    (λ q. c.in_ok-insert.ensures.updates.0 q
    ∙ ap (λ (row : RuneRow). cond (is_eq (nat_cmp c.args.change.now.place q)) (Some row) (get nat_cmp c.args.rows.now q)) c.with_counts-row.ensures))

use Rattle.std.proofs.Common.{◌++◌, ◌<◌, ◌^◌, length, sym, ap, subst, ◌∙◌}
use Rattle.std.specs.Int.{w32, to_le_bytes}
use Rattle.std.specs.List.{AllByRecursion, flat_map}
use Rattle.std.proofs.lemmas.List.Elements.{All-from_recursion, recursion_from_All}
use Rattle.std.proofs.lemmas.Result.{on_ok_weaker}
use Rattle.ox_block.specs.declared.block.OutPoint.{OutPoint}
use Rattle.ox_block.specs.Spelling.{outpoint}
use Rattle.ox_rules.proofs.Orders.{outpoints_exact, outpoints_total}
use Rattle.ox_rows.specs.Fits.{FitsList}
use Rattle.ox_rows.specs.RowFits.{FitsOutPoint}
use Rattle.ox_rows.specs.Seen.{by_outpoint}
use Rattle.ox_rows.specs.Spelling.{list}
use Rattle.ox_rows.proofs.Putting.{more}
use Rattle.ox_rows.proofs.RisingLaws.{sorted_by_keys}
use Rattle.ox_rows.proofs.RowLaws.{entries_back}
use Rattle.ox_rows.proofs.tables.put_table.Goals as goal

pub put_rows-requires : goal.put_rows-requires
put_rows-requires g c =
    let es = c.args.table.now.entries in
    let same = entries_back outpoints_total outpoints_exact es (sorted_by_keys outpoints_total es c.len.ensures.ordered) in
    subst (AllByRecursion (λ e. g.X.Writable.keeps e.1)) same (recursion_from_All (λ e. g.X.Writable.keeps e.1) (by_outpoint es) c.requires)

pub returns-clause-ok : goal.returns-clause-ok
returns-clause-ok g c =
    let es = c.args.table.now.entries in
    let same = entries_back outpoints_total outpoints_exact es (sorted_by_keys outpoints_total es c.len.ensures.ordered) in
    let old = c.args.bytes.now in
    let item = λ (e : OutPoint × _). outpoint e.0 ++ g.X.Writable.spelling e.1 in
    let count = rw c.len.ensures.len at c.in_ok-put_count.ensures.ok in
    on_ok_weaker c.put_rows.result (λ put. more old (to_le_bytes w32 (length es)) (flat_map item es) count put ∙ ap (λ rows. old ++ list item rows) (sym same)) c.put_rows.ensures.ok

pub returns-clause-fits : goal.returns-clause-fits
returns-clause-fits g c =
    let es = c.args.table.now.entries in
    let same = entries_back outpoints_total outpoints_exact es (sorted_by_keys outpoints_total es c.len.ensures.ordered) in
    let fits = λ (e : OutPoint × g.row.X.Denot). FitsOutPoint e.0 × g.X.Writable.fits e.1 in
    let few = subst (λ n. n < 2 ^ 32) c.len.ensures.len c.in_ok-put_count.ensures.fits in
    on_ok_weaker c.put_rows.result (λ fit. subst (FitsList fits) (sym same) (few, All-from_recursion fits es fit)) c.put_rows.ensures.fits

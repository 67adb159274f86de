use Rattle.std.proofs.Common.{◌++◌}
use Rattle.std.specs.FinMap.{entries}
use Rattle.std.proofs.lemmas.Result.{on_ok_weaker}
use Rattle.ox_plain.specs.Plain.{index_in}
use Rattle.ox_rows.specs.Spelling.{hash, list, sats}
use Rattle.ox_rows.specs.RowSpelling.{index_rows, inscription, output, placement, rune}
use Rattle.ox_rows.proofs.Putting.{more}
use Rattle.ox_rows.proofs.index.put_index.Goals as goal

pub returns-clause-ok : goal.returns-clause-ok
unfolding index_rows
returns-clause-ok c =
    let old = c.args.bytes.now in
    let index = index_in c.args.index.now in
    let t1 = list hash index.hashes in
    let t2 = t1 ++ list output (entries index.outs) in
    let t3 = t2 ++ sats index.lost in
    let t4 = t3 ++ list inscription index.inscriptions in
    let t5 = t4 ++ list placement (entries index.bal) in
    let e1 = rw c.as_slice.ensures at c.in_ok-put_list.ensures.ok in
    let e2 = more old t1 (list output (entries index.outs)) e1 c.in_ok-put_table.ensures.ok in
    let e3 = more old t2 (sats index.lost) e2 c.in_ok-put_sats.ensures.ok in
    let e4 = more old t3 (list inscription index.inscriptions) e3 (rw c.as_slice-2.ensures at c.in_ok-put_list-2.ensures.ok) in
    let e5 = more old t4 (list placement (entries index.bal)) e4 c.in_ok-put_table-2.ensures.ok in
    on_ok_weaker c.put_list-3.result (λ last. more old t5 (list rune index.runes) e5 (rw c.as_slice-3.ensures at last)) c.put_list-3.ensures.ok

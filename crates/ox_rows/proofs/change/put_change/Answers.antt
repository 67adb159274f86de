use Rattle.std.proofs.Common.{◌++◌}
use Rattle.std.proofs.lemmas.Result.{on_ok_weaker}
use Rattle.ox_rows.specs.Spelling.{list, sats}
use Rattle.ox_rows.specs.RowSpelling.{change_rows, count_change, inscription, output, placement, rune}
use Rattle.ox_rows.proofs.Putting.{more}
use Rattle.ox_rows.proofs.change.put_change.Goals as goal

pub returns-clause-ok : goal.returns-clause-ok
unfolding change_rows
returns-clause-ok c =
    let old = c.args.bytes.now in
    let change = c.args.change.now in
    let t1 = change.hash in
    let t2 = t1 ++ list output change.gone in
    let t3 = t2 ++ list output change.came in
    let t4 = t3 ++ sats change.lost in
    let t5 = t4 ++ list inscription change.inscriptions in
    let t6 = t5 ++ list placement change.runes.before in
    let t7 = t6 ++ list placement change.runes.after in
    let t8 = t7 ++ list count_change change.runes.counts in
    let e1 = c.in_ok-append.ensures.ok in
    let e2 = more old t1 (list output change.gone) e1 (rw c.as_slice.ensures at c.in_ok-put_list.ensures.ok) in
    let e3 = more old t2 (list output change.came) e2 (rw c.as_slice-2.ensures at c.in_ok-put_list-2.ensures.ok) in
    let e4 = more old t3 (sats change.lost) e3 c.in_ok-put_sats.ensures.ok in
    let e5 = more old t4 (list inscription change.inscriptions) e4 (rw c.as_slice-3.ensures at c.in_ok-put_list-3.ensures.ok) in
    let e6 = more old t5 (list placement change.runes.before) e5 (rw c.as_slice-4.ensures at c.in_ok-put_list-4.ensures.ok) in
    let e7 = more old t6 (list placement change.runes.after) e6 (rw c.as_slice-5.ensures at c.in_ok-put_list-5.ensures.ok) in
    let e8 = more old t7 (list count_change change.runes.counts) e7 (rw c.as_slice-6.ensures at c.in_ok-put_list-6.ensures.ok) in
    on_ok_weaker c.put_list-7.result (λ last. more old t8 (list rune change.runes.appended) e8 (rw c.as_slice-7.ensures at last)) c.put_list-7.ensures.ok

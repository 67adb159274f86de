use Rattle.std.proofs.Common.{◌++◌, sym, ap, ◌∙◌, append_assoc}
use Rattle.std.specs.Int.{w8, w32, w128, to_le_bytes}
use Rattle.std.proofs.lemmas.Result.{on_ok_weaker}
use Rattle.ox_rows.specs.Spelling.{optional}
use Rattle.ox_rows.specs.RowSpelling.{rune_id, terms}
use Rattle.ox_rows.proofs.Putting.{more}
use Rattle.ox_rows.proofs.runes.RuneRowWritable.put.Goals as goal

pub returns-clause-ok : goal.returns-clause-ok
returns-clause-ok c =
    let old = c.args.bytes.now in
    let row = c.args.self.now in
    let mints = to_le_bytes w128 row.mints in
    let burned = to_le_bytes w128 row.burned in
    let etching = row.etching.0 in
    let t1 = rune_id row.id ++ to_le_bytes w128 row.name ++ to_le_bytes w32 row.spacers in
    let t2 = t1 ++ to_le_bytes w8 row.divisibility in
    let t3 = t2 ++ optional (to_le_bytes w32) row.symbol in
    let t4 = t3 ++ to_le_bytes w128 row.premine in
    let t5 = t4 ++ optional terms row.terms in
    let e1 = rw c.front_bytes.ensures.spelled at c.in_ok-append.ensures.ok in
    let e2 = more old t1 (to_le_bytes w8 row.divisibility) e1 c.in_ok-put.ensures.ok in
    let e3 = more old t2 (optional (to_le_bytes w32) row.symbol) e2 c.in_ok-put_optional.ensures.ok in
    let e4 = more old t3 (to_le_bytes w128 row.premine) e3 c.in_ok-put-2.ensures.ok in
    let e5 = more old t4 (optional terms row.terms) e4 c.in_ok-put_optional-2.ensures.ok in
    let joined = sym (append_assoc t5 (mints ++ burned) etching) ∙ ap (λ t. t ++ etching) (sym (append_assoc t5 mints burned)) in
    on_ok_weaker c.append-2.result (λ last. more old t5 (mints ++ burned ++ etching) e5 (rw c.back_bytes.ensures at last) ∙ ap (λ t. old ++ t) joined) c.append-2.ensures.ok

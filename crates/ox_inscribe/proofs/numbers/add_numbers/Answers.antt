use Rattle.std.proofs.Common.{◌∙◌, ap, sym, Bool, arith}
use Rattle.ox_inscribe.specs.Shelved.{at, with_last_if}
use Rattle.ox_inscribe.proofs.KeyLaws.{added_more, added_some, key_more, on_err}
use Rattle.ox_inscribe.proofs.numbers.add_numbers.Goals as goal

pub loop-key-preserved : goal.loop-key-preserved
loop-key-preserved g c = λ q.
    let old = at g.K.Ord.cmp c.args.map.now q in
    added_more _ _ c.args.number old _ _ (c.loop-key.invariant q) (c.in_ok-add_number.ensures.ok q)
    ∙ ap (λ (b : Bool). with_last_if b c.args.number old) (sym (key_more g.K.Ord.cmp c.args.keys.now c.loop-key.key-index c.key-item.result q (omega arith) (sym c.key-item.is)))

pub returns-in_err-add_number-clause-err : goal.returns-in_err-add_number-clause-err
returns-in_err-add_number-clause-err g c = on_err c.from_residual.result (λ q.
    added_some g.K.Ord.cmp c.args.keys.now c.loop-key.key-index q c.args.number (at g.K.Ord.cmp c.args.map.now q) _
    (c.in_err-add_number.ensures.err q ∙ c.loop-key.invariant q))

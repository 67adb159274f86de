use Rattle.std.proofs.Common.{◌∙◌, ap, sym, Bool, arith}
use Rattle.ox_inscribe.specs.Shelved.{at, without_last_if}
use Rattle.ox_inscribe.proofs.KeyLaws.{dropped_more, key_more}
use Rattle.ox_inscribe.proofs.numbers.drop_numbers.Goals as goal

pub loop-key-preserved : goal.loop-key-preserved
loop-key-preserved g c = λ q once.
    let old = at g.K.Ord.cmp c.args.map.now q in
    dropped_more _ _ c.args.number old _ _ once (c.loop-key.invariant q once) (c.drop_number.ensures q)
    ∙ ap (λ (b : Bool). without_last_if b c.args.number old) (sym (key_more g.K.Ord.cmp c.args.keys.now c.loop-key.key-index c.key-item.result q (omega arith) (sym c.key-item.is)))

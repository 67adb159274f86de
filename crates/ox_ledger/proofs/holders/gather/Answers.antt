use Rattle.std.proofs.Common.{◌∙◌, ◌+◌, List, [], subst, drop}
use Rattle.std.proofs.lemmas.List.{at_drop_all}
use Rattle.ox_block.specs.declared.block.TxIn.{TxIn}
use Rattle.ox_ledger.specs.Runes.{brought_by}
use Rattle.ox_ledger.specs.Shown.{held_in}
use Rattle.ox_ledger.proofs.HolderLemmas.{Gathers, gathers_all, gathers_fit, gathers_on, next_input}
use Rattle.ox_ledger.proofs.holders.gather.Goals as goal

pub bring-requires-clause-fits : goal.bring-requires-clause-fits
bring-requires-clause-fits c =
    gathers_fit _ c.input-item.result (drop (c.loop-input.input-index + 1) c.args.inputs.now) (held_in c.loop-input.holders) c.loop-input.pool
    (next_input _ c.args.inputs.now c.loop-input.input-index c.input-item.result _ _ c.loop-input-test.true c.input-item.is c.loop-input.invariant.gathers)

pub loop-input-preserved : goal.loop-input-preserved
loop-input-preserved c = record {
  gathers =
      gathers_on _ c.input-item.result (drop (c.loop-input.input-index + 1) c.args.inputs.now) (held_in c.loop-input.holders) (held_in c.bring.new.holders) c.loop-input.pool c.bring.new.pool
      (next_input _ c.args.inputs.now c.loop-input.input-index c.input-item.result _ _ c.loop-input-test.true c.input-item.is c.loop-input.invariant.gathers) c.in_ok-bring.ensures.left
      c.in_ok-bring.ensures.pool;
  mark = c.bring.ensures.mark ∙ c.loop-input.invariant.mark;
}

pub returns-clause-ok : goal.returns-clause-ok
returns-clause-ok c =
    gathers_all _ (held_in c.loop-input.holders) c.loop-input.pool
    (subst (λ (rest : List TxIn). Gathers (brought_by c.args.inputs.now (held_in c.args.holders.now) []) rest (held_in c.loop-input.holders) c.loop-input.pool) (at_drop_all (λ l. l) c.args.inputs.now c.loop-input.input-index c.loop-input-test.false)
    c.loop-input.invariant.gathers)

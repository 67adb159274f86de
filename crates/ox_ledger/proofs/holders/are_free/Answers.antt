use Rattle.std.proofs.Common.{◌∙◌, arith, sym, refl, true≢false}
use Rattle.ox_ledger.proofs.HolderLemmas.{copied_none, copied_some, get-held_in, one_more_free}
use Rattle.ox_ledger.proofs.holders.are_free.Goals as goal

pub loop-index-init : goal.loop-index-init
loop-index-init c index less = absurd (omega (arith, less))

pub returns-then-is_some : goal.returns-then-is_some
returns-then-is_some c = (
  λ free. absurd (true≢false (sym free)),
  λ free. absurd (copied_some c.get.result (sym c.if-is_some.ensures)
      (c.get.ensures ∙ sym (get-held_in c.args.holders.now (record { txid = c.args.txid; index = c.loop-index.index })) ∙ free c.loop-index.index c.loop-index-test.true)),
)

pub loop-index-preserved : goal.loop-index-preserved
loop-index-preserved c = one_more_free c.args.holders.now c.args.txid c.loop-index.index c.loop-index.invariant
    (sym c.get.ensures ∙ copied_none c.get.result (sym c.if-is_some.ensures))

pub returns : goal.returns
returns c = (
  λ free index less. c.loop-index.invariant index (omega (arith, less, c.loop-index-test.false, c.loop-index.auto.index-end)),
  λ none. refl,
)

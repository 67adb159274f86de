use Rattle.std.proofs.Common.{◌∙◌, sym, Some}
use Rattle.ox_ledger.specs.Shown.{held_in}
use Rattle.ox_ledger.proofs.HolderLemmas.{held_put, on_ok, remove_none, then_same, with_none, with_some}
use Rattle.ox_ledger.proofs.holders.fill_free.Goals as goal

pub returns-then-is_empty-clause-ok : goal.returns-then-is_empty-clause-ok
returns-then-is_empty-clause-ok c =
    remove_none (held_in c.args.holders.now) c.args.at c.requires ∙ with_none (held_in c.args.holders.now) c.args.at c.args.balances (sym c.is_empty.ensures ∙ c.if-is_empty.true)

pub returns-clause-ok : goal.returns-clause-ok
returns-clause-ok c =
    on_ok c.put.result (λ is.
    held_put c.args.holders.now c.put.new.self c.args.at (Some c.args.balances) is
    ∙ with_some (held_in c.args.holders.now) c.args.at c.args.balances (sym c.is_empty.ensures ∙ c.if-is_empty.false)) c.put.ensures.content

pub returns-clause-mark : goal.returns-clause-mark
returns-clause-mark c = then_same c.args.holders.now c.put.new.self c.put.ensures.mark

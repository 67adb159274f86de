use Rattle.std.proofs.Common.{◌∙◌, ◌+◌, arith, ap, List}
use Rattle.ox_allocation.specs.Balances.{Balance, amount_in}
use Rattle.ox_ledger.proofs.TablesLemmas.{owed_next, owed_upto}
use Rattle.ox_ledger.proofs.tables.Tables.due_of.Goals as goal

pub overflow_add-amount : goal.overflow_add-amount
overflow_add-amount c =
    let due = c.args.self.now.due.now in
    let next = owed_next due c.loop-place.place c.get.result.now c.args.id c.get.ensures in
    let upto = owed_upto due (c.loop-place.place + 1) c.args.id in
    let got = c.amount_in-amount.ensures ∙ ap (λ (l : List Balance). amount_in l c.args.id) c.as_slice.ensures in
    omega (arith, next, upto, got, c.loop-place.invariant, c.requires)

pub loop-place-preserved : goal.loop-place-preserved
loop-place-preserved c =
    let due = c.args.self.now.due.now in
    let next = owed_next due c.loop-place.place c.get.result.now c.args.id c.get.ensures in
    let got = c.amount_in-amount.ensures ∙ ap (λ (l : List Balance). amount_in l c.args.id) c.as_slice.ensures in
    omega (arith, next, got, c.loop-place.invariant)

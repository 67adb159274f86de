use Rattle.std.proofs.Common.{◌∙◌, arith}
use Rattle.ox_ledger.proofs.BurnLemmas.{burn_absent, burn_fits, burn_found}
use Rattle.ox_ledger.proofs.HolderLemmas.{on_ok}
use Rattle.ox_ledger.proofs.table.RuneTable.burn_one.Goals as goal

pub returns-in-None-clause-ok : goal.returns-in-None-clause-ok
returns-in-None-clause-ok c = λ i. record { now = burn_absent c.args.id c.args.amount c.args.self.now.now c.in-None.ensures.none i; mark = c.args.self.now.mark }

pub overflow_add-row : goal.overflow_add-row
overflow_add-row c =
    let fits = burn_fits c.args.id c.args.amount c.args.self.now.now c.in-Some.place c.in-Some.row c.in-Some.ensures.some c.requires in
    omega (arith, fits)

pub returns-in-Some-clause-ok : goal.returns-in-Some-clause-ok
returns-in-Some-clause-ok c = on_ok c.set.result (λ is. is ∙ (λ i. record {
  now = burn_found c.args.id c.args.amount c.args.self.now.now c.in-Some.place c.in-Some.row c.in-Some.ensures.some i;
  mark = c.args.self.now.mark;
})) c.set.ensures.ok

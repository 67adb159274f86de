use Rattle.std.proofs.Common.{◌∙◌, ap}
use Rattle.std.specs.Prelude.{slice_set}
use Rattle.ox_ledger.proofs.BurnLemmas.{mint_absent, mint_fits, mint_found}
use Rattle.ox_ledger.proofs.HolderLemmas.{on_ok}
use Rattle.ox_ledger.proofs.table.RuneTable.mint.Goals as goal

pub returns-in-None-clause-ok : goal.returns-in-None-clause-ok
returns-in-None-clause-ok c = λ i. record { now = mint_absent c.args.id c.args.self.now.now c.in-None.ensures.none i; mark = c.args.self.now.mark }

pub one_more-requires : goal.one_more-requires
one_more-requires c = mint_fits c.args.id c.args.self.now.now c.in-Some.place c.in-Some.row c.in-Some.ensures.some c.requires

pub returns-in-Some-clause-ok : goal.returns-in-Some-clause-ok
returns-in-Some-clause-ok c = on_ok c.set.result (λ is. is ∙ (λ i. record {
  now =
      (ap (λ mints. slice_set c.args.self.now.now c.in-Some.place (record c.in-Some.row { mints = mints })) c.one_more.ensures
      ∙ mint_found c.args.id c.args.self.now.now c.in-Some.place c.in-Some.row c.in-Some.ensures.some) i;
  mark = c.args.self.now.mark;
})) c.set.ensures.ok

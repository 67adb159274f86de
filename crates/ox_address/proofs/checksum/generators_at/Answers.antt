use Rattle.ox_address.proofs.Tables.{generators-table, generators-below}
use Rattle.std.proofs.Common.{subst, sym, ◌<◌, ◌^◌, ℕ}
use Rattle.ox_address.proofs.checksum.generators_at.Goals as goal

pub returns-clause-value : goal.returns-clause-value
returns-clause-value c = generators-table c.args.top c.requires

pub returns-clause-bounded : goal.returns-clause-bounded
returns-clause-bounded c =
    let P : ℕ → Type 0 = λ n. n < 2 ^ 30 in
    subst P (sym (generators-table c.args.top c.requires)) (generators-below c.args.top c.requires)

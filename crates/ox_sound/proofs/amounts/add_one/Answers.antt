use Rattle.std.proofs.Common.{◌+◌, ℕ, Option, ap, subst, sym}
use Rattle.std.specs.Prelude.{if◌then◌else◌, is_some}
use Rattle.std.specs.BTreeMap.{BTreeMap}
use Rattle.ox_runestone.specs.declared.stone.RuneId.{RuneId}
use Rattle.ox_allocation.specs.Balances.{is_same}
use Rattle.ox_sound.specs.Amounts.{AreAmounts}
use Rattle.ox_sound.proofs.AmountLemmas.{none_added, one_added}
use Rattle.ox_sound.proofs.amounts.add_one.Goals as goal

pub returns-in-Some : goal.returns-in-Some
returns-in-Some c = λ there held are.
    let found = sym c.in-Some.ensures.value in
    one_added c.args.amounts.now (c.get_mut.follows.lender c.more.result) c.args.id c.args.amount c.in-Some.sum.now c.more.result there held are found c.more.ensures
    ((c.get_mut.follows.holds c.more.result).3 (ap is_some found)).0

pub returns-in_default : goal.returns-in_default
returns-in_default c = λ there held are.
    subst (λ (amounts : BTreeMap RuneId (Option ℕ)). AreAmounts amounts there (λ other. held other + (if is_same c.args.id other then c.args.amount else 0))) (sym c.get_mut.follows.holds-at-none)
    (none_added c.args.amounts.now c.args.id c.args.amount there held are (sym c.in_default.ensures.value))

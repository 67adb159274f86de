use Rattle.std.proofs.Common.{◌∙◌, refl, ap, subst, Some, List, ℕ, Option, []}
use Rattle.std.specs.Prelude.{IsSome, unwrap_or}
use Rattle.ox_inscribe.specs.Shelved.{without_last}
use Rattle.ox_inscribe.proofs.MapLaws.{updated}
use Rattle.ox_inscribe.proofs.numbers.pop_number.Goals as goal

pub returns-in-Some-clause-numbers : goal.returns-in-Some-clause-numbers
returns-in-Some-clause-numbers g c =
    let there = subst IsSome c.in-Some.ensures.value refl in
    let changed = (c.get_mut.follows.holds c.pop.new.self).3 there in
    let here = ap (λ (found : Option (List ℕ)). unwrap_or found []) c.in-Some.ensures.value in
    updated {R = g.K.Ord.cmp} g.met.K.Ord.total c.args.map.now (c.get_mut.follows.lender c.pop.new.self) c.args.key (Some c.pop.new.self) (without_last c.args.number) changed.0 (c.pop.ensures.numbers ∙ ap (without_last c.args.number) here)

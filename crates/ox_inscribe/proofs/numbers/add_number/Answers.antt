use Rattle.std.proofs.Common.{◌∙◌, refl, ap, subst, Some, List, ℕ, Option, []}
use Rattle.std.specs.Prelude.{IsSome, unwrap_or}
use Rattle.ox_inscribe.specs.Shelved.{with_last}
use Rattle.ox_inscribe.proofs.MapLaws.{on_ok, updated}
use Rattle.ox_inscribe.proofs.numbers.add_number.Goals as goal

pub returns-in-Some-clause-ok : goal.returns-in-Some-clause-ok
returns-in-Some-clause-ok g c =
    let there = subst IsSome c.in-Some.ensures.value refl in
    let changed = (c.get_mut.follows.holds c.push.new.self).3 there in
    let here = ap (λ (found : Option (List ℕ)). unwrap_or found []) c.in-Some.ensures.value in
    on_ok c.push.result c.push.ensures.ok
    (λ is. updated {R = g.K.Ord.cmp} g.met.K.Ord.total c.args.map.now (c.get_mut.follows.lender c.push.new.self) c.args.key (Some c.push.new.self) (with_last c.args.number) changed.0 (is ∙ ap (with_last c.args.number) here))

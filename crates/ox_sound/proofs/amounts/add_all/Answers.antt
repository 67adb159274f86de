use Rattle.std.proofs.Common.{◌+◌, ◌++◌, ◌∙◌, ◌∷◌, [], List, ap, arith, map, sym}
use Rattle.std.specs.BTreeMap.{values}
use Rattle.std.specs.Map.Iter.{deref}
use Rattle.std.proofs.lemmas.List.{map-append}
use Rattle.std.proofs.lemmas.Map.Iter.{iter_end}
use Rattle.ox_allocation.specs.Balances.{Balance}
use Rattle.ox_sound.specs.Amounts.{sum_held, sum_of}
use Rattle.ox_sound.proofs.AmountLemmas.{held_more, same_held}
use Rattle.ox_sound.proofs.TableLemmas.{values_back}
use Rattle.ox_sound.proofs.amounts.add_all.Goals as goal

pub loop-balances-init : goal.loop-balances-init
loop-balances-init c = λ there held are. same_held c.args.amounts.now there held (λ id. held id + sum_held [] id) (λ id. omega arith) are

pub loop-balances-preserved : goal.loop-balances-preserved
loop-balances-preserved c = λ there held are.
    let done = map (deref {X = List Balance}) c.loop-balances.yielded in
    let shown = map-append (deref {X = List Balance}) c.loop-balances.yielded (c.in-Some.balances ∷ []) in
    same_held c.add.new.amounts there (λ id. held id + sum_held done id + sum_of c.as_slice.result.now id) (λ id. held id + sum_held (map (deref {X = List Balance}) (c.loop-balances.yielded ++ c.in-Some.balances ∷ [])) id)
    (λ id. ap (λ (balances : List Balance). held id + sum_held done id + sum_of balances id) c.as_slice.ensures ∙ held_more done c.in-Some.balances.now id (held id)
    ∙ ap (λ (all : List (List Balance)). held id + sum_held all id) (sym shown))
    (c.add.ensures there (λ id. held id + sum_held done id) (c.loop-balances.invariant there held are))

pub returns : goal.returns
returns c = λ there held are.
    let all = (iter_end (deref {X = List Balance}) (values c.args.bal.now) c.loop-balances.yielded c.into_iter-balances-iterator.result c.loop-balances.balances-iterator c.next.new.self c.next.result
    (c.into_iter-balances-iterator.ensures.into_iter_gives ∙ c.values-balances-items.ensures.rest) c.loop-balances.yielded_by c.in-None.is c.next.ensures.steps).0 in
    let whole = all ∙ sym (values_back c.args.bal.now.entries c.values-balances-items.ensures.ordered) in
    same_held c.loop-balances.amounts there (λ id. held id + sum_held (map (deref {X = List Balance}) c.loop-balances.yielded) id) _ (λ id. ap (λ (list : List (List Balance)). held id + sum_held list id) whole) (c.loop-balances.invariant there held are)

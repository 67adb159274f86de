use Rattle.std.proofs.Common.{rules}
use Rattle.std.proofs.lemmas.List.Sorted.{All-permutation}
use Rattle.std.proofs.lemmas.Fn.{always_returns_same}
use Rattle.ox_outputs.specs.InOrder.{IsFilled}
use Rattle.ox_outputs.specs.Slots.{outpoint_at}
use Rattle.ox_outputs.proofs.FrontLemmas.{places_rank}
use Rattle.ox_outputs.proofs.InOrderLemmas.{sorted_entries}
use Rattle.ox_outputs.proofs.in_order.in_order.Goals as goal

pub invariant_of-result : goal.invariant_of-result
invariant_of-result c = All-permutation (IsFilled c.args.held.now.slots) c.in_ok-places.places.items c.sort_unstable_by.new.self.items c.sort_unstable_by.ensures.permutation c.in_ok-places.ensures.fronts

pub returns : goal.returns
returns c =
    let slots = c.args.held.now.slots in
    let places = c.in_ok-places.places.items in
    let moved = c.sort_unstable_by.ensures.permutation in
    let filled = All-permutation (IsFilled slots) places c.sort_unstable_by.new.self.items moved c.in_ok-places.ensures.fronts in
    let sorted = c.sort_unstable_by.ensures.sorted _ (places_rank (outpoint_at slots)) (always_returns_same _ _ _ (λ a r f' k. search rules)) in
    sorted_entries slots places c.sort_unstable_by.new.self.items c.requires c.in_ok-places.ensures.entries filled moved sorted

use Rattle.std.proofs.Common.{◌∙◌, ◌<◌, ◌^◌, ap, arith, length, subst}
use Rattle.ox_allocation.specs.Gifts.{parts_of}
use Rattle.ox_allocation.proofs.Ids.{same_itself}
use Rattle.ox_allocation.proofs.Giving.{deals_end, deals_from, deals_next, deals_on, gives_none, part_fits}
use Rattle.ox_allocation.proofs.deal.Deal.deal.Goals as goal

pub returns-then-is_empty : goal.returns-then-is_empty
returns-then-is_empty c = gives_none c.args.self.now c.args.id c.args.places.now _ (grind (arith, c.if-is_empty.ensures))

pub loop-place-init : goal.loop-place-init
loop-place-init c =
    deals_from c.args.id c.args.self.now c.args.amount c.args.places.now c.new-parts.result
    (c.new-parts.ensures ∙ ap (λ left. parts_of c.args.amount left (length c.args.places.now)) c.left.ensures) (subst (λ n. n < 2 ^ 128) c.left.ensures c.left.type_inv) c.requires

pub take_next-part-requires : goal.take_next-part-requires
take_next-part-requires c = part_fits _ _ _ _ _ _ _ (deals_next _ _ _ c.args.places.now c.loop-place.place-index _ _ c.loop-place-test.true c.loop-place.invariant)

pub loop-place-preserved : goal.loop-place-preserved
loop-place-preserved c =
    deals_on _ _ _ _ _ _ _ _ _ _ (same_itself c.args.id) c.take_next-part.ensures (deals_next _ _ _ c.args.places.now c.loop-place.place-index _ _ c.loop-place-test.true c.loop-place.invariant) c.in_ok-give.ensures

pub returns : goal.returns
returns c = deals_end _ _ _ c.args.places.now c.loop-place.place-index _ _ c.loop-place-test.false c.loop-place.invariant

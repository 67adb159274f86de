use Rattle.std.proofs.Common.{◌∙◌, ◌≡◌, ◌<◌, List, ap, arith, length, subst, sym}
use Rattle.ox_block.specs.declared.block.TxOut.{TxOut}
use Rattle.std.specs.Prelude.{slice_get}
use Rattle.ox_allocation.specs.Allocation.{gifts_from}
use Rattle.ox_allocation.specs.Balances.{AreBalances}
use Rattle.ox_allocation.specs.Dealing.{Held}
use Rattle.ox_allocation.specs.Gifts.{heir, holders}
use Rattle.ox_allocation.proofs.Dealt.{IsSaid, allocated_as_said, heir_within, if_ok}
use Rattle.ox_allocation.proofs.Holders.{first_within, holders_within}
use Rattle.ox_allocation.proofs.Unasked.{asked_nothing}
use Rattle.ox_allocation.proofs.allocation.allocate.Goals as goal
use Rattle.ox_allocation.proofs.allocation.allocate.Goals.{in-Some, in-None}

pub give_whole-requires : goal.give_whole-requires
give_whole-requires c = λ x is. heir_within c.args.outputs.now c.args.pointer c.requires.pointer x (sym c.in_ok-heir.ensures ∙ is)

pub returns-then-is_empty-clause-given : goal.returns-then-is_empty-clause-given
returns-then-is_empty-clause-given c =
    let none : length c.args.edicts.now ≡ 0 = grind (arith, c.if-is_empty.ensures) in
    let said = asked_nothing c.args.outputs.now c.args.pool c.args.edicts.now c.args.etched c.args.pointer c.in_ok-heir.heir none c.in_ok-heir.ensures (subst AreBalances c.pool.view_is c.pool.invariant.lawful) c.requires.pointer in
    if_ok c.give_whole.result (λ a is. is ∙ said.given) c.give_whole.ensures.given

pub returns-then-is_empty-clause-burned : goal.returns-then-is_empty-clause-burned
returns-then-is_empty-clause-burned c =
    let none : length c.args.edicts.now ≡ 0 = grind (arith, c.if-is_empty.ensures) in
    let said = asked_nothing c.args.outputs.now c.args.pool c.args.edicts.now c.args.etched c.args.pointer c.in_ok-heir.heir none c.in_ok-heir.ensures (subst AreBalances c.pool.view_is c.pool.invariant.lawful) c.requires.pointer in
    if_ok c.give_whole.result (λ a is. is ∙ said.burned) c.give_whole.ensures.burned

pub give_rest-requires : goal.give_rest-requires
give_rest-requires c =
    let are : c.follow_all.new.self.outputs ≡ c.args.outputs.now =
    c.in_ok-follow_all.ensures.outputs ∙ (c.new-deal.ensures.outputs ∙ ap (λ (held : Held). held.outputs) c.in_ok-empty.ensures)
    in elim c.match-pointer.branch [
      | in-Some w ↦ λ x is. subst (λ (outputs : List TxOut). x < length outputs) (sym are) (c.requires.pointer x (w.in-Some.is ∙ (sym w.heir-is ∙ is)))
      | in-None w ↦ λ x is.
          subst (λ (outputs : List TxOut). x < length outputs) (sym are)
          (first_within (length c.args.outputs.now) (holders c.args.outputs.now) (holders_within c.args.outputs.now) x
          (ap (λ places. slice_get places 0) (sym c.in_ok-holders.ensures) ∙ (ap (λ places. slice_get places 0) (sym w.deref-in-None.ensures.value) ∙ (sym w.first.ensures.value ∙ (sym w.copied-heir.ensures ∙ (sym w.heir-is ∙ is))))))
    ]

-- the heir that the code finds
heir_is : (c : goal.After-drop-holders-2) → c.match-pointer.heir ≡ heir c.args.outputs.now c.args.pointer
heir_is c = elim c.match-pointer.branch [
  | in-Some w ↦ w.heir-is ∙ sym (ap (heir c.args.outputs.now) w.in-Some.is)
  | in-None w ↦
      w.heir-is ∙ (w.copied-heir.ensures ∙ (w.first.ensures.value ∙ (ap (λ places. slice_get places 0) w.deref-in-None.ensures.value
      ∙ (ap (λ places. slice_get places 0) c.in_ok-holders.ensures ∙ sym (ap (heir c.args.outputs.now) w.in-None.is)))))
]

said : (c : goal.After-drop-holders-2) → IsSaid c.args.outputs.now c.args.pool (gifts_from c.args.pool c.args.edicts.now c.args.etched c.args.pointer c.args.outputs.now) c.in_ok-hands.hands.hands
said c =
    allocated_as_said c.args.outputs.now c.args.pool c.args.edicts.now c.args.etched c.args.pointer c.match-pointer.heir c.new-deal.result c.follow_all.new.self c.in_ok-hands.hands.hands
    (subst AreBalances c.pool-2.view_is c.pool-2.invariant.lawful) c.requires.pointer (heir_is c) (c.new-deal.ensures.outputs ∙ ap (λ (held : Held). held.outputs) c.in_ok-empty.ensures) (c.new-deal.ensures.left ∙ c.in_ok-left.ensures.amounts) (c.new-deal.ensures.hands ∙ ap (λ (held : Held). held.hands) c.in_ok-empty.ensures)
    c.in_ok-follow_all.ensures c.in_ok-hands.ensures

pub returns-clause-given : goal.returns-clause-given
returns-clause-given c = if_ok c.into_allocated.result (λ a is. is ∙ (said c).given) c.into_allocated.ensures.given

pub returns-clause-burned : goal.returns-clause-burned
returns-clause-burned c = if_ok c.into_allocated.result (λ a is. is ∙ (said c).burned) c.into_allocated.ensures.burned

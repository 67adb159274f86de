use Rattle.std.proofs.Common.{◌∙◌, List, ap, subst}
use Rattle.ox_block.specs.declared.block.TxOut.{TxOut}
use Rattle.ox_allocation.specs.Balances.{Balance}
use Rattle.ox_allocation.specs.Dealing.{Held, gifts_for, with_gift, with_gifts}
use Rattle.ox_allocation.proofs.Rests.{IsHanding, hands_all, hands_on}
use Rattle.ox_allocation.proofs.hands.Hands.give_all.Goals as goal

pub loop-id-preserved : goal.loop-id-preserved
loop-id-preserved c =
    let given = c.in_ok-give.ensures.ok in record {
      outputs = ap (λ (held : Held). held.outputs) given ∙ c.loop-id.invariant.outputs;
      handing = λ _.
          hands_on c.args.self.now.outputs c.args.place _ (c.in-Some.id, c.in-Some.amount) c.pop_first.new.self c.loop-id.self.hands c.give.new.self.hands
          (subst (λ (rest : List Balance). IsHanding c.args.self.now.outputs c.args.place (with_gifts c.args.self.now.outputs c.args.self.now.hands (gifts_for c.args.place c.args.runes)) rest c.loop-id.self.hands) c.in-Some.ensures.first (c.loop-id.invariant.handing c.pop_first.ensures.rising))
          (ap (λ (held : Held). held.hands) given ∙ ap (λ (outputs : List TxOut). with_gift outputs c.loop-id.self.hands (record { output = c.args.place; id = c.in-Some.id; amount = c.in-Some.amount })) c.loop-id.invariant.outputs);
    }

pub returns : goal.returns
returns c =
    let all =
    hands_all c.args.self.now.outputs c.args.place _ c.loop-id.self.hands (subst (λ (rest : List Balance). IsHanding c.args.self.now.outputs c.args.place (with_gifts c.args.self.now.outputs c.args.self.now.hands (gifts_for c.args.place c.args.runes)) rest c.loop-id.self.hands) c.in_default.ensures.first.0 (c.loop-id.invariant.handing c.pop_first.ensures.rising))
    in λ i. record { outputs = c.loop-id.invariant.outputs i; hands = all i }

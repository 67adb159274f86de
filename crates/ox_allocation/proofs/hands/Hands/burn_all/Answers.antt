use Rattle.std.proofs.Common.{◌∙◌, sym, ap, length, List, subst}
use Rattle.ox_allocation.specs.Balances.{Balance}
use Rattle.ox_allocation.specs.Dealing.{with_all}
use Rattle.ox_allocation.proofs.Rests.{IsBurning, burned_fits, burns_all, burns_on}
use Rattle.ox_allocation.proofs.hands.Hands.burn_all.Goals as goal

pub add-requires : goal.add-requires
add-requires c =
    burned_fits _ (c.in-Some.id, c.in-Some.amount) c.pop_first.new.self c.loop-id.self-inside.burned
    (subst (λ (rest : List Balance). IsBurning (with_all c.self.inside.burned c.args.runes) rest c.loop-id.self-inside.burned) c.in-Some.ensures.first (c.loop-id.invariant.burning c.pop_first.ensures.rising))

pub loop-id-preserved : goal.loop-id-preserved
loop-id-preserved c = record {
  burning = λ _.
      burns_on _ (c.in-Some.id, c.in-Some.amount) c.pop_first.new.self c.loop-id.self-inside.burned c.add.new.self
      (subst (λ (rest : List Balance). IsBurning (with_all c.self.inside.burned c.args.runes) rest c.loop-id.self-inside.burned) c.in-Some.ensures.first (c.loop-id.invariant.burning c.pop_first.ensures.rising)) c.in_ok-add.ensures.ok;
  given = c.loop-id.invariant.given;
  outputs = c.loop-id.invariant.outputs;
}

pub returns : goal.returns
returns c =
    let burned =
    burns_all _ c.loop-id.self-inside.burned (subst (λ (rest : List Balance). IsBurning (with_all c.self.inside.burned c.args.runes) rest c.loop-id.self-inside.burned) c.in_default.ensures.first.0 (c.loop-id.invariant.burning c.pop_first.ensures.rising))
    in
    rw (sym c.self.view_is) (λ i. record { outputs = c.loop-id.invariant.outputs i; hands = record { given = (c.loop-id.invariant.given i).items; burned = burned i } })

pub invariant_of-self : goal.invariant_of-self
invariant_of-self c = ap (λ given. length given.items) c.loop-id.invariant.given ∙ c.self.invariant ∙ ap length (sym c.loop-id.invariant.outputs)

pub invariant_of-self-in_default : goal.invariant_of-self-in_default
invariant_of-self-in_default c = ap (λ given. length given.items) c.loop-id.invariant.given ∙ c.self.invariant ∙ ap length (sym c.loop-id.invariant.outputs)

use Rattle.std.proofs.Common.{◌∙◌, List, ap, get_or, length, refl}
use Rattle.ox_block.specs.declared.block.TxOut.{TxOut}
use Rattle.ox_allocation.specs.Dealing.{Held, with_gift}
use Rattle.ox_allocation.proofs.Owing.{paid_burned_fits, paid_fits, pays_last, pays_next, pays_on, within_next}
use Rattle.ox_allocation.proofs.hands.Hands.give_same.Goals as goal

pub loop-place-init : goal.loop-place-init
loop-place-init c = record { outputs = refl; within = c.requires.places; paying = record { whole = refl; fits = c.requires.fits } }

pub give-requires-clause-place : goal.give-requires-clause-place
give-requires-clause-place c =
    let there = within_next (length c.args.self.now.outputs) c.args.places.now c.loop-place.place-index c.loop-place-test.true c.loop-place.invariant.within in
    rw c.loop-place.invariant.outputs there.0

pub give-requires-clause-given : goal.give-requires-clause-given
give-requires-clause-given c = paid_fits _ _ _ _ _ (pays_next _ _ c.args.id c.args.amount c.args.places.now c.loop-place.place-index _ c.loop-place-test.true c.loop-place.invariant.paying)

pub give-requires-clause-burned : goal.give-requires-clause-burned
give-requires-clause-burned c = paid_burned_fits _ _ _ _ _ (pays_next _ _ c.args.id c.args.amount c.args.places.now c.loop-place.place-index _ c.loop-place-test.true c.loop-place.invariant.paying)

pub loop-place-preserved : goal.loop-place-preserved
loop-place-preserved c =
    let given = c.in_ok-give.ensures.ok in
    let there = within_next (length c.args.self.now.outputs) c.args.places.now c.loop-place.place-index c.loop-place-test.true c.loop-place.invariant.within in
    record {
      outputs = ap (λ (held : Held). held.outputs) given ∙ c.loop-place.invariant.outputs;
      within = there.1;
      paying =
          pays_on _ _ _ _ _ _ (pays_next _ _ c.args.id c.args.amount c.args.places.now c.loop-place.place-index _ c.loop-place-test.true c.loop-place.invariant.paying)
          (ap (λ (held : Held). held.hands) given ∙ ap (λ (outputs : List TxOut). with_gift outputs c.loop-place.self.hands (record { output = get_or c.args.places.now c.loop-place.place-index 0; id = c.args.id; amount = c.args.amount })) c.loop-place.invariant.outputs);
    }

pub returns : goal.returns
returns c =
    let all = pays_last _ _ c.args.id c.args.amount c.args.places.now c.loop-place.place-index _ c.loop-place-test.false c.loop-place.invariant.paying in
    λ i. record { outputs = c.loop-place.invariant.outputs i; hands = all i }

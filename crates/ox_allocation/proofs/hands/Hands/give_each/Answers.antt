use Rattle.std.proofs.Common.{◌∙◌, List, ap, refl}
use Rattle.ox_block.specs.declared.block.TxOut.{TxOut}
use Rattle.ox_allocation.specs.Dealing.{Held, same_to, with_gifts}
use Rattle.ox_allocation.proofs.Owing.{pays_end, pays_rune, rune_fits}
use Rattle.ox_allocation.proofs.hands.Hands.give_each.Goals as goal

pub loop-id-init : goal.loop-id-init
loop-id-init c = record { outputs = refl; paying = record { whole = refl; fits = c.requires.fits } }

pub give_same-requires-clause-places : goal.give_same-requires-clause-places
give_same-requires-clause-places c = rw c.loop-id.invariant.outputs c.requires.places

pub give_same-requires-clause-fits : goal.give_same-requires-clause-fits
give_same-requires-clause-fits c = rune_fits _ _ c.args.places.now (c.in-Some.id, c.in-Some.amount) c.pop_first.new.self c.loop-id.runes c.loop-id.self.hands c.in-Some.ensures.first c.loop-id.invariant.paying

pub loop-id-preserved : goal.loop-id-preserved
loop-id-preserved c =
    let given = c.in_ok-give_same.ensures in record {
      outputs = ap (λ (held : Held). held.outputs) given ∙ c.loop-id.invariant.outputs;
      paying =
          pays_rune c.args.self.now.outputs _ c.args.places.now (c.in-Some.id, c.in-Some.amount) c.pop_first.new.self c.loop-id.runes c.loop-id.self.hands c.give_same.new.self.hands c.in-Some.ensures.first c.loop-id.invariant.paying
          (ap (λ (held : Held). held.hands) given
          ∙ ap (λ (outputs : List TxOut). with_gifts outputs c.loop-id.self.hands (same_to c.in-Some.id c.in-Some.amount c.args.places.now)) c.loop-id.invariant.outputs);
    }

pub returns : goal.returns
returns c =
    let all = pays_end _ _ c.args.places.now c.loop-id.runes c.loop-id.self.hands c.in_default.ensures.first.0 c.loop-id.invariant.paying in
    λ i. record { outputs = c.loop-id.invariant.outputs i; hands = all i }

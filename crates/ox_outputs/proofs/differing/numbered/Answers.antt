use Rattle.std.proofs.Common.{◌≡◌, ◌∙◌, ◌<◌, ◌++◌, [], ◌∷◌, sym, ap, arith, length, subst, get_or, ℕ}
use Rattle.ox_outputs.specs.Differing.{pairs_in}
use Rattle.ox_outputs.specs.Fronts.{IsFront}
use Rattle.ox_outputs.specs.declared.slot_of.SlotOf.{SlotOf}
use Rattle.ox_outputs.proofs.FrontLemmas.{fronts_more, pairs_more}
use Rattle.ox_outputs.proofs.TurnLemmas.{numbered_all, numbered_more}
use Rattle.ox_outputs.proofs.differing.numbered.Goals as goal

pub loop-spot-preserved : goal.loop-spot-preserved
loop-spot-preserved c =
    let d : SlotOf = record { at = record { txid = record { 0 = [] }; index = 0 }; place = 0 } in
    let changed = c.args.changed.now in
    let n = c.loop-spot.spot-index in
    let one = c.new.result in
    let place : one.place ≡ n = c.new.ensures.place ∙ c.len-place.ensures ∙ c.loop-spot.invariant.len in
    let low : one.place < length changed = omega (arith, place, c.loop-spot-test.true) in
    let front : IsFront one.front (get_or changed one.place d).at = subst (λ (k : ℕ). IsFront one.front (get_or changed k d).at) (sym place) c.new.ensures.front in
    let pairs = pairs_more d changed c.loop-spot.places.items c.push_reserved.new.self.items one low c.push_reserved.ensures.items in record {
      len = omega (arith, c.push_reserved.ensures.len, c.loop-spot.invariant.len);
      room = omega (arith, c.push_reserved.ensures.capacity, c.loop-spot.invariant.room);
      pairs = numbered_more d (pairs_in changed c.loop-spot.places.items) (pairs_in changed c.push_reserved.new.self.items) _ changed n one.place c.loop-spot-test.true place
          (pairs ∙ ap (λ (k : ℕ). pairs_in changed c.loop-spot.places.items ++ ((get_or changed k d).at, one.place) ∷ []) place) c.loop-spot.invariant.pairs;
      fronts = fronts_more d changed c.loop-spot.places.items c.push_reserved.new.self.items one low front c.push_reserved.ensures.items c.loop-spot.invariant.fronts;
    }

pub returns-clause-pairs : goal.returns-clause-pairs
returns-clause-pairs c = numbered_all (pairs_in c.args.changed.now c.loop-spot.places.items) _ c.args.changed.now c.loop-spot.spot-index c.loop-spot-test.false c.loop-spot.invariant.pairs

use Rattle.std.proofs.Common.{◌∙◌}
use Rattle.ox_ledger.proofs.KeptLemmas.{kept_within, places_back, stood_back}
use Rattle.ox_ledger.proofs.kept.Kept.put_back.Goals as goal

pub loop-place-preserved : goal.loop-place-preserved
loop-place-preserved g c =
    let now = c.loop-place.self-inside in
    let less = kept_within now.stood.entries now.items.items c.in-Some.place c.in-Some.value c.loop-place.invariant.places c.in-Some.ensures.value in record {
      stood = λ q.
          stood_back now.stood.entries c.pop_first.new.self.entries now.items.items c.in-Some.place q c.in-Some.value c.in-Some.ensures.updates.0 c.in-Some.ensures.value less
          ∙ c.loop-place.invariant.stood q;
      places = places_back now.stood.entries c.pop_first.new.self.entries now.items.items c.in-Some.place c.in-Some.value c.in-Some.ensures.updates.0 c.loop-place.invariant.places;
    }

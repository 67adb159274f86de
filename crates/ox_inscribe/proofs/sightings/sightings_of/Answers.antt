use Rattle.std.proofs.Common.{arith, ap, sym, ◌∙◌, ◌≡◌, ◌-◌, ◌+◌, ◌++◌, ℕ, drop}
use Rattle.ox_inscribe.specs.Reveal.{sightings_from, sources_of}
use Rattle.ox_inscribe.proofs.SeenLaws.{input_more, input_all, sats_more, small_seen, from_start}
use Rattle.ox_inscribe.proofs.sightings.sightings_of.Goals as goal

pub loop-place-init : goal.loop-place-init
loop-place-init c = record {
  so_far = from_start c.new-seen.result.items c.args.held c.args.inputs.now c.args.spent.now c.new-seen.ensures.items;
  left = c.requires.held;
  within = omega arith;
}

pub overflow_sub-left : goal.overflow_sub-left
overflow_sub-left c = omega (arith, c.len-sats.ensures, c.loop-place.invariant.left, sats_more c.loop-place.place c.args.spent.now c.index-spent-place.result (omega (arith, c.loop-place-test.true, c.requires.each)))

pub loop-place-preserved : goal.loop-place-preserved
loop-place-preserved c =
    let more = sats_more c.loop-place.place c.args.spent.now c.index-spent-place.result (omega (arith, c.loop-place-test.true, c.requires.each)) in
    let on : c.args.held - c.loop-place.left + c.len-sats.result ≡ c.args.held - (c.loop-place.left - c.len-sats.result) = omega (arith, c.len-sats.ensures, c.loop-place.invariant.left, c.loop-place.invariant.within, more) in record {
      so_far =
          ap (λ (before : ℕ). c.see_envelopes.new.seen.items ++ sightings_from (c.loop-place.place + 1) before (sources_of (drop (c.loop-place.place + 1) c.args.inputs.now) (drop (c.loop-place.place + 1) c.args.spent.now))) (sym on)
          ∙ input_more c.loop-place.seen.items _ _ c.loop-place.place (c.args.held - c.loop-place.left) c.len-sats.result c.args.inputs.now c.args.spent.now c.index-inputs-place.result c.index-spent-place.result c.loop-place-test.true (omega (arith, c.loop-place-test.true, c.requires.each)) c.index-inputs-place.is c.index-spent-place.is c.len-sats.ensures c.in_ok-see_envelopes.ensures c.loop-place.invariant.so_far;
      left = omega (arith, c.len-sats.ensures, c.loop-place.invariant.left, more);
      within = omega (arith, c.loop-place.invariant.within);
    }

pub returns-clause-seen : goal.returns-clause-seen
returns-clause-seen c = input_all c.loop-place.seen.items _ c.loop-place.place (c.args.held - c.loop-place.left) c.args.inputs.now c.args.spent.now c.loop-place-test.false c.loop-place.invariant.so_far

pub returns-clause-small : goal.returns-clause-small
returns-clause-small c = small_seen c.loop-place.seen.items c.args.inputs.now c.args.spent.now (input_all c.loop-place.seen.items _ c.loop-place.place (c.args.held - c.loop-place.left) c.args.inputs.now c.args.spent.now c.loop-place-test.false c.loop-place.invariant.so_far)

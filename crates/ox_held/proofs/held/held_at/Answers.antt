use Rattle.ox_ledger.proofs.Fresh.{all_rise}
use Rattle.ox_model.specs.Index.{runes_of}
use Rattle.ox_held.proofs.Fits.{runes_fit, sats_fit}
use Rattle.ox_held.proofs.Gathering.{begun, gathers_all, gathers_more, next_runes_fit, next_sats_fit, no_place}
use Rattle.ox_held.proofs.held.held_at.Goals as goal

pub loop-at-init : goal.loop-at-init
loop-at-init g c = begun (g.V.View.index c.args.live.now) c.args.places.now c.new-gathered.result c.new-gathered.ensures

pub add-requires : goal.add-requires
add-requires g c =
    let p = g.V.View.chain c.args.live.now in
    let index = g.V.View.index c.args.live.now in
    let places = c.args.places.now in
    let known = g.met.V.View.known c.args.live.now in
    let sound = g.met.V.View.sound c.args.live.now in
    record {
      sats =
          next_sats_fit index places c.loop-at.gathered c.loop-at.at-index no_place c.loop-at-test.true c.loop-at.invariant
          (sats_fit p index places known sound c.requires);
      runes = λ id.
          next_runes_fit index places c.loop-at.gathered c.loop-at.at-index no_place id c.loop-at-test.true c.loop-at.invariant
          (all_rise (runes_of index) sound.runes.balanced) (runes_fit p index places id sound c.requires);
    }

pub loop-at-preserved : goal.loop-at-preserved
loop-at-preserved g c =
    gathers_more (g.V.View.index c.args.live.now) c.args.places.now c.loop-at.gathered c.add.new.self c.loop-at.at-index no_place
    c.loop-at-test.true c.loop-at.invariant c.in_ok-add.ensures

pub returns : goal.returns
returns g c =
    let index = g.V.View.index c.args.live.now in
    c.into_held.ensures index c.args.places.now
    (gathers_all index c.args.places.now c.loop-at.gathered c.loop-at.at-index c.loop-at-test.false c.loop-at.invariant)

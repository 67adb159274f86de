use Rattle.std.proofs.Common.{◌≡◌, ◌+◌, ◌-◌, ℕ, [], ◌∷◌, Ok, ap, arith, replicate}
use Rattle.std.proofs.lemmas.Result.{err_from_is_err_and}
use Rattle.ox_feed.specs.declared.command.Command.TheVariants.{Disconnect}
use Rattle.ox_drill.proofs.Lists.{disconnects_in_hand, disconnects_next}
use Rattle.ox_drill.proofs.Parts.{carries_broken, carries_none, carries_same, carries_then, stops_none, stops_then, stops_with}
use Rattle.ox_drill.proofs.carry.disconnect_blocks.Goals as goal

pub loop-done-init : goal.loop-done-init
loop-done-init g c = record {
  carries = carries_none g.S.Site c.args.store c.args.site.now c.requires.in_step;
  stops = stops_none g.S.Site g.met.S.Site.logs_now c.args.store c.args.site.now g.met.S.Site.only_now;
}

pub loop-done-preserved : goal.loop-done-preserved
loop-done-preserved g c =
    let done = c.loop-done._done in
    let kept = c.loop-done.invariant in
    let old = c.args.site.now in
    let last = c.in_ok-store.store in
    record {
      carries = carries_same g.S.Site c.args.store _ _ (Ok last) old c.carry.new.site (disconnects_next done)
          (carries_then g.S.Site c.args.store c.loop-done.store (replicate done Disconnect) (Disconnect ∷ []) (Ok last) old c.loop-done.site c.carry.new.site
          kept.stops.writes.calls.as_told kept.carries c.in_ok-store.ensures.carries);
      stops = stops_then g.S.Site g.met.S.Site.logs_now c.loop-done.store (Ok last) old c.loop-done.site c.carry.new.site kept.stops c.in_ok-store.ensures.stops;
    }

pub returns-in_err-store-clause-carries : goal.returns-in_err-store-clause-carries
returns-in_err-store-clause-carries g c =
    let done = c.loop-done._done in
    let kept = c.loop-done.invariant in
    let p = err_from_is_err_and c.from_residual.result c.from_residual.ensures.1 in
    carries_broken g.S.Site c.args.store c.loop-done.store (replicate done Disconnect) (Disconnect ∷ []) (replicate (c.args.count - (done + 1)) Disconnect) _
    c.from_residual.result c.in_err-store.field-0.0 p.0 c.args.site.now c.loop-done.site c.carry.new.site p.1
    kept.stops.writes.calls.as_told (disconnects_in_hand done c.args.count c.loop-done-test.true) kept.carries c.in_err-store.ensures.carries

pub returns-in_err-store-clause-stops : goal.returns-in_err-store-clause-stops
returns-in_err-store-clause-stops g c =
    let fault = c.in_err-store.field-0.0 in
    let p = err_from_is_err_and c.from_residual.result c.from_residual.ensures.1 in
    stops_then g.S.Site g.met.S.Site.logs_now c.loop-done.store c.from_residual.result c.args.site.now c.loop-done.site c.carry.new.site c.loop-done.invariant.stops
    (stops_with g.S.Site c.from_residual.result fault p.0 c.loop-done.site c.carry.new.site p.1 p.2 c.in_err-store.ensures.stops)

pub returns-clause-carries : goal.returns-clause-carries
returns-clause-carries g c =
    let all : c.loop-done._done ≡ c.args.count = omega (arith, c.loop-done-test.false, c.loop-done.auto._done-end) in
    carries_same g.S.Site c.args.store _ _ (Ok c.loop-done.store) c.args.site.now c.loop-done.site (ap (λ (n : ℕ). replicate n Disconnect) all) c.loop-done.invariant.carries

use Rattle.std.proofs.lemmas.Result.{err_from_is_err_and}
use Rattle.ox_plain.specs.Plain.{index_in}
use Rattle.ox_rows.specs.Reading.{sats_at}
use Rattle.ox_rows.specs.RowReading.{hashes_at, index_at, index_of, inscriptions_at, outputs_at, placements_at, runes_at}
use Rattle.ox_rows.proofs.NextLaws.{and_fails, and_then, begins, failed, seen_as}
use Rattle.ox_rows.proofs.index_from.read_index_from.Goals as goal

pub returns-in_err-hashes : goal.returns-in_err-hashes
unfolding index_at outputs_at placements_at
returns-in_err-hashes g c =
    let p = err_from_is_err_and c.from_residual.result c.from_residual.ensures.1 in
    let s = g.met.S.Source in
    let e = c.in_err-hashes.field-0.0 in
    let b0 = begins g.S.Source s.no_call s.then_went s.then_ended index_of c.args.window.now c.args.source.now c.args.world.now c.requires.ready in
    rw (p.1, p.2) (failed g.S.Source runes_at e (failed g.S.Source placements_at e (failed g.S.Source inscriptions_at e (failed g.S.Source sats_at e (failed g.S.Source outputs_at e (and_fails g.S.Source s.no_call s.then_went s.then_ended hashes_at index_of e b0 c.in_err-hashes.ensures))))))

pub returns-in_err-outs : goal.returns-in_err-outs
unfolding index_at outputs_at placements_at
returns-in_err-outs g c =
    let p = err_from_is_err_and c.from_residual-in_err-outs.result c.from_residual-in_err-outs.ensures.1 in
    let s = g.met.S.Source in
    let e = c.in_err-outs.field-0.0 in
    let b0 = begins g.S.Source s.no_call s.then_went s.then_ended index_of c.args.window.now c.args.source.now c.args.world.now c.requires.ready in
    let b1 = and_then g.S.Source s.no_call s.then_went s.then_ended hashes_at index_of c.in_ok-hashes.hashes b0 c.in_ok-hashes.ensures in
    rw (p.1, p.2) (failed g.S.Source runes_at e (failed g.S.Source placements_at e (failed g.S.Source inscriptions_at e (failed g.S.Source sats_at e (and_fails g.S.Source s.no_call s.then_went s.then_ended outputs_at (index_of c.in_ok-hashes.hashes) e b1 c.in_err-outs.ensures)))))

pub returns-in_err-lost : goal.returns-in_err-lost
unfolding index_at outputs_at placements_at
returns-in_err-lost g c =
    let p = err_from_is_err_and c.from_residual-in_err-lost.result c.from_residual-in_err-lost.ensures.1 in
    let s = g.met.S.Source in
    let e = c.in_err-lost.field-0.0 in
    let b0 = begins g.S.Source s.no_call s.then_went s.then_ended index_of c.args.window.now c.args.source.now c.args.world.now c.requires.ready in
    let b1 = and_then g.S.Source s.no_call s.then_went s.then_ended hashes_at index_of c.in_ok-hashes.hashes b0 c.in_ok-hashes.ensures in
    let b2 = and_then g.S.Source s.no_call s.then_went s.then_ended outputs_at (index_of c.in_ok-hashes.hashes) c.in_ok-outs.outs b1 c.in_ok-outs.ensures in
    rw (p.1, p.2) (failed g.S.Source runes_at e (failed g.S.Source placements_at e (failed g.S.Source inscriptions_at e (and_fails g.S.Source s.no_call s.then_went s.then_ended sats_at (index_of c.in_ok-hashes.hashes c.in_ok-outs.outs.entries) e b2 c.in_err-lost.ensures))))

pub returns-in_err-inscriptions : goal.returns-in_err-inscriptions
unfolding index_at outputs_at placements_at
returns-in_err-inscriptions g c =
    let p = err_from_is_err_and c.from_residual-in_err-inscriptions.result c.from_residual-in_err-inscriptions.ensures.1 in
    let s = g.met.S.Source in
    let e = c.in_err-inscriptions.field-0.0 in
    let b0 = begins g.S.Source s.no_call s.then_went s.then_ended index_of c.args.window.now c.args.source.now c.args.world.now c.requires.ready in
    let b1 = and_then g.S.Source s.no_call s.then_went s.then_ended hashes_at index_of c.in_ok-hashes.hashes b0 c.in_ok-hashes.ensures in
    let b2 = and_then g.S.Source s.no_call s.then_went s.then_ended outputs_at (index_of c.in_ok-hashes.hashes) c.in_ok-outs.outs b1 c.in_ok-outs.ensures in
    let b3 = and_then g.S.Source s.no_call s.then_went s.then_ended sats_at (index_of c.in_ok-hashes.hashes c.in_ok-outs.outs.entries) c.in_ok-lost.lost b2 c.in_ok-lost.ensures in
    rw (p.1, p.2) (failed g.S.Source runes_at e (failed g.S.Source placements_at e (and_fails g.S.Source s.no_call s.then_went s.then_ended inscriptions_at (index_of c.in_ok-hashes.hashes c.in_ok-outs.outs.entries c.in_ok-lost.lost) e b3 c.in_err-inscriptions.ensures)))

pub returns-in_err-bal : goal.returns-in_err-bal
unfolding index_at outputs_at placements_at
returns-in_err-bal g c =
    let p = err_from_is_err_and c.from_residual-in_err-bal.result c.from_residual-in_err-bal.ensures.1 in
    let s = g.met.S.Source in
    let e = c.in_err-bal.field-0.0 in
    let b0 = begins g.S.Source s.no_call s.then_went s.then_ended index_of c.args.window.now c.args.source.now c.args.world.now c.requires.ready in
    let b1 = and_then g.S.Source s.no_call s.then_went s.then_ended hashes_at index_of c.in_ok-hashes.hashes b0 c.in_ok-hashes.ensures in
    let b2 = and_then g.S.Source s.no_call s.then_went s.then_ended outputs_at (index_of c.in_ok-hashes.hashes) c.in_ok-outs.outs b1 c.in_ok-outs.ensures in
    let b3 = and_then g.S.Source s.no_call s.then_went s.then_ended sats_at (index_of c.in_ok-hashes.hashes c.in_ok-outs.outs.entries) c.in_ok-lost.lost b2 c.in_ok-lost.ensures in
    let b4 = and_then g.S.Source s.no_call s.then_went s.then_ended inscriptions_at (index_of c.in_ok-hashes.hashes c.in_ok-outs.outs.entries c.in_ok-lost.lost) c.in_ok-inscriptions.inscriptions b3 c.in_ok-inscriptions.ensures in
    rw (p.1, p.2) (failed g.S.Source runes_at e (and_fails g.S.Source s.no_call s.then_went s.then_ended placements_at (index_of c.in_ok-hashes.hashes c.in_ok-outs.outs.entries c.in_ok-lost.lost c.in_ok-inscriptions.inscriptions) e b4 c.in_err-bal.ensures))

pub returns-in_err-runes : goal.returns-in_err-runes
unfolding index_at outputs_at placements_at
returns-in_err-runes g c =
    let p = err_from_is_err_and c.from_residual-in_err-runes.result c.from_residual-in_err-runes.ensures.1 in
    let s = g.met.S.Source in
    let e = c.in_err-runes.field-0.0 in
    let b0 = begins g.S.Source s.no_call s.then_went s.then_ended index_of c.args.window.now c.args.source.now c.args.world.now c.requires.ready in
    let b1 = and_then g.S.Source s.no_call s.then_went s.then_ended hashes_at index_of c.in_ok-hashes.hashes b0 c.in_ok-hashes.ensures in
    let b2 = and_then g.S.Source s.no_call s.then_went s.then_ended outputs_at (index_of c.in_ok-hashes.hashes) c.in_ok-outs.outs b1 c.in_ok-outs.ensures in
    let b3 = and_then g.S.Source s.no_call s.then_went s.then_ended sats_at (index_of c.in_ok-hashes.hashes c.in_ok-outs.outs.entries) c.in_ok-lost.lost b2 c.in_ok-lost.ensures in
    let b4 = and_then g.S.Source s.no_call s.then_went s.then_ended inscriptions_at (index_of c.in_ok-hashes.hashes c.in_ok-outs.outs.entries c.in_ok-lost.lost) c.in_ok-inscriptions.inscriptions b3 c.in_ok-inscriptions.ensures in
    let b5 = and_then g.S.Source s.no_call s.then_went s.then_ended placements_at (index_of c.in_ok-hashes.hashes c.in_ok-outs.outs.entries c.in_ok-lost.lost c.in_ok-inscriptions.inscriptions) c.in_ok-bal.bal b4 c.in_ok-bal.ensures in
    rw (p.1, p.2) (and_fails g.S.Source s.no_call s.then_went s.then_ended runes_at (index_of c.in_ok-hashes.hashes c.in_ok-outs.outs.entries c.in_ok-lost.lost c.in_ok-inscriptions.inscriptions c.in_ok-bal.bal.entries) e b5 c.in_err-runes.ensures)

pub returns : goal.returns
unfolding index_at outputs_at placements_at
returns g c =
    let s = g.met.S.Source in
    let b0 = begins g.S.Source s.no_call s.then_went s.then_ended index_of c.args.window.now c.args.source.now c.args.world.now c.requires.ready in
    let b1 = and_then g.S.Source s.no_call s.then_went s.then_ended hashes_at index_of c.in_ok-hashes.hashes b0 c.in_ok-hashes.ensures in
    let b2 = and_then g.S.Source s.no_call s.then_went s.then_ended outputs_at (index_of c.in_ok-hashes.hashes) c.in_ok-outs.outs b1 c.in_ok-outs.ensures in
    let b3 = and_then g.S.Source s.no_call s.then_went s.then_ended sats_at (index_of c.in_ok-hashes.hashes c.in_ok-outs.outs.entries) c.in_ok-lost.lost b2 c.in_ok-lost.ensures in
    let b4 = and_then g.S.Source s.no_call s.then_went s.then_ended inscriptions_at (index_of c.in_ok-hashes.hashes c.in_ok-outs.outs.entries c.in_ok-lost.lost) c.in_ok-inscriptions.inscriptions b3 c.in_ok-inscriptions.ensures in
    let b5 = and_then g.S.Source s.no_call s.then_went s.then_ended placements_at (index_of c.in_ok-hashes.hashes c.in_ok-outs.outs.entries c.in_ok-lost.lost c.in_ok-inscriptions.inscriptions) c.in_ok-bal.bal b4 c.in_ok-bal.ensures in
    let b6 = and_then g.S.Source s.no_call s.then_went s.then_ended runes_at (index_of c.in_ok-hashes.hashes c.in_ok-outs.outs.entries c.in_ok-lost.lost c.in_ok-inscriptions.inscriptions c.in_ok-bal.bal.entries) c.in_ok-runes.runes b5 c.in_ok-runes.ensures in
    seen_as g.S.Source index_in _ b6

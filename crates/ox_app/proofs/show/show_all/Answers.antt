use Rattle.std.proofs.lemmas.Result.{err_from_is_err_and}
use Rattle.ox_app.proofs.Pieces.{showing_failed, showing_front, showing_on}
use Rattle.ox_outside.proofs.OnlyTalks.{talks_call}
use Rattle.ox_app.specs.Show.{ShowsFront}
use Rattle.ox_outside.proofs.Counts.{no_fault_then, own_showing}
use Rattle.ox_app.proofs.Stops.{all_shown, piece_stops}
use Rattle.ox_app.proofs.show.show_all.Goals as goal

pub returns-in_err-n-clause-told : goal.returns-in_err-n-clause-told
returns-in_err-n-clause-told g c =
    let p = err_from_is_err_and c.from_residual.result c.from_residual.ensures.1 in
    let logged = c.in_err-n.ensures.logged in
    rw p.1 (showing_failed c.args.bytes.now c.loop-rest.rest.now (g.S.Site.log c.args.site.now) (g.S.Site.log c.loop-rest.site) (g.S.Site.log c.show.new.self) c.loop-rest.invariant.0 logged)

pub returns-in_err-n-clause-talks : goal.returns-in_err-n-clause-talks
returns-in_err-n-clause-talks g c =
    talks_call g.S.Site g.met.S.Site.logs_now (ShowsFront c.args.bytes.now)
    c.args.site.now c.loop-rest.site c.show.new.self c.loop-rest.invariant.1 c.show.ensures.files c.show.ensures.call
    (showing_failed c.args.bytes.now c.loop-rest.rest.now (g.S.Site.log c.args.site.now) (g.S.Site.log c.loop-rest.site) (g.S.Site.log c.show.new.self) c.loop-rest.invariant.0 c.in_err-n.ensures.logged)

pub loop-rest-preserved : goal.loop-rest-preserved
loop-rest-preserved g c =
    let logged = rw c.in-Took.is at c.in_ok-n.ensures.logged in
    let on = showing_on c.args.bytes.now c.loop-rest.rest.now c.in-Took.n (g.S.Site.log c.args.site.now) (g.S.Site.log c.loop-rest.site) (g.S.Site.log c.show.new.self) c.loop-rest.invariant.0 logged in (
      rw c.split_at.ensures.back on,
      talks_call g.S.Site g.met.S.Site.logs_now (ShowsFront c.args.bytes.now)
          c.args.site.now c.loop-rest.site c.show.new.self c.loop-rest.invariant.1 c.show.ensures.files c.show.ensures.call
          (showing_front _ _ (g.S.Site.log c.args.site.now) (g.S.Site.log c.show.new.self) on),
      no_fault_then _ _ _ c.loop-rest.invariant.2 (all_shown _ _ (own_showing _ _ _ c.in_ok-n.ensures.counted)),
    )

pub returns-in_err-n-clause-counted : goal.returns-in_err-n-clause-counted
returns-in_err-n-clause-counted g c =
    let p = err_from_is_err_and c.from_residual.result c.from_residual.ensures.1 in
    piece_stops c.show.result c.from_residual.result p.0 _ _ _ p.1 c.loop-rest.invariant.2 c.show.ensures.counted

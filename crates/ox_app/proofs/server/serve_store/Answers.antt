use Rattle.std.proofs.Common.{◌∙◌, ℕ, Some, ap, sym, subst}
use Rattle.ox_outside.specs.Crash.{Remains}
use Rattle.ox_outside.specs.Log.{Grows}
use Rattle.ox_outside.specs.Runs.{LeavesOnly}
use Rattle.ox_outside.proofs.Log.{grows_weaker}
use Rattle.ox_links.specs.Survives.{Survives}
use Rattle.ox_model.specs.Stack.{Stack}
use Rattle.ox_files.specs.Stands.{stands}
use Rattle.ox_desk.specs.Desk.{DeskContents, Moved, Same, tally_of}
use Rattle.ox_desk.specs.Servers.{server_on}
use Rattle.ox_app.specs.Turns.{MadeTurns, Served, StandFor}
use Rattle.ox_app.proofs.DeskCounts.{moves, stays}
use Rattle.ox_app.proofs.CountsAlong.{made_served}
use Rattle.ox_app.proofs.TurnsGoOn.{lasts_first}
use Rattle.ox_app.proofs.server.serve_store.Goals as goal

pub returns-in_default-clause-survives : goal.returns-in_default-clause-survives
returns-in_default-clause-survives g c told =
    lasts_first g.S.Site server_on c.args.store.stack StandFor c.args.site.now g.met.S.Site.only_now g.met.S.Site.logs_now
    (λ (r : Remains) left. ap stands ((c.requires.holds told).settled r left) ∙ c.requires.stood told)

pub returns-in-Ok-serve_desk-clause-served : goal.returns-in-Ok-serve_desk-clause-served
returns-in-Ok-serve_desk-clause-served g c =
    let old = g.S.Site.log c.args.site.now in
    let new = g.S.Site.log c.serve_desk.new.site in
    let first = g.S.Site.counts c.args.site.now in
    let last = g.S.Site.counts c.serve_desk.new.site in
    let next = c.serve_desk.new.desk in
    let fresh = c.in-Ok.ensures.fresh in
    let served = grows_weaker (MadeTurns server_on (λ (d : DeskContents). d.stack) Moved Same c.args.turns first last c.in-Ok.desk next) (Served server_on c.in-Ok.desk.stack c.args.turns first last next.requests next.cache.hits) old new
    (λ events made. made_served server_on (λ (d : DeskContents). d.stack) Moved Same (λ (d : DeskContents). d.requests) (λ (d : DeskContents). d.commands) (λ (d : DeskContents). tally_of d.cache) moves stays
    c.args.turns first last c.in-Ok.desk next events fresh.1 fresh.0 fresh.2 made) c.in-Ok-serve_desk.ensures.promises.made in
    subst (λ (n : ℕ). Grows (Served server_on c.args.store.stack c.args.turns first last n c.hits.result) old new) (sym c.requests.ensures)
    (subst (λ (m : ℕ). Grows (Served server_on c.args.store.stack c.args.turns first last next.requests m) old new) (sym c.hits.ensures)
    (subst (λ (s : Stack). Grows (Served server_on s c.args.turns first last next.requests next.cache.hits) old new) c.in-Ok.ensures.stack served))

pub returns-in-Ok-serve_desk-clause-survives : goal.returns-in-Ok-serve_desk-clause-survives
returns-in-Ok-serve_desk-clause-survives g c told =
    subst (λ (s : Stack). LeavesOnly g.S.Site c.args.site.now c.serve_desk.new.site (λ r. Grows (λ events. Survives server_on s StandFor events r.files) (g.S.Site.log c.args.site.now) (Some r.log)))
    c.in-Ok.ensures.stack (c.in-Ok-serve_desk.ensures.promises.survives told)

pub returns-clause-survives : goal.returns-clause-survives
returns-clause-survives g c told =
    subst (λ (s : Stack). LeavesOnly g.S.Site c.args.site.now c.serve_desk.new.site (λ r. Grows (λ events. Survives server_on s StandFor events r.files) (g.S.Site.log c.args.site.now) (Some r.log)))
    c.in-Ok.ensures.stack (c.in-Err.ensures.promises.survives told)

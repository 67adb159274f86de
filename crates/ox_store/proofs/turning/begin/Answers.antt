use Rattle.std.proofs.Common.{◌∙◌, sym}
use Rattle.std.proofs.lemmas.Result.{err_from_is_err_and}
use Rattle.ox_outside.specs.Counts.{IsFailure}
use Rattle.ox_store.proofs.Exits.{on_ok, rose_at}
use Rattle.ox_store.proofs.TurningLemmas.{goes_alike, goes_pouring, goes_then, stands_alike}
use Rattle.ox_store.proofs.turning.begin.Goals as goal

pub begin-requires : goal.begin-requires
begin-requires g c told = c.in_ok-closed.ensures.holds (sym c.in_ok-closed.ensures.writes.calls.as_told ∙ told)

pub returns-in_err-closed-clause-goes : goal.returns-in_err-closed-clause-goes
returns-in_err-closed-clause-goes g c stack =
    let p = err_from_is_err_and c.from_residual.result c.from_residual.ensures.1 in
    let first = c.in_err-closed.ensures in
    rw p.1 (goes_alike g.S.Site stack _ c.args.site.now c.close_other.new.site first.writes first.counted (λ failed. first.failed) first.any_moment)

pub returns-clause-stands : goal.returns-clause-stands
returns-clause-stands g c stack =
    let first = c.in_ok-closed.ensures in
    let second = c.begin.ensures in
    let old = g.S.Site.seen c.args.site.now in
    let mid = g.S.Site.seen c.close_other.new.site in
    let new = g.S.Site.seen c.begin.new.site in
    on_ok c.begin.result (λ told is.
    stands_alike mid new stack (second.pours.alike (first.writes.calls.as_told ∙ told)) (stands_alike old mid stack (first.alike told) is))

pub returns-clause-goes : goal.returns-clause-goes
returns-clause-goes g c stack =
    let first = c.in_ok-closed.ensures in
    let second = c.begin.ensures in
    goes_then g.S.Site stack g.met.S.Site.logs_now ⊥ (IsFailure c.begin.result) c.args.site.now c.close_other.new.site c.begin.new.site
    (goes_alike g.S.Site stack ⊥ c.args.site.now c.close_other.new.site first.writes first.counted (λ no. absurd no) first.any_moment) (λ no. no)
    (λ told is. stands_alike (g.S.Site.seen c.args.site.now) (g.S.Site.seen c.close_other.new.site) stack (first.alike told) is)
    (goes_pouring g.S.Site stack c.in_ok-closed.closed (IsFailure c.begin.result) c.close_other.new.site c.begin.new.site second.pours second.counted (λ failed. rose_at c.begin.result _ failed second.failed))

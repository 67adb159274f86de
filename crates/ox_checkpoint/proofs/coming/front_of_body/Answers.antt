use Rattle.std.proofs.Common.{◌≡◌, Ok, refl}
use Rattle.std.proofs.lemmas.Result.{err_from_is_err_and}
use Rattle.ox_files.specs.Body.{body_at, body_of}
use Rattle.ox_rows.specs.Reading.{list_at, made}
use Rattle.ox_rows.specs.RowReading.{change_at, index_at}
use Rattle.ox_rows.proofs.Ahead.{stops_as, until_then}
use Rattle.ox_rows.proofs.Fours.{one_go, one_stop, one_stopped}
use Rattle.ox_checkpoint.proofs.coming.front_of_body.Goals as goal

pub returns-in_err-index-clause-read : goal.returns-in_err-index-clause-read
unfolding body_at
returns-in_err-index-clause-read g c =
    let p = err_from_is_err_and c.from_residual.result c.from_residual.ensures.1 in
    rw (p.1, p.2) (λ bytes ahead.
    let e0 : made body_of bytes ≡ Ok (body_of, bytes) = refl in
    stops_as c.in_err-index.field-0.0 (index_at bytes) (body_at bytes) (λ left h. one_stopped (list_at change_at) (one_stop index_at e0 h)) (c.in_err-index.ensures.read bytes ahead))

pub returns-in_err-changes-clause-read : goal.returns-in_err-changes-clause-read
unfolding body_at
returns-in_err-changes-clause-read g c =
    let p = err_from_is_err_and c.from_residual-in_err-changes.result c.from_residual-in_err-changes.ensures.1 in
    rw (p.1, p.2) (λ bytes ahead.
    let e0 : made body_of bytes ≡ Ok (body_of, bytes) = refl in
    let s1 = c.in_ok-index.ensures.read bytes ahead in
    let e1 = one_go index_at e0 s1.2 in
    stops_as c.in_err-changes.field-0.0 (list_at change_at s1.0) (body_at bytes) (λ left h. one_stop (list_at change_at) e1 h) (c.in_err-changes.ensures.read s1.0 s1.1))

pub returns-in_err-changes-clause-calls : goal.returns-in_err-changes-clause-calls
returns-in_err-changes-clause-calls g c =
    let p = err_from_is_err_and c.from_residual-in_err-changes.result c.from_residual-in_err-changes.ensures.1 in
    rw (p.1, p.2) (until_then g.S.Source.went g.S.Source.ended g.met.S.Source.then_went g.met.S.Source.then_ended _ _ _ _ _ _ c.in_err-changes.field-0.0 c.in_ok-index.ensures.calls c.in_err-changes.ensures.calls)

pub returns-clause-read : goal.returns-clause-read
unfolding body_at
returns-clause-read g c =
    λ bytes ahead.
    let e0 : made body_of bytes ≡ Ok (body_of, bytes) = refl in
    let s1 = c.in_ok-index.ensures.read bytes ahead in
    let e1 = one_go index_at e0 s1.2 in
    let s2 = c.in_ok-changes.ensures.read s1.0 s1.1 in
    (s2.0, s2.1, one_go (list_at change_at) e1 s2.2)

pub returns-clause-calls : goal.returns-clause-calls
returns-clause-calls g c = g.met.S.Source.then_went _ _ _ _ _ _ c.in_ok-index.ensures.calls c.in_ok-changes.ensures.calls

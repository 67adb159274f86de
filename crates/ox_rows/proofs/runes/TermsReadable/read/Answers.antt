use Rattle.std.proofs.lemmas.Result.{err_from_is_err_and}
use Rattle.ox_rows.specs.Reading.{four_at}
use Rattle.ox_rows.specs.RowReading.{optional_128_at, optional_64_at, terms_at, terms_of}
use Rattle.ox_rows.proofs.Fours.{fails_as, first_go, first_stop, one_go, one_stop, one_stopped}
use Rattle.ox_rows.proofs.runes.TermsReadable.read.Goals as goal

pub returns-in_err-amount : goal.returns-in_err-amount
unfolding terms_at
returns-in_err-amount c =
    let p = err_from_is_err_and c.from_residual.result c.from_residual.ensures.1 in
    rw (p.1, p.2) (fails_as c.in_err-amount.field-0.0 (four_at optional_128_at optional_128_at optional_64_at optional_64_at c.args.bytes.now) (terms_at c.args.bytes.now) (λ left e. one_stopped optional_64_at (one_stopped optional_64_at (first_stop optional_128_at optional_128_at optional_64_at optional_64_at terms_of c.args.bytes.now e))) c.in_err-amount.ensures)

pub returns-in_err-offset_start : goal.returns-in_err-offset_start
unfolding terms_at
returns-in_err-offset_start c =
    let e1 = first_go optional_128_at optional_128_at optional_64_at optional_64_at terms_of c.args.bytes.now c.in_ok-amount.ensures in
    let p = err_from_is_err_and c.from_residual-in_err-offset_start.result c.from_residual-in_err-offset_start.ensures.1 in
    rw (p.1, p.2) (fails_as c.in_err-offset_start.field-0.0 (optional_64_at c.in_ok-amount.rest.now) (terms_at c.args.bytes.now) (λ left e. one_stopped optional_64_at (one_stop optional_64_at e1 e)) c.in_err-offset_start.ensures)

pub returns-in_err-offset_end : goal.returns-in_err-offset_end
unfolding terms_at
returns-in_err-offset_end c =
    let e1 = first_go optional_128_at optional_128_at optional_64_at optional_64_at terms_of c.args.bytes.now c.in_ok-amount.ensures in
    let e2 = one_go optional_64_at e1 c.in_ok-offset_start.ensures in
    let p = err_from_is_err_and c.from_residual-in_err-offset_end.result c.from_residual-in_err-offset_end.ensures.1 in
    rw (p.1, p.2) (fails_as c.in_err-offset_end.field-0.0 (optional_64_at c.in_ok-offset_start.rest.now) (terms_at c.args.bytes.now) (λ left e. one_stop optional_64_at e2 e) c.in_err-offset_end.ensures)

pub returns : goal.returns
unfolding terms_at
returns c =
    let e1 = first_go optional_128_at optional_128_at optional_64_at optional_64_at terms_of c.args.bytes.now c.in_ok-amount.ensures in
    let e2 = one_go optional_64_at e1 c.in_ok-offset_start.ensures in
    one_go optional_64_at e2 c.in_ok-offset_end.ensures

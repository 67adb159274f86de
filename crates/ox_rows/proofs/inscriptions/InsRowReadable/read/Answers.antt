use Rattle.std.specs.Int.{w16, w32}
use Rattle.std.proofs.lemmas.Result.{err_from_is_err_and}
use Rattle.ox_bytes.specs.Reading.{number_at}
use Rattle.ox_rows.specs.Reading.{four_at}
use Rattle.ox_rows.specs.RowReading.{ids_at, inscription_at, inscription_id_at, inscription_of, optional_64_at, optional_id_at, optional_text_at}
use Rattle.ox_rows.proofs.Fours.{fails_as, first_go, first_stop, four_go, four_stop, four_stopped}
use Rattle.ox_rows.proofs.inscriptions.InsRowReadable.read.Goals as goal

pub returns-in_err-id : goal.returns-in_err-id
unfolding inscription_at
returns-in_err-id c =
    let p = err_from_is_err_and c.from_residual.result c.from_residual.ensures.1 in
    rw (p.1, p.2) (fails_as c.in_err-id.field-0.0 (four_at inscription_id_at (number_at w32) optional_text_at optional_text_at c.args.bytes.now) (inscription_at c.args.bytes.now) (λ left e. four_stopped optional_text_at ids_at (number_at w16) optional_64_at (four_stopped optional_text_at optional_text_at optional_text_at optional_id_at (first_stop inscription_id_at (number_at w32) optional_text_at optional_text_at inscription_of c.args.bytes.now e))) c.in_err-id.ensures)

pub returns-in_err-metadata : goal.returns-in_err-metadata
unfolding inscription_at
returns-in_err-metadata c =
    let e1 = first_go inscription_id_at (number_at w32) optional_text_at optional_text_at inscription_of c.args.bytes.now c.in_ok-id.ensures in
    let p = err_from_is_err_and c.from_residual-in_err-metadata.result c.from_residual-in_err-metadata.ensures.1 in
    rw (p.1, p.2) (fails_as c.in_err-metadata.field-0.0 (four_at optional_text_at optional_text_at optional_text_at optional_id_at c.in_ok-id.rest.now) (inscription_at c.args.bytes.now) (λ left e. four_stopped optional_text_at ids_at (number_at w16) optional_64_at (four_stop optional_text_at optional_text_at optional_text_at optional_id_at e1 e)) c.in_err-metadata.ensures)

pub returns-in_err-pointer : goal.returns-in_err-pointer
unfolding inscription_at
returns-in_err-pointer c =
    let e1 = first_go inscription_id_at (number_at w32) optional_text_at optional_text_at inscription_of c.args.bytes.now c.in_ok-id.ensures in
    let e2 = four_go optional_text_at optional_text_at optional_text_at optional_id_at e1 c.in_ok-metadata.ensures in
    let p = err_from_is_err_and c.from_residual-in_err-pointer.result c.from_residual-in_err-pointer.ensures.1 in
    rw (p.1, p.2) (fails_as c.in_err-pointer.field-0.0 (four_at optional_text_at ids_at (number_at w16) optional_64_at c.in_ok-metadata.rest.now) (inscription_at c.args.bytes.now) (λ left e. four_stop optional_text_at ids_at (number_at w16) optional_64_at e2 e) c.in_err-pointer.ensures)

pub returns : goal.returns
unfolding inscription_at
returns c =
    let e1 = first_go inscription_id_at (number_at w32) optional_text_at optional_text_at inscription_of c.args.bytes.now c.in_ok-id.ensures in
    let e2 = four_go optional_text_at optional_text_at optional_text_at optional_id_at e1 c.in_ok-metadata.ensures in
    four_go optional_text_at ids_at (number_at w16) optional_64_at e2 c.in_ok-pointer.ensures

use Rattle.std.proofs.lemmas.Result.{err_from_is_err_and}
use Rattle.ox_bytes.specs.Reading.{run_at}
use Rattle.ox_rows.specs.Reading.{four_at, sats_at}
use Rattle.ox_rows.specs.RowReading.{change_at, change_of, counts_at, inscriptions_at, outputs_at, placements_at, runes_at}
use Rattle.ox_rows.proofs.Fours.{fails_as, first_go, first_stop, four_go, four_stop, four_stopped, one_go, one_stop, one_stopped}
use Rattle.ox_rows.proofs.change.change_of.Goals as goal

pub returns-in_err-hash : goal.returns-in_err-hash
unfolding change_at
returns-in_err-hash c =
    let p = err_from_is_err_and c.from_residual.result c.from_residual.ensures.1 in
    rw (p.1, p.2) (fails_as c.in_err-hash.field-0.0 (four_at (run_at 32) outputs_at outputs_at sats_at c.args.bytes.now) (change_at c.args.bytes.now) (λ left e. four_stopped placements_at placements_at counts_at runes_at (one_stopped inscriptions_at (first_stop (run_at 32) outputs_at outputs_at sats_at change_of c.args.bytes.now e))) c.in_err-hash.ensures)

pub returns-in_err-inscriptions : goal.returns-in_err-inscriptions
unfolding change_at
returns-in_err-inscriptions c =
    let e1 = first_go (run_at 32) outputs_at outputs_at sats_at change_of c.args.bytes.now c.in_ok-hash.ensures in
    let p = err_from_is_err_and c.from_residual-in_err-inscriptions.result c.from_residual-in_err-inscriptions.ensures.1 in
    rw (p.1, p.2) (fails_as c.in_err-inscriptions.field-0.0 (inscriptions_at c.in_ok-hash.rest.now) (change_at c.args.bytes.now) (λ left e. four_stopped placements_at placements_at counts_at runes_at (one_stop inscriptions_at e1 e)) c.in_err-inscriptions.ensures)

pub returns-in_err-runes : goal.returns-in_err-runes
unfolding change_at
returns-in_err-runes c =
    let e1 = first_go (run_at 32) outputs_at outputs_at sats_at change_of c.args.bytes.now c.in_ok-hash.ensures in
    let e2 = one_go inscriptions_at e1 c.in_ok-inscriptions.ensures in
    let p = err_from_is_err_and c.from_residual-in_err-runes.result c.from_residual-in_err-runes.ensures.1 in
    rw (p.1, p.2) (fails_as c.in_err-runes.field-0.0 (four_at placements_at placements_at counts_at runes_at c.in_ok-inscriptions.rest.now) (change_at c.args.bytes.now) (λ left e. four_stop placements_at placements_at counts_at runes_at e2 e) c.in_err-runes.ensures)

pub returns : goal.returns
unfolding change_at
returns c =
    let e1 = first_go (run_at 32) outputs_at outputs_at sats_at change_of c.args.bytes.now c.in_ok-hash.ensures in
    let e2 = one_go inscriptions_at e1 c.in_ok-inscriptions.ensures in
    four_go placements_at placements_at counts_at runes_at e2 c.in_ok-runes.ensures

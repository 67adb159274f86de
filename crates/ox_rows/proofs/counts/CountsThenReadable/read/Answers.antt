use Rattle.std.specs.Int.{w128}
use Rattle.std.proofs.lemmas.Result.{err_from_is_err_and}
use Rattle.ox_bytes.specs.Reading.{number_at}
use Rattle.ox_rows.specs.Reading.{four_at}
use Rattle.ox_rows.specs.RowReading.{counts_then_at, counts_then_of}
use Rattle.ox_rows.proofs.Fours.{fails_as, first_go, first_stop}
use Rattle.ox_rows.proofs.counts.CountsThenReadable.read.Goals as goal

pub returns-in_err-mints_before : goal.returns-in_err-mints_before
unfolding counts_then_at
returns-in_err-mints_before c =
    let p = err_from_is_err_and c.from_residual.result c.from_residual.ensures.1 in
    rw (p.1, p.2) (fails_as c.in_err-mints_before.field-0.0 (four_at (number_at w128) (number_at w128) (number_at w128) (number_at w128) c.args.bytes.now) (counts_then_at c.args.bytes.now) (λ left e. first_stop (number_at w128) (number_at w128) (number_at w128) (number_at w128) counts_then_of c.args.bytes.now e) c.in_err-mints_before.ensures)

pub returns : goal.returns
unfolding counts_then_at
returns c =
    first_go (number_at w128) (number_at w128) (number_at w128) (number_at w128) counts_then_of c.args.bytes.now c.in_ok-mints_before.ensures

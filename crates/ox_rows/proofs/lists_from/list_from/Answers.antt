use Rattle.std.specs.Int.{w32}
use Rattle.std.proofs.lemmas.Result.{err_from_is_err_and}
use Rattle.ox_bytes.specs.Reading.{number_at, times}
use Rattle.ox_rows.proofs.NextLaws.{fails_first, goes_on}
use Rattle.ox_rows.proofs.lists_from.list_from.Goals as goal

pub returns-in_err-count : goal.returns-in_err-count
returns-in_err-count g c =
    let p = err_from_is_err_and c.from_residual.result c.from_residual.ensures.1 in
    rw (p.1, p.2) (fails_first g.S.Source (number_at w32) (λ n. times g.T.Readable.at n.0 n.1) c.in_err-count.field-0.0 c.in_err-count.ensures)

pub returns : goal.returns
returns g c =
    let source = g.met.S.Source in
    goes_on g.S.Source source.no_call source.then_went source.then_ended (number_at w32) (λ n. times g.T.Readable.at n.0 n.1) c.in_ok-count.count c.values_from.result c.in_ok-count.ensures c.values_from.ensures

use Rattle.std.proofs.lemmas.Result.{err_from_is_err_and}
use Rattle.ox_store.proofs.Exits.{no_value}
use Rattle.ox_store.proofs.writing.record_of.Goals as goal

pub returns-in_err-rows-in-Connect : goal.returns-in_err-rows-in-Connect
returns-in_err-rows-in-Connect c =
    let left = c.from_residual.result in
    let p = err_from_is_err_and left c.from_residual.ensures.1 in record {
      framed = no_value left p.0 _ p.1;
      fits = no_value left p.0 _ p.1;
      leads = λ before is. no_value left p.0 _ p.1;
    }

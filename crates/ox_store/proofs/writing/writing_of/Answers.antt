use Rattle.std.proofs.lemmas.Result.{err_from_is_err_and}
use Rattle.ox_store.proofs.Exits.{no_value}
use Rattle.ox_store.proofs.writing.writing_of.Goals as goal

pub returns-in_err-next_file : goal.returns-in_err-next_file
returns-in_err-next_file c =
    let left = c.from_residual.result in
    let p = err_from_is_err_and left c.from_residual.ensures.1 in record {
      due = no_value left p.0 _ p.1;
      leads = λ before is. no_value left p.0 _ p.1;
    }

pub returns-in_err-record_of : goal.returns-in_err-record_of
returns-in_err-record_of c =
    let left = c.from_residual-in_err-record_of.result in
    let p = err_from_is_err_and left c.from_residual-in_err-record_of.ensures.1 in record {
      due = no_value left p.0 _ p.1;
      leads = λ before is. no_value left p.0 _ p.1;
    }

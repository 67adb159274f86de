use Rattle.ox_query.specs.Written.{tokens_of}
use Rattle.ox_query.proofs.Bytes.{no_text, text_is}
use Rattle.ox_query.proofs.Steps.{same}
use Rattle.ox_query.proofs.inscription.write_text_or_null.Goals as goal

pub returns-in-Ok : goal.returns-in-Ok
returns-in-Ok c =
    same tokens_of
    (text_is c.args.bytes.now c.in-Some.bytes c.as_slice.result.now c.in-Ok.text.now c.in-Some.is c.as_slice.ensures c.in-Ok.ensures.cases.0 c.in-Ok.ensures.cases.1)
    c.string.ensures

pub returns-in-Err : goal.returns-in-Err
returns-in-Err c =
    same tokens_of (no_text c.args.bytes.now c.in-Some.bytes c.as_slice.result.now c.in-Some.is c.as_slice.ensures c.in-Err.ensures.cases.0) c.null-in-Err.ensures

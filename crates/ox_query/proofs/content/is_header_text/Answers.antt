use Rattle.ox_query.proofs.Contents.{headers_are}
use Rattle.ox_query.proofs.content.is_header_text.Goals as goal

pub returns : goal.returns
returns c = headers_are c.args.bytes.now c.is_empty.result c.are_printable.result c.is_empty.ensures c.if-is_empty.false c.are_printable.ensures

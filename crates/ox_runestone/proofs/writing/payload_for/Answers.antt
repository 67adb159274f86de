use Rattle.ox_runestone.proofs.ScriptIsSpelled.{payload_text}
use Rattle.ox_runestone.proofs.writing.payload_for.Goals as goal

pub returns : goal.returns
returns c = rw (c.in_ok-put_edicts.ensures, c.as_slice.ensures, c.in_ok-put_pair.ensures, c.wide_32.ensures, c.in_ok-put_mint.ensures, c.in_ok-put_etching.ensures, c.new-payload.ensures.items) (payload_text c.args.stone.now)

use Rattle.ox_runestone.proofs.ScriptIsSpelled.{etching_text}
use Rattle.ox_runestone.proofs.writing.put_etching.Goals as goal

pub returns : goal.returns
returns c = rw (c.in_ok-put_terms.ensures, c.in_ok-put_pair-6.ensures, c.in_ok-put_pair-5.ensures, c.code_of.ensures, c.in_ok-put_pair-4.ensures, c.wide_32.ensures, c.in_ok-put_pair-3.ensures, c.wide_8.ensures, c.in_ok-put_pair-2.ensures, c.in_ok-put_pair.ensures, c.flags_for.ensures, c.in-Some.is) (etching_text c.args.payload.now.items c.in-Some.etching)

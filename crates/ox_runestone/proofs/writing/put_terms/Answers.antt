use Rattle.ox_runestone.proofs.ScriptIsSpelled.{terms_text}
use Rattle.ox_runestone.proofs.writing.put_terms.Goals as goal

pub returns : goal.returns
returns c = rw (c.in_ok-put_pair-6.ensures, c.wide_64-4.ensures, c.in_ok-put_pair-5.ensures, c.wide_64-3.ensures, c.in_ok-put_pair-4.ensures, c.wide_64-2.ensures, c.in_ok-put_pair-3.ensures, c.wide_64.ensures, c.in_ok-put_pair-2.ensures, c.in_ok-put_pair.ensures, c.in-Some.is) (terms_text c.args.payload.now.items c.in-Some.terms)

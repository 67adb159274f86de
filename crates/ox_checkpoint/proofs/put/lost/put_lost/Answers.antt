use Rattle.std.proofs.Common.{List, ℕ, sym, ap, subst}
use Rattle.std.specs.Prelude.{OnOk}
use Rattle.std.proofs.lemmas.Result.{on_ok_weaker}
use Rattle.ox_rows.specs.Fits.{AreSats, FitsSats}
use Rattle.ox_rows.specs.Spelling.{sats}
use Rattle.ox_checkpoint.proofs.PutsLemmas.{puts_as}
use Rattle.ox_checkpoint.proofs.put.lost.put_lost.Goals as goal

pub put_first-requires-clause-sats : goal.put_first-requires-clause-sats
put_first-requires-clause-sats g c = subst AreSats (sym c.lost_sats-count.ensures.first) c.requires.sats

pub returns-clause-put : goal.returns-clause-put
returns-clause-put g c = on_ok_weaker c.put_first.result (λ put. puts_as g.K.Sink.holds g.K.Sink.went (ap sats c.lost_sats-count.ensures.first) put) c.put_first.ensures.put

pub returns-clause-fits : goal.returns-clause-fits
returns-clause-fits g c = subst (λ (lost : List ℕ). OnOk c.put_first.result (FitsSats lost)) c.lost_sats-count.ensures.first c.put_first.ensures.fits

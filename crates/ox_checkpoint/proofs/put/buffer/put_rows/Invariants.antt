use Rattle.std.proofs.Common.{take}
use Rattle.ox_checkpoint.proofs.PutsLemmas.{ArePutOn}
use Rattle.ox_checkpoint.proofs.put.buffer.put_rows.Given as goal

abbrev pub invariant-loop-n : goal.invariant-loop-n
invariant-loop-n g l =
    ArePutOn g.K.Sink.holds g.K.Sink.went (g.R.Rows.spelling l.rows) (g.R.Rows.fits l.rows) l.fn.sink l.fn.world l.fn.buffer.rows l.sink l.world l.buffer.rows (take l.n (g.R.Rows.items l.rows))

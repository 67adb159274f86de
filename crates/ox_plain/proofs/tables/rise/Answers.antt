use Rattle.ox_rules.proofs.Orders.{outpoints_total}
use Rattle.ox_plain.proofs.TableLemmas.{rises_is}
use Rattle.ox_plain.proofs.tables.rise.Goals as goal

pub loop-at-init : goal.loop-at-init
loop-at-init g c = rises_is outpoints_total c.args.rows.now

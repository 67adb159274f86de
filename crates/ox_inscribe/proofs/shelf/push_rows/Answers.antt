use Rattle.std.proofs.Common.{◌∙◌}
use Rattle.ox_inscribe.proofs.FrontLaws.{pushed_front}
use Rattle.ox_inscribe.proofs.shelf.push_rows.Goals as goal

pub returns-in_err-share-clause-front : goal.returns-in_err-share-clause-front
returns-in_err-share-clause-front c = pushed_front c.args.rows.now.rows c.loop-row.rows.rows _ c.loop-row.invariant.rows

pub returns-in_err-push-clause-front : goal.returns-in_err-push-clause-front
returns-in_err-push-clause-front c = pushed_front c.args.rows.now.rows c.push.new.self.rows _ (c.in_err-push.ensures.err ∙ c.loop-row.invariant.rows)

pub returns-clause-front : goal.returns-clause-front
returns-clause-front c = pushed_front c.args.rows.now.rows c.loop-row.rows.rows _ c.loop-row.invariant.rows

use Rattle.std.proofs.Common.{ap, ◌∙◌, length, take}
use Rattle.ox_inscribe.proofs.FrontLaws.{pushed_front, still_front}
use Rattle.ox_inscribe.proofs.OrderLaws.{put_more}
use Rattle.ox_inscribe.proofs.reveal.put_back.Goals as goal

pub loop-row-preserved : goal.loop-row-preserved
loop-row-preserved c = record {
  rows = put_more c.loop-row.rows.rows c.push.new.self.rows _ c.loop-row.more.items c.pop.new.self.items c.in-Some.row c.in_ok-push.ensures.ok c.in-Some.ensures.items c.loop-row.invariant.rows;
  front = still_front c.args.rows.now.rows c.loop-row.rows.rows c.push.new.self.rows c.loop-row.invariant.front (pushed_front c.loop-row.rows.rows c.push.new.self.rows _ c.in_ok-push.ensures.ok);
  jubilee = c.push.ensures.jubilee ∙ c.loop-row.invariant.jubilee;
}

pub returns-in_err-push-clause-front : goal.returns-in_err-push-clause-front
returns-in_err-push-clause-front c = ap (take (length c.args.rows.now.rows)) c.in_err-push.ensures.err ∙ c.loop-row.invariant.front

pub returns-clause-front : goal.returns-clause-front
returns-clause-front c = c.loop-row.invariant.front

use Rattle.std.proofs.Common.{ap, ◌∙◌, ◌++◌, ◌∷◌, [], Bool}
use Rattle.ox_inscribe.specs.declared.row.InsRow.{InsRow}
use Rattle.ox_inscribe.proofs.FrontLaws.{all_front, pushed_front, same_front}
use Rattle.ox_inscribe.proofs.reveal.reveal_one.Goals as goal

pub returns-in_err-row-clause-front : goal.returns-in_err-row-clause-front
returns-in_err-row-clause-front c = all_front c.args.rows.now.rows

pub returns-in_err-push-clause-front : goal.returns-in_err-push-clause-front
returns-in_err-push-clause-front c = same_front c.args.rows.now.rows c.push.new.self.rows c.in_err-push.ensures.err

pub returns-in_err-push-2-clause-front : goal.returns-in_err-push-2-clause-front
returns-in_err-push-2-clause-front c = pushed_front c.args.rows.now.rows c.push.new.self.rows _ c.in_ok-push.ensures.ok

pub returns-clause-rows : goal.returns-clause-rows
returns-clause-rows c = c.in_ok-push.ensures.ok ∙ ap (λ (row : InsRow). c.args.rows.now.rows ++ row ∷ []) c.in_ok-row.ensures

pub returns-clause-fees : goal.returns-clause-fees
returns-clause-fees c = c.in_ok-push-2.ensures.items ∙ ap (λ (in_fees : Bool). c.args.fees.now.items ++ in_fees ∷ []) c.goes_to_fees-in_fees.ensures

pub returns-clause-front : goal.returns-clause-front
returns-clause-front c = pushed_front c.args.rows.now.rows c.push.new.self.rows _ c.in_ok-push.ensures.ok

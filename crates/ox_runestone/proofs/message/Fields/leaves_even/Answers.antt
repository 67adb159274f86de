use Rattle.std.proofs.Common.{sym, ◌∙◌, arith}
use Rattle.std.proofs.Common.{below_more}
use Rattle.ox_runestone.proofs.EvenTagsLeft.{leaves_strange, leaves_known, leaves_none}
use Rattle.ox_runestone.proofs.message.Fields.leaves_even.Goals as goal

pub returns-then-self : goal.returns-then-self
returns-then-self c = λ list h. leaves_strange c.args.self.now c.args.outputs list c.if-self.true h

pub returns-then-outnumber : goal.returns-then-outnumber
returns-then-outnumber c = λ list h. leaves_known c.args.self.now c.args.outputs c.loop-half.half c.count_taken.result list (omega arith) c.count_taken.ensures.small c.count_taken.ensures.count (sym c.outnumber.ensures ∙ c.if-outnumber.true) h

pub loop-half-preserved : goal.loop-half-preserved
loop-half-preserved c = below_more _ c.loop-half.half c.loop-half.invariant (rw (← c.count_taken.ensures.count) (sym c.outnumber.ensures ∙ c.if-outnumber.false))

pub returns : goal.returns
returns c = λ list h. leaves_none c.args.self.now c.args.outputs c.loop-half.half list c.if-self.false (omega arith) c.loop-half.invariant h

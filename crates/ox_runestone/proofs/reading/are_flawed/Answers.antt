use Rattle.std.proofs.Common.{sym, ◌∙◌}
use Rattle.ox_runestone.proofs.ArtifactFromFields.{flawed_flag, flawed_leaves, flawed_supply}
use Rattle.ox_runestone.proofs.reading.are_flawed.Goals as goal

pub returns-then-has_strange_flag : goal.returns-then-has_strange_flag
returns-then-has_strange_flag c = λ list h. flawed_flag c.args.fields.now c.args.outputs list (sym c.has_strange_flag.ensures ∙ c.if-has_strange_flag.true) h

pub returns-then-leaves_even : goal.returns-then-leaves_even
returns-then-leaves_even c = λ list h. flawed_leaves c.args.outputs list (sym c.if-leaves_even.true ∙ c.leaves_even.ensures list h)

pub returns : goal.returns
returns c = λ list h. flawed_supply c.args.fields.now c.args.outputs list c.overflows.result (sym c.has_strange_flag.ensures ∙ c.if-has_strange_flag.false) (sym c.if-leaves_even.false ∙ c.leaves_even.ensures list h) (rw (← c.etching.ensures) c.overflows.ensures) h

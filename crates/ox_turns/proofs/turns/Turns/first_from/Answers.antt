use Rattle.std.proofs.Common.{◌∙◌, sym}
use Rattle.ox_turns.specs.Places.{channels_of}
use Rattle.ox_turns.proofs.Rotating.{first_at, none_at}
use Rattle.ox_turns.proofs.turns.Turns.first_from.Goals as goal

pub returns-then-is_on-clause-first : goal.returns-then-is_on-clause-first
returns-then-is_on-clause-first c = first_at (channels_of c.args.self.now.slots) c.args.place c.loop-at.at c.loop-at.invariant (sym c.is_on.ensures ∙ c.if-is_on.true)

pub returns-clause-first : goal.returns-clause-first
returns-clause-first c = c.loop-at.invariant ∙ none_at c.args.self.now.slots c.loop-at.at c.loop-at.at c.requires.many c.loop-at-test.false

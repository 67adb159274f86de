use Rattle.std.proofs.Common.{◌∙◌, sym, subst}
use Rattle.ox_ledger.specs.Moves.{Begins}
use Rattle.ox_rules.specs.Differences.{reverse_of}
use Rattle.ox_model.specs.Change.{outputs_changed}
use Rattle.ox_outputs.specs.Table.{EndsIn as EndsAt}
use Rattle.ox_index.specs.Held.{Held, IsOn}
use Rattle.ox_index.specs.Parts.{held_in, mark_of}
use Rattle.ox_index.proofs.Marks.{marked_some, same_held}
use Rattle.ox_index.proofs.parts.Parts.again.Goals as goal

pub put_again-requires-clause-marked : goal.put_again-requires-clause-marked
put_again-requires-clause-marked c = marked_some (mark_of c.begin.new.self) (held_in c.args.self.now) c.in_ok-begin.ensures.ok

pub put_again-requires-clause-rows : goal.put_again-requires-clause-rows
put_again-requires-clause-rows c =
    subst (λ (h : Held). EndsAt h.outs (reverse_of (outputs_changed c.args.change.now))) (sym c.begin.ensures.held) c.requires.rows

pub put_again-requires-clause-runes : goal.put_again-requires-clause-runes
put_again-requires-clause-runes c =
    subst (λ (h : Held). Begins c.args.change.now.runes h.runes) (sym c.begin.ensures.held) c.requires.runes

pub cancel-requires : goal.cancel-requires
cancel-requires c = marked_some (mark_of c.put_again.new.self) (held_in c.args.self.now) (c.put_again.ensures.mark ∙ c.in_ok-begin.ensures.ok)

pub returns-in-Ok-clause-ok : goal.returns-in-Ok-clause-ok
returns-in-Ok-clause-ok c =
    subst (λ (h : Held). IsOn h (held_in c.put_again.new.self) c.args.change.now) c.begin.ensures.held c.in-Ok.ensures.ok

pub returns-in-Ok-clause-mark : goal.returns-in-Ok-clause-mark
returns-in-Ok-clause-mark c = c.put_again.ensures.mark ∙ c.in_ok-begin.ensures.ok

pub returns-in-Err-clause-err : goal.returns-in-Err-clause-err
returns-in-Err-clause-err c =
    same_held (held_in c.cancel.new.self) (held_in c.args.self.now) (c.cancel.ensures.held ∙ (c.put_again.ensures.mark ∙ c.in_ok-begin.ensures.ok))

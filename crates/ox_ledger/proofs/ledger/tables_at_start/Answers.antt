use Rattle.std.proofs.Common.{◌∙◌, ◌++◌, ◌∷◌, [], ap}
use Rattle.ox_ledger.specs.Shown.{held_then}
use Rattle.ox_ledger.specs.Tables.{mark_of, runes_of, runes_then}
use Rattle.ox_ledger.proofs.LedgerLemmas.{first_there, none_first}
use Rattle.ox_ledger.proofs.ledger.tables_at_start.Goals as goal
use Rattle.ox_ledger.proofs.ledger.tables_at_start.Goals.{then-p+in_ok-push, else-p}

pub returns-clause-runes : goal.returns-clause-runes
returns-clause-runes c = elim c.if-p.branch [
  | then-p+in_ok-push w ↦
      ap runes_of w.tables-is
      ∙ first_there c.args.p.now (runes_of c.new-tables.result) w.push.new.self.now c.new-tables.ensures.now
      (ap (λ r. r.now) w.in_ok-push.ensures.ok ∙ (λ i. c.new-tables.result.runes.now ++ w.first_rune.ensures i ∷ [])) w.if-p.true
  | else-p w ↦ ap runes_of w.tables-is ∙ none_first c.args.p.now (runes_of c.new-tables.result) c.new-tables.ensures.now w.if-p.false
]

pub returns-clause-mark : goal.returns-clause-mark
returns-clause-mark c = elim c.if-p.branch [
  | then-p+in_ok-push w ↦
      ap mark_of w.tables-is ∙ ((λ i. runes_then (held_then c.new-tables.result.holders) (w.push.ensures.mark i) c.new-tables.result.due.mark) ∙ c.new-tables.ensures.mark)
  | else-p w ↦ ap mark_of w.tables-is ∙ c.new-tables.ensures.mark
]

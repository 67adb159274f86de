use Rattle.std.proofs.Common.{◌∙◌, List, Some, refl, sym, ap, subst}
use Rattle.ox_ledger.specs.Balanced.{Balanced}
use Rattle.ox_ledger.specs.Ledger.{runes_in}
use Rattle.ox_ledger.specs.Runes.{Placement, Runes}
use Rattle.ox_index.specs.Tables.{state_of}
use Rattle.ox_index.proofs.Emptying.{begins_it, filled_it}
use Rattle.ox_index.proofs.live.made.ledger_of.Goals as goal

pub again-requires-clause-begins : goal.again-requires-clause-begins
again-requires-clause-begins c =
    let held = c.in_ok-listed.field-0 in
    begins_it held c.args.runes c.in_ok-listed.ensures.rising (record { before = c.new.result; after = held; counts = c.new-2.result; appended = c.args.runes }) (runes_in c.begin.new.self)
    c.new.ensures c.new-2.ensures refl refl (c.begin.ensures.runes ∙ c.empty-ledger.ensures.runes)
    (subst (λ (es : List Placement). Balanced (state_of es c.args.runes)) (sym c.in_ok-listed.ensures.entries) c.requires)

pub returns-clause-runes : goal.returns-clause-runes
returns-clause-runes c =
    let held = c.in_ok-listed.field-0 in
    let filled = filled_it held c.args.runes c.in_ok-listed.ensures.rising (record { before = c.new.result; after = held; counts = c.new-2.result; appended = c.args.runes }) (runes_in c.begin.new.self)
    c.new.ensures c.new-2.ensures refl refl (c.begin.ensures.runes ∙ c.empty-ledger.ensures.runes) in
    c.begin-2.ensures.runes ∙ c.in_ok-again.ensures.ok ∙ filled ∙ ap (λ (es : List Placement). state_of es c.args.runes) c.in_ok-listed.ensures.entries

pub returns-clause-mark : goal.returns-clause-mark
returns-clause-mark c =
    let held = c.in_ok-listed.field-0 in
    let filled = filled_it held c.args.runes c.in_ok-listed.ensures.rising (record { before = c.new.result; after = held; counts = c.new-2.result; appended = c.args.runes }) (runes_in c.begin.new.self)
    c.new.ensures c.new-2.ensures refl refl (c.begin.ensures.runes ∙ c.empty-ledger.ensures.runes) in
    c.begin-2.ensures.mark ∙ ap (λ (r : Runes). Some r) (c.in_ok-again.ensures.ok ∙ filled ∙ ap (λ (es : List Placement). state_of es c.args.runes) c.in_ok-listed.ensures.entries)

use Rattle.std.proofs.Common.{◌∙◌, ℕ, List, ap}
use Rattle.std.specs.Prelude.{◌==◌}
use Rattle.std.specs.BTreeSet.{contains}
use Rattle.std.specs.List.{list_any}
use Rattle.std.specs.Ordering.{nat_cmp}
use Rattle.std.proofs.lemmas.List.{take_all}
use Rattle.ox_etching.specs.declared.row.RuneRow.{RuneRow}
use Rattle.ox_sound.proofs.AmountLemmas.{no_rune}
use Rattle.ox_sound.proofs.DifferLemmas.{names_met}
use Rattle.ox_sound.proofs.new_runes.names_of.Goals as goal

pub loop-row-init : goal.loop-row-init
loop-row-init c = λ name. ap (λ (keys : List ℕ). contains nat_cmp (record { keys = keys }) name) c.new-names.ensures.empty

pub loop-row-preserved : goal.loop-row-preserved
loop-row-preserved c =
    names_met c.args.runes.now c.loop-row.row-index no_rune (contains nat_cmp c.loop-row.names) (contains nat_cmp c.insert.new.self) c.loop-row-test.true c.loop-row.invariant c.in_ok-insert.ensures.updates.0

pub returns : goal.returns
returns c = λ name.
    c.loop-row.invariant name ∙ ap (λ (rows : List RuneRow). list_any (λ (other : RuneRow). other.name == name) rows) (take_all c.loop-row.row-index c.args.runes.now c.loop-row-test.false)

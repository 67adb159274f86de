use Rattle.ox_block.proofs.witness.Witness.new.Goals as goal
use Rattle.std.proofs.Common.{[], refl, sym, ap, subst, ◌∙◌}
use Rattle.ox_block.specs.Witness.{AreStrings, strings_in}
use Rattle.ox_block.proofs.StringsInTurn.{are_strings, strings_are}

pub invariant_of-result : goal.invariant_of-result
invariant_of-result c = subst (AreStrings 0) (sym c.new.ensures.items) (are_strings [] 0 tt refl)

pub returns : goal.returns
returns c = ap (strings_in 0) c.new.ensures.items ∙ strings_are [] 0 tt refl

use Rattle.ox_script.proofs.FormLemmas.{has_split, split_items, split_cut}
use Rattle.ox_script.proofs.instructions.forms_spell_the_script.Goals as goal

pub returns-clause-split : goal.returns-clause-split
returns-clause-split c = has_split

pub returns-clause-items : goal.returns-clause-items
returns-clause-items c = split_items

pub returns-clause-cut : goal.returns-clause-cut
returns-clause-cut c = split_cut

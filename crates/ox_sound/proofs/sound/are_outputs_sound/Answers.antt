use Rattle.std.proofs.Common.{◌∙◌, rules, tests}
use Rattle.std.specs.Prelude.{nat_lt}
use Rattle.std.specs.BTreeMap.{values}
use Rattle.std.proofs.lemmas.Iterator.Consumers.{YieldsList-from_rest}
use Rattle.std.proofs.lemmas.Iterator.Search.{all_from_yields_List}
use Rattle.ox_rules.specs.declared.rows.OutRow.{OutRow}
use Rattle.ox_plain.specs.Plain.{index_in}
use Rattle.ox_sound.proofs.PassLemmas.{outputs_are}
use Rattle.ox_sound.proofs.TableLemmas.{values_back}
use Rattle.ox_sound.proofs.sound.are_outputs_sound.Goals as goal

pub returns : goal.returns
returns c =
    let rows = values c.args.index.now.outs in
    all_from_yields_List (λ (row : OutRow). nat_lt row.height c.len.result) _ _ _ c.all.ensures.ran (YieldsList-from_rest rows c.values.ensures.rest) (λ x b q k. search (rules, tests))
    ∙ outputs_are (index_in c.args.index.now) c.len.result rows c.len.ensures (values_back c.args.index.now.outs.entries c.values.ensures.ordered)

use Rattle.std.proofs.Common.{◌∙◌, sym, subst}
use Rattle.ox_model.specs.Sound.{IsSound}
use Rattle.ox_index.specs.Parts.{held_in}
use Rattle.ox_index.proofs.Counting.{all_to, all_there}
use Rattle.ox_index.proofs.live.Live.unmarked.Goals as goal

pub invariant_of-result : goal.invariant_of-result
invariant_of-result c =
    let all = all_to c.args.hashes.items c.args.lost (held_in c.args.parts) (record { blocks = c.len.result; lost = c.len-2.result }) (sym c.args.hashes.ok.0 ∙ sym c.len.ensures) (sym c.len-2.ensures) in record {
      within = all_there c.args.hashes.items c.args.lost (record { blocks = c.len.result; lost = c.len-2.result }) (sym c.args.hashes.ok.0 ∙ sym c.len.ensures) (sym c.len-2.ensures);
      sound = subst (IsSound c.args.parts.profile) (sym all) c.requires;
      mark = λ lengths none. absurd (cc none);
    }

pub returns-clause-index : goal.returns-clause-index
returns-clause-index c = all_to c.args.hashes.items c.args.lost (held_in c.args.parts) (record { blocks = c.len.result; lost = c.len-2.result }) (sym c.args.hashes.ok.0 ∙ sym c.len.ensures) (sym c.len-2.ensures)

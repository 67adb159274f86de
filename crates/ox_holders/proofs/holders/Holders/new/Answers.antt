use Rattle.std.proofs.Common.{◌∙◌, ap, sym, false}
use Rattle.std.specs.Option.{option_map_or}
use Rattle.std.specs.FinMap.{get-empty}
use Rattle.ox_rules.specs.Outputs.{outpoint_cmp}
use Rattle.ox_holders.specs.Keys.{is_among}
use Rattle.ox_holders.specs.Outputs.{has_output, is_locked_by}
use Rattle.ox_holders.proofs.holders.Holders.new.Goals as goal

pub returns : goal.returns
unfolding is_among has_output
returns c = record {
  each = λ script at.
      ap (λ keys. is_among keys script at) c.new.ensures.empty
      ∙ sym (ap (λ found. option_map_or (is_locked_by script) found false) (get-empty outpoint_cmp at));
}

use Rattle.std.proofs.Common.{◌≡◌, drop}
use Rattle.std.specs.List.{list_all}
use Rattle.ox_ledger.specs.Runes.{Placement}
use Rattle.ox_plain.specs.Plain.{index_in}
use Rattle.ox_sound.specs.Keeps.{is_output_after}
use Rattle.ox_sound.proofs.moved_places.do_come_at_outputs.Given as goal

-- all pass exactly where those that are left do
abbrev pub invariant-loop-at : goal.invariant-loop-at
invariant-loop-at l = list_all (λ (row : Placement). is_output_after (index_in l.before) l.change row.0) (drop l.at-index l.came) ≡ list_all (λ (row : Placement). is_output_after (index_in l.before) l.change row.0) l.came

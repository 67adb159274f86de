use Rattle.std.proofs.Common.{◌≡◌, ℕ, take, true}
use Rattle.std.specs.Prelude.{◌==◌}
use Rattle.std.specs.BTreeSet.{contains}
use Rattle.std.specs.List.{list_any}
use Rattle.std.specs.Ordering.{nat_cmp}
use Rattle.ox_etching.specs.declared.row.RuneRow.{RuneRow}
use Rattle.ox_sound.specs.Rows.{names_differ}
use Rattle.ox_sound.proofs.rows.do_names_differ.Given as goal

abbrev pub invariant-loop-row : goal.invariant-loop-row
invariant-loop-row l = record {
  differ : names_differ (take l.row-index l.runes) ≡ true;
  met : (name : ℕ) → contains nat_cmp l.met name ≡ list_any (λ (other : RuneRow). other.name == name) (take l.row-index l.runes);
}

use Rattle.std.proofs.Common.{◌≡◌, drop}
use Rattle.std.specs.List.{list_all}
use Rattle.ox_sound.specs.Keeps.{count_keeps}
use Rattle.ox_sound.proofs.new_runes.do_counts_keep.Given as goal

-- all pass exactly where those that are left do
abbrev pub invariant-loop-change : goal.invariant-loop-change
invariant-loop-change l = list_all (count_keeps l.runes) (drop l.change-index l.counts) ≡ list_all (count_keeps l.runes) l.counts

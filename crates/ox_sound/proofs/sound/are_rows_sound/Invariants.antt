use Rattle.std.proofs.Common.{◌≡◌, take, true}
use Rattle.std.specs.List.{list_all}
use Rattle.ox_sound.specs.Sound.{is_etched}
use Rattle.ox_sound.proofs.sound.are_rows_sound.Given as goal

abbrev pub invariant-loop-row : goal.invariant-loop-row
invariant-loop-row l = list_all (is_etched l.p l.blocks) (take l.row-index l.runes) ≡ true

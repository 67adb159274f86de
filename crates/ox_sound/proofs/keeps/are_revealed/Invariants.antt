use Rattle.std.proofs.Common.{◌≡◌, take, true}
use Rattle.std.specs.List.{list_all}
use Rattle.ox_sound.specs.Sound.{is_revealed}
use Rattle.ox_sound.proofs.keeps.are_revealed.Given as goal

abbrev pub invariant-loop-shared : goal.invariant-loop-shared
invariant-loop-shared l = list_all (is_revealed l.blocks l.first) (take l.shared-index l.rows) ≡ true

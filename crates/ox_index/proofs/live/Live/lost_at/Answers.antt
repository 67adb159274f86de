use Rattle.std.proofs.Common.{sym, arith}
use Rattle.std.specs.Prelude.{◌==◌}
use Rattle.ox_index.proofs.Counting.{found_in_part, found_behind, found_nowhere}
use Rattle.ox_index.proofs.live.Live.lost_at.Goals as goal

pub returns-in-Some : goal.returns-in-Some
returns-in-Some c =
    let live = c.args.self.now in
    sym (found_in_part (λ s. s == c.args.sat) live.shown.lost live.lost c.in-Some.offset live.within.lost_there (sym c.in-Some.ensures) c.if-offset-self.true)

pub returns-in_default : goal.returns-in_default
returns-in_default c =
    let live = c.args.self.now in
    sym (found_behind (λ s. s == c.args.sat) live.shown.lost live.lost c.in-Some.offset live.within.lost_there (sym c.in-Some.ensures) (omega (arith, c.if-offset-self.false)))

pub returns-in_default-2 : goal.returns-in_default-2
returns-in_default-2 c =
    let live = c.args.self.now in
    sym (found_nowhere (λ s. s == c.args.sat) live.shown.lost live.lost live.within.lost_there (sym c.in_default.ensures))

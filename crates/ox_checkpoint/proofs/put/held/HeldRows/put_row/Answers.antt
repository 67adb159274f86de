use Rattle.std.proofs.Common.{◌≢◌, List, [], sym, subst}
use Rattle.ox_allocation.specs.Balances.{Balance}
use Rattle.ox_index.specs.Live.{index_in, profile_in}
use Rattle.ox_rows.specs.RowFits.{AreHeld}
use Rattle.ox_checkpoint.proofs.HeldLemmas.{held_keeps}
use Rattle.ox_checkpoint.proofs.put.held.HeldRows.put_row.Goals as goal

pub put_held-requires : goal.put_held-requires
put_held-requires c =
    let live = c.args.self.now.live.now in
    subst (λ (held : List Balance). held ≢ [] → AreHeld held) (sym c.balance.ensures) (held_keeps (profile_in live) (index_in live) live.sound c.in-Some.at.now)

use Rattle.std.proofs.Common.{◌≡◌, ◌+◌, List, ◌++◌, drop, sym, subst}
use Rattle.ox_etching.specs.declared.row.RuneRow.{RuneRow}
use Rattle.ox_ledger.specs.Ledger.{runes_in}
use Rattle.ox_index.proofs.Filling.{one_done}
use Rattle.ox_index.proofs.live.plain.runes_of.Goals as goal

pub loop-n-preserved : goal.loop-n-preserved
loop-n-preserved c =
    let all = (runes_in c.args.ledger.now).runes in
    subst (λ (runes : List RuneRow). runes ++ drop (c.loop-n.n + 1) all ≡ all) (sym c.in_ok-push.ensures.ok)
    (one_done all c.loop-n.runes c.loop-n.n c.loop-n.invariant c.rune.result.now c.rune.ensures)

use Rattle.std.proofs.Common.{subst, sym}
use Rattle.ox_index.proofs.KeptBlocks.{AllEnd-take}
use Rattle.ox_model.specs.Ends.{AllEnd}
use Rattle.ox_asof.proofs.told.past_for.Goals as goal

pub tells_runes-requires : goal.tells_runes-requires
tells_runes-requires g c =
    let p = g.V.View.chain c.args.view.now in
    let index = g.V.View.index c.args.view.now in
    subst (AllEnd p index) (sym c.of-undone.ensures) (AllEnd-take p c.args.back index c.args.changes.now.kept c.requires.end)

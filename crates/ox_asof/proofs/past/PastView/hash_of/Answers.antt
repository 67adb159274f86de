use Rattle.std.proofs.Common.{ap}
use Rattle.ox_asof.specs.declared.lengths.Lengths.{Lengths}
use Rattle.ox_asof.proofs.Pasts.{front_past, front_there}
use Rattle.ox_asof.proofs.Undoing.{hashes_front}
use Rattle.ox_asof.specs.Undone.{undone_by}
use Rattle.ox_asof.proofs.past.PastView.hash_of.Goals as goal

pub returns-then-height-self : goal.returns-then-height-self
returns-then-height-self g c =
    let past = c.args.self.now in
    let index = g.V.View.index past.view.now in
    front_there (undone_by index past.undone).hashes index.hashes past.lengths.blocks c.args.height _ (hashes_front index past.undone)
    (ap (λ (l : Lengths). l.blocks) past.counted) c.if-height-self.true c.hash_of.ensures

pub returns-else-height-self : goal.returns-else-height-self
returns-else-height-self g c =
    let past = c.args.self.now in
    let index = g.V.View.index past.view.now in
    front_past (undone_by index past.undone).hashes past.lengths.blocks c.args.height (ap (λ (l : Lengths). l.blocks) past.counted) c.if-height-self.false

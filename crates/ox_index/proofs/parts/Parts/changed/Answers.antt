use Rattle.std.proofs.Common.{refl}
use Rattle.ox_ledger.specs.Ledger.{mark_in, runes_in}
use Rattle.ox_outputs.specs.Table.{marked_in}
use Rattle.ox_index.specs.Parts.{held_in}
use Rattle.ox_index.proofs.Marks.{outs_marked, runes_continue, runes_marked}
use Rattle.ox_index.proofs.Told.{told_since}
use Rattle.ox_index.proofs.parts.Parts.changed.Goals as goal

pub changed-requires-2-clause-continues : goal.changed-requires-2-clause-continues
changed-requires-2-clause-continues c =
    let self = c.args.self.now in
    runes_continue (marked_in self.outputs) self.shelf.mark (mark_in self.ledger) (runes_in self.ledger).runes c.requires.marked c.requires.continues

pub changed-requires : goal.changed-requires
changed-requires c =
    let self = c.args.self.now in
    outs_marked (marked_in self.outputs) self.shelf.mark (mark_in self.ledger) c.requires.marked

pub changed-requires-2-clause-mark : goal.changed-requires-2-clause-mark
changed-requires-2-clause-mark c =
    let self = c.args.self.now in
    runes_marked (marked_in self.outputs) self.shelf.mark (mark_in self.ledger) c.requires.marked

pub returns : goal.returns
returns c =
    let self = c.args.self.now in
    told_since (marked_in self.outputs) self.shelf.mark (mark_in self.ledger) (held_in self) c.args.hash c.args.lost c.args.from _ refl refl
    c.in_ok-gone.ensures c.in_ok-inscriptions.ensures c.in_ok-runes.ensures

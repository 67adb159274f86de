use Rattle.std.proofs.Common.{ap, subst, List}
use Rattle.std.specs.Prelude.{IsSome}
use Rattle.std.specs.Option.{option_map}
use Rattle.ox_outputs.specs.Held.{HeldSlots}
use Rattle.ox_outputs.specs.Pieces.{cell_among}
use Rattle.ox_outputs.specs.SlotCells.{cell_of}
use Rattle.ox_outputs.specs.declared.piece.Piece.{Piece}
use Rattle.ox_outputs.proofs.PieceLemmas.{low_place, seen_in}
use Rattle.ox_outputs.proofs.held.cell_in.Goals as goal

pub returns-clause-slot : goal.returns-clause-slot
returns-clause-slot c = seen_in c.held.inside.pieces.items c.args.held.now.slots (ap (λ (h : HeldSlots). h.slots) c.held.view_is) c.deref.result.now c.args.place (option_map cell_of c.cell_at.result) c.deref.ensures.value c.cell_at.ensures.cell

pub returns-clause-low : goal.returns-clause-low
returns-clause-low c some = low_place c.held.inside.pieces.items c.args.place c.held.invariant (subst (λ (l : List Piece). IsSome (cell_among l c.args.place)) c.deref.ensures.value (c.cell_at.ensures.there some))

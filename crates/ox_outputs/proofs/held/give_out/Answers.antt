use Rattle.std.proofs.Common.{ap, refl, subst, List}
use Rattle.std.specs.Prelude.{IsSome}
use Rattle.ox_outputs.specs.Held.{HeldSlots}
use Rattle.ox_outputs.specs.Pieces.{cell_among}
use Rattle.ox_outputs.specs.declared.piece.Piece.{Piece}
use Rattle.ox_outputs.proofs.PieceLemmas.{low_place, none_seen, updated_there}
use Rattle.ox_outputs.proofs.held.give_out.Goals as goal

pub returns-in-Some-clause-free : goal.returns-in-Some-clause-free
returns-in-Some-clause-free c = none_seen c.held.inside.pieces.items c.args.held.now.slots (ap (λ (h : HeldSlots). h.slots) c.held.view_is) c.deref.result.now c.held.inside.free c.deref.ensures.value (c.in-Some.ensures.none refl)

pub returns-in-Some-clause-updates : goal.returns-in-Some-clause-updates
returns-in-Some-clause-updates c = updated_there c.held.inside.pieces.items c.args.held.now.slots (ap (λ (h : HeldSlots). h.slots) c.held.view_is) c.replace-free.new.pieces.items c.held.inside.free c.new-cell.result _ c.replace-free.ensures.turns c.new-cell.ensures

pub returns-in-Some-clause-low : goal.returns-in-Some-clause-low
returns-in-Some-clause-low c = low_place c.held.inside.pieces.items c.held.inside.free c.held.invariant (subst (λ (l : List Piece). IsSome (cell_among l c.held.inside.free)) c.deref.ensures.value (c.in-Some.ensures.cell refl))

pub returns-clause-free : goal.returns-clause-free
returns-clause-free c = none_seen c.held.inside.pieces.items c.args.held.now.slots (ap (λ (h : HeldSlots). h.slots) c.held.view_is) c.held.inside.pieces.items c.in_ok-place.place refl c.in_ok-place.ensures.free

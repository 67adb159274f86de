use Rattle.std.proofs.Common.{◌≡◌, ◌∙◌, ℕ, sym, ap, Option, Some, None}
use Rattle.std.specs.Prelude.{IfNone}
use Rattle.std.specs.FinMap as map
use Rattle.ox_block.specs.declared.block.OutPoint.{OutPoint}
use Rattle.ox_outputs.specs.Slots.{SlotList, rows_of}
use Rattle.ox_outputs.proofs.PlaceLemmas.{IsNowhere, get-nowhere}
use Rattle.ox_outputs.proofs.slots.Slots.find.Goals as goal

no_row : (slots seen : SlotList) (at : OutPoint) (found : Option ℕ) → slots ≡ seen → IfNone found (IsNowhere slots at) → IfNone found (map.get (rows_of seen) at ≡ None)
no_row slots seen at (Some place) same none = tt
no_row slots seen at None same none = sym (ap (λ (l : SlotList). map.get (rows_of l) at) same) ∙ get-nowhere slots at none

pub returns-clause-none : goal.returns-clause-none
returns-clause-none c = no_row c.self.inside.held.slots c.args.self.now c.args.at.now c.find.result c.self.view_is c.find.ensures.none

use Rattle.std.proofs.Common.{rules}
use Rattle.std.proofs.lemmas.List.Sorted.{answers_always}
use Rattle.ox_outputs.proofs.CellLemmas.{searched}
use Rattle.ox_outputs.proofs.cell.Cell.search.Goals as goal

-- the closure gives a start's number, and the slice is the cell's starts
pub returns : goal.returns
returns c =
    let facts = c.binary_search_by_key.ensures in
    let by_key = facts.position (λ start. start.0) (answers_always _ _ _ (λ f a r g called. search rules)) in
    rw (← c.self.view_is, ← c.deref.ensures.value) (searched _ (rw c.deref.ensures.value c.self.invariant.0) c.args.offset _ facts.bound by_key)

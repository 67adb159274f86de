-- What one more turn of a loop over rows, or over changes, adds.
use Rattle.std.proofs.Common.{◌≡◌, ◌∙◌, ◌<◌, ◌≤◌, ◌+◌, ℕ, List, [], ◌∷◌, ◌++◌, length, drop, get_or, sym, ap}
use Rattle.std.specs.FinMap.{insert, remove}
use Rattle.std.proofs.lemmas.List.{append_assoc, append-nil, drop_all, drop_more}
use Rattle.ox_block.specs.declared.block.OutPoint.{OutPoint}
use Rattle.ox_rules.specs.declared.rows.OutRow.{OutRow}
use Rattle.ox_rules.specs.Differences.{with_rows, without_rows}
use Rattle.ox_rules.specs.Outputs.{Outputs}
use Rattle.ox_outputs.specs.Differing.{numbered_from}
use Rattle.ox_outputs.specs.declared.slot_of.SlotOf.{SlotOf}

-- the rows from a place on are those from the next place on, behind the one that stands there
from_here : (list : List (OutPoint × OutRow)) (left k : ℕ) (e : OutPoint × OutRow) → k + 1 ≡ left → k < length list → e ≡ get_or list k e → drop k list ≡ e ∷ drop left list
from_here list left k e next low is =
    drop_more list k e low
    ∙ ap (λ (x : OutPoint × OutRow). x ∷ drop (k + 1) list) (sym is)
    ∙ ap (λ (n : ℕ). e ∷ drop n list) next

-- one more row is out
pub taken_more : (all now new : Outputs) (list : List (OutPoint × OutRow)) (left k : ℕ) (e : OutPoint × OutRow) (at : OutPoint) → k + 1 ≡ left → k < length list → e ≡ get_or list k e → at ≡ e.0
    → now ≡ without_rows all (drop left list) → new ≡ remove now at → new ≡ without_rows all (drop k list)
taken_more all now new list left k e at next low is same so_far more =
    more ∙ ap (remove now) same ∙ ap (λ (o : Outputs). remove o e.0) so_far
    ∙ sym (ap (without_rows all) (from_here list left k e next low is))

-- one more row is placed
pub placed_more : (all now new : Outputs) (list : List (OutPoint × OutRow)) (left k : ℕ) (e : OutPoint × OutRow) (row : OutRow) → k + 1 ≡ left → k < length list → e ≡ get_or list k e → row ≡ e.1
    → now ≡ with_rows all (drop left list) → new ≡ insert now e.0 row → new ≡ with_rows all (drop k list)
placed_more all now new list left k e row next low is same so_far more =
    more ∙ ap (insert now e.0) same ∙ ap (λ (o : Outputs). insert o e.0 e.1) so_far
    ∙ sym (ap (with_rows all) (from_here list left k e next low is))

-- one more change has its number
pub numbered_more : (d : SlotOf) (items new all : List (OutPoint × ℕ)) (spots : List SlotOf) (n place : ℕ) → n < length spots → place ≡ n → new ≡ items ++ ((get_or spots n d).at, place) ∷ []
    → items ++ numbered_from n (drop n spots) ≡ all → new ++ numbered_from (n + 1) (drop (n + 1) spots) ≡ all
numbered_more d items new all spots n place low is more so_far =
    let rest = numbered_from (n + 1) (drop (n + 1) spots) in
    ap (λ (l : List (OutPoint × ℕ)). l ++ rest) more
    ∙ append_assoc items (((get_or spots n d).at, place) ∷ []) rest
    ∙ ap (λ (k : ℕ). items ++ ((get_or spots n d).at, k) ∷ rest) is
    ∙ sym (ap (λ (l : List SlotOf). items ++ numbered_from n l) (drop_more spots n d low))
    ∙ so_far

-- all have theirs where none is left
pub numbered_all : (items all : List (OutPoint × ℕ)) (spots : List SlotOf) (n : ℕ) → length spots ≤ n → items ++ numbered_from n (drop n spots) ≡ all → items ≡ all
numbered_all items all spots n high so_far =
    sym (append-nil items)
    ∙ sym (ap (λ (l : List SlotOf). items ++ numbered_from n l) (drop_all n spots high))
    ∙ so_far

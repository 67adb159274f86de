use Rattle.std.proofs.Common.{◌∙◌, List, Option, Bor, ap, subst, sym}
use Rattle.std.proofs.lemmas.Map.Made.{lookup-map_values}
use Rattle.std.specs.BTreeMap.{is_at}
use Rattle.std.specs.List.Sorted.{IsStrictlySortedBy}
use Rattle.std.specs.Map.{keys_of, lookup}
use Rattle.std.specs.Option.{option_copied, option_map}
use Rattle.ox_marked.proofs.LogLemmas.{first_sorted, found_first, found_sorted}
use Rattle.ox_marked.proofs.marked.oldest.Goals as goal

pub returns-clause-values : goal.returns-clause-values
returns-clause-values g c = λ q.
    let o = g.met.K.Ord.total in
    let shown = c.in_ok-changes.changes.items in
    let sorted = c.sort.new.changes.items in
    ap (option_map option_copied)
    (ap (lookup (is_at (g.K.Ord.cmp q))) c.keep_first.ensures ∙ found_first o q sorted ∙ found_sorted o shown sorted c.in_ok-sort.ensures.stable q)
    ∙ sym (lookup-map_values option_copied (is_at (g.K.Ord.cmp q)) shown)
    ∙ ap (lookup (is_at (g.K.Ord.cmp q))) c.in_ok-changes.ensures

pub returns-clause-ordered : goal.returns-clause-ordered
returns-clause-ordered g c =
    subst (λ (l : List (g.row.K.Denot × Option (Bor g.row.V.Denot))). IsStrictlySortedBy g.K.Ord.cmp (keys_of l)) (sym c.keep_first.ensures)
    (first_sorted g.met.K.Ord.total c.sort.new.changes.items c.in_ok-sort.ensures.sorted)

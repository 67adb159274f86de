-- The outputs with a script, one by one.
use Rattle.std.proofs.Common.{◌≡◌, ◌∙◌, ℕ, Bool, true, false, cond, T, List, [], ◌∷◌, map, refl, ap₂, Option, Some, Ordering}
use Rattle.std.specs.Prelude.{◌&&◌}
use Rattle.std.specs.FinMap.{entries, entries_sorted, find, get, get-entries, is_sorted, values}
use Rattle.std.specs.FinMap.Entries.{below_all}
use Rattle.std.specs.List.{AllByRecursion, cons_option, filter, filter_map}
use Rattle.std.specs.List.Sorted.{IsStrictlySortedBy}
use Rattle.std.specs.Ordering.{is_lt}
use Rattle.std.specs.declared.cmp.Ordering.TheVariants.{Less, Equal, Greater}
use Rattle.ox_block.specs.declared.block.OutPoint.{OutPoint}
use Rattle.ox_rules.specs.Outputs.{Outputs, outpoint_cmp}
use Rattle.ox_rules.specs.declared.rows.OutRow.{OutRow}
use Rattle.ox_holders.specs.Outputs.{is_locked_by, outputs_with}
use Rattle.ox_replies.proofs.Agree.{found_behind, found_front}
use Rattle.ox_held.specs.Held.{rows_at}

abbrev Row : Type 0
Row = OutPoint × OutRow

first : (a b : Bool) → T (a && b) → T a
first true b p = tt
first false b p = absurd p

second : (a b : Bool) → T (a && b) → T b
second true b p = p
second false b p = absurd p

less : (r : Ordering) → T (is_lt r) → r ≡ Less
less Less p = refl
less Equal p = absurd p
less Greater p = absurd p

-- the outpoints of the rows that pass a test
abbrev places_of : (Row → Bool) → List Row → List OutPoint
places_of passes es = map (λ e. e.0) (filter passes es)

all_above : (passes : Row → Bool) (at : OutPoint) (es : List Row) → T (below_all outpoint_cmp at es) → AllByRecursion (λ q. outpoint_cmp at q ≡ Less) (places_of passes es)
all_above passes at [] below = tt
all_above passes at (e ∷ es) below = by (passes e) (less (outpoint_cmp at e.0) (first _ _ below)) (all_above passes at es (second _ _ below)) where
  by : (b : Bool) → outpoint_cmp at e.0 ≡ Less → AllByRecursion (λ q. outpoint_cmp at q ≡ Less) (places_of passes es)
      → AllByRecursion (λ q. outpoint_cmp at q ≡ Less) (map (λ x. x.0) (cond b (e ∷ filter passes es) (filter passes es)))
  by true here rest = (here, rest)
  by false here rest = rest

places_rise : (passes : Row → Bool) (es : List Row) → T (is_sorted outpoint_cmp es) → IsStrictlySortedBy outpoint_cmp (places_of passes es)
unfolding IsStrictlySortedBy
places_rise passes [] sorted = tt
places_rise passes (e ∷ es) sorted = by (passes e) (all_above passes e.0 es (first _ _ sorted)) (places_rise passes es (second _ _ sorted)) where
  by : (b : Bool) → AllByRecursion (λ q. outpoint_cmp e.0 q ≡ Less) (places_of passes es) → IsStrictlySortedBy outpoint_cmp (places_of passes es)
      → IsStrictlySortedBy outpoint_cmp (map (λ x. x.0) (cond b (e ∷ filter passes es) (filter passes es)))
  by true above rest = (above, rest)
  by false above rest = rest

pub outputs_rise : (script : List ℕ) (outs : Outputs) → IsStrictlySortedBy outpoint_cmp (outputs_with script outs)
unfolding outputs_with
outputs_rise script outs = places_rise (λ e. is_locked_by script e.1) (entries outs) (entries_sorted outs)

-- ---- their rows

abbrev AreFound : (OutPoint → Option OutRow) → List Row → Type 0
AreFound look es = AllByRecursion (λ e. look e.0 ≡ Some e.1) es

behind_too : (e : Row) (es more : List Row) → T (is_sorted outpoint_cmp (e ∷ es)) → AreFound (λ at. find outpoint_cmp at es) more → AreFound (λ at. find outpoint_cmp at (e ∷ es)) more
behind_too e es [] sorted found = tt
behind_too e es (x ∷ more) sorted found = (found_behind e es x.0 x.1 sorted found.0, behind_too e es more sorted found.1)

each_found : (es : List Row) → T (is_sorted outpoint_cmp es) → AreFound (λ at. find outpoint_cmp at es) es
each_found [] sorted = tt
each_found (e ∷ es) sorted = (found_front e es, behind_too e es es sorted (each_found es (second _ _ sorted)))

rows_found : (look : OutPoint → Option OutRow) (locked : OutRow → Bool) (es : List Row) → AreFound look es
    → filter_map look (places_of (λ e. locked e.1) es) ≡ filter locked (map (λ e. e.1) es)
rows_found look locked [] found = refl
rows_found look locked (e ∷ es) found = by (locked e.1) (rows_found look locked es found.1) where
  by : (b : Bool) → filter_map look (places_of (λ e. locked e.1) es) ≡ filter locked (map (λ e. e.1) es)
      → filter_map look (map (λ x. x.0) (cond b (e ∷ filter (λ e. locked e.1) es) (filter (λ e. locked e.1) es)))
      ≡ cond b (e.1 ∷ filter locked (map (λ e. e.1) es)) (filter locked (map (λ e. e.1) es))
  by true rest = ap₂ (λ (row : Option OutRow) (rows : List OutRow). cons_option row rows) found.0 rest
  by false rest = rest

got : (outs : Outputs) (es : List Row) → AreFound (λ at. find outpoint_cmp at (entries outs)) es → AreFound (get outs) es
got outs [] found = tt
got outs (e ∷ es) found = (get-entries outs e.0 ∙ found.0, got outs es found.1)

pub outputs_found : (script : List ℕ) (outs : Outputs) → rows_at outs (outputs_with script outs) ≡ filter (is_locked_by script) (values outs)
unfolding outputs_with
outputs_found script outs =
    rows_found (get outs) (is_locked_by script) (entries outs) (got outs (entries outs) (each_found (entries outs) (entries_sorted outs)))

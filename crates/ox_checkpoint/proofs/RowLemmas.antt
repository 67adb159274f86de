-- Rows by rising keys: what holds wherever something is found holds of each of them.
use Rattle.std.proofs.Common.{◌≡◌, ◌∙◌, Bool, true, false, cond, List, [], ◌∷◌, refl, sym, ap, Some, None, Ordering, T}
use Rattle.std.specs.Prelude.{All, IsTrue}
use Rattle.std.specs.FinMap.{FinMap, entries, entries_sorted, find, get, get-entries, is_sorted}
use Rattle.std.specs.FinMap.Entries.{below_all}
use Rattle.std.specs.List.{AllByRecursion}
use Rattle.std.specs.Ordering.{is_eq, is_lt}
use Rattle.std.specs.declared.cmp.Ordering.TheVariants.{Less, Equal, Greater}
use Rattle.std.specs.Cmp.{tied_itself}
use Rattle.std.proofs.lemmas.Bool.{and_parts, false≢true}
use Rattle.std.proofs.lemmas.List.Elements.{All-from_recursion}
use Rattle.ox_block.specs.declared.block.OutPoint.{OutPoint}
use Rattle.ox_rules.specs.Outputs.{outpoint_cmp}
use Rattle.ox_rules.proofs.Orders.{outpoints_exact, outpoints_total}

tie_from : (r : Ordering) → is_eq r ≡ true → r ≡ Equal
tie_from Less is = absurd (false≢true is)
tie_from Equal is = refl
tie_from Greater is = absurd (false≢true is)

no_tie : (r : Ordering) → is_lt r ≡ true → is_eq r ≡ false
no_tie Less is = refl
no_tie Equal is = absurd (false≢true is)
no_tie Greater is = absurd (false≢true is)

truth : (b : Bool) → T b → b ≡ true
truth true t = refl
truth false t = absurd t

module _ {X : Type 0} where
  none_above : (k : OutPoint) (rows : List (OutPoint × X)) → below_all outpoint_cmp k rows ≡ true → find outpoint_cmp k rows ≡ None
  none_above k [] above = refl
  none_above k (row ∷ rows) above =
      let parts = and_parts (is_lt (outpoint_cmp k row.0)) (below_all outpoint_cmp k rows) above in
      ap (λ (b : Bool). cond b (Some row.1) (find outpoint_cmp k rows)) (no_tie (outpoint_cmp k row.0) parts.0) ∙ none_above k rows parts.1

  -- what is found among later rows is found among all
  found_later : (row : OutPoint × X) (rows : List (OutPoint × X)) → below_all outpoint_cmp row.0 rows ≡ true → (at : OutPoint) (x : X)
      → find outpoint_cmp at rows ≡ Some x → find outpoint_cmp at (row ∷ rows) ≡ Some x
  found_later row rows above at x found = by_test (is_eq (outpoint_cmp at row.0)) refl where
    by_test : (b : Bool) → is_eq (outpoint_cmp at row.0) ≡ b → find outpoint_cmp at (row ∷ rows) ≡ Some x
    by_test true is =
        let same : at ≡ row.0 = outpoints_exact at row.0 (tie_from (outpoint_cmp at row.0) is) in
        let none : None ≡ Some x = sym (none_above row.0 rows above) ∙ ap (λ (k : OutPoint). find outpoint_cmp k rows) (sym same) ∙ found in
        absurd (cc none)
    by_test false is = ap (λ (b : Bool). cond b (Some row.1) (find outpoint_cmp at rows)) is ∙ found

  each_row : (P : OutPoint × X → Type 0) (rows : List (OutPoint × X)) → is_sorted outpoint_cmp rows ≡ true
      → ((at : OutPoint) (x : X) → find outpoint_cmp at rows ≡ Some x → P (at, x)) → AllByRecursion P rows
  each_row P [] rising holds = tt
  each_row P (row ∷ rows) rising holds =
      let parts = and_parts (below_all outpoint_cmp row.0 rows) (is_sorted outpoint_cmp rows) rising in (
        holds row.0 row.1 (ap (λ (b : Bool). cond b (Some row.1) (find outpoint_cmp row.0 rows)) (ap is_eq (tied_itself outpoints_total row.0))),
        each_row P rows parts.1 (λ at x found. holds at x (found_later row rows parts.0 at x found)),
      )

  pub all_rows : (P : OutPoint × X → Type 0) (rows : List (OutPoint × X)) → IsTrue (is_sorted outpoint_cmp rows)
      → ((at : OutPoint) (x : X) → find outpoint_cmp at rows ≡ Some x → P (at, x)) → All P rows
  all_rows P rows rising holds = All-from_recursion P rows (each_row P rows rising holds)

  pub entries_rise : (m : FinMap outpoint_cmp X) → IsTrue (is_sorted outpoint_cmp (entries m))
  entries_rise m = truth (is_sorted outpoint_cmp (entries m)) (entries_sorted m)

  pub all_entries : (P : OutPoint × X → Type 0) (m : FinMap outpoint_cmp X) → ((at : OutPoint) (x : X) → get m at ≡ Some x → P (at, x)) → All P (entries m)
  all_entries P m holds = all_rows P (entries m) (entries_rise m) (λ at x found. holds at x (get-entries m at ∙ found))

-- Rows with a script, by the look-ups of their tables.
use Rattle.std.proofs.Common.{◌≡◌, ◌∙◌, ℕ, Bool, true, false, List, [], ◌∷◌, refl, sym, ap, subst, inl, inr, Ordering, T}
use Rattle.std.specs.Prelude.{Option, Some, None, unwrap_or}
use Rattle.std.specs.Option.{option_map_or}
use Rattle.std.specs.Cmp.Lexicographic.{bytes_decides}
use Rattle.std.specs.Ordering.{is_eq, is_lt, eq_by_cmp}
use Rattle.std.specs.declared.cmp.Ordering.TheVariants.{Less, Equal, Greater}
use Rattle.std.specs.FinMap.{find, is_sorted, get, empty, entries, entries_sorted, get-entries, get-empty}
use Rattle.std.specs.FinMap.Entries.{below_all}
use Rattle.std.proofs.lemmas.Bool.{and_parts, or_cases, or_left, or_right, cases_Bool, cond-true, cond-false}
use Rattle.ox_block.specs.declared.block.OutPoint.{OutPoint}
use Rattle.ox_rules.specs.declared.rows.OutRow.{OutRow}
use Rattle.ox_rules.specs.Outputs.{Outputs, outpoint_cmp}
use Rattle.ox_holders.specs.Keys.{is_in, is_row}
use Rattle.ox_holders.specs.Outputs.{has_output, is_locked_by}
use Rattle.ox_holders.proofs.Ties.{keys_tie, key_ties, outpoint_ties, outpoints_exact, is_tied}

abbrev pub Found : List (OutPoint × OutRow) → List ℕ → OutPoint → Type 0
Found rows script at = (row : OutRow) × (find outpoint_cmp at rows ≡ Some row) × (row.script ≡ script)

abbrev pub Has : Outputs → List ℕ → OutPoint → Type 0
Has outs script at = (row : OutRow) × (get outs at ≡ Some row) × (row.script ≡ script)

locked-parts : (script : List ℕ) (found : Option OutRow) → option_map_or (is_locked_by script) found false ≡ true
    → (row : OutRow) × (found ≡ Some row) × (row.script ≡ script)
locked-parts script None is = absurd (cc is)
locked-parts script (Some row) is = (row, refl, (bytes_decides row.script script).0 is)

pub has-parts : (outs : Outputs) (script : List ℕ) (at : OutPoint) → has_output outs script at ≡ true → Has outs script at
unfolding has_output
has-parts outs script at is = locked-parts script (get outs at) is

pub has-from : (outs : Outputs) (script : List ℕ) (at : OutPoint) (row : OutRow) → get outs at ≡ Some row → row.script ≡ script
    → has_output outs script at ≡ true
unfolding has_output
has-from outs script at row is same =
    ap (λ found. option_map_or (is_locked_by script) found false) is ∙ (bytes_decides row.script script).1 same

less : (r : Ordering) → is_lt r ≡ true → is_eq r ≡ false
less Less is = refl
less Equal is = absurd (cc is)
less Greater is = refl

none-below : (at : OutPoint) (es : List (OutPoint × OutRow)) → below_all outpoint_cmp at es ≡ true → find outpoint_cmp at es ≡ None
none-below at [] below = refl
none-below at (e ∷ es) below =
    let both = and_parts (is_lt (outpoint_cmp at e.0)) (below_all outpoint_cmp at es) below in
    cond-false (eq_by_cmp outpoint_cmp at e.0) (Some e.1) (find outpoint_cmp at es) (less (outpoint_cmp at e.0) both.0)
    ∙ none-below at es both.1

-- what stands among rows that rise is found
pub in-found : (rows : List (OutPoint × OutRow)) (script : List ℕ) (at : OutPoint) → is_sorted outpoint_cmp rows ≡ true
    → is_in rows script at ≡ true → Found rows script at
unfolding is_in
in-found [] script at sorted is = absurd (cc is)
in-found (e ∷ es) script at sorted is =
    let order = and_parts (below_all outpoint_cmp e.0 es) (is_sorted outpoint_cmp es) sorted in
    elim (or_cases (is_row e.0 e.1 script at) (is_in es script at) is) [
      | inl here ↦
          let both = keys_tie e.1.script script e.0 at here in
          (e.1, cond-true (eq_by_cmp outpoint_cmp at e.0) (Some e.1) (find outpoint_cmp at es) (outpoint_ties at e.0 (sym both.1)), both.0)
      | inr there ↦
          let rest = in-found es script at order.1 there in
          elim (cases_Bool (eq_by_cmp outpoint_cmp at e.0)) [
            | inl same ↦
                let k : at ≡ e.0 = outpoints_exact at e.0 (is_tied (outpoint_cmp at e.0) same) in
                let P : OutPoint → Type 0 = λ x. below_all outpoint_cmp x es ≡ true in
                let none : find outpoint_cmp at es ≡ None = none-below at es (subst P (sym k) order.0) in
                absurd (let no : ⊥ = cc (none, rest.1) in no)
            | inr other ↦
                (rest.0, cond-false (eq_by_cmp outpoint_cmp at e.0) (Some e.1) (find outpoint_cmp at es) other ∙ rest.1, rest.2)
          ]
    ]

-- and what is found stands among them
pub found-in : (rows : List (OutPoint × OutRow)) (script : List ℕ) (at : OutPoint) (row : OutRow)
    → find outpoint_cmp at rows ≡ Some row → row.script ≡ script → is_in rows script at ≡ true
unfolding is_in
found-in [] script at row found same = absurd (let no : ⊥ = cc found in no)
found-in (e ∷ es) script at row found same =
    elim (cases_Bool (eq_by_cmp outpoint_cmp at e.0)) [
      | inl here ↦
          let k : at ≡ e.0 = outpoints_exact at e.0 (is_tied (outpoint_cmp at e.0) here) in
          let r : Some e.1 ≡ Some row = sym (cond-true (eq_by_cmp outpoint_cmp at e.0) (Some e.1) (find outpoint_cmp at es) here) ∙ found in
          let s : e.1.script ≡ script = ap (λ o. (unwrap_or o e.1).script) r ∙ same in
          let P : OutPoint → Type 0 = λ x. is_row x e.1 script at ≡ true in
          let Q : List ℕ → Type 0 = λ xs. is_row at e.1 xs at ≡ true in
          or_left (is_row e.0 e.1 script at) (is_in es script at) (subst P k (subst Q s (key_ties e.1.script at)))
      | inr other ↦
          or_right (is_row e.0 e.1 script at) (is_in es script at)
          (found-in es script at row (sym (cond-false (eq_by_cmp outpoint_cmp at e.0) (Some e.1) (find outpoint_cmp at es) other) ∙ found) same)
    ]

pub same_tests : (x y : Bool) → (x ≡ true → y ≡ true) → (y ≡ true → x ≡ true) → x ≡ y
same_tests true y f g = sym (f refl)
same_tests false true f g = g refl
same_tests false false f g = refl

pub sorted-test : (b : Bool) → T b → b ≡ true
sorted-test true is = refl
sorted-test false is = absurd is

-- the rows of a table, by rising outpoint
pub in-table : (outs : Outputs) (script : List ℕ) (at : OutPoint) → is_in (entries outs) script at ≡ has_output outs script at
in-table outs script at =
    same_tests (is_in (entries outs) script at) (has_output outs script at)
    (λ is. let found = in-found (entries outs) script at (sorted-test (is_sorted outpoint_cmp (entries outs)) (entries_sorted outs)) is in
    has-from outs script at found.0 (get-entries outs at ∙ found.1) found.2)
    (λ is. let has = has-parts outs script at is in
    found-in (entries outs) script at has.0 (sym (get-entries outs at) ∙ has.1) has.2)

pub empty-has : (script : List ℕ) (at : OutPoint) → has_output empty script at ≡ false
unfolding has_output
empty-has script at = ap (λ found. option_map_or (is_locked_by script) found false) (get-empty outpoint_cmp at)

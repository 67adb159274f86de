-- What unspent outputs hold of runes, output by output, is all that there is of balances.
use Rattle.std.proofs.Common.{◌≡◌, ◌≢◌, ◌∙◌, ℕ, ◌+◌, ◌≤◌, Bool, true, false, cond, T, List, [], ◌∷◌, ◌++◌, length, take, refl, sym, ap, subst, arith, Option, Some, None}
use Rattle.std.specs.Prelude.{All, ◌==◌, IsSome, is_some, slice_get, unwrap_or, if◌then◌else◌}
use Rattle.std.specs.FinMap.{entries, entries_sorted, find, get, get-entries, is_sorted}
use Rattle.std.specs.FinMap.Entries.{below_all, same_entries}
use Rattle.std.specs.List.{flat_map}
use Rattle.std.specs.Ordering.{eq_by_cmp, is_lt}
use Rattle.std.proofs.lemmas.Bool.{and_from, and_parts, ne_eqb}
use Rattle.std.proofs.lemmas.List.{append-nil, length-append}
use Rattle.std.proofs.lemmas.List.Concat.{flat_map-append}
use Rattle.std.proofs.lemmas.List.Elements.{All-append, All-head, All-nil, All-tail}
use Rattle.ox_block.specs.Spelling.{outpoint}
use Rattle.ox_block.specs.declared.block.OutPoint.{OutPoint}
use Rattle.ox_sat.specs.declared.profiles.Profile.{Profile}
use Rattle.ox_rules.specs.declared.rows.OutRow.{OutRow}
use Rattle.ox_rules.specs.Outputs.{Outputs, outpoint_cmp}
use Rattle.ox_rules.proofs.Orders.{outpoints_exact, outpoints_total}
use Rattle.ox_allocation.specs.Balances.{Balance}
use Rattle.ox_ledger.specs.Runes.{BalanceMap, Placement, balances_at}
use Rattle.ox_model.specs.Index.{Index}
use Rattle.ox_model.specs.Sound.{IsSound}
use Rattle.ox_rows.specs.RowFits.{AreHeld, FitsPlacement}
use Rattle.ox_rows.specs.RowSpelling.{balance, placement}
use Rattle.ox_rows.specs.Spelling.{list}
use Rattle.ox_index.proofs.Emptying.{same_key}
use Rattle.ox_checkpoint.specs.Held.{held_at, held_by, placed_at}
use Rattle.ox_checkpoint.proofs.KeepLemmas.{held_there}
use Rattle.ox_checkpoint.proofs.PutLemmas.{take_next}
use Rattle.ox_checkpoint.proofs.RowLemmas.{entries_rise}

-- ---- in their order

below_placed : (k at : OutPoint) (held : List Balance) (rest : List Placement) → is_lt (outpoint_cmp k at) ≡ true → below_all outpoint_cmp k rest ≡ true
    → below_all outpoint_cmp k (placed_at at held ++ rest) ≡ true
below_placed k at [] rest less below = below
below_placed k at (one ∷ more) rest less below = and_from (is_lt (outpoint_cmp k at)) (below_all outpoint_cmp k rest) less below

below_held : (k : OutPoint) (bal : BalanceMap) (rows : List (OutPoint × OutRow)) → below_all outpoint_cmp k rows ≡ true → below_all outpoint_cmp k (held_by bal rows) ≡ true
below_held k bal [] below = refl
below_held k bal (row ∷ rows) below =
    let parts = and_parts (is_lt (outpoint_cmp k row.0)) (below_all outpoint_cmp k rows) below in
    below_placed k row.0 (balances_at bal row.0) (held_by bal rows) parts.0 (below_held k bal rows parts.1)

placed_rise : (at : OutPoint) (held : List Balance) (rest : List Placement) → below_all outpoint_cmp at rest ≡ true → is_sorted outpoint_cmp rest ≡ true
    → is_sorted outpoint_cmp (placed_at at held ++ rest) ≡ true
placed_rise at [] rest below rises = rises
placed_rise at (one ∷ more) rest below rises = and_from (below_all outpoint_cmp at rest) (is_sorted outpoint_cmp rest) below rises

held_rise : (bal : BalanceMap) (rows : List (OutPoint × OutRow)) → is_sorted outpoint_cmp rows ≡ true → is_sorted outpoint_cmp (held_by bal rows) ≡ true
held_rise bal [] rises = refl
held_rise bal (row ∷ rows) rises =
    let parts = and_parts (below_all outpoint_cmp row.0 rows) (is_sorted outpoint_cmp rows) rises in
    placed_rise row.0 (balances_at bal row.0) (held_by bal rows) (below_held row.0 bal rows parts.0) (held_rise bal rows parts.1)

-- ---- each is found

none_either : (b : Bool) → cond {A = Option (List Balance)} b None None ≡ None
none_either true = refl
none_either false = refl

elsewhere : (q at : OutPoint) (held : List Balance) (rest : List Placement) → eq_by_cmp outpoint_cmp q at ≡ false → find outpoint_cmp q (placed_at at held ++ rest) ≡ find outpoint_cmp q rest
elsewhere q at [] rest other = refl
elsewhere q at (one ∷ more) rest other = ap (λ (b : Bool). cond b (Some (one ∷ more)) (find outpoint_cmp q rest)) other

here : (q at : OutPoint) (o : Option (List Balance)) (rest : List Placement) (b : Bool) → eq_by_cmp outpoint_cmp q at ≡ true → ((held : List Balance) → o ≡ Some held → held ≢ [])
    → find outpoint_cmp q rest ≡ cond b o None → find outpoint_cmp q (placed_at at (unwrap_or o []) ++ rest) ≡ o
here q at None rest b same some was = was ∙ none_either b
here q at (Some []) rest b same some was = absurd (some [] refl refl)
here q at (Some (one ∷ more)) rest b same some was = ap (λ (t : Bool). cond t (Some (one ∷ more)) (find outpoint_cmp q rest)) same

module _ (bal : BalanceMap) (some : (at : OutPoint) (held : List Balance) → get bal at ≡ Some held → held ≢ []) where
  found : (q : OutPoint) (rows : List (OutPoint × OutRow)) → find outpoint_cmp q (held_by bal rows) ≡ cond (is_some (find outpoint_cmp q rows)) (get bal q) None
  found q [] = refl
  found q (row ∷ rows) = by_test (eq_by_cmp outpoint_cmp q row.0) refl (found q rows) where
    test : (b : Bool) → eq_by_cmp outpoint_cmp q row.0 ≡ b
        → cond (is_some (cond b (Some row.1) (find outpoint_cmp q rows))) (get bal q) None ≡ cond (is_some (find outpoint_cmp q (row ∷ rows))) (get bal q) None
    test b is = sym (ap (λ (t : Bool). cond (is_some (cond t (Some row.1) (find outpoint_cmp q rows))) (get bal q) None) is)

    by_test : (b : Bool) → eq_by_cmp outpoint_cmp q row.0 ≡ b → find outpoint_cmp q (held_by bal rows) ≡ cond (is_some (find outpoint_cmp q rows)) (get bal q) None
        → find outpoint_cmp q (held_by bal (row ∷ rows)) ≡ cond (is_some (find outpoint_cmp q (row ∷ rows))) (get bal q) None
    by_test true same rest =
        let key : row.0 ≡ q = sym (same_key q row.0 same) in
        ap (λ (k : OutPoint). find outpoint_cmp q (placed_at row.0 (balances_at bal k) ++ held_by bal rows)) key
        ∙ here q row.0 (get bal q) (held_by bal rows) (is_some (find outpoint_cmp q rows)) same (some q) rest
        ∙ test true same
    by_test false other rest = elsewhere q row.0 (balances_at bal row.0) (held_by bal rows) other ∙ rest ∙ test false other

  all_held : (outs : Outputs) → ((at : OutPoint) (held : List Balance) → get bal at ≡ Some held → IsSome (get outs at)) → held_by bal (entries outs) ≡ entries bal
  all_held outs placed =
      same_entries outpoint_cmp outpoints_total outpoints_exact (held_by bal (entries outs)) (entries bal)
      (subst T (sym (held_rise bal (entries outs) (entries_rise outs))) tt) (entries_sorted bal) (λ q.
      found q (entries outs)
      ∙ ap (λ (o : Option OutRow). cond (is_some o) (get bal q) None) (sym (get-entries outs q))
      ∙ whole q (get bal q) refl
      ∙ get-entries bal q) where
        whole : (q : OutPoint) (o : Option (List Balance)) → get bal q ≡ o → cond (is_some (get outs q)) o None ≡ o
        whole q None is = none_either (is_some (get outs q))
        whole q (Some held) is = ap (λ (b : Bool). cond b (Some held) None) (placed q held is)

-- ---- of a sound index

-- what its unspent outputs hold
pub held_is : (p : Profile) (index : Index) (order : List (OutPoint × OutRow)) → IsSound p index → order ≡ entries index.outs → held_by index.bal order ≡ entries index.bal
held_is p index order sound are =
    ap (held_by index.bal) are ∙ all_held index.bal (λ at held there. (sound.runes.balanced.held at held there).0) index.outs sound.runes.placed

pub held_count : (p : Profile) (index : Index) (order : List (OutPoint × OutRow)) (count : ℕ) → IsSound p index → order ≡ entries index.outs → count ≡ length (held_by index.bal order)
    → count ≡ length (entries index.bal)
held_count p index order count sound are counted = counted ∙ ap (λ (rows : List Placement). length rows) (held_is p index order sound are)

pub held_keeps : (p : Profile) (index : Index) → IsSound p index → (at : OutPoint) → balances_at index.bal at ≢ [] → AreHeld (balances_at index.bal at)
held_keeps p index sound at = by_held (get index.bal at) refl where
  by_held : (o : Option (List Balance)) → get index.bal at ≡ o → unwrap_or o [] ≢ [] → AreHeld (unwrap_or o [])
  by_held None is some = absurd (some refl)
  by_held (Some held) is some = held_there p index sound at held is

-- ---- put

pub placed_rows : (at : OutPoint) (held : List Balance) → (length held == 0) ≡ false → flat_map placement (placed_at at held) ≡ outpoint at ++ list balance held
placed_rows at [] some = absurd (cc some)
placed_rows at (one ∷ more) some = append-nil (outpoint at ++ list balance (one ∷ more))

-- ---- gone through by places

held_next : (bal : BalanceMap) (order : List (OutPoint × OutRow)) (n : ℕ) (placed : OutPoint × OutRow) → slice_get order n ≡ Some placed
    → held_by bal (take (n + 1) order) ≡ held_by bal (take n order) ++ held_at bal placed
held_next bal order n placed there =
    ap (held_by bal) (take_next order n placed there)
    ∙ flat_map-append (held_at bal) (take n order) (placed ∷ [])
    ∙ ap (λ (l : List Placement). held_by bal (take n order) ++ l) (append-nil (held_at bal placed))

-- the rows of what each output holds are those of what all hold
pub held_rows : (bal : BalanceMap) (order : List (OutPoint × OutRow)) → flat_map (λ (placed : OutPoint × OutRow). flat_map placement (held_at bal placed)) order ≡ flat_map placement (held_by bal order)
held_rows bal [] = refl
held_rows bal (placed ∷ order) =
    ap (λ (l : List ℕ). flat_map placement (held_at bal placed) ++ l) (held_rows bal order)
    ∙ sym (flat_map-append placement (held_at bal placed) (held_by bal order))

pub held_fit : (bal : BalanceMap) (order : List (OutPoint × OutRow)) → All (λ (placed : OutPoint × OutRow). All FitsPlacement (held_at bal placed)) order → All FitsPlacement (held_by bal order)
held_fit bal [] fit = All-nil FitsPlacement
held_fit bal (placed ∷ order) fit =
    All-append FitsPlacement (held_at bal placed) (held_by bal order) (All-head (λ (one : OutPoint × OutRow). All FitsPlacement (held_at bal one)) placed order fit)
    (held_fit bal order (All-tail (λ (one : OutPoint × OutRow). All FitsPlacement (held_at bal one)) placed order fit))

-- so many of the outputs before a place hold runes
pub record HoldSome (bal : BalanceMap) (order : List (OutPoint × OutRow)) (n count : ℕ) : Type 0 where
  pub counted : count ≡ length (held_by bal (take n order))
  pub few : count ≤ n

pub none_hold : (bal : BalanceMap) (order : List (OutPoint × OutRow)) → HoldSome bal order 0 0
none_hold bal order = record { counted = refl; few = omega arith }

placed_count : (at : OutPoint) (held : List Balance) → length (placed_at at held) ≡ (if length held == 0 then 0 else 1)
placed_count at [] = refl
placed_count at (one ∷ more) = sym (ap (λ (b : Bool). cond b 0 1) (ne_eqb (length (one ∷ more)) 0 (λ e. omega arith)))

at_most : (held : List Balance) → (if length held == 0 then 0 else 1) ≤ 1
at_most held = by_test (length held == 0) where
  by_test : (b : Bool) → cond b 0 1 ≤ 1
  by_test true = omega arith
  by_test false = omega arith

pub one_holds : (bal : BalanceMap) (order : List (OutPoint × OutRow)) (n count one : ℕ) (at : OutPoint) (row : OutRow) → HoldSome bal order n count → slice_get order n ≡ Some (at, row)
    → one ≡ (if length (balances_at bal at) == 0 then 0 else 1) → HoldSome bal order (n + 1) (count + one)
one_holds bal order n count one at row so_far there is =
    let held = balances_at bal at in
    let long : length (held_by bal (take (n + 1) order)) ≡ length (held_by bal (take n order)) + length (placed_at at held) =
    ap length (held_next bal order n (at, row) there) ∙ length-append (held_by bal (take n order)) (placed_at at held) in
    let here : length (placed_at at held) ≡ (if length held == 0 then 0 else 1) = placed_count at held in
    let most : (if length held == 0 then 0 else 1) ≤ 1 = at_most held in
    let before : count ≡ length (held_by bal (take n order)) = so_far.counted in
    let few : count ≤ n = so_far.few in record {
      counted = omega (arith, long, here, before, is);
      few = omega (arith, few, most, is);
    }

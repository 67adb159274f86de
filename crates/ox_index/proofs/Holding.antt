-- What outputs hold of runes, looked up output by output.
use Rattle.std.proofs.Common.{◌≡◌, ◌∙◌, ◌≢◌, ℕ, ◌+◌, ◌<◌, ◌≤◌, Bool, true, false, cond, T, List, [], ◌∷◌, ◌++◌, length, take, refl, sym, ap, arith, Option, Some, None}
use Rattle.std.specs.Prelude.{◌==◌, ◌||◌, IsSome, is_some, slice_get, unwrap_or}
use Rattle.std.specs.Map.{lookup}
use Rattle.std.specs.BTreeMap.{is_at}
use Rattle.std.specs.Ordering.{eq_by_cmp}
use Rattle.std.specs.Cmp.{eq_by_cmp_equiv}
use Rattle.std.specs.FinMap.{entries, entries_sorted, find, from_entries, get, get-empty, get-entries, get-from_entries, get-insert, insert, is_sorted, same_map}
use Rattle.std.proofs.lemmas.List.{take_all, take_more}
use Rattle.std.proofs.lemmas.Option.{get_or_from_slice_get, slice_get-get_or, slice_get_within}
use Rattle.ox_block.specs.declared.block.OutPoint.{OutPoint}
use Rattle.ox_rules.specs.Outputs.{Outputs, outpoint_cmp}
use Rattle.ox_rules.specs.declared.rows.OutRow.{OutRow}
use Rattle.ox_rules.proofs.Orders.{outpoints_exact, outpoints_total}
use Rattle.ox_allocation.specs.Balances.{AreBalances, Balance}
use Rattle.ox_allocation.specs.Dealing.{IsPool}
use Rattle.ox_allocation.proofs.BalanceLemmas.{no_balances}
use Rattle.ox_ledger.specs.Runes.{BalanceMap, Placement, Runes, balances_at}
use Rattle.ox_ledger.proofs.Held.{held-remove}
use Rattle.ox_ledger.proofs.StepLemmas.{amounts_fit}
use Rattle.ox_ledger.specs.Balanced.{Balanced}
use Rattle.ox_model.specs.Index.{Index}
use Rattle.ox_index.specs.Tables.{with_some}
use Rattle.ox_index.proofs.Emptying.{same_key}
use Rattle.ox_index.proofs.Filling.{looked_up, some_found}

-- a map is that of its entries, which rise
pub from_its_entries : (outs : Outputs) → from_entries (entries outs) ≡ outs
from_its_entries outs = same_map outpoints_total outpoints_exact (from_entries (entries outs)) outs (λ q. get-from_entries outpoints_total (entries outs) q ∙ sym (get-entries outs q))

true_of : (b : Bool) → T b → b ≡ true
true_of true is = refl
true_of false is = absurd is

pub entries_rise : (order : List (OutPoint × OutRow)) (outs : Outputs) → order ≡ entries outs → is_sorted outpoint_cmp order ≡ true
entries_rise order outs are = ap (is_sorted outpoint_cmp) are ∙ true_of (is_sorted outpoint_cmp (entries outs)) (entries_sorted outs)

-- where unspent outputs alone hold runes
pub placed_found : (index : Index) → ((at : OutPoint) (held : List Balance) → get index.bal at ≡ Some held → IsSome (get index.outs at))
    → (at : OutPoint) → IsSome (get index.bal at) → IsSome (get index.outs at)
placed_found index placed at some = by_held (get index.bal at) refl some where
  by_held : (o : Option (List Balance)) → get index.bal at ≡ o → IsSome o → IsSome (get index.outs at)
  by_held None is some = absurd (cc some)
  by_held (Some held) is some = placed at held is

-- an unspent output is found in order
pub ordered : (outs : Outputs) (order : List (OutPoint × OutRow)) → order ≡ entries outs → (at : OutPoint) → IsSome (get outs at) → IsSome (find outpoint_cmp at order)
ordered outs order are at there =
    ap (λ (es : List (OutPoint × OutRow)). is_some (find outpoint_cmp at es)) are ∙ ap (λ (o : Option OutRow). is_some o) (sym (get-entries outs at)) ∙ there

-- an entry is put into a table
pub inserted : (old new : List Placement) (at : OutPoint) (held : List Balance)
    → ((q : OutPoint) → lookup (is_at (outpoint_cmp q)) new ≡ cond (is_at (outpoint_cmp at) q) (Some held) (lookup (is_at (outpoint_cmp q)) old))
    → from_entries {R = outpoint_cmp} new ≡ insert (from_entries old) at held
inserted old new at held updates = same_map outpoints_total outpoints_exact (from_entries new) (insert (from_entries old) at held) (λ q.
    get-from_entries outpoints_total new q
    ∙ sym (looked_up outpoint_cmp q new)
    ∙ updates q
    ∙ ap (λ (b : Bool). cond b (Some held) (lookup (is_at (outpoint_cmp q)) old)) ((eq_by_cmp_equiv outpoints_total).symm at q)
    ∙ ap (cond (eq_by_cmp outpoint_cmp q at) (Some held)) (looked_up outpoint_cmp q old ∙ sym (get-from_entries outpoints_total old q))
    ∙ sym (get-insert outpoints_total (from_entries old) at held q))

pub with_held : (old new : List Placement) (at : OutPoint) (held : List Balance) → held ≢ [] → from_entries {R = outpoint_cmp} new ≡ insert (from_entries old) at held
    → from_entries {R = outpoint_cmp} new ≡ with_some (from_entries old) at held
with_held old new at [] some is = absurd (some refl)
with_held old new at (one ∷ more) some is = is

pub not_empty : (held : List Balance) → (length held == 0) ≡ false → held ≢ []
not_empty [] is none = absurd (cc is)
not_empty (one ∷ more) is none = cc none

no_entry : OutPoint × OutRow
no_entry = (record { txid = record { 0 = [] }; index = 0 }, record { script = []; height = 0; sats = [] })

-- within an order there is a row at each place
pub not_within : (order : List (OutPoint × OutRow)) (n end : ℕ) → end ≡ length order → n < end → None ≡ slice_get order n → ⊥
not_within order n end all less none = cc (none ∙ slice_get-get_or order n no_entry (omega (arith, all, less)))

-- a table has what those outputs hold that come before a place
abbrev pub HasUpTo : List (OutPoint × OutRow) → BalanceMap → ℕ → BalanceMap → Type 0
HasUpTo order bal n table = (q : OutPoint) → get table q ≡ cond (is_some (find outpoint_cmp q (take n order))) (get bal q) None

pub has_none : (order : List (OutPoint × OutRow)) (bal : BalanceMap) (entries : List Placement) → entries ≡ [] → HasUpTo order bal 0 (from_entries entries)
has_none order bal entries none q = ap (λ (es : List Placement). get (from_entries {R = outpoint_cmp} es) q) none ∙ get-empty outpoint_cmp q

elsewhere : (table : BalanceMap) (at q : OutPoint) (held : List Balance) → eq_by_cmp outpoint_cmp q at ≡ false → get (with_some table at held) q ≡ get table q
elsewhere table at q [] other = refl
elsewhere table at q (one ∷ more) other = get-insert outpoints_total table at (one ∷ more) q ∙ ap (λ (b : Bool). cond b (Some (one ∷ more)) (get table q)) other

here : (table : BalanceMap) (at q : OutPoint) (held : List Balance) → eq_by_cmp outpoint_cmp q at ≡ true → held ≢ [] → get (with_some table at held) q ≡ Some held
here table at q [] same some = absurd (some refl)
here table at q (one ∷ more) same some = get-insert outpoints_total table at (one ∷ more) q ∙ ap (λ (b : Bool). cond b (Some (one ∷ more)) (get table q)) same

none_either : (b : Bool) (o : Option (List Balance)) → o ≡ None → cond b o None ≡ None
none_either true o is = is
none_either false o is = refl

-- at the outpoint itself
at_key : (table : BalanceMap) (at q : OutPoint) (b : Bool) (o : Option (List Balance)) → eq_by_cmp outpoint_cmp q at ≡ true → ((held : List Balance) → o ≡ Some held → held ≢ []) → get table q ≡ cond b o None
    → get (with_some table at (unwrap_or o [])) q ≡ o
at_key table at q b None same proper was = was ∙ none_either b None refl
at_key table at q b (Some held) same proper was = here table at q held same (proper held refl)

or_true : (b : Bool) → (b || true) ≡ true
or_true true = refl
or_true false = refl

or_false : (b : Bool) → (b || false) ≡ b
or_false true = refl
or_false false = refl

module _ (order : List (OutPoint × OutRow)) (state : Runes) (balanced : Balanced state) where
  some_held : (at : OutPoint) (held : List Balance) → get state.bal at ≡ Some held → held ≢ []
  some_held at held there = (balanced.held at held there).0

  held_proper : (at : OutPoint) → AreBalances (balances_at state.bal at)
  held_proper at = by_held (get state.bal at) refl where
    by_held : (o : Option (List Balance)) → get state.bal at ≡ o → AreBalances (unwrap_or o [])
    by_held None is = no_balances
    by_held (Some held) is = (balanced.held at held is).1.proper

  -- what is held at an outpoint can be held in a pool
  pub held_fits : (at : OutPoint) → IsPool (balances_at state.bal at)
  held_fits at = record {
    lawful = held_proper at;
    small = λ id. omega (arith, amounts_fit state balanced id, held-remove state.bal at id);
  }

  pub has_more : (n : ℕ) (at : OutPoint) (row : OutRow) (table more : BalanceMap) → HasUpTo order state.bal n table → slice_get order n ≡ Some (at, row)
      → more ≡ with_some table at (balances_at state.bal at) → HasUpTo order state.bal (n + 1) more
  has_more n at row table more has there is q = by_test (eq_by_cmp outpoint_cmp q at) refl where
    taken : take (n + 1) order ≡ take n order ++ (at, row) ∷ []
    taken = take_more order n (at, row) (slice_get_within order n (at, row) there) ∙ ap (λ (e : OutPoint × OutRow). take n order ++ e ∷ []) (get_or_from_slice_get order n (at, row) (at, row) there)

    among : (b : Bool) → eq_by_cmp outpoint_cmp q at ≡ b → is_some (find outpoint_cmp q (take (n + 1) order)) ≡ (is_some (find outpoint_cmp q (take n order)) || b)
    among b same =
        ap (λ (es : List (OutPoint × OutRow)). is_some (find outpoint_cmp q es)) taken
        ∙ some_found outpoint_cmp q (take n order) ((at, row) ∷ [])
        ∙ ap (λ (t : Bool). is_some (find outpoint_cmp q (take n order)) || is_some (cond t (Some row) None)) same
        ∙ last b where
          last : (b : Bool) → (is_some (find outpoint_cmp q (take n order)) || is_some (cond b (Some row) None)) ≡ (is_some (find outpoint_cmp q (take n order)) || b)
          last true = refl
          last false = refl

    by_test : (b : Bool) → eq_by_cmp outpoint_cmp q at ≡ b → get more q ≡ cond (is_some (find outpoint_cmp q (take (n + 1) order))) (get state.bal q) None
    by_test true same =
        let key : at ≡ q = sym (same_key q at same) in
        ap (λ (t : BalanceMap). get t q) is
        ∙ ap (λ (k : OutPoint). get (with_some table at (balances_at state.bal k)) q) key
        ∙ at_key table at q (is_some (find outpoint_cmp q (take n order))) (get state.bal q) same (some_held q) (has q)
        ∙ sym (ap (λ (b : Bool). cond b (get state.bal q) None) (among true same ∙ or_true (is_some (find outpoint_cmp q (take n order)))))
    by_test false other =
        ap (λ (t : BalanceMap). get t q) is
        ∙ elsewhere table at q (balances_at state.bal at) other
        ∙ has q
        ∙ sym (ap (λ (b : Bool). cond b (get state.bal q) None) (among false other ∙ or_false (is_some (find outpoint_cmp q (take n order)))))

  pub has_all : (n : ℕ) (table : BalanceMap) → ((at : OutPoint) → IsSome (get state.bal at) → IsSome (find outpoint_cmp at order)) → HasUpTo order state.bal n table → length order ≤ n → table ≡ state.bal
  has_all n table placed has past = same_map outpoints_total outpoints_exact table state.bal (λ q.
      has q
      ∙ ap (λ (es : List (OutPoint × OutRow)). cond (is_some (find outpoint_cmp q es)) (get state.bal q) None) (take_all n order past)
      ∙ by_test (is_some (find outpoint_cmp q order)) (get state.bal q) (placed q)) where
        by_test : (b : Bool) (o : Option (List Balance)) → (IsSome o → b ≡ true) → cond b o None ≡ o
        by_test true o there = refl
        by_test false None there = refl
        by_test false (Some held) there = absurd (cc (there refl))

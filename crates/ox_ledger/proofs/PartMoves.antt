-- What a part says of the state that it begins or ends in.
use Rattle.std.proofs.Common.{◌≡◌, ◌≢◌, ◌∙◌, ℕ, ◌-◌, ◌<◌, ◌≤◌, Bool, true, false, true≢false, cond, List, [], ◌∷◌, ◌++◌, length, take, refl, sym, ap, subst, Some, arith, length-drop, Ordering}
use Rattle.std.specs.Prelude.{All, ◌&&◌}
use Rattle.std.specs.List.{AllByRecursion}
use Rattle.std.specs.Ordering.{eq_by_cmp, is_eq, is_lt}
use Rattle.std.specs.FinMap.{find, get, is_sorted}
use Rattle.std.specs.FinMap.Entries.{below_all}
use Rattle.std.specs.declared.cmp.Ordering.TheVariants.{Less, Equal, Greater}
use Rattle.std.specs.Cmp.{tied_itself}
use Rattle.std.proofs.lemmas.List.{length-take-le}
use Rattle.std.proofs.lemmas.List.Elements.{All-from_recursion}
use Rattle.ox_block.specs.declared.block.OutPoint.{OutPoint}
use Rattle.ox_rules.specs.Differences.{AreGone}
use Rattle.ox_rules.specs.Outputs.{outpoint_cmp}
use Rattle.ox_rules.proofs.Orders.{outpoints_total, outpoints_exact}
use Rattle.ox_allocation.specs.Balances.{Balance}
use Rattle.ox_etching.specs.declared.row.RuneRow.{RuneRow}
use Rattle.ox_ledger.specs.Balanced.{AreDistinct, Balanced}
use Rattle.ox_ledger.specs.Moves.{Begins, Ends}
use Rattle.ox_ledger.specs.Part.{CountChange, RunePart, counts_at, earlier_end, later_end, rows_at_end}
use Rattle.ox_ledger.specs.Runes.{BalanceMap, Placement, Runes}
use Rattle.ox_ledger.proofs.MoveLemmas.{AreWithin, changes_within}
use Rattle.ox_ledger.proofs.PartLemmas.{count_before, part_back, part_forth}

-- ---- no output has an empty list

first_true : (a b : Bool) → (a && b) ≡ true → a ≡ true
first_true true b is = refl
first_true false b is = is

second_true : (a b : Bool) → (a && b) ≡ true → b ≡ true
second_true true b is = is
second_true false b is = absurd (true≢false (sym is))

same_itself : (at : OutPoint) → eq_by_cmp outpoint_cmp at at ≡ true
same_itself at = ap is_eq (tied_itself outpoints_total at)

equal : (r : Ordering) → is_eq r ≡ true → r ≡ Equal
equal Less p = absurd (true≢false (sym p))
equal Equal p = refl
equal Greater p = absurd (true≢false (sym p))

-- what is below others isn't among them
apart_by : (at q : OutPoint) → is_lt (outpoint_cmp at q) ≡ true → eq_by_cmp outpoint_cmp q at ≡ false
apart_by at q less = by_test (is_eq (outpoint_cmp q at)) refl where
  by_test : (b : Bool) → is_eq (outpoint_cmp q at) ≡ b → b ≡ false
  by_test true is =
      let same : q ≡ at = outpoints_exact q at (equal (outpoint_cmp q at) is) in
      let below : is_lt (outpoint_cmp at at) ≡ true = ap (λ (k : OutPoint). is_lt (outpoint_cmp at k)) (sym same) ∙ less in
      absurd (true≢false (sym below ∙ ap is_lt (tied_itself outpoints_total at)))
  by_test false is = refl

found_behind : (e : Placement) (es : List Placement) (rest : List Placement) → below_all outpoint_cmp e.0 rest ≡ true → AllByRecursion (λ (x : Placement). find outpoint_cmp x.0 es ≡ Some x.1) rest
    → AllByRecursion (λ (x : Placement). find outpoint_cmp x.0 (e ∷ es) ≡ Some x.1) rest
found_behind e es [] below all = tt
found_behind e es (x ∷ rest) below all = (
  ap (λ (b : Bool). cond b (Some e.1) (find outpoint_cmp x.0 es)) (apart_by e.0 x.0 (first_true (is_lt (outpoint_cmp e.0 x.0)) (below_all outpoint_cmp e.0 rest) below)) ∙ all.0,
  found_behind e es rest (second_true (is_lt (outpoint_cmp e.0 x.0)) (below_all outpoint_cmp e.0 rest) below) all.1,
)

found_each : (es : List Placement) → is_sorted outpoint_cmp es ≡ true → AllByRecursion (λ (x : Placement). find outpoint_cmp x.0 es ≡ Some x.1) es
found_each [] sorted = tt
found_each (e ∷ es) sorted = (
  ap (λ (b : Bool). cond b (Some e.1) (find outpoint_cmp e.0 es)) (same_itself e.0),
  found_behind e es es (first_true (below_all outpoint_cmp e.0 es) (is_sorted outpoint_cmp es) sorted) (found_each es (second_true (below_all outpoint_cmp e.0 es) (is_sorted outpoint_cmp es) sorted)),
)

all_weaker : (P Q : Placement → Type 0) → ((x : Placement) → P x → Q x) → (xs : List Placement) → AllByRecursion P xs → AllByRecursion Q xs
all_weaker P Q step [] all = tt
all_weaker P Q step (x ∷ xs) all = (step x all.0, all_weaker P Q step xs all.1)

all_filled : (before after : BalanceMap) (gone : List Placement) → AreGone before after gone → ((at : OutPoint) (balances : List Balance) → get before at ≡ Some balances → balances ≢ [])
    → All (λ (new : Placement). new.1 ≢ []) gone
all_filled before after gone are filled =
    All-from_recursion (λ (new : Placement). new.1 ≢ []) gone
    (all_weaker (λ (x : Placement). find outpoint_cmp x.0 gone ≡ Some x.1) (λ (x : Placement). x.1 ≢ []) (λ x found. filled x.0 x.1 ((are.rows x.0 x.1).0 found).0) gone (found_each gone are.rising))

pub ends_filled : (part : RunePart) (state : Runes) → Ends part state → All (λ (new : Placement). new.1 ≢ []) part.before
ends_filled part state ends = all_filled ends.before.bal state.bal part.before ends.leads.is.balances.gone (λ at balances there. (ends.balanced.held at balances there).0)

pub begins_filled : (part : RunePart) (state : Runes) → Begins part state → All (λ (new : Placement). new.1 ≢ []) part.after
begins_filled part state begins = all_filled begins.after.bal state.bal part.after begins.leads.is.balances.came (λ at balances there. (begins.balanced.held at balances there).0)

-- ---- runes

pub ends_length : (part : RunePart) (state : Runes) (ends : Ends part state) → length state.runes - length part.appended ≡ length ends.before.runes
ends_length part state ends =
    ap (λ (rows : List RuneRow). length state.runes - length rows) ends.leads.is.appended ∙ count_before ends.before.runes state.runes ends.leads.continues

pub ends_fits : (part : RunePart) (state : Runes) → Ends part state → length part.appended ≤ length state.runes
ends_fits part state ends =
    let long : length part.appended ≡ length state.runes - length ends.before.runes = ap length ends.leads.is.appended ∙ length-drop (length ends.before.runes) state.runes in
    omega (arith, long)

pub ends_within : (part : RunePart) (state : Runes) (ends : Ends part state) → AreWithin (length ends.before.runes) part.counts
ends_within part state ends = subst (AreWithin (length ends.before.runes)) (sym ends.leads.is.counts) (changes_within ends.before.runes state.runes)

pub begins_within : (part : RunePart) (state : Runes) → Begins part state → AreWithin (length state.runes) part.counts
begins_within part state begins = subst (AreWithin (length state.runes)) (sym begins.leads.is.counts) (changes_within state.runes begins.after.runes)

pub begins_runes : (part : RunePart) (state : Runes) (begins : Begins part state) → rows_at_end (counts_at false) part.counts 0 state.runes ++ part.appended ≡ begins.after.runes
begins_runes part state begins = ap (λ (s : Runes). s.runes) (part_forth state begins.after part begins.leads.continues begins.leads.undue_after begins.leads.is)

pub begins_distinct : {A : Type 0} (of : RuneRow → A) (part : RunePart) (state : Runes) (begins : Begins part state) (rows : List RuneRow) → rows ≡ rows_at_end (counts_at false) part.counts 0 state.runes
    → AreDistinct of begins.after.runes → AreDistinct of (rows ++ part.appended)
begins_distinct of part state begins rows is distinct =
    subst (AreDistinct of) (sym (ap (λ (l : List RuneRow). l ++ part.appended) is ∙ begins_runes part state begins)) distinct

-- ---- the other end is balanced

pub back_balanced : (part : RunePart) (state new : Runes) → Ends part state → new ≡ earlier_end state part → Balanced new
back_balanced part state new ends is =
    subst Balanced (sym (is ∙ part_back ends.before state part ends.leads.continues ends.leads.undue_before ends.leads.is)) ends.balanced

pub again_balanced : (part : RunePart) (state new : Runes) → Begins part state → new ≡ later_end state part → Balanced new
again_balanced part state new begins is =
    subst Balanced (sym (is ∙ part_forth state begins.after part begins.leads.continues begins.leads.undue_after begins.leads.is)) begins.balanced

-- ---- the runes that are left

taken_length : (rows : List RuneRow) (n : ℕ) → n ≤ length rows → length (take n rows) ≡ n
taken_length rows n less = length-take-le n rows less

pub back_within : (part : RunePart) (state : Runes) → Ends part state → (rows kept : List RuneRow) (count : ℕ) → rows ≡ state.runes → kept ≡ take count rows → count ≡ length rows - length part.appended
    → All (λ (change : CountChange). change.place < length kept) part.counts
back_within part state ends rows kept count are is counted =
    let same : length rows ≡ length state.runes = ap length are in
    let left = ends_length part state ends in
    let fits = ends_fits part state ends in
    let long : length kept ≡ count = ap length is ∙ taken_length rows count (omega (arith, counted)) in
    let all : length ends.before.runes ≡ length kept = omega (arith, same, left, fits, long, counted) in
    All-from_recursion (λ (change : CountChange). change.place < length kept) part.counts (subst (λ n. AreWithin n part.counts) all (ends_within part state ends))

-- What differs of the balances of outputs since a mark.
use Rattle.std.proofs.Common.{◌≡◌, ◌≢◌, ◌∙◌, Bool, true, false, true≢false, cond, not, ℕ, ◌+◌, ◌<◌, ◌≤◌, List, [], ◌∷◌, ◌++◌, append_assoc, append-nil, drop, length, refl, sym, ap, subst, Option, Some, None, Bor, Ordering, arith}
use Rattle.std.specs.Prelude.{IsSome, ◌&&◌, ◌||◌, ◌↔◌, if◌then◌else◌}
use Rattle.std.specs.Prelude.{All, slice_index_or}
use Rattle.std.proofs.lemmas.List.{at_drop_all, at_drop_more}
use Rattle.std.specs.List.{AllByRecursion, list_any}
use Rattle.std.specs.List.Sorted.{IsStrictlySortedBy}
use Rattle.std.specs.Option.{IfSome, option_copied, option_map}
use Rattle.std.specs.Ordering.{eq_by_cmp, is_eq, is_lt}
use Rattle.std.specs.FinMap.{find, get, is_sorted}
use Rattle.std.specs.Map.{keys_of}
use Rattle.std.proofs.lemmas.List.{get_or-map, length-map}
use Rattle.std.specs.FinMap.Entries.{below_all}
use Rattle.std.specs.declared.cmp.Ordering.TheVariants.{Less, Equal, Greater}
use Rattle.ox_block.specs.declared.block.OutPoint.{OutPoint}
use Rattle.ox_marked.specs.Marked.{content_in, is_changed, mark_in}
use Rattle.ox_rules.specs.Differences.{AreGone, Differ}
use Rattle.ox_rules.specs.Outputs.{outpoint_cmp}
use Rattle.ox_rules.specs.Transfer.{as_list}
use Rattle.ox_rules.proofs.DifferenceLemmas.{differs, has_gone, or_else}
use Rattle.ox_rules.proofs.Orders.{outpoints_total, outpoints_exact}
use Rattle.ox_allocation.specs.Balances.{Balance}
use Rattle.ox_ledger.specs.Runes.{BalanceMap, Placement}
use Rattle.ox_ledger.specs.Shown.{held_in, held_then}
use Rattle.ox_ledger.proofs.HolderLemmas.{Held, get-held_before, get-held_in, held_before, values_before}
use Rattle.ox_ledger.proofs.TablesLemmas.{is_marked}
use Rattle.ox_ledger.proofs.PartLemmas.{same_balances, same_balances-Decides}

abbrev pub Value : Type 0
Value = Option (List Balance)

abbrev pub Values : Type 0
Values = OutPoint → Value

-- what an output held, if it holds it no more
abbrev pub gone_of : Value → Value → Value
gone_of was now = cond (differs same_balances was now) was None

abbrev pub entry_of : OutPoint → Value → List Placement
entry_of at value = as_list (option_map (λ balances. (at, balances)) value)

-- what outputs held and hold no more
abbrev pub gone_among : Values → Values → List OutPoint → List Placement
gone_among was now [] = []
gone_among was now (at ∷ keys) = entry_of at (gone_of (was at) (now at)) ++ gone_among was now keys

some_value : (x y : List Balance) → Some x ≡ Some y → x ≡ y
some_value x y is = cc is

not_same : (x : List Balance) → same_balances x x ≡ true
not_same x = (same_balances-Decides x x).1 refl

gone_itself : (value : Value) → gone_of value value ≡ None
gone_itself None = refl
gone_itself (Some x) = ap (λ (b : Bool). cond (not b) (Some x) None) (not_same x)

pub gone_same : (was now : Value) → was ≡ now → gone_of was now ≡ None
gone_same was now is = ap (gone_of was) (sym is) ∙ gone_itself was

pub gone_other : (was now : Value) → (was ≡ now → ⊥) → gone_of was now ≡ was
gone_other None now other = refl
gone_other (Some x) None other = refl
gone_other (Some x) (Some y) other = by_test (same_balances x y) refl where
  by_test : (b : Bool) → same_balances x y ≡ b → cond (not b) (Some x) None ≡ Some x
  by_test true is = absurd (other (ap Some ((same_balances-Decides x y).0 is)))
  by_test false is = refl

equal : (r : Ordering) → is_eq r ≡ true → r ≡ Equal
equal Less p = absurd (true≢false (sym p))
equal Equal p = refl
equal Greater p = absurd (true≢false (sym p))

same_key : (q at : OutPoint) → eq_by_cmp outpoint_cmp q at ≡ true → q ≡ at
same_key q at is = outpoints_exact q at (equal (outpoint_cmp q at) is)

cond_same : (b : Bool) (value : Value) → value ≡ cond b value value
cond_same true value = refl
cond_same false value = refl

-- what is found among entries of which the first is this
find_first : (q at : OutPoint) (value : Value) (rest : List Placement)
    → find outpoint_cmp q (entry_of at value ++ rest) ≡ cond (eq_by_cmp outpoint_cmp q at) (or_else value (find outpoint_cmp q rest)) (find outpoint_cmp q rest)
find_first q at None rest = cond_same (eq_by_cmp outpoint_cmp q at) (find outpoint_cmp q rest)
find_first q at (Some x) rest = refl

either_gone : (value : Value) (b : Bool) → or_else value (cond b value None) ≡ value
either_gone None true = refl
either_gone None false = refl
either_gone (Some x) b = refl

found_among : (was now : Values) (keys : List OutPoint) (q : OutPoint) → find outpoint_cmp q (gone_among was now keys) ≡ cond (list_any (λ k. is_eq (outpoint_cmp q k)) keys) (gone_of (was q) (now q)) None
found_among was now [] q = refl
found_among was now (at ∷ keys) q =
    let rest = found_among was now keys q in
    find_first q at (gone_of (was at) (now at)) (gone_among was now keys)
    ∙ ap (λ (found : Value). cond (eq_by_cmp outpoint_cmp q at) (or_else (gone_of (was at) (now at)) found) found) rest
    ∙ by_test (eq_by_cmp outpoint_cmp q at) refl where
      by_test : (b : Bool) → eq_by_cmp outpoint_cmp q at ≡ b
          → let found = cond (list_any (λ k. is_eq (outpoint_cmp q k)) keys) (gone_of (was q) (now q)) None in
          cond b (or_else (gone_of (was at) (now at)) found) found ≡ cond (b || list_any (λ k. is_eq (outpoint_cmp q k)) keys) (gone_of (was q) (now q)) None
      by_test true is =
          let same : gone_of (was at) (now at) ≡ gone_of (was q) (now q) = ap (λ (k : OutPoint). gone_of (was k) (now k)) (sym (same_key q at is)) in
          ap (λ (value : Value). or_else value (cond (list_any (λ k. is_eq (outpoint_cmp q k)) keys) (gone_of (was q) (now q)) None)) same
          ∙ either_gone (gone_of (was q) (now q)) (list_any (λ k. is_eq (outpoint_cmp q k)) keys)
      by_test false is = refl

-- all that is gone is found, where only these keys changed
found_all : (was now : Values) (keys : List OutPoint) → ((q : OutPoint) → list_any (λ k. is_eq (outpoint_cmp q k)) keys ≡ false → was q ≡ now q)
    → (q : OutPoint) → find outpoint_cmp q (gone_among was now keys) ≡ gone_of (was q) (now q)
found_all was now keys others q = found_among was now keys q ∙ by_test (list_any (λ k. is_eq (outpoint_cmp q k)) keys) refl where
  by_test : (b : Bool) → list_any (λ k. is_eq (outpoint_cmp q k)) keys ≡ b → cond b (gone_of (was q) (now q)) None ≡ gone_of (was q) (now q)
  by_test true is = refl
  by_test false is = sym (gone_same (was q) (now q) (others q is))

both_true : (a b : Bool) → a ≡ true → b ≡ true → (a && b) ≡ true
both_true a b first second = ap (λ (x : Bool). x && b) first ∙ second

gone_below : (was now : Values) (at : OutPoint) (keys : List OutPoint) → AllByRecursion (λ k. outpoint_cmp at k ≡ Less) keys → below_all outpoint_cmp at (gone_among was now keys) ≡ true
gone_below was now at [] all = refl
gone_below was now at (k ∷ keys) all = by_value (gone_below was now at keys all.1) (gone_of (was k) (now k)) where
  by_value : below_all outpoint_cmp at (gone_among was now keys) ≡ true → (value : Value) → below_all outpoint_cmp at (entry_of k value ++ gone_among was now keys) ≡ true
  by_value rest None = rest
  by_value rest (Some x) = both_true (is_lt (outpoint_cmp at k)) (below_all outpoint_cmp at (gone_among was now keys)) (ap is_lt all.0) rest

gone_rising : (was now : Values) (keys : List OutPoint) → IsStrictlySortedBy outpoint_cmp keys → is_sorted outpoint_cmp (gone_among was now keys) ≡ true
unfolding IsStrictlySortedBy
gone_rising was now [] rising = refl
gone_rising was now (k ∷ keys) rising = by_value (gone_below was now k keys rising.0) (gone_rising was now keys rising.1) (gone_of (was k) (now k)) where
  by_value : below_all outpoint_cmp k (gone_among was now keys) ≡ true → is_sorted outpoint_cmp (gone_among was now keys) ≡ true → (value : Value)
      → is_sorted outpoint_cmp (entry_of k value ++ gone_among was now keys) ≡ true
  by_value below rest None = rest
  by_value below rest (Some x) = both_true (below_all outpoint_cmp k (gone_among was now keys)) (is_sorted outpoint_cmp (gone_among was now keys)) below rest

are_gone : (before after : BalanceMap) (was now : Values) (keys : List OutPoint) → ((q : OutPoint) → get before q ≡ was q) → ((q : OutPoint) → get after q ≡ now q)
    → IsStrictlySortedBy outpoint_cmp keys → ((q : OutPoint) → list_any (λ k. is_eq (outpoint_cmp q k)) keys ≡ false → was q ≡ now q)
    → AreGone before after (gone_among was now keys)
are_gone before after was now keys at_was at_now rising others = record {
  rising = gone_rising was now keys rising;
  rows = λ at row.
      let found : find outpoint_cmp at (gone_among was now keys) ≡ gone_of (get before at) (get after at) = found_all was now keys others at ∙ (λ i. gone_of (sym (at_was at) i) (sym (at_now at) i)) in
      subst (λ (there : Value). (there ≡ Some row) ↔ ((get before at ≡ Some row) × (get after at ≢ Some row))) (sym found)
      (has_gone outpoints_total outpoints_exact same_balances same_balances-Decides (get before at) (get after at) row);
}

-- what an output held at the mark
abbrev pub value_then : Held → Values
value_then map = values_before map

abbrev pub value_now : Held → Values
value_now map q = content_in outpoint_cmp map q

-- what is said of the mark
pub at_the_mark : (map : Held) (P : Values → Type 0) → IsSome (mark_in outpoint_cmp map) → IfSome (mark_in outpoint_cmp map) P → P (value_then map)
at_the_mark map P some is = by_mark map.marked some is where
  by_mark : (b : Bool) → IsSome {T = Values} (if b then Some (value_then map) else None) → IfSome {T = Values} (if b then Some (value_then map) else None) P → P (value_then map)
  by_mark true some is = is
  by_mark false some is = absurd (true≢false (sym some))

then_by : (b : Bool) (m : BalanceMap) (P : BalanceMap → Type 0) → P m → IfSome {T = BalanceMap} (if b then Some m else None) P
then_by true m P is = is
then_by false m P is = tt

pub differ : (map : Held) (keys : List OutPoint) (gone came : List Placement) → IsStrictlySortedBy outpoint_cmp keys
    → ((q : OutPoint) → list_any (λ k. is_eq (outpoint_cmp q k)) keys ≡ false → value_now map q ≡ value_then map q)
    → gone ≡ gone_among (value_then map) (value_now map) keys → came ≡ gone_among (value_now map) (value_then map) keys
    → IfSome (held_then map) (λ before. Differ before (held_in map) (record { gone = gone; came = came }))
differ map keys gone came rising others went comes = then_by map.marked (held_before map) (λ before. Differ before (held_in map) (record { gone = gone; came = came })) (record {
  gone = subst (λ (l : List Placement). AreGone (held_before map) (held_in map) l) (sym went)
      (are_gone (held_before map) (held_in map) (value_then map) (value_now map) keys (get-held_before map) (get-held_in map) rising (λ q none. sym (others q none)));
  came = subst (λ (l : List Placement). AreGone (held_in map) (held_before map) l) (sym comes)
      (are_gone (held_in map) (held_before map) (value_now map) (value_then map) keys (get-held_in map) (get-held_before map) rising others);
})

-- ---- one outpoint more

told : (at : OutPoint) (old new : List Placement) (was is : Value) → (was ≢ is → new ≡ old ++ entry_of at was) → (was ≡ is → new ≡ old) → new ≡ old ++ entry_of at (gone_of was is)
told at old new None None differ same = same refl ∙ sym (append-nil old)
told at old new None (Some y) differ same = differ (λ e. absurd (cc e))
told at old new (Some x) None differ same = differ (λ e. absurd (cc e))
told at old new (Some x) (Some y) differ same = by_test (same_balances x y) refl where
  by_test : (b : Bool) → same_balances x y ≡ b → new ≡ old ++ entry_of at (cond (not b) (Some x) None)
  by_test true is = same (ap Some ((same_balances-Decides x y).0 is)) ∙ sym (append-nil old)
  by_test false is = differ (λ e. true≢false (sym ((same_balances-Decides x y).1 (some_value x y e)) ∙ is))

pub gone_next : (was now : Values) (keys : List OutPoint) (i : ℕ) (d : OutPoint) (old new all : List Placement) (then_is now_is : Value) → i < length keys
    → then_is ≡ was (slice_index_or keys i d) → now_is ≡ now (slice_index_or keys i d) → old ++ gone_among was now (drop i keys) ≡ all
    → (then_is ≢ now_is → new ≡ old ++ entry_of (slice_index_or keys i d) then_is) → (then_is ≡ now_is → new ≡ old) → new ++ gone_among was now (drop (i + 1) keys) ≡ all
gone_next was now keys i d old new all then_is now_is less here here_now whole differ same =
    let at = slice_index_or keys i d in
    ap (λ (l : List Placement). l ++ gone_among was now (drop (i + 1) keys)) (told at old new then_is now_is differ same ∙ (λ k. old ++ entry_of at (gone_of (here k) (here_now k))))
    ∙ append_assoc old (entry_of at (gone_of (was at) (now at))) (gone_among was now (drop (i + 1) keys))
    ∙ ap (λ (l : List OutPoint). old ++ gone_among was now l) (sym (at_drop_more (λ l. l) keys i d less)) ∙ whole

pub gone_all : (was now : Values) (keys : List OutPoint) (i : ℕ) (old all : List Placement) → length keys ≤ i → old ++ gone_among was now (drop i keys) ≡ all → old ≡ all
gone_all was now keys i old all past whole = sym (append-nil old) ∙ ap (λ (l : List OutPoint). old ++ gone_among was now l) (sym (at_drop_all (λ l. l) keys i past)) ∙ whole

pub marked_from : (map : Held) → IsSome (held_then map) → IsSome (mark_in outpoint_cmp map)
marked_from map some = is_marked map some

-- where no key was put, nothing changed
pub beside : (map : Held) (keys put_keys : List OutPoint) → keys ≡ put_keys → ((q : OutPoint) → list_any (λ k. is_eq (outpoint_cmp q k)) put_keys ≡ is_changed outpoint_cmp map q)
    → ((q : OutPoint) → is_changed outpoint_cmp map q ≡ false → value_now map q ≡ value_then map q)
    → (q : OutPoint) → list_any (λ k. is_eq (outpoint_cmp q k)) keys ≡ false → value_now map q ≡ value_then map q
beside map keys put_keys same put others q none = others q (sym (put q) ∙ sym (ap (λ (l : List OutPoint). list_any (λ k. is_eq (outpoint_cmp q k)) l) same) ∙ none)

-- ---- outpoints with what they held at the mark

abbrev pub Pairs : Type 0
Pairs = List (OutPoint × Option (Bor (List Balance)))

abbrev Then : Values → OutPoint × Option (Bor (List Balance)) → Type 0
Then f pair = option_copied pair.1 ≡ f pair.0

-- each is with what it held
pub held_with : (map : Held) (pairs items : Pairs) → pairs ≡ items → IsSome (held_then map) → IfSome (mark_in outpoint_cmp map) (λ f. All (Then f) items)
    → (i : ℕ) (pair : OutPoint × Option (Bor (List Balance))) → i < length pairs → pair ≡ slice_index_or pairs i pair → option_copied pair.1 ≡ value_then map pair.0
held_with map pairs items same some before i pair less is =
    subst (Then (value_then map)) (sym is)
    (subst (λ (l : Pairs). All (Then (value_then map)) l) (sym same) (at_the_mark map (λ (f : Values). All (Then f) items) (marked_from map some) before) i pair less)

pub pair_next : (was now : Values) (pairs : Pairs) (i : ℕ) (pair : OutPoint × Option (Bor (List Balance))) (old new all : List Placement) (then_is now_is : Value) → i < length pairs
    → pair ≡ slice_index_or pairs i pair → then_is ≡ was pair.0 → now_is ≡ now pair.0 → old ++ gone_among was now (drop i (keys_of pairs)) ≡ all
    → (then_is ≢ now_is → new ≡ old ++ entry_of pair.0 then_is) → (then_is ≡ now_is → new ≡ old) → new ++ gone_among was now (drop (i + 1) (keys_of pairs)) ≡ all
pair_next was now pairs i pair old new all then_is now_is less is here here_now whole differ same =
    let at : pair.0 ≡ slice_index_or (keys_of pairs) i pair.0 = ap (λ (e : OutPoint × Option (Bor (List Balance))). e.0) is ∙ sym (get_or-map (λ e. e.0) pairs i pair pair.0 less) in
    let long = length-map pairs (λ e. e.0) in
    gone_next was now (keys_of pairs) i pair.0 old new all then_is now_is (omega (arith, less, long)) (here ∙ ap was at) (here_now ∙ ap now at) whole
    (λ other. differ other ∙ ap (λ (k : OutPoint). old ++ entry_of k then_is) at) same

pub pairs_all : (was now : Values) (pairs : Pairs) (i : ℕ) (old all : List Placement) → length pairs ≤ i → old ++ gone_among was now (drop i (keys_of pairs)) ≡ all → old ≡ all
pairs_all was now pairs i old all past whole = let long = length-map pairs (λ e. e.0) in gone_all was now (keys_of pairs) i old all (omega (arith, past, long)) whole

-- The outpoints of one script, among the keys in their order.
use Rattle.std.proofs.Common.{◌≡◌, ◌∙◌, ℕ, ◌<◌, Bool, true, false, cond, List, [], ◌∷◌, ◌++◌, map, refl, sym, ap, subst, inl, inr, arith, append_assoc, Ordering, T}
use Rattle.std.specs.Prelude.{◌&&◌, ◌||◌, not, Option, Some, None, is_some}
use Rattle.std.specs.List.{filter, list_any, AllByRecursion}
use Rattle.std.specs.List.Sorted.{IsStrictlySortedBy}
use Rattle.std.specs.Option.{option_cmp}
use Rattle.std.specs.Ordering.{is_eq, is_gt, is_le, is_lt, nat_cmp, ordering_then, eq_by_cmp}
use Rattle.std.specs.declared.cmp.Ordering.TheVariants.{Less, Equal, Greater}
use Rattle.std.specs.declared.ops.Bound.TheVariants.{Included, Excluded}
use Rattle.std.specs.BTreeMap.{is_at}
use Rattle.std.specs.BTreeMap.Range.{range_contains}
use Rattle.std.specs.Cmp.{nat_cmp_is, tied_itself}
use Rattle.std.proofs.lemmas.Cmp.{nat_cmp_total}
use Rattle.std.specs.Cmp.Lexicographic.{slice_cmp}
use Rattle.std.specs.FinMap.{find, is_sorted, entries, entries_sorted, nat_cmp-IsAntisymmetric, slice_cmp-IsAntisymmetric}
use Rattle.std.specs.FinMap.Entries.{below_all, is_some-find, same_entries}
use Rattle.std.proofs.lemmas.Bool.{and_from, and_parts, cases_eq}
use Rattle.std.proofs.lemmas.Map.Text.{is_eq-slice_cmp}
use Rattle.ox_block.specs.declared.block.OutPoint.{OutPoint}
use Rattle.ox_rules.specs.declared.rows.OutRow.{OutRow}
use Rattle.ox_rules.specs.Outputs.{Outputs, outpoint_cmp}
use Rattle.ox_rules.specs.Transfer.{as_list}
use Rattle.ox_holders.specs.declared.key.Key.{Key}
use Rattle.ox_holders.specs.Keys.{key_cmp, key_of, first_of, is_among, is_in, is_row, outpoints_in}
use Rattle.ox_holders.specs.Outputs.{has_output, is_locked_by, outputs_with}
use Rattle.ox_holders.proofs.Ties.{outpoints_exact, outpoints_total, outpoint_ties, is_tied}
use Rattle.ox_holders.proofs.Rows.{same_tests, in-table, sorted-test}

-- WHICH KEYS LIE BETWEEN A SCRIPT AND THE NEXT ONE

then_none : (r : Ordering) (o : Option OutPoint) → is_le (ordering_then r (option_cmp outpoint_cmp None o)) ≡ is_le r
then_none Less o = refl
then_none Equal None = refl
then_none Equal (Some a) = refl
then_none Greater o = refl

nothing_first : (ys : List ℕ) → is_le (slice_cmp nat_cmp [] ys) ≡ true
nothing_first [] = refl
nothing_first (y ∷ ys) = refl

zero_first : (y : ℕ) (ys : List ℕ) → is_le (ordering_then (nat_cmp 0 y) (slice_cmp nat_cmp [] ys)) ≡ true
zero_first y ys =
    elim (cases_eq y 0) [
      | inl none ↦
          let P : ℕ → Type 0 = λ n. is_le (ordering_then (nat_cmp 0 n) (slice_cmp nat_cmp [] ys)) ≡ true in
          subst P (sym none) (nothing_first ys)
      | inr some ↦
          let above : 0 < y = omega arith in
          ap (λ r. is_le (ordering_then r (slice_cmp nat_cmp [] ys))) (sym (nat_cmp_is 0 y Less above))
    ]

next_script : (s t : List ℕ) → (is_le (slice_cmp nat_cmp s t) && not (is_le (slice_cmp nat_cmp (s ++ 0 ∷ []) t))) ≡ is_eq (slice_cmp nat_cmp s t)
next_script [] [] = refl
next_script [] (y ∷ ys) = ap not (zero_first y ys)
next_script (x ∷ xs) [] = refl
next_script (x ∷ xs) (y ∷ ys) =
    elim (nat_cmp x y) as (λ r. (is_le (ordering_then r (slice_cmp nat_cmp xs ys)) && not (is_le (ordering_then r (slice_cmp nat_cmp (xs ++ 0 ∷ []) ys)))) ≡ is_eq (ordering_then r (slice_cmp nat_cmp xs ys))) [
      | Less ↦ refl
      | Equal ↦ next_script xs ys
      | Greater ↦ refl
    ]

abbrev pub has_script : List ℕ → Key → Bool
has_script s key = is_eq (slice_cmp nat_cmp s key.lock.script)

in_range : (s : List ℕ) (key : Key) → range_contains key_cmp (Included (first_of s)) (Excluded (first_of (s ++ 0 ∷ []))) key ≡ has_script s key
in_range s key =
    let t : List ℕ = key.lock.script in
    ap (λ b. b && not (is_le (key_cmp (first_of (s ++ 0 ∷ [])) key))) (then_none (slice_cmp nat_cmp s t) key.at)
    ∙ ap (λ b. is_le (slice_cmp nat_cmp s t) && not b) (then_none (slice_cmp nat_cmp (s ++ 0 ∷ []) t) key.at)
    ∙ next_script s t

pub filter_same : {X : Type 0} (p q : X → Bool) → ((x : X) → p x ≡ q x) → (xs : List X) → filter p xs ≡ filter q xs
filter_same p q same [] = refl
filter_same p q same (x ∷ xs) =
    ap (λ b. cond b (x ∷ filter p xs) (filter p xs)) (same x) ∙ ap (λ ys. cond (q x) (x ∷ ys) ys) (filter_same p q same xs)

pub between-filter : (s : List ℕ) (keys : List Key) →
    filter (range_contains key_cmp (Included (first_of s)) (Excluded (first_of (s ++ 0 ∷ [])))) keys ≡ filter (has_script s) keys
between-filter s keys = filter_same _ _ (in_range s) keys

longer_after : (s : List ℕ) → slice_cmp nat_cmp s (s ++ 0 ∷ []) ≡ Less
longer_after [] = refl
longer_after (x ∷ xs) = ap (λ r. ordering_then r (slice_cmp nat_cmp xs (xs ++ 0 ∷ []))) (tied_itself nat_cmp_total x) ∙ longer_after xs

-- WHICH OUTPOINTS THEY HAVE

tie_split : (r q : Ordering) → is_eq (ordering_then r q) ≡ (is_eq r && is_eq q)
tie_split Less q = refl
tie_split Equal q = refl
tie_split Greater q = refl

one_first : (at : OutPoint) (o : Option OutPoint) (rest : List OutPoint) →
    list_any (λ a. is_eq (outpoint_cmp at a)) (as_list o ++ rest)
    ≡ (is_eq (option_cmp outpoint_cmp (Some at) o) || list_any (λ a. is_eq (outpoint_cmp at a)) rest)
one_first at None rest = refl
one_first at (Some a) rest = refl

pub members-found : (s : List ℕ) (at : OutPoint) (keys : List Key) →
    list_any (λ a. is_eq (outpoint_cmp at a)) (outpoints_in (filter (has_script s) keys))
    ≡ list_any (is_at (key_cmp (key_of s at))) keys
members-found s at [] = refl
members-found s at (key ∷ keys) =
    let t : OutPoint → Bool = λ a. is_eq (outpoint_cmp at a) in
    let rest : List Key = filter (has_script s) keys in
    let tie : Bool = is_eq (option_cmp outpoint_cmp (Some at) key.at) in
    let left : list_any t (outpoints_in (cond (has_script s key) (key ∷ rest) rest)) ≡ ((has_script s key && tie) || list_any t (outpoints_in rest)) =
    elim (has_script s key) as (λ b. list_any t (outpoints_in (cond b (key ∷ rest) rest)) ≡ ((b && tie) || list_any t (outpoints_in rest))) [
      | true ↦ one_first at key.at (outpoints_in rest)
      | false ↦ refl
    ] in
    left
    ∙ ap (λ b. b || list_any t (outpoints_in rest)) (sym (tie_split (slice_cmp nat_cmp s key.lock.script) (option_cmp outpoint_cmp (Some at) key.at)))
    ∙ ap (λ b. is_at (key_cmp (key_of s at)) key || b) (members-found s at keys)

-- THEY RISE

units : List OutPoint → List (OutPoint × Unit {0})
units [] = []
units (a ∷ more) = (a, tt) ∷ units more

keys-units : (list : List OutPoint) → map (λ e. e.0) (units list) ≡ list
unfolding units
keys-units [] = refl
keys-units (a ∷ more) = ap (λ xs. a ∷ xs) (keys-units more)

after_same : (r : Ordering) (a : OutPoint) (o : Option OutPoint) → is_eq r ≡ true → ordering_then r (option_cmp outpoint_cmp (Some a) o) ≡ Less
    → (b : OutPoint) × (o ≡ Some b) × (is_lt (outpoint_cmp a b) ≡ true)
after_same Less a o same is = absurd (cc same)
after_same Equal a None same is = absurd (cc is)
after_same Equal a (Some b) same is = (b, refl, ap is_lt is)
after_same Greater a o same is = absurd (cc same)

one_script : (s : List ℕ) (k l : Key) → has_script s k ≡ true → has_script s l ≡ true → is_eq (slice_cmp nat_cmp k.lock.script l.lock.script) ≡ true
one_script s k l first second =
    let e : s ≡ k.lock.script = slice_cmp-IsAntisymmetric nat_cmp-IsAntisymmetric s k.lock.script (is_tied _ first) in
    let P : List ℕ → Type 0 = λ xs. is_eq (slice_cmp nat_cmp xs l.lock.script) ≡ true in
    subst P e second

below_found : (s : List ℕ) (k : Key) (a : OutPoint) (keys : List Key) → has_script s k ≡ true → k.at ≡ Some a
    → AllByRecursion (λ l. key_cmp k l ≡ Less) keys
    → below_all outpoint_cmp a (units (outpoints_in (filter (has_script s) keys))) ≡ true
unfolding units
below_found s k a [] here at above = refl
below_found s k a (l ∷ keys) here at above =
    let rest : List Key = filter (has_script s) keys in
    let ih : below_all outpoint_cmp a (units (outpoints_in rest)) ≡ true = below_found s k a keys here at above.1 in
    elim (has_script s l) as (λ b. has_script s l ≡ b → below_all outpoint_cmp a (units (outpoints_in (cond b (l ∷ rest) rest))) ≡ true) [
      | true ↦ λ there.
          let P : Option OutPoint → Type 0 = λ o. ordering_then (slice_cmp nat_cmp k.lock.script l.lock.script) (option_cmp outpoint_cmp o l.at) ≡ Less in
          let next = after_same (slice_cmp nat_cmp k.lock.script l.lock.script) a l.at (one_script s k l here there) (subst P at above.0) in
          let Q : Option OutPoint → Type 0 = λ o. below_all outpoint_cmp a (units (as_list o ++ outpoints_in rest)) ≡ true in
          subst Q (sym next.1) (and_from (is_lt (outpoint_cmp a next.0)) _ next.2 ih)
      | false ↦ λ there. ih
    ] refl

found_rise : (s : List ℕ) (keys : List Key) → IsStrictlySortedBy key_cmp keys → is_sorted outpoint_cmp (units (outpoints_in (filter (has_script s) keys))) ≡ true
unfolding units IsStrictlySortedBy
found_rise s [] sorted = refl
found_rise s (k ∷ keys) sorted =
    let rest : List Key = filter (has_script s) keys in
    let ih : is_sorted outpoint_cmp (units (outpoints_in rest)) ≡ true = found_rise s keys sorted.1 in
    elim (has_script s k) as (λ b. has_script s k ≡ b → is_sorted outpoint_cmp (units (outpoints_in (cond b (k ∷ rest) rest))) ≡ true) [
      | true ↦ λ here. elim k.at as (λ o. k.at ≡ o → is_sorted outpoint_cmp (units (as_list o ++ outpoints_in rest)) ≡ true) [
        | None ↦ λ at. ih
        | Some a ↦ λ at. and_from (below_all outpoint_cmp a (units (outpoints_in rest))) _ (below_found s k a keys here at sorted.0) ih
      ] refl
      | false ↦ λ here. ih
    ] refl

-- AND SO DO THOSE OF THE OUTPUTS

with_script : List ℕ → List (OutPoint × OutRow) → List OutPoint
with_script s es = map (λ e. e.0) (filter (λ e. is_locked_by s e.1) es)

below_with : (s : List ℕ) (a : OutPoint) (es : List (OutPoint × OutRow)) → below_all outpoint_cmp a es ≡ true → below_all outpoint_cmp a (units (with_script s es)) ≡ true
unfolding units with_script
below_with s a [] below = refl
below_with s a (e ∷ es) below =
    let both = and_parts (is_lt (outpoint_cmp a e.0)) (below_all outpoint_cmp a es) below in
    let rest : List (OutPoint × OutRow) = filter (λ x. is_locked_by s x.1) es in
    let ih : below_all outpoint_cmp a (units (with_script s es)) ≡ true = below_with s a es both.1 in
    elim (is_locked_by s e.1) as (λ b. below_all outpoint_cmp a (units (map (λ x. x.0) (cond b (e ∷ rest) rest))) ≡ true) [
      | true ↦ and_from (is_lt (outpoint_cmp a e.0)) _ both.0 ih
      | false ↦ ih
    ]

with_rise : (s : List ℕ) (es : List (OutPoint × OutRow)) → is_sorted outpoint_cmp es ≡ true → is_sorted outpoint_cmp (units (with_script s es)) ≡ true
unfolding units with_script
with_rise s [] sorted = refl
with_rise s (e ∷ es) sorted =
    let both = and_parts (below_all outpoint_cmp e.0 es) (is_sorted outpoint_cmp es) sorted in
    let rest : List (OutPoint × OutRow) = filter (λ x. is_locked_by s x.1) es in
    let ih : is_sorted outpoint_cmp (units (with_script s es)) ≡ true = with_rise s es both.1 in
    elim (is_locked_by s e.1) as (λ b. is_sorted outpoint_cmp (units (map (λ x. x.0) (cond b (e ∷ rest) rest))) ≡ true) [
      | true ↦ and_from (below_all outpoint_cmp e.0 (units (with_script s es))) _ (below_with s e.0 es both.0) ih
      | false ↦ ih
    ]

turned : (a b : OutPoint) → is_eq (outpoint_cmp a b) ≡ is_eq (outpoint_cmp b a)
turned a b =
    same_tests (is_eq (outpoint_cmp a b)) (is_eq (outpoint_cmp b a))
    (λ is. outpoint_ties b a (sym (outpoints_exact a b (is_tied _ is))))
    (λ is. outpoint_ties a b (sym (outpoints_exact b a (is_tied _ is))))

members-with : (s : List ℕ) (at : OutPoint) (es : List (OutPoint × OutRow)) →
    list_any (λ a. is_eq (outpoint_cmp at a)) (with_script s es) ≡ is_in es s at
unfolding with_script is_in
members-with s at [] = refl
members-with s at (e ∷ es) =
    let t : OutPoint → Bool = λ a. is_eq (outpoint_cmp at a) in
    let rest : List (OutPoint × OutRow) = filter (λ x. is_locked_by s x.1) es in
    let left : list_any t (map (λ x. x.0) (cond (is_locked_by s e.1) (e ∷ rest) rest)) ≡ ((is_locked_by s e.1 && t e.0) || list_any t (map (λ x. x.0) rest)) =
    elim (is_locked_by s e.1) as (λ b. list_any t (map (λ x. x.0) (cond b (e ∷ rest) rest)) ≡ ((b && t e.0) || list_any t (map (λ x. x.0) rest))) [
      | true ↦ refl
      | false ↦ refl
    ] in
    let row : (is_locked_by s e.1 && t e.0) ≡ is_row e.0 e.1 s at =
    ap (λ b. b && t e.0) (sym (is_eq-slice_cmp e.1.script s))
    ∙ ap (λ b. is_eq (slice_cmp nat_cmp e.1.script s) && b) (turned at e.0)
    ∙ sym (tie_split (slice_cmp nat_cmp e.1.script s) (outpoint_cmp e.0 at)) in
    left ∙ ap (λ b. b || list_any t (map (λ x. x.0) rest)) row ∙ ap (λ b. is_row e.0 e.1 s at || b) (members-with s at es)

-- SO THEY ARE THE SAME

same_units : (o p : Option (Unit {0})) → is_some o ≡ is_some p → o ≡ p
same_units None None e = refl
same_units None (Some y) e = absurd (let no : ⊥ = cc e in no)
same_units (Some x) None e = absurd (let no : ⊥ = cc e in no)
same_units (Some x) (Some y) e = refl

true-is : (b : Bool) → b ≡ true → T b
true-is true e = tt
true-is false e = absurd (let no : ⊥ = cc e in no)

found-units : (at : OutPoint) (list : List OutPoint) → is_some (find outpoint_cmp at (units list)) ≡ list_any (λ a. is_eq (outpoint_cmp at a)) list
found-units at list =
    is_some-find outpoint_cmp at (units list) ∙ ap (list_any (eq_by_cmp outpoint_cmp at)) (keys-units list)

same_outpoints : (xs ys : List OutPoint) → is_sorted outpoint_cmp (units xs) ≡ true → is_sorted outpoint_cmp (units ys) ≡ true
    → ((at : OutPoint) → list_any (λ a. is_eq (outpoint_cmp at a)) xs ≡ list_any (λ a. is_eq (outpoint_cmp at a)) ys) → xs ≡ ys
same_outpoints xs ys rise_x rise_y same =
    let e : units xs ≡ units ys =
    same_entries outpoint_cmp outpoints_total outpoints_exact (units xs) (units ys) (true-is _ rise_x) (true-is _ rise_y)
    (λ at. same_units (find outpoint_cmp at (units xs)) (find outpoint_cmp at (units ys)) (found-units at xs ∙ same at ∙ sym (found-units at ys))) in
    sym (keys-units xs) ∙ ap (map (λ e. e.0)) e ∙ keys-units ys

pub found_outputs : (s : List ℕ) (keys : List Key) (outs : Outputs) → IsStrictlySortedBy key_cmp keys
    → ((script : List ℕ) (at : OutPoint) → is_among keys script at ≡ has_output outs script at)
    → outpoints_in (filter (has_script s) keys) ≡ outputs_with s outs
unfolding outputs_with is_among with_script
found_outputs s keys outs sorted each =
    same_outpoints (outpoints_in (filter (has_script s) keys)) (with_script s (entries outs))
    (found_rise s keys sorted) (with_rise s (entries outs) (sorted-test (is_sorted outpoint_cmp (entries outs)) (entries_sorted outs)))
    (λ at. members-found s at keys ∙ each s at ∙ sym (in-table outs s at) ∙ sym (members-with s at (entries outs)))

-- READING THEM

pub forward : (s : List ℕ) → is_gt (key_cmp (first_of s) (first_of (s ++ 0 ∷ []))) ≡ false
forward s = ap (λ r. is_gt (ordering_then r Equal)) (longer_after s)

pub found_next : (found new : List OutPoint) (left rest : List Key) (key : Key) (whole : List OutPoint) → left ≡ key ∷ rest
    → new ≡ found ++ as_list key.at → found ++ outpoints_in left ≡ whole → new ++ outpoints_in rest ≡ whole
found_next found new left rest key whole next so all =
    ap (λ xs. xs ++ outpoints_in rest) so ∙ append_assoc found (as_list key.at) (outpoints_in rest)
    ∙ ap (λ xs. found ++ outpoints_in xs) (sym next) ∙ all

nothing_behind : (xs : List OutPoint) → xs ++ [] ≡ xs
nothing_behind [] = refl
nothing_behind (x ∷ xs) = ap (λ ys. x ∷ ys) (nothing_behind xs)

pub found_end : (found : List OutPoint) (left : List Key) (whole : List OutPoint) → left ≡ [] → found ++ outpoints_in left ≡ whole → found ≡ whole
found_end found left whole none all = sym (nothing_behind found) ∙ ap (λ xs. found ++ outpoints_in xs) (sym none) ∙ all

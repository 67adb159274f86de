-- The row that comes next, found by a look at all slots.
use Rattle.std.proofs.Common.{◌≡◌, ◌∙◌, ℕ, ◌+◌, ◌<◌, ◌≤◌, Bool, true, false, cond, T, List, [], ◌∷◌, length, drop, refl, sym, ap, subst, arith, Option, Some, None, Ordering, inl, inr}
use Rattle.std.specs.Prelude.{◌⊎◌, ◌&&◌, unwrap_or}
use Rattle.std.specs.Option.{option_map}
use Rattle.std.proofs.lemmas.List.{drop_all, drop_more}
use Rattle.std.specs.Ordering.{is_eq, is_lt, ordering_reverse}
use Rattle.std.specs.FinMap.{empty, entries, entries-insert, entries_sorted, find, get, get-entries, get-remove, insert, is_sorted, len-empty, len-entries, put, remove, same_map}
use Rattle.std.specs.FinMap.Entries.{below_all, by_order}
use Rattle.std.specs.declared.cmp.Ordering.TheVariants.{Less, Equal, Greater}
use Rattle.ox_block.specs.declared.block.OutPoint.{OutPoint}
use Rattle.ox_rules.specs.declared.rows.OutRow.{OutRow}
use Rattle.ox_rules.specs.Outputs.{Outputs, outpoint_cmp}
use Rattle.ox_rules.proofs.Orders.{outpoints_total, outpoints_exact}
use Rattle.ox_outputs.specs.Next.{earlier, is_past, nearer, next_of}
use Rattle.ox_outputs.specs.SlotCells.{entry_from}
use Rattle.ox_outputs.specs.Slots.{Slot, SlotList, put_slot, rows_of, slot_at}
use Rattle.ox_outputs.proofs.InOrderLemmas.{first_alone, rest_apart}
use Rattle.ox_outputs.proofs.PlaceLemmas.{AreApart, get-nowhere, is_same, same_itself, same_or_not}

abbrev Entry : Type 0
Entry = OutPoint × OutRow

T_first : (a b : Bool) → T (a && b) → T a
T_first true b t = tt
T_first false b t = t

T_second : (a b : Bool) → T (a && b) → T b
T_second true b t = t
T_second false b t = absurd t

T_both : (a b : Bool) → a ≡ true → T b → T (a && b)
T_both true b is t = t
T_both false b is t = absurd (cc is)

is_Less : (r : Ordering) → T (is_lt r) → r ≡ Less
is_Less Less t = refl
is_Less Equal t = absurd t
is_Less Greater t = absurd t

same_both : {X : Type 0} (b : Bool) (x : X) → cond b x x ≡ x
same_both true x = refl
same_both false x = refl

the_entry : (a b : Entry) → ◌≡◌ {A = Option Entry} (Some a) (Some b) → a ≡ b
the_entry a b is = cc is

no_entry : (a : Entry) → ◌≡◌ {A = Option Entry} None (Some a) → ⊥
no_entry a is = absurd (cc is)

some_row : (row : OutRow) → ◌≡◌ {A = Option OutRow} (Some row) None → ⊥
some_row row is = absurd (cc is)

-- ---- rows by rising outpoint

below_more : (at k : OutPoint) (es : List Entry) → outpoint_cmp at k ≡ Less → T (below_all outpoint_cmp k es) → T (below_all outpoint_cmp at es)
below_more at k [] less below = tt
below_more at k (e ∷ es) less below =
    T_both (is_lt (outpoint_cmp at e.0)) (below_all outpoint_cmp at es)
    (ap is_lt (outpoints_total.trans at k e.0 less (is_Less _ (T_first (is_lt (outpoint_cmp k e.0)) (below_all outpoint_cmp k es) below))))
    (below_more at k es less (T_second (is_lt (outpoint_cmp k e.0)) (below_all outpoint_cmp k es) below))

head_next : (past : Option OutPoint) (e : Entry) (es : List Entry) (b : Bool) → is_past past e.0 ≡ b → next_of past (e ∷ es) ≡ cond b (Some e) (next_of past es)
head_next past e es b is = ap (λ (t : Bool). cond t (Some e) (next_of past es)) is

-- the next of rows that all come behind an outpoint does too
next_below : (past : Option OutPoint) (at : OutPoint) (es : List Entry) (x : Entry) → T (below_all outpoint_cmp at es) → next_of past es ≡ Some x → outpoint_cmp at x.0 ≡ Less
next_below past at [] x below is = absurd (no_entry x is)
next_below past at (e ∷ es) x below is = by_test (next_below past at es x) (is_past past e.0) refl where
  by_test : (T (below_all outpoint_cmp at es) → next_of past es ≡ Some x → outpoint_cmp at x.0 ≡ Less) → (b : Bool) → is_past past e.0 ≡ b → outpoint_cmp at x.0 ≡ Less
  by_test behind true here =
      subst (λ (y : Entry). outpoint_cmp at y.0 ≡ Less) (the_entry e x (sym (head_next past e es true here) ∙ is))
      (is_Less _ (T_first (is_lt (outpoint_cmp at e.0)) (below_all outpoint_cmp at es) below))
  by_test behind false later =
      behind (T_second (is_lt (outpoint_cmp at e.0)) (below_all outpoint_cmp at es) below) (sym (head_next past e es false later) ∙ is)

-- and where none is at an outpoint it isn't there
next_apart : (past : Option OutPoint) (at : OutPoint) (es : List Entry) (x : Entry) → find outpoint_cmp at es ≡ None → next_of past es ≡ Some x → is_same at x.0 ≡ false
next_apart past at [] x none is = absurd (no_entry x is)
next_apart past at (e ∷ es) x none is = by_same (next_apart past at es x) (is_same at e.0) refl where
  rest : (b : Bool) → is_same at e.0 ≡ b → cond b (Some e.1) (find outpoint_cmp at es) ≡ None
  rest b same = sym (ap (λ (t : Bool). cond t (Some e.1) (find outpoint_cmp at es)) same) ∙ none

  by_test : (find outpoint_cmp at es ≡ None → next_of past es ≡ Some x → is_same at x.0 ≡ false) → (b : Bool) → is_past past e.0 ≡ b → is_same at e.0 ≡ false → is_same at x.0 ≡ false
  by_test behind true here other = subst (λ (y : Entry). is_same at y.0 ≡ false) (the_entry e x (sym (head_next past e es true here) ∙ is)) other
  by_test behind false later other = behind (rest false other) (sym (head_next past e es false later) ∙ is)

  by_same : (find outpoint_cmp at es ≡ None → next_of past es ≡ Some x → is_same at x.0 ≡ false) → (b : Bool) → is_same at e.0 ≡ b → is_same at x.0 ≡ false
  by_same behind true same = absurd (some_row e.1 (rest true same))
  by_same behind false other = by_test behind (is_past past e.0) refl other

before_all : (next : Option Entry) (e : Entry) → ((x : Entry) → next ≡ Some x → outpoint_cmp e.0 x.0 ≡ Less) → earlier next e ≡ Some e
before_all None e less = refl
before_all (Some x) e less = ap (λ (r : Ordering). cond (is_lt r) (Some e) (Some x)) (less x refl)

-- the next row with one row more
next_put : (past : Option OutPoint) (at : OutPoint) (row : OutRow) (es : List Entry) → T (is_sorted outpoint_cmp es) → find outpoint_cmp at es ≡ None
    → next_of past (put outpoint_cmp at row es) ≡ nearer past (next_of past es) at (Some row)
next_put past at row [] sorted none = refl
next_put past at row (e ∷ es) sorted none = by_cmp (next_put past at row es) (outpoint_cmp at e.0) refl where
  placed : (r : Ordering) → outpoint_cmp at e.0 ≡ r
      → next_of past (put outpoint_cmp at row (e ∷ es)) ≡ next_of past (by_order r ((at, row) ∷ e ∷ es) ((e.0, row) ∷ es) (e ∷ put outpoint_cmp at row es))
  placed r is = ap (λ (o : Ordering). next_of past (by_order o ((at, row) ∷ e ∷ es) ((e.0, row) ∷ es) (e ∷ put outpoint_cmp at row es))) is

  found : (r : Ordering) → outpoint_cmp at e.0 ≡ r → cond (is_eq r) (Some e.1) (find outpoint_cmp at es) ≡ None
  found r is = sym (ap (λ (o : Ordering). cond (is_eq o) (Some e.1) (find outpoint_cmp at es)) is) ∙ none

  below : outpoint_cmp at e.0 ≡ Less → T (below_all outpoint_cmp at (e ∷ es))
  below less =
      T_both (is_lt (outpoint_cmp at e.0)) (below_all outpoint_cmp at es) (ap is_lt less)
      (below_more at e.0 es less (T_first (below_all outpoint_cmp e.0 es) (is_sorted outpoint_cmp es) sorted))

  by_test : (T (is_sorted outpoint_cmp es) → find outpoint_cmp at es ≡ None → next_of past (put outpoint_cmp at row es) ≡ nearer past (next_of past es) at (Some row))
      → (b : Bool) → is_past past e.0 ≡ b → outpoint_cmp at e.0 ≡ Greater
      → next_of past (e ∷ put outpoint_cmp at row es) ≡ nearer past (next_of past (e ∷ es)) at (Some row)
  by_test behind true here greater =
      head_next past e (put outpoint_cmp at row es) true here
      ∙ sym (same_both (is_past past at) (Some e))
      ∙ sym (ap (λ (r : Ordering). cond (is_past past at) (cond (is_lt r) (Some (at, row)) (Some e)) (Some e)) greater)
      ∙ sym (ap (λ (o : Option Entry). nearer past o at (Some row)) (head_next past e es true here))
  by_test behind false later greater =
      head_next past e (put outpoint_cmp at row es) false later
      ∙ behind (T_second (below_all outpoint_cmp e.0 es) (is_sorted outpoint_cmp es) sorted) (found Greater greater)
      ∙ sym (ap (λ (o : Option Entry). nearer past o at (Some row)) (head_next past e es false later))

  by_cmp : (T (is_sorted outpoint_cmp es) → find outpoint_cmp at es ≡ None → next_of past (put outpoint_cmp at row es) ≡ nearer past (next_of past es) at (Some row))
      → (r : Ordering) → outpoint_cmp at e.0 ≡ r → next_of past (put outpoint_cmp at row (e ∷ es)) ≡ nearer past (next_of past (e ∷ es)) at (Some row)
  by_cmp behind Less less =
      placed Less less
      ∙ sym (ap (λ (o : Option Entry). cond (is_past past at) o (next_of past (e ∷ es)))
      (before_all (next_of past (e ∷ es)) (at, row) (λ x is. next_below past at (e ∷ es) x (below less) is)))
  by_cmp behind Equal tie = absurd (some_row e.1 (found Equal tie))
  by_cmp behind Greater greater = placed Greater greater ∙ by_test behind (is_past past e.0) refl greater

-- ---- the earliest of several

abbrev merged : Option Entry → Option Entry → Option Entry
merged best None = best
merged best (Some e) = earlier best e

merged_none : (next : Option Entry) → merged None next ≡ next
merged_none None = refl
merged_none (Some e) = refl

not_same : (a b : OutPoint) → outpoint_cmp a b ≡ Equal → is_same a b ≡ false → ⊥
not_same a b tie other = absurd (cc (sym (ap is_eq tie) ∙ other))

not_less : (r : Ordering) → r ≡ Less → r ≡ Equal → ⊥
not_less r is other = absurd (subst (λ (o : Ordering). T (is_lt o)) (sym is ∙ other) tt)

not_less_greater : (r : Ordering) → r ≡ Less → r ≡ Greater → ⊥
not_less_greater r is other = absurd (subst (λ (o : Ordering). T (is_lt o)) (sym is ∙ other) tt)

-- what comes of three rows, by how they stand to one another
abbrev by_left : (b e x : Entry) → Ordering → Ordering → Ordering → Option Entry
by_left b e x Less xe xb = cond (is_lt xe) (Some x) (Some e)
by_left b e x Equal xe xb = cond (is_lt xb) (Some x) (Some b)
by_left b e x Greater xe xb = cond (is_lt xb) (Some x) (Some b)

abbrev by_right : (b e x : Entry) → Ordering → Ordering → Ordering → Option Entry
by_right b e x eb Less xb = cond (is_lt eb) (Some e) (Some b)
by_right b e x eb Equal xb = cond (is_lt xb) (Some x) (Some b)
by_right b e x eb Greater xb = cond (is_lt xb) (Some x) (Some b)

left_is : (b e x : Entry) (eb : Ordering) → outpoint_cmp e.0 b.0 ≡ eb → merged (earlier (Some b) e) (Some x) ≡ by_left b e x eb (outpoint_cmp x.0 e.0) (outpoint_cmp x.0 b.0)
left_is b e x Less is = ap (λ (r : Ordering). merged (cond (is_lt r) (Some e) (Some b)) (Some x)) is
left_is b e x Equal is = ap (λ (r : Ordering). merged (cond (is_lt r) (Some e) (Some b)) (Some x)) is
left_is b e x Greater is = ap (λ (r : Ordering). merged (cond (is_lt r) (Some e) (Some b)) (Some x)) is

right_is : (b e x : Entry) (ex : Ordering) → outpoint_cmp e.0 x.0 ≡ ex → merged (Some b) (earlier (Some x) e) ≡ by_right b e x (outpoint_cmp e.0 b.0) ex (outpoint_cmp x.0 b.0)
right_is b e x Less is = ap (λ (r : Ordering). merged (Some b) (cond (is_lt r) (Some e) (Some x))) is
right_is b e x Equal is = ap (λ (r : Ordering). merged (Some b) (cond (is_lt r) (Some e) (Some x))) is
right_is b e x Greater is = ap (λ (r : Ordering). merged (Some b) (cond (is_lt r) (Some e) (Some x))) is

module _ (b e x : Entry) (apart : is_same e.0 x.0 ≡ false) where
  turned : (ex : Ordering) → outpoint_cmp e.0 x.0 ≡ ex → outpoint_cmp x.0 e.0 ≡ ordering_reverse ex
  turned ex is = outpoints_total.antisymm x.0 e.0 ∙ ap ordering_reverse is

  -- the last is no less than the first where the middle one comes before it
  not_before : (eb xb : Ordering) → outpoint_cmp e.0 b.0 ≡ eb → outpoint_cmp e.0 x.0 ≡ Less → outpoint_cmp x.0 b.0 ≡ xb → (eb ≡ Less → ⊥) → cond (is_lt xb) (Some x) (Some b) ≡ Some b
  not_before eb Less of_eb less of_xb other = absurd (other (sym of_eb ∙ outpoints_total.trans e.0 x.0 b.0 less of_xb))
  not_before eb Equal of_eb less of_xb other = refl
  not_before eb Greater of_eb less of_xb other = refl

  alike : (eb ex xb : Ordering) → outpoint_cmp e.0 b.0 ≡ eb → outpoint_cmp e.0 x.0 ≡ ex → outpoint_cmp x.0 b.0 ≡ xb → by_left b e x eb (ordering_reverse ex) xb ≡ by_right b e x eb ex xb
  alike eb Equal xb of_eb of_ex of_xb = absurd (not_same e.0 x.0 of_ex apart)
  alike Less Less xb of_eb of_ex of_xb = refl
  alike Equal Less xb of_eb of_ex of_xb = not_before Equal xb of_eb of_ex of_xb (λ is. not_less Equal is refl)
  alike Greater Less xb of_eb of_ex of_xb = not_before Greater xb of_eb of_ex of_xb (λ is. not_less_greater Greater is refl)
  alike Less Greater xb of_eb of_ex of_xb =
      sym (ap (λ (r : Ordering). cond (is_lt r) (Some x) (Some b)) (sym of_xb ∙ outpoints_total.trans x.0 e.0 b.0 (turned Greater of_ex) of_eb))
  alike Equal Greater xb of_eb of_ex of_xb = refl
  alike Greater Greater xb of_eb of_ex of_xb = refl

  three : merged (earlier (Some b) e) (Some x) ≡ merged (Some b) (earlier (Some x) e)
  three =
      left_is b e x (outpoint_cmp e.0 b.0) refl
      ∙ ap (λ (r : Ordering). by_left b e x (outpoint_cmp e.0 b.0) r (outpoint_cmp x.0 b.0)) (turned (outpoint_cmp e.0 x.0) refl)
      ∙ alike (outpoint_cmp e.0 b.0) (outpoint_cmp e.0 x.0) (outpoint_cmp x.0 b.0) refl refl refl
      ∙ sym (right_is b e x (outpoint_cmp e.0 x.0) refl)

  two : (ex : Ordering) → outpoint_cmp e.0 x.0 ≡ ex → cond (is_lt (ordering_reverse ex)) (Some x) (Some e) ≡ merged None (cond (is_lt ex) (Some e) (Some x))
  two Less is = refl
  two Equal is = absurd (not_same e.0 x.0 is apart)
  two Greater is = refl

-- the earliest of the best so far, a row and the next of others
merge_step : (best : Option Entry) (e : Entry) (next : Option Entry) → ((x : Entry) → next ≡ Some x → is_same e.0 x.0 ≡ false)
    → merged (earlier best e) next ≡ merged best (earlier next e)
merge_step best e None apart = refl
merge_step None e (Some x) apart =
    ap (λ (r : Ordering). cond (is_lt r) (Some x) (Some e)) (outpoints_total.antisymm x.0 e.0)
    ∙ two x e x (apart x refl) (outpoint_cmp e.0 x.0) refl
merge_step (Some b) e (Some x) apart = three b e x (apart x refl)

-- ---- all slots

no_length : (es : List Entry) → length es ≡ 0 → es ≡ []
no_length [] is = refl
no_length (e ∷ es) is = absurd (omega (arith, is))

none_empty : entries (empty {X = OutRow} {R = outpoint_cmp}) ≡ []
none_empty = no_length _ (sym (len-entries (empty {X = OutRow} {R = outpoint_cmp})) ∙ len-empty outpoint_cmp OutRow)

removed_none : (m : Outputs) (at : OutPoint) → get m at ≡ None → remove m at ≡ m
removed_none m at none = same_map outpoints_total outpoints_exact (remove m at) m (λ q. get-remove outpoints_total m at q ∙ by_same q (same_or_not q at)) where
  by_same : (q : OutPoint) → (q ≡ at) ⊎ (is_same q at ≡ false) → cond (is_same q at) None (get m q) ≡ get m q
  by_same q (inl same) =
      ap (λ (t : Bool). cond t None (get m q)) (ap (is_same q) (sym same) ∙ same_itself q)
      ∙ sym (ap (get m) same ∙ none)
  by_same q (inr other) = ap (λ (t : Bool). cond t None (get m q)) other

one_slot : (past : Option OutPoint) (best : Option Entry) (m : Outputs) (at : OutPoint) (row : Option OutRow) → get m at ≡ None
    → merged (nearer past best at row) (next_of past (entries m)) ≡ merged best (next_of past (entries (put_slot m at row)))
one_slot past best m at None none = ap (λ (n : Outputs). merged best (next_of past (entries n))) (sym (removed_none m at none))
one_slot past best m at (Some row) none = by_test (is_past past at) refl ∙ sym (ap (merged best) with_row) where
  nowhere : find outpoint_cmp at (entries m) ≡ None
  nowhere = sym (get-entries m at) ∙ none

  with_row : next_of past (entries (insert m at row)) ≡ nearer past (next_of past (entries m)) at (Some row)
  with_row = ap (next_of past) (entries-insert outpoints_total m at row) ∙ next_put past at row (entries m) (entries_sorted m) nowhere

  by_test : (b : Bool) → is_past past at ≡ b
      → merged (nearer past best at (Some row)) (next_of past (entries m)) ≡ merged best (nearer past (next_of past (entries m)) at (Some row))
  by_test true here =
      ap (λ (t : Bool). merged (cond t (earlier best (at, row)) best) (next_of past (entries m))) here
      ∙ merge_step best (at, row) (next_of past (entries m)) (λ x is. next_apart past at (entries m) x nowhere is)
      ∙ sym (ap (λ (t : Bool). merged best (cond t (earlier (next_of past (entries m)) (at, row)) (next_of past (entries m)))) here)
  by_test false before =
      ap (λ (t : Bool). merged (cond t (earlier best (at, row)) best) (next_of past (entries m))) before
      ∙ sym (ap (λ (t : Bool). merged best (cond t (earlier (next_of past (entries m)) (at, row)) (next_of past (entries m)))) before)

-- the next row when these slots are known too
abbrev pub next_among : Option OutPoint → Option Entry → SlotList → Option Entry
next_among past best [] = best
next_among past best (None ∷ slots) = next_among past best slots
next_among past best (Some s ∷ slots) = next_among past (nearer past best s.at s.row) slots

among_all : (past : Option OutPoint) (best : Option Entry) (slots : SlotList) → AreApart slots → next_among past best slots ≡ merged best (next_of past (entries (rows_of slots)))
among_all past best [] apart = sym (ap (λ (es : List Entry). merged best (next_of past es)) none_empty)
among_all past best (None ∷ slots) apart = among_all past best slots (rest_apart None slots apart)
among_all past best (Some s ∷ slots) apart =
    among_all past (nearer past best s.at s.row) slots (rest_apart (Some s) slots apart)
    ∙ one_slot past best (rows_of slots) s.at s.row (get-nowhere slots s.at (first_alone s slots apart))

-- ---- one by one

pub next_begins : (past : Option OutPoint) (slots : SlotList) → AreApart slots → next_among past None slots ≡ next_of past (entries (rows_of slots))
next_begins past slots apart = among_all past None slots apart ∙ merged_none (next_of past (entries (rows_of slots)))

-- a row that is known more
with_entry : (past : Option OutPoint) (best : Option Entry) (slot : Option Slot) (slots : SlotList) (e : Entry) → Some e ≡ entry_from slot → next_among past best (slot ∷ slots) ≡ next_among past (nearer past best e.0 (Some e.1)) slots
with_entry past best None slots e is = absurd (cc is)
with_entry past best (Some s) slots e is = by_row s.row is where
  by_row : (row : Option OutRow) → Some e ≡ option_map (λ row. (s.at, row)) row → next_among past (nearer past best s.at row) slots ≡ next_among past (nearer past best e.0 (Some e.1)) slots
  by_row None is = absurd (cc is)
  by_row (Some row) is = ap (λ (o : Option Entry). let x = unwrap_or o e in next_among past (nearer past best x.0 (Some x.1)) slots) (sym is)

without_entry : (past : Option OutPoint) (best : Option Entry) (slot : Option Slot) (slots : SlotList) → None ≡ entry_from slot → next_among past best (slot ∷ slots) ≡ next_among past best slots
without_entry past best None slots none = refl
without_entry past best (Some s) slots none = by_row s.row none where
  by_row : (row : Option OutRow) → None ≡ option_map {T = OutRow} {U = Entry} (λ row. (s.at, row)) row → next_among past (nearer past best s.at row) slots ≡ next_among past best slots
  by_row None none = refl
  by_row (Some row) none = absurd (cc none)

pub next_goes : (past : Option OutPoint) (best new : Option Entry) (slots : SlotList) (k : ℕ) (e : Entry) (all : Option Entry) → k < length slots → Some e ≡ entry_from (slot_at slots k)
    → new ≡ nearer past best e.0 (Some e.1) → next_among past best (drop k slots) ≡ all → next_among past new (drop (k + 1) slots) ≡ all
next_goes past best new slots k e all low is steps so_far =
    ap (λ (o : Option Entry). next_among past o (drop (k + 1) slots)) steps
    ∙ sym (with_entry past best (slot_at slots k) (drop (k + 1) slots) e is)
    ∙ sym (ap (next_among past best) (drop_more slots k None low)) ∙ so_far

pub next_stays : (past : Option OutPoint) (best : Option Entry) (slots : SlotList) (k : ℕ) (all : Option Entry) → k < length slots → None ≡ entry_from (slot_at slots k)
    → next_among past best (drop k slots) ≡ all → next_among past best (drop (k + 1) slots) ≡ all
next_stays past best slots k all low none so_far =
    sym (without_entry past best (slot_at slots k) (drop (k + 1) slots) none)
    ∙ sym (ap (next_among past best) (drop_more slots k None low)) ∙ so_far

pub next_ends : (past : Option OutPoint) (best : Option Entry) (slots : SlotList) (k : ℕ) (all : Option Entry) → length slots ≤ k → next_among past best (drop k slots) ≡ all → best ≡ all
next_ends past best slots k all high so_far = sym (ap (next_among past best) (drop_all k slots high)) ∙ so_far

-- Lists of places: what an entry more, and places fewer, leave.
use Rattle.std.proofs.Common.{rules, tests, ◌≡◌, ◌≢◌, ◌∙◌, ℕ, zero, suc, ◌+◌, ◌-◌, ◌<◌, ◌≤◌, Bool, true, false, List, [], ◌∷◌, ◌++◌, length, get_or, slice_set, swap_remove, refl, sym, ap, inl, inr, ⊎_elim, true≢false, arith}
use Rattle.std.specs.Prelude.{◌⊎◌, ◌==◌, ◌&&◌, ◌||◌}
use Rattle.std.specs.Global.{Vec}
use Rattle.std.proofs.lemmas.Bool.{cases_eq, ne_eqb}
use Rattle.std.proofs.lemmas.Grind.{get_or-set_at}
use Rattle.std.proofs.lemmas.List.{get_or-take, get_or-set_other}
use Rattle.std.proofs.lemmas.List.Sorted.{IsPermutation-swap_remove, list_any-IsPermutation}
use Rattle.ox_outputs.specs.declared.entry.Entry.{Entry}
use Rattle.ox_outputs.specs.Lists.{items_at, is_in}

-- ---- many lists

-- the list that has changed, and another one
pub set_here : (lists : List (Vec Entry)) (i : ℕ) (v : Vec Entry) → i < length lists → items_at (slice_set lists i v) i ≡ v.items
set_here [] i v low = absurd (omega arith)
set_here (l ∷ lists) zero v low = refl
set_here (l ∷ lists) (suc i) v low = set_here lists i v (omega arith)

pub set_elsewhere : (lists : List (Vec Entry)) (i j : ℕ) (v : Vec Entry) → i ≢ j → items_at (slice_set lists i v) j ≡ items_at lists j
set_elsewhere [] i j v other = refl
set_elsewhere (l ∷ lists) zero zero v other = absurd (other refl)
set_elsewhere (l ∷ lists) zero (suc j) v other = refl
set_elsewhere (l ∷ lists) (suc i) zero v other = refl
set_elsewhere (l ∷ lists) (suc i) (suc j) v other = set_elsewhere lists i j v (λ same. other (ap suc same))

pub items_there : (lists : List (Vec Entry)) (i : ℕ) (v : Vec Entry) → i < length lists → v ≡ get_or lists i v → items_at lists i ≡ v.items
items_there [] i v low is = absurd (omega arith)
items_there (l ∷ lists) zero v low is = ap (λ (v : Vec Entry). v.items) (sym is)
items_there (l ∷ lists) (suc i) v low is = items_there lists i v (omega arith) is

-- ---- one list

in_either : (a b : Bool) → b ≡ true → (a || b) ≡ true
in_either true b is = refl
in_either false b is = is

either : (a b : Bool) → (a || b) ≡ true → (a ≡ true) ⊎ (b ≡ true)
either true b is = inl refl
either false b is = inr is

neither : (a b : Bool) → a ≡ false → b ≡ false → (a || b) ≡ false
neither true b is too = is
neither false b is too = too

both : (a b : Bool) → (a && b) ≡ true → (a ≡ true) × (b ≡ true)
both true b is = (refl, is)
both false b is = absurd (cc is)

right_false : (a b : Bool) → b ≡ false → (a && b) ≡ false
right_false true b is = is
right_false false b is = refl

same_entry : (tag place : ℕ) → ((tag == tag) && (place == place)) ≡ true
same_entry tag place = search (rules, tests)

same_number : (a b : ℕ) → (a == b) ≡ true → a ≡ b
same_number a b is = search (rules, tests)

-- an entry is in a list to which it was added
pub added_is_in : (list : List Entry) (tag place : ℕ) → is_in (list ++ record { tag = tag; place = place } ∷ []) tag place ≡ true
added_is_in [] tag place = ap (λ (a : Bool). a || false) (same_entry tag place)
added_is_in (e ∷ list) tag place = in_either _ _ (added_is_in list tag place)

-- and the others still are
pub still_in : (list : List Entry) (e : Entry) (tag place : ℕ) → is_in list tag place ≡ true → is_in (list ++ e ∷ []) tag place ≡ true
still_in [] e tag place is = absurd (cc is)
still_in (x ∷ list) e tag place is = ⊎_elim
    (λ here. ap (λ (a : Bool). a || is_in (list ++ e ∷ []) tag place) here)
    (λ behind. in_either _ _ (still_in list e tag place behind))
    (either _ _ is)

-- where an entry stands
pub stands_at : (list : List Entry) (tag place : ℕ) → is_in list tag place ≡ true → (k : ℕ) × (k < length list) × ((d : Entry) → ((get_or list k d).tag ≡ tag) × ((get_or list k d).place ≡ place))
stands_at [] tag place is = absurd (cc is)
stands_at (e ∷ list) tag place is = ⊎_elim
    (λ here. let two = both _ _ here in (zero, omega arith, λ d. (same_number e.tag tag two.0, same_number e.place place two.1)))
    (λ behind. let at = stands_at list tag place behind in (suc at.0, omega (arith, at.1), at.2))
    (either _ _ is)

-- entries of other places than one, from a number on
abbrev pub AreOthers : ℕ → ℕ → List Entry → Type 0
AreOthers place from list = (k : ℕ) (d : Entry) → from ≤ k → k < length list → (get_or list k d).place ≢ place

-- an entry goes, and the last one, which is of another place, comes to where it was
pub others_less : (list new : List Entry) (place from i : ℕ) (x : Entry) → from ≤ i + 1 → i < length list → length new + 1 ≡ length list → new ≡ swap_remove list i x → AreOthers place from list → AreOthers place i new
others_less list new place from i x next within less is others k d low high here =
    let last : ℕ = length list - 1 in
    let set = slice_set list i (get_or list last x) in
    let at : get_or new k d ≡ get_or set k d = ap (λ (l : List Entry). get_or l k d) is ∙ get_or-take last set k d (omega (arith, less, high)) in
    ⊎_elim
    (λ same. others last x (omega (arith, next, less, low, high)) (omega (arith, within))
    (ap (λ (e : Entry). e.place) (sym (at ∙ get_or-set_at list i k (get_or list last x) d same within)) ∙ here))
    (λ other. others k d (omega (arith, next, low, other)) (omega (arith, less, high))
    (ap (λ (e : Entry). e.place) (sym (at ∙ get_or-set_other list i k (get_or list last x) d other)) ∙ here))
    (cases_eq k i)

-- and no other entry goes with it
less_in : (list new : List Entry) (i : ℕ) (x : Entry) (tag place : ℕ) → i < length list → x ≡ get_or list i x → ((x.tag == tag) && (x.place == place)) ≡ false → new ≡ swap_remove list i x → is_in new tag place ≡ is_in list tag place
less_in list new i x tag place within at differs is =
    ap (λ (l : List Entry). is_in l tag place) is
    ∙ sym (ap (λ (b : Bool). b || is_in (swap_remove list i x) tag place) differs)
    ∙ sym (list_any-IsPermutation (λ (e : Entry). (e.tag == tag) && (e.place == place)) list (x ∷ swap_remove list i x) (IsPermutation-swap_remove list i x within at))

-- an entry of a place goes, and none of a further place with it
pub left_in : (list new : List Entry) (place i : ℕ) (x : Entry) (tag other : ℕ) → i < length list → x ≡ get_or list i x → x.place ≡ place → new ≡ swap_remove list i x → other ≢ place → is_in new tag other ≡ is_in list tag other
left_in list new place i x tag other within at here is differs =
    less_in list new i x tag other within at (right_false (x.tag == tag) (x.place == other) (ne_eqb x.place other (λ same. differs (sym same ∙ here)))) is

-- an entry whose tag passes goes, and none with it whose tag doesn't
pub unpassed_in : (passes : ℕ → Bool) (list new : List Entry) (i : ℕ) (x : Entry) (tag place : ℕ) → i < length list → x ≡ get_or list i x → passes x.tag ≡ true → new ≡ swap_remove list i x → passes tag ≡ false → is_in new tag place ≡ is_in list tag place
unpassed_in passes list new i x tag place within at gone is stays =
    less_in list new i x tag place within at (ap (λ (b : Bool). b && (x.place == place)) (ne_eqb x.tag tag (λ same. true≢false (sym gone ∙ ap passes same ∙ stays)))) is

-- a place of which no entry is left isn't there
pub others_out : (list : List Entry) (place tag : ℕ) → AreOthers place 0 list → is_in list tag place ≡ false
others_out list place tag others = by_test (is_in list tag place) refl where
  by_test : (b : Bool) → is_in list tag place ≡ b → is_in list tag place ≡ false
  by_test false is = is
  by_test true is =
      let at = stands_at list tag place is in
      let e : Entry = record { tag = 0; place = 0 } in
      absurd (others at.0 e (omega arith) at.1 (at.2 e).1)

-- ---- entries that go to another list

-- each of these entries whose tag passes, from the first to a number, is in another list
module _ (passes : ℕ → Bool) (list : List Entry) where
  abbrev pub AreGone : List Entry → ℕ → Type 0
  AreGone last n = (k : ℕ) (d : Entry) → k < n → passes (get_or list k d).tag ≡ true → is_in last (get_or list k d).tag (get_or list k d).place ≡ true

  -- the next one goes too
  pub gone_more : (last new : List Entry) (n : ℕ) (e : Entry) → ((d : Entry) → get_or list n d ≡ e) → new ≡ last ++ e ∷ [] → AreGone last n → AreGone new (n + 1)
  gone_more last new n e at is gone k d low passed = ap (λ (l : List Entry). is_in l (get_or list k d).tag (get_or list k d).place) is ∙ by (cases_eq k n) where
    by : (k ≡ n) ⊎ (k ≢ n) → is_in (last ++ e ∷ []) (get_or list k d).tag (get_or list k d).place ≡ true
    by (inl same) =
        ap (λ (x : Entry). is_in (last ++ e ∷ []) x.tag x.place) (ap (λ (i : ℕ). get_or list i d) same ∙ at d)
        ∙ added_is_in last e.tag e.place
    by (inr other) = still_in last e _ _ (gone k d (omega (arith, low, other)) passed)

  -- the next one doesn't pass
  pub gone_as_far : (last new : List Entry) (n : ℕ) (e : Entry) → ((d : Entry) → get_or list n d ≡ e) → passes e.tag ≡ false → new ≡ last → AreGone last n → AreGone new (n + 1)
  gone_as_far last new n e at stays is gone k d low passed = ap (λ (l : List Entry). is_in l (get_or list k d).tag (get_or list k d).place) is ∙ by (cases_eq k n) where
    by : (k ≡ n) ⊎ (k ≢ n) → is_in last (get_or list k d).tag (get_or list k d).place ≡ true
    by (inl same) = absurd (true≢false (sym passed ∙ ap (λ (x : Entry). passes x.tag) (ap (λ (i : ℕ). get_or list i d) same ∙ at d) ∙ stays))
    by (inr other) = gone k d (omega (arith, low, other)) passed

  -- all have gone
  pub gone_all : (last new : List Entry) → new ≡ last → AreGone last (length list) → (tag place : ℕ) → passes tag ≡ true → is_in list tag place ≡ true → is_in new tag place ≡ true
  gone_all last new is gone tag place passed there =
      let at = stands_at list tag place there in
      let e : Entry = record { tag = 0; place = 0 } in
      ap (λ (l : List Entry). is_in l tag place) is
      ∙ sym (ap (λ (t : ℕ). is_in last t place) (at.2 e).0)
      ∙ sym (ap (λ (p : ℕ). is_in last (get_or list at.0 e).tag p) (at.2 e).1)
      ∙ gone at.0 e at.1 (ap passes (at.2 e).0 ∙ passed)

-- ---- one of many lists

-- an entry more in one list: it is there
pub pushed_here : (lists : List (Vec Entry)) (i j : ℕ) (old : List Entry) (v : Vec Entry) (e tag place : ℕ) → i < length lists → i ≡ j → e ≡ tag → v.items ≡ old ++ record { tag = e; place = place } ∷ []
    → is_in (items_at (slice_set lists i v) j) tag place ≡ true
pushed_here lists i j old v e tag place low is tagged items =
    ap (λ (l : List Entry). is_in l tag place)
    (ap (items_at (slice_set lists i v)) (sym is) ∙ set_here lists i v low ∙ items ∙ ap (λ (t : ℕ). old ++ record { tag = t; place = place } ∷ []) tagged)
    ∙ added_is_in old tag place

-- and the others still are
pub pushed_still : (lists : List (Vec Entry)) (i j : ℕ) (x v : Vec Entry) (e : Entry) (tag place : ℕ) → i < length lists → x ≡ get_or lists i x → v.items ≡ x.items ++ e ∷ []
    → is_in (items_at lists j) tag place ≡ true → is_in (items_at (slice_set lists i v) j) tag place ≡ true
pushed_still lists i j x v e tag place low there items is = ⊎_elim
    (λ same.
    ap (λ (l : List Entry). is_in l tag place) (ap (items_at (slice_set lists i v)) (sym same) ∙ set_here lists i v low ∙ items)
    ∙ still_in x.items e tag place (ap (λ (l : List Entry). is_in l tag place) (sym (items_there lists i x low there) ∙ ap (items_at lists) same) ∙ is))
    (λ other. ap (λ (l : List Entry). is_in l tag place) (set_elsewhere lists i j v other) ∙ is)
    (cases_eq i j)

-- a list that is written back with the same entries
pub set_again : (lists : List (Vec Entry)) (i j : ℕ) (x v : Vec Entry) → i < length lists → x ≡ get_or lists i x → v.items ≡ x.items → items_at (slice_set lists i v) j ≡ items_at lists j
set_again lists i j x v low there is = ⊎_elim
    (λ same. ap (items_at (slice_set lists i v)) (sym same) ∙ set_here lists i v low ∙ is ∙ sym (items_there lists i x low there) ∙ ap (items_at lists) same)
    (λ other. set_elsewhere lists i j v other)
    (cases_eq i j)

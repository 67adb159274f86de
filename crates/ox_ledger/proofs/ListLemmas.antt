-- Lists by the values at their places.
use Rattle.std.proofs.Common.{◌≡◌, ◌≢◌, ◌∙◌, ℕ, zero, suc, ◌+◌, ◌<◌, ◌≤◌, Bool, true, false, true≢false, cond, List, [], ◌∷◌, ◌++◌, length, take, refl, sym, ap, subst, Option, Some, None, arith, length-append, Ordering}
use Rattle.std.specs.Prelude.{IsSome, slice_get, slice_set}
use Rattle.std.specs.Option.{IfSome, option_map, unwrap_or}
use Rattle.std.specs.Ordering.{is_eq, nat_cmp}
use Rattle.std.specs.declared.cmp.Ordering.TheVariants.{Less, Equal, Greater}
use Rattle.std.specs.Cmp.{tied_itself}
use Rattle.std.specs.FinMap.{nat_cmp-IsAntisymmetric}
use Rattle.std.proofs.lemmas.Cmp.{nat_cmp_total}
use Rattle.ox_rules.specs.Transfer.{as_list}
use Rattle.ox_ledger.specs.Marks.{IsFull, listed}

below_or_last : (P : Type 0) (i n : ℕ) → i < suc n → (i < n → P) → (i ≡ n → P) → P
below_or_last P zero zero less first second = second refl
below_or_last P zero (suc n) less first second = first (omega arith)
below_or_last P (suc i) zero less first second = absurd (omega (arith, less))
below_or_last P (suc i) (suc n) less first second = below_or_last P i n (omega (arith, less)) (λ l. first (omega (arith, l))) (λ e. second (ap suc e))

pub same_or_other : (P : Type 0) (i k : ℕ) → (i ≡ k → P) → (i ≢ k → P) → P
same_or_other P zero zero first second = first refl
same_or_other P zero (suc k) first second = second (λ e. absurd (omega (arith, e)))
same_or_other P (suc i) zero first second = second (λ e. absurd (omega (arith, e)))
same_or_other P (suc i) (suc k) first second = same_or_other P i k (λ e. first (ap suc e)) (λ other. second (λ e. other (omega (arith, e))))

equal : (r : Ordering) → is_eq r ≡ true → r ≡ Equal
equal Less p = absurd (true≢false (sym p))
equal Equal p = refl
equal Greater p = absurd (true≢false (sym p))

pub tied : (k : ℕ) → is_eq (nat_cmp k k) ≡ true
tied k = ap is_eq (tied_itself nat_cmp_total k)

pub not_tied : (k i : ℕ) → k ≢ i → is_eq (nat_cmp k i) ≡ false
not_tied k i other = by_test (is_eq (nat_cmp k i)) refl where
  by_test : (b : Bool) → is_eq (nat_cmp k i) ≡ b → b ≡ false
  by_test true is = absurd (other (nat_cmp-IsAntisymmetric k i (equal (nat_cmp k i) is)))
  by_test false is = refl

module _ {A : Type 0} where
  one_long : (there : Option A) → IsSome there → length (as_list there) ≡ 1
  one_long None some = absurd (cc some)
  one_long (Some x) some = refl

  pub full_below : (at : ℕ → Option A) (n m : ℕ) → m ≤ n → IsFull at n → IsFull at m
  full_below at n m less full = λ i below. full i (omega (arith, less, below))

  pub length-listed : (at : ℕ → Option A) (n : ℕ) → IsFull at n → length (listed at n) ≡ n
  unfolding listed
  length-listed at zero full = refl
  length-listed at (suc n) full =
      let before = length-listed at n (full_below at (suc n) n (omega arith) full) in
      let last = one_long (at n) (full n (omega arith)) in
      omega (arith, length-append (listed at n) (as_list (at n)), before, last)

  pub full_same : (a b : ℕ → Option A) (n : ℕ) → ((i : ℕ) → b i ≡ a i) → IsFull a n → IsFull b n
  full_same a b n same full = λ i less. subst IsSome (sym (same i)) (full i less)

  pub listed_same : (a b : ℕ → Option A) (n : ℕ) → ((i : ℕ) → i < n → a i ≡ b i) → listed a n ≡ listed b n
  unfolding listed
  listed_same a b zero same = refl
  listed_same a b (suc n) same =
      ap (λ l. l ++ as_list (a n)) (listed_same a b n (λ i below. same i (omega (arith, below)))) ∙ ap (λ x. listed b n ++ as_list x) (same n (omega arith))

  slice_get_front : (xs ys : List A) (i : ℕ) → i < length xs → slice_get (xs ++ ys) i ≡ slice_get xs i
  slice_get_front [] ys i less = absurd (omega (arith, less))
  slice_get_front (x ∷ xs) ys zero less = refl
  slice_get_front (x ∷ xs) ys (suc i) less = slice_get_front xs ys i (omega (arith, less))

  slice_get_next : (xs : List A) (n : ℕ) (there : Option A) → length xs ≡ n → IsSome there → slice_get (xs ++ as_list there) n ≡ there
  slice_get_next xs n None is some = absurd (cc some)
  slice_get_next [] zero (Some x) is some = refl
  slice_get_next [] (suc n) (Some x) is some = absurd (omega (arith, is))
  slice_get_next (y ∷ xs) zero (Some x) is some = absurd (omega (arith, is))
  slice_get_next (y ∷ xs) (suc n) (Some x) is some = slice_get_next xs n (Some x) (omega (arith, is)) some

  pub get-listed : (at : ℕ → Option A) (n i : ℕ) → IsFull at n → i < n → slice_get (listed at n) i ≡ at i
  unfolding listed
  get-listed at zero i full less = absurd (omega (arith, less))
  get-listed at (suc n) i full less =
      let before = full_below at (suc n) n (omega arith) full in
      let long = length-listed at n before in
      below_or_last (slice_get (listed at n ++ as_list (at n)) i ≡ at i) i n less
      (λ first. slice_get_front (listed at n) (as_list (at n)) i (omega (arith, long, first)) ∙ get-listed at n i before first)
      (λ is. ap (λ k. slice_get (listed at n ++ as_list (at n)) k) is ∙ slice_get_next (listed at n) n (at n) long (full n (omega arith)) ∙ ap at (sym is))

  value_in : (x y : A) → Some x ≡ Some y → x ≡ y
  value_in x y is = cc is

  -- lists with the same values at their places
  pub same_by_places : (xs ys : List A) → length xs ≡ length ys → ((i : ℕ) → i < length xs → slice_get xs i ≡ slice_get ys i) → xs ≡ ys
  same_by_places [] [] long same = refl
  same_by_places [] (y ∷ ys) long same = absurd (omega (arith, long))
  same_by_places (x ∷ xs) [] long same = absurd (omega (arith, long))
  same_by_places (x ∷ xs) (y ∷ ys) long same =
      let first = value_in x y (same 0 (omega arith)) in
      let rest = same_by_places xs ys (omega (arith, long)) (λ i less. same (suc i) (omega (arith, less))) in
      λ i. first i ∷ rest i

  pub length-slice_set : (xs : List A) (k : ℕ) (v : A) → length (slice_set xs k v) ≡ length xs
  length-slice_set [] k v = refl
  length-slice_set (x ∷ xs) zero v = refl
  length-slice_set (x ∷ xs) (suc k) v = let rest = length-slice_set xs k v in omega (arith, rest)

  pub set_here : (xs : List A) (k : ℕ) (v : A) → k < length xs → slice_get (slice_set xs k v) k ≡ Some v
  set_here [] k v less = absurd (omega (arith, less))
  set_here (x ∷ xs) zero v less = refl
  set_here (x ∷ xs) (suc k) v less = set_here xs k v (omega (arith, less))

  pub set_elsewhere : (xs : List A) (k i : ℕ) (v : A) → i ≢ k → slice_get (slice_set xs k v) i ≡ slice_get xs i
  set_elsewhere [] k i v other = refl
  set_elsewhere (x ∷ xs) zero zero v other = absurd (other refl)
  set_elsewhere (x ∷ xs) zero (suc i) v other = refl
  set_elsewhere (x ∷ xs) (suc k) zero v other = refl
  set_elsewhere (x ∷ xs) (suc k) (suc i) v other = set_elsewhere xs k i v (λ e. other (ap suc e))

  -- a value is put at a place
  abbrev pub IsPut : (ℕ → Option A) → (ℕ → Option A) → ℕ → A → Type 0
  IsPut old new k v = (q : ℕ) → new q ≡ cond (is_eq (nat_cmp k q)) (Some v) (old q)

  pub put_here : (old new : ℕ → Option A) (k : ℕ) (v : A) → IsPut old new k v → new k ≡ Some v
  put_here old new k v put = put k ∙ ap (λ b. cond b (Some v) (old k)) (tied k)

  pub put_elsewhere : (old new : ℕ → Option A) (k i : ℕ) (v : A) → IsPut old new k v → i ≢ k → new i ≡ old i
  put_elsewhere old new k i v put other = put i ∙ ap (λ b. cond b (Some v) (old i)) (not_tied k i (λ e. other (sym e)))

  some_by : (there : Option A) (v : A) → there ≡ Some v → IsSome there
  some_by there v is = subst IsSome (sym is) refl

  pub put_full : (old new : ℕ → Option A) (k n : ℕ) (v : A) → IsPut old new k v → IsFull old n → IsFull new n
  put_full old new k n v put full = λ i less.
      same_or_other (IsSome (new i)) i k
      (λ is. some_by (new i) v (ap new is ∙ put_here old new k v put))
      (λ other. subst IsSome (sym (put_elsewhere old new k i v put other)) (full i less))

  pub push_full : (old new : ℕ → Option A) (n : ℕ) (v : A) → IsPut old new n v → IsFull old n → IsFull new (n + 1)
  push_full old new n v put full = λ i less.
      same_or_other (IsSome (new i)) i n
      (λ is. some_by (new i) v (ap new is ∙ put_here old new n v put))
      (λ other. subst IsSome (sym (put_elsewhere old new n i v put other)) (full i (omega (arith, less, other))))

  pub listed_put : (old new : ℕ → Option A) (k n : ℕ) (v : A) → IsPut old new k v → IsFull old n → k < n → listed new n ≡ slice_set (listed old n) k v
  listed_put old new k n v put full less =
      let long = length-listed new n (put_full old new k n v put full) in
      let long_old = length-listed old n full in
      let long_set = length-slice_set (listed old n) k v in
      same_by_places (listed new n) (slice_set (listed old n) k v) (omega (arith, long, long_old, long_set)) (λ i within.
      let below : i < n = omega (arith, within, long) in
      get-listed new n i (put_full old new k n v put full) below
      ∙ same_or_other (new i ≡ slice_get (slice_set (listed old n) k v) i) i k
      (λ is. ap new is ∙ put_here old new k v put ∙ sym (set_here (listed old n) k v (omega (arith, less, long_old))) ∙ ap (slice_get (slice_set (listed old n) k v)) (sym is))
      (λ other. put_elsewhere old new k i v put other ∙ sym (get-listed old n i full below) ∙ sym (set_elsewhere (listed old n) k i v other)))

  pub listed_push : (old new : ℕ → Option A) (n : ℕ) (v : A) → IsPut old new n v → listed new (n + 1) ≡ listed old n ++ v ∷ []
  unfolding listed
  listed_push old new n v put =
      let next : n + 1 ≡ suc n = omega arith in
      ap (listed new) next
      ∙ ap (λ l. l ++ as_list (new n)) (listed_same new old n (λ i less. put_elsewhere old new n i v put (λ e. absurd (omega (arith, e, less)))))
      ∙ ap (λ x. listed old n ++ as_list x) (put_here old new n v put)

  take_front : (xs ys : List A) (m : ℕ) → m ≤ length xs → take m (xs ++ ys) ≡ take m xs
  take_front xs ys zero less = refl
  take_front [] ys (suc m) less = absurd (omega (arith, less))
  take_front (x ∷ xs) ys (suc m) less = ap (λ l. x ∷ l) (take_front xs ys m (omega (arith, less)))

  take_all : (xs : List A) (m : ℕ) → m ≡ length xs → take m xs ≡ xs
  take_all [] zero is = refl
  take_all [] (suc m) is = refl
  take_all (x ∷ xs) zero is = absurd (omega (arith, is))
  take_all (x ∷ xs) (suc m) is = ap (λ l. x ∷ l) (take_all xs m (omega (arith, is)))

  pub listed_cut : (at : ℕ → Option A) (n m : ℕ) → IsFull at n → m ≤ n → listed at m ≡ take m (listed at n)
  unfolding listed
  listed_cut at zero zero full less = refl
  listed_cut at zero (suc m) full less = absurd (omega (arith, less))
  listed_cut at (suc n) m full less =
      let before = full_below at (suc n) n (omega arith) full in
      let long = length-listed at n before in
      same_or_other (listed at m ≡ take m (listed at (suc n))) m (suc n)
      (λ is. ap (listed at) is ∙ sym (take_all (listed at (suc n)) m (is ∙ sym (length-listed at (suc n) full))))
      (λ other. listed_cut at n m before (omega (arith, less, other)) ∙ sym (take_front (listed at n) (as_list (at n)) m (omega (arith, less, other, long))))

  pub listed_none : (at : ℕ → Option A) → listed at 0 ≡ []
  unfolding listed
  listed_none at = refl

  -- ---- a list that is shown

  pub within : (at : ℕ → Option A) (n place : ℕ) (now : List A) → IsFull at n → listed at n ≡ now → place ≤ length now → place ≤ n
  within at n place now full shown less = let long = length-listed at n full in let same = ap length shown in omega (arith, long, same, less)

  pub within_below : (at : ℕ → Option A) (n place : ℕ) (now : List A) → IsFull at n → listed at n ≡ now → place < length now → place < n
  within_below at n place now full shown less = let long = length-listed at n full in let same = ap length shown in omega (arith, long, same, less)

  pub get_value : (at : ℕ → Option A) (n place : ℕ) (now : List A) (value : Option A) → IsFull at n → listed at n ≡ now → place < length now → value ≡ at place → slice_get now place ≡ value
  get_value at n place now value full shown less is =
      ap (λ l. slice_get l place) (sym shown) ∙ get-listed at n place full (within_below at n place now full shown less) ∙ sym is

  pub get_some : (at : ℕ → Option A) (n place : ℕ) (now : List A) → IsFull at n → listed at n ≡ now → place < length now → None ≡ at place → ⊥
  get_some at n place now full shown less none =
      true≢false (sym (subst IsSome (sym none) (full place (within_below at n place now full shown less))))

  -- ---- the list at a mark

  pub then_length : (at : ℕ → Option A) (n : Option ℕ) (end : ℕ) → end ≡ unwrap_or n 0 → IfSome n (IsFull at) → IfSome (option_map (listed at) n) (λ list. end ≡ length list)
  then_length at None end is full = tt
  then_length at (Some n) end is full = is ∙ sym (length-listed at n full)

  -- what there is at the places before an end stays
  abbrev pub Stays : (ℕ → Option A) → (ℕ → Option A) → ℕ → Type 0
  Stays old new end = (q : ℕ) → q < end → IsSome (old q) → new q ≡ old q

  pub then_same : (old new : ℕ → Option A) (n : Option ℕ) (end : ℕ) → end ≡ unwrap_or n 0 → Stays old new end → IfSome n (IsFull old) → option_map (listed new) n ≡ option_map (listed old) n
  then_same old new None end is same full = refl
  then_same old new (Some n) end is same full = ap Some (listed_same new old n (λ i less. same i (omega (arith, is, less)) (full i less)))

  pub then_full : (old new : ℕ → Option A) (n : Option ℕ) (end : ℕ) → end ≡ unwrap_or n 0 → Stays old new end → IfSome n (IsFull old) → IfSome n (IsFull new)
  then_full old new None end is same full = tt
  then_full old new (Some n) end is same full = λ i less. subst IsSome (sym (same i (omega (arith, is, less)) (full i less))) (full i less)

  -- with a mark it is the list of what stood then
  pub then_is : (at : ℕ → Option A) (n : Option ℕ) (end : ℕ) (mark : Option (List A)) → end ≡ unwrap_or n 0 → option_map (listed at) n ≡ mark → IsSome mark → mark ≡ Some (listed at end)
  then_is at None end mark is shown some = absurd (true≢false (sym (subst IsSome (sym shown) some)))
  then_is at (Some n) end mark is shown some = sym shown ∙ ap (λ k. Some (listed at k)) (sym is)

  pub then_now : (at : ℕ → Option A) (n : Option ℕ) (end : ℕ) (mark : Option (List A)) → end ≡ unwrap_or n 0 → option_map (listed at) n ≡ mark → IsSome mark → IfSome n (IsFull at) → IsFull at end
  then_now at None end mark is shown some full = absurd (true≢false (sym (subst IsSome (sym shown) some)))
  then_now at (Some n) end mark is shown some full = subst (IsFull at) (sym is) full

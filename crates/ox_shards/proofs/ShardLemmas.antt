-- What lists and the ordered map behind them have at a key.
use Rattle.std.proofs.Common.{◌≡◌, ◌≢◌, ◌∙◌, ℕ, zero, suc, ◌<◌, ◌≤◌, Bool, true, false, cond, List, [], ◌∷◌, ◌++◌, length, length-set, slice_set, get_or, Option, Some, None, Ordering, refl, sym, ap, subst, true≢false, inl, inr, arith}
use Rattle.std.specs.Prelude.{◌⊎◌, IsSome, IsOk, is_err, OnOk, OnErr}
use Rattle.std.specs.declared.result.Result.{Result}
use Rattle.std.specs.declared.result.Result.TheVariants.{Ok, Err}
use Rattle.std.specs.Ordering.{is_eq}
use Rattle.std.specs.Option.{option_or}
use Rattle.std.specs.List.{IsDistinct}
use Rattle.std.specs.BTreeMap.{is_at}
use Rattle.std.proofs.lemmas.Bool.{cases_eq}
use Rattle.ox_shards.specs.Shards.{Entries, value_at, value_with, joined, entries_of, items_at, IsSound, Changes, AreShards}
use Rattle.ox_shards.proofs.LineLemmas.{side}
use Rattle.ox_shards.proofs.ListLemmas.{at-append, or_none, none_or}

-- ---- many lists

module _ {K V : Type 0} where
  -- the list that has changed, and another one
  pub set_here : (lists : List (Entries K V)) (i : ℕ) (n : Entries K V) → i < length lists → items_at (slice_set lists i n) i ≡ n
  set_here [] i n low = absurd (omega arith)
  set_here (l ∷ lists) zero n low = refl
  set_here (l ∷ lists) (suc i) n low = set_here lists i n (omega arith)

  pub set_elsewhere : (lists : List (Entries K V)) (i j : ℕ) (n : Entries K V) → i ≢ j → items_at (slice_set lists i n) j ≡ items_at lists j
  set_elsewhere [] i j n other = refl
  set_elsewhere (l ∷ lists) zero zero n other = absurd (other refl)
  set_elsewhere (l ∷ lists) zero (suc j) n other = refl
  set_elsewhere (l ∷ lists) (suc i) zero n other = refl
  set_elsewhere (l ∷ lists) (suc i) (suc j) n other = set_elsewhere lists i j n (λ same. other (ap suc same))

  pub items_there : (lists : List (Entries K V)) (i : ℕ) (p : Entries K V) → i < length lists → p ≡ get_or lists i p → items_at lists i ≡ p
  items_there [] i p low is = absurd (omega arith)
  items_there (l ∷ lists) zero p low is = sym is
  items_there (l ∷ lists) (suc i) p low is = items_there lists i p (omega arith) is

  -- a list in whose place one with the same entries stands
  same_joined : (lists : List (Entries K V)) (i : ℕ) (p n : Entries K V) → i < length lists → p ≡ get_or lists i p → n ≡ p → joined (slice_set lists i n) ≡ joined lists
  same_joined [] i p n low there same = absurd (omega arith)
  same_joined (l ∷ lists) zero p n low there same = ap (λ (es : Entries K V). es ++ joined lists) (same ∙ there)
  same_joined (l ∷ lists) (suc i) p n low there same = ap (λ (es : Entries K V). l ++ es) (same_joined lists i p n (omega arith) there same)

  -- an empty list behind them
  pub joined_more : (lists : List (Entries K V)) (new : Entries K V) → new ≡ [] → joined (lists ++ new ∷ []) ≡ joined lists
  joined_more [] new is = ap (λ (es : Entries K V). es ++ []) is
  joined_more (l ∷ lists) new is = ap (λ (es : Entries K V). l ++ es) (joined_more lists new is)

  pub items_more : (lists : List (Entries K V)) (new : Entries K V) → new ≡ [] → (i : ℕ) → items_at (lists ++ new ∷ []) i ≡ items_at lists i
  items_more [] new is zero = is
  items_more [] new is (suc i) = refl
  items_more (l ∷ lists) new is zero = refl
  items_more (l ∷ lists) new is (suc i) = items_more lists new is i

-- ---- what they have at a key

-- what is made without memory where it is there fails only where it isn't
pub too_few : {A E : Type 0} (r : Result A E) (n count : ℕ) → (count ≤ n → IsOk r) → is_err r ≡ true → n < count
too_few r n count present failed = by (side n count) where
  no : {A E : Type 0} (r : Result A E) → IsOk r → is_err r ≡ true → ⊥
  no (Ok x) ok is = true≢false (sym is)
  no (Err e) ok is = true≢false (sym ok)

  by : (n < count) ⊎ ((n ≡ count) ⊎ (count < n)) → n < count
  by (inl less) = less
  by (inr (inl same)) = absurd (no r (present (omega (arith, same))) failed)
  by (inr (inr more)) = absurd (no r (present (omega (arith, more))) failed)

some_or_none : {V : Type 0} (o : Option V) → (o ≡ None) ⊎ IsSome o
some_or_none None = inl refl
some_or_none (Some v) = inr refl

module _ {K V : Type 0} (cmp : K → K → Ordering) where
  -- where each list that has a key is the one with this number
  abbrev IsAlone : List (Entries K V) → ℕ → K → Type 0
  IsAlone lists index q = (i : ℕ) → IsSome (value_at cmp (items_at lists i) q) → index ≡ i

  nowhere : (lists : List (Entries K V)) (q : K) → ((i : ℕ) → IsSome (value_at cmp (items_at lists i) q) → ⊥) → value_at cmp (joined lists) q ≡ None
  nowhere [] q none = refl
  nowhere (l ∷ lists) q none =
      at-append (is_at (cmp q)) l (joined lists)
      ∙ none_or (value_at cmp l q) (value_at cmp (joined lists) q) (by (some_or_none (value_at cmp l q)))
      ∙ nowhere lists q (λ i some. none (suc i) some)
    where
      by : (value_at cmp l q ≡ None) ⊎ IsSome (value_at cmp l q) → value_at cmp l q ≡ None
      by (inl is) = is
      by (inr some) = absurd (none zero some)

  at_list : (lists : List (Entries K V)) (index : ℕ) (q : K) → IsAlone lists index q → value_at cmp (joined lists) q ≡ value_at cmp (items_at lists index) q
  at_list [] index q alone = refl
  at_list (l ∷ lists) zero q alone =
      at-append (is_at (cmp q)) l (joined lists)
      ∙ or_none (value_at cmp l q) (value_at cmp (joined lists) q) (nowhere lists q (λ i some. absurd (cc (alone (suc i) some))))
  at_list (l ∷ lists) (suc index) q alone =
      at-append (is_at (cmp q)) l (joined lists)
      ∙ none_or (value_at cmp l q) (value_at cmp (joined lists) q) (by (some_or_none (value_at cmp l q)))
      ∙ at_list lists index q (λ i some. cc (alone (suc i) some))
    where
      by : (value_at cmp l q ≡ None) ⊎ IsSome (value_at cmp l q) → value_at cmp l q ≡ None
      by (inl is) = is
      by (inr some) = absurd (cc (alone zero some))

  nothing_sound : IsSound {K = K} {V = V} cmp [] []
  unfolding IsDistinct
  nothing_sound = record { distinct = tt; apart = λ key some. refl }

  module _ (shard : K → ℕ) (count : ℕ) where
    pub no_shards : (lists : List (Entries K V)) (others : Entries K V) → count ≡ 1 → lists ≡ [] → others ≡ [] → AreShards cmp shard count lists others
    no_shards lists others one none nor =
        subst (λ (ls : List (Entries K V)). AreShards cmp shard count ls others) (sym none)
        (subst (λ (es : Entries K V). AreShards cmp shard count [] es) (sym nor)
        (record {
          made = λ more. absurd (omega (arith, more, one));
          none = λ is. refl;
          own = λ index key some. absurd (true≢false (sym some));
          sound = λ index. nothing_sound;
        }))

    module _ (lists : List (Entries K V)) (others : Entries K V) (are : AreShards cmp shard count lists others) where
      -- what they have at a key is what its list has, or else the ordered map
      pub at_shard : (q : K) → value_at cmp (entries_of lists others) q ≡ value_with cmp (items_at lists (shard q)) others q
      at_shard q =
          at-append (is_at (cmp q)) (joined lists) others
          ∙ ap (λ v. option_or v (value_at cmp others q)) (at_list lists (shard q) q (λ i some. are.own i q some))

      -- while fewer lists are made than there are, nothing stands anywhere
      pub nothing_there : length lists < count → entries_of lists others ≡ []
      nothing_there few = by lists refl where
        by : (ls : List (Entries K V)) → lists ≡ ls → entries_of lists others ≡ []
        by [] is = ap (λ (l : List (Entries K V)). joined l ++ others) is ∙ are.none (ap length is)
        by (l ∷ ls) is =
            let some : 0 < length lists = subst (λ (l : List (Entries K V)). 0 < length l) (sym is) (omega arith) in
            absurd (omega (arith, few, are.made (omega (arith, few, some))))

      -- lists that are alike, number by number
      pub same_shards : (new : List (Entries K V)) → length lists ≤ length new → ((i : ℕ) → items_at new i ≡ items_at lists i) → AreShards cmp shard count new others
      same_shards new kept same = record {
        made = λ more. omega (arith, kept, are.made more);
        none = λ is. are.none (omega (arith, is, kept));
        own = λ i q is. are.own i q (subst (λ (es : Entries K V). IsSome (value_at cmp es q)) (same i) is);
        sound = λ i. subst (λ (es : Entries K V). IsSound cmp es others) (sym (same i)) (are.sound i);
      }

      -- a value found in the list of its key, or else in the ordered map
      module _ (es : Entries K V) (stand : entries_of lists others ≡ es) (key : K) (list : Entries K V) (there : list ≡ items_at lists (shard key)) where
        its_value : (v : Option V) → v ≡ value_with cmp list others key → v ≡ value_at cmp es key
        its_value v is =
            is ∙ ap (λ (l : Entries K V). value_with cmp l others key) there ∙ sym (at_shard key)
            ∙ ap (λ (l : Entries K V). value_at cmp l key) stand

        pub got_in_list : (v : V) → Some v ≡ value_at cmp list key → Some v ≡ value_at cmp es key
        got_in_list v is = its_value (Some v) (ap (λ o. option_or o (value_at cmp others key)) is)

        pub got_in_others : (v : Option V) → None ≡ value_at cmp list key → v ≡ value_at cmp others key → v ≡ value_at cmp es key
        got_in_others v none is = its_value v (is ∙ sym (none_or (value_at cmp list key) (value_at cmp others key) (sym none)))

      -- ---- one list changes

      module _ (es : Entries K V) (stand : entries_of lists others ≡ es) (key : K) (index : ℕ) (is : index ≡ shard key) (p n : Entries K V) (low : index < length lists) (there : p ≡ get_or lists index p) where
        its_items : items_at lists (shard key) ≡ p
        its_items = ap (items_at lists) (sym is) ∙ items_there lists index p low there

        pub held_at : (v : Option V) → v ≡ value_with cmp p others key → v ≡ value_at cmp es key
        held_at = its_value es stand key p (sym its_items)

        as_many : length lists ≤ length (slice_set lists index n)
        as_many = omega (arith, length-set lists index n)

        some_lists : 0 < length (slice_set lists index n)
        some_lists = omega (arith, length-set lists index n, low)

        -- The list and the ordered map are as they were.
        module _ (new_others : Entries K V) (same : n ≡ p) (too : new_others ≡ others) where
          pub unchanged_shards : AreShards cmp shard count (slice_set lists index n) new_others
          unchanged_shards = subst (λ (es : Entries K V). AreShards cmp shard count (slice_set lists index n) es) (sym too) (same_shards (slice_set lists index n) as_many (λ i. by i (cases_eq index i))) where
            by : (i : ℕ) → (index ≡ i) ⊎ (index ≢ i) → items_at (slice_set lists index n) i ≡ items_at lists i
            by i (inl at) =
                ap (items_at (slice_set lists index n)) (sym at) ∙ set_here lists index n low ∙ same
                ∙ sym (items_there lists index p low there) ∙ ap (items_at lists) at
            by i (inr other) = set_elsewhere lists index i n other

          pub unchanged_entries : entries_of (slice_set lists index n) new_others ≡ es
          unchanged_entries =
              ap (λ (l : Entries K V). l ++ new_others) (same_joined lists index p n low there same)
              ∙ ap (λ (l : Entries K V). joined lists ++ l) too ∙ stand

        -- They have another value at the key, or none.
        module _ (alike : (a b : K) → is_eq (cmp a b) ≡ true → shard a ≡ shard b) (new_others : Entries K V) (w : Option V) (change : Changes cmp p others n new_others key w) where
          new_items : (i : ℕ) → index ≡ i → items_at (slice_set lists index n) i ≡ n
          new_items i at = ap (items_at (slice_set lists index n)) (sym at) ∙ set_here lists index n low

          old_items : (i : ℕ) → index ≡ i → items_at lists i ≡ p
          old_items i at = ap (items_at lists) (sym at) ∙ items_there lists index p low there

          -- a key of another shard is another key
          another : (q : K) (i : ℕ) → shard q ≡ i → index ≢ i → is_eq (cmp key q) ≡ false
          another q i at other = by (is_eq (cmp key q)) refl where
            by : (b : Bool) → is_eq (cmp key q) ≡ b → b ≡ false
            by true same = absurd (other (is ∙ alike key q same ∙ at))
            by false same = refl

          own_at : (i : ℕ) (q : K) → (index ≡ i) ⊎ (index ≢ i) → IsSome (value_at cmp (items_at (slice_set lists index n) i) q) → shard q ≡ i
          own_at i q (inl at) some = by (is_eq (cmp key q)) refl where
            by : (b : Bool) → is_eq (cmp key q) ≡ b → shard q ≡ i
            by true same = sym (alike key q same) ∙ sym is ∙ at
            by false other = are.own i q (subst IsSome (ap (λ (l : Entries K V). value_at cmp l q) (new_items i at) ∙ change.in_list q other ∙ sym (ap (λ (l : Entries K V). value_at cmp l q) (old_items i at))) some)
          own_at i q (inr other) some = are.own i q (subst IsSome (ap (λ (l : Entries K V). value_at cmp l q) (set_elsewhere lists index i n other)) some)

          sound_at : (i : ℕ) → (index ≡ i) ⊎ (index ≢ i) → IsSound cmp (items_at (slice_set lists index n) i) new_others
          sound_at i (inl at) = subst (λ (l : Entries K V). IsSound cmp l new_others) (sym (new_items i at)) change.sound
          sound_at i (inr other) = subst (λ (l : Entries K V). IsSound cmp l new_others) (sym (set_elsewhere lists index i n other)) (record {
            distinct = (are.sound i).distinct;
            apart = λ q some. change.in_others q (another q i (are.own i q some) other) ∙ (are.sound i).apart q some;
          })

          pub changed_shards : AreShards cmp shard count (slice_set lists index n) new_others
          changed_shards = record {
            made = λ more. omega (arith, as_many, are.made more);
            none = λ none. absurd (omega (arith, none, some_lists));
            own = λ i q some. own_at i q (cases_eq index i) some;
            sound = λ i. sound_at i (cases_eq index i);
          }

-- ---- where a list and the ordered map have changed at a key

module _ {K V : Type 0} (cmp : K → K → Ordering) (shard : K → ℕ) (count : ℕ) (lists : List (Entries K V)) (others : Entries K V) (are : AreShards cmp shard count lists others)
    (es : Entries K V) (stand : entries_of lists others ≡ es) (key : K) (index : ℕ) (is : index ≡ shard key) (p n : Entries K V) (low : index < length lists) (there : p ≡ get_or lists index p)
    (alike : (a b : K) → is_eq (cmp a b) ≡ true → shard a ≡ shard b) (new_others : Entries K V) (w : Option V) where
  pub changed_at : Changes cmp p others n new_others key w → (q : K) → value_at cmp (entries_of (slice_set lists index n) new_others) q ≡ cond (is_eq (cmp key q)) w (value_at cmp es q)
  changed_at change q =
      at_shard cmp shard count (slice_set lists index n) new_others (changed_shards cmp shard count lists others are es stand key index is p n low there alike new_others w change) q
      ∙ by (cases_eq index (shard q)) (is_eq (cmp key q)) refl
      ∙ ap (cond (is_eq (cmp key q)) w) (sym (at_shard cmp shard count lists others are q) ∙ ap (λ (l : Entries K V). value_at cmp l q) stand)
    where
      by : (index ≡ shard q) ⊎ (index ≢ shard q) → (b : Bool) → is_eq (cmp key q) ≡ b
          → value_with cmp (items_at (slice_set lists index n) (shard q)) new_others q ≡ cond (is_eq (cmp key q)) w (value_with cmp (items_at lists (shard q)) others q)
      by (inl at) true same =
          ap (λ (l : Entries K V). value_with cmp l new_others q) (ap (items_at (slice_set lists index n)) (sym at) ∙ set_here lists index n low)
          ∙ change.here q same
          ∙ sym (ap (λ (b : Bool). cond b w (value_with cmp (items_at lists (shard q)) others q)) same)
      by (inl at) false other =
          ap (λ (l : Entries K V). value_with cmp l new_others q) (ap (items_at (slice_set lists index n)) (sym at) ∙ set_here lists index n low)
          ∙ ap (λ v. option_or v (value_at cmp new_others q)) (change.in_list q other) ∙ ap (option_or (value_at cmp p q)) (change.in_others q other)
          ∙ sym (ap (λ (l : Entries K V). value_with cmp l others q) (ap (items_at lists) (sym at) ∙ items_there lists index p low there))
          ∙ sym (ap (λ (b : Bool). cond b w (value_with cmp (items_at lists (shard q)) others q)) other)
      by (inr apart) true same = absurd (apart (is ∙ alike key q same))
      by (inr apart) false other =
          ap (λ (l : Entries K V). value_with cmp l new_others q) (set_elsewhere lists index (shard q) n apart)
          ∙ ap (option_or (value_at cmp (items_at lists (shard q)) q)) (change.in_others q other)
          ∙ sym (ap (λ (b : Bool). cond b w (value_with cmp (items_at lists (shard q)) others q)) other)

  -- after a call that changes them, or fails and leaves them as they were
  pub after_call : {A E : Type 0} (r : Result A E) → OnOk r (Changes cmp p others n new_others key w) → OnErr r ((n ≡ p) × (new_others ≡ others))
      → AreShards cmp shard count (slice_set lists index n) new_others
  after_call (Ok _) change same = changed_shards cmp shard count lists others are es stand key index is p n low there alike new_others w change
  after_call (Err _) change same = unchanged_shards cmp shard count lists others are es stand key index is p n low there new_others same.0 same.1

  -- where it fails, what stands there is the same
  pub after_failure : {A E : Type 0} (r : Result A E) → OnErr r ((n ≡ p) × (new_others ≡ others)) → OnErr r (entries_of (slice_set lists index n) new_others ≡ es)
  after_failure (Ok _) same = tt
  after_failure (Err _) same = unchanged_entries cmp shard count lists others are es stand key index is p n low there new_others same.0 same.1

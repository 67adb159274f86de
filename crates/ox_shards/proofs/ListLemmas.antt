-- A list of keys with their values: where a key stands, and what a change at a key leaves.
use Rattle.std.proofs.Common.{rules, tests, ◌≡◌, ◌∙◌, ℕ, zero, suc, ◌+◌, ◌<◌, ◌≤◌, Bool, true, false, cond, List, [], ◌∷◌, ◌++◌, length, get_or, slice_set, is_some, nat_lt, Option, Some, None, Ordering, Less, Equal, Greater, refl, sym, ap, subst, true≢false, arith}
use Rattle.std.specs.Prelude.{IsSome, not, ◌||◌, Result, Ok, Err, OnErr, IsOk}
use Rattle.std.specs.Ordering.{is_eq, eq_by_cmp}
use Rattle.std.specs.Cmp.{IsTotalOrder, IsEquivalence, eq_by_cmp_equiv}
use Rattle.std.specs.Option.{option_or}
use Rattle.std.specs.List.{AllByRecursion, Contains, IsDistinct, list_any, position, position_or_len}
use Rattle.std.specs.List.Sorted.{IsPermutation}
use Rattle.std.specs.Map.{lookup, keys_of, set_value}
use Rattle.std.specs.BTreeMap.{is_at}
use Rattle.std.proofs.lemmas.Bool.{le-ltb, lt-ltb}
use Rattle.std.proofs.lemmas.List.{map-append}
use Rattle.std.proofs.lemmas.List.Quantifiers.{position-Some}
use Rattle.std.proofs.lemmas.List.Sorted.{Contains-permutation, IsPermutation-map, IsPermutation-sym}
use Rattle.std.proofs.lemmas.List.Sums.{position_or_len_is}
use Rattle.std.proofs.lemmas.Map.{lookup-set_value, keys-set_value}
use Rattle.std.proofs.lemmas.Map.Keys.{IsDistinct-head, IsDistinct-tail, IsDistinct-push, IsDistinct-IsPermutation}
use Rattle.std.proofs.lemmas.Map.Views.{lookup-from_Contains}
use Rattle.ox_shards.specs.Shards.{Entries, value_at, value_with, IsSound, Changes}

equal : (r : Ordering) → is_eq r ≡ true → r ≡ Equal
equal Less h = absurd (true≢false (sym h))
equal Equal h = refl
equal Greater h = absurd (true≢false (sym h))

pub no_value : {V : Type 0} (o : Option V) → o ≡ None → IsSome o → ⊥
no_value None is some = true≢false (sym some)
no_value (Some v) is some = absurd (cc is)

pub not_some : {V : Type 0} (o : Option V) → is_some o ≡ false → o ≡ None
not_some None is = refl
not_some (Some v) is = absurd (true≢false is)

-- what is refused only where there is no value isn't where there is one
pub ok_there : {A E V : Type 0} (r : Result A E) (o : Option V) → OnErr r (o ≡ None) → IsSome o → IsOk r
ok_there (Ok x) o none some = refl
ok_there (Err e) o none some = absurd (no_value o none some)

is_there : {V : Type 0} (o : Option V) (v : V) → Some v ≡ o → IsSome o
is_there o v is = sym (ap is_some is)

or_cond : {V : Type 0} (b : Bool) (v : V) (x y : Option V) → cond b (Some v) (option_or x y) ≡ option_or (cond b (Some v) x) y
or_cond true v x y = refl
or_cond false v x y = refl

pub or_none : {V : Type 0} (x y : Option V) → y ≡ None → option_or x y ≡ x
or_none None y is = is
or_none (Some v) y is = refl

pub none_or : {V : Type 0} (x y : Option V) → x ≡ None → option_or x y ≡ y
none_or x y is = ap (λ o. option_or o y) is

-- a look-up in entries with others behind them
pub at-append : {K V : Type 0} (test : K → Bool) (a b : List (K × V)) → lookup test (a ++ b) ≡ option_or (lookup test a) (lookup test b)
at-append test [] b = refl
at-append test (e ∷ a) b = ap (cond (test e.0) (Some e.1)) (at-append test a b) ∙ or_cond (test e.0) e.1 (lookup test a) (lookup test b)

-- ---- where the first entry whose key passes stands

module _ {K V : Type 0} (test : K → Bool) where
  record IsPlace (es : List (K × V)) (i : ℕ) : Type 0 where
    low : i < length es
    passes : (d : K × V) → test (get_or es i d).0 ≡ true
    before : (k : ℕ) (d : K × V) → k < i → test (get_or es k d).0 ≡ false

  is_place : (es : List (K × V)) (i : ℕ) → position (λ e. test e.0) es ≡ Some i → K × V → IsPlace es i
  is_place es i is x = record {
    low = (position-Some (λ e. test e.0) es i x is).0;
    passes = λ d. (position-Some (λ e. test e.0) es i d is).1;
    before = λ k d. (position-Some (λ e. test e.0) es i d is).2 k;
  }

  behind : (e : K × V) (es : List (K × V)) (i : ℕ) → IsPlace (e ∷ es) (suc i) → IsPlace es i
  behind e es i at = record {
    low = omega (arith, at.low);
    passes = at.passes;
    before = λ k d below. at.before (suc k) d (omega (arith, below));
  }

  value_there : (es : List (K × V)) (i : ℕ) (d : K × V) → IsPlace es i → Some (get_or es i d).1 ≡ lookup test es
  value_there [] i d at = absurd (omega (arith, at.low))
  value_there (e ∷ es) zero d at = sym (ap (λ (b : Bool). cond b (Some e.1) (lookup test es)) (at.passes e))
  value_there (e ∷ es) (suc i) d at =
      value_there es i d (behind e es i at)
      ∙ sym (ap (λ (b : Bool). cond b (Some e.1) (lookup test es)) (at.before zero e (omega arith)))

  value_set : (es : List (K × V)) (i : ℕ) (d : K × V) (w : V) → IsPlace es i → slice_set es i ((get_or es i d).0, w) ≡ set_value test es w
  value_set [] i d w at = absurd (omega (arith, at.low))
  value_set (e ∷ es) zero d w at = sym (ap (λ (b : Bool). cond b ((e.0, w) ∷ es) (e ∷ set_value test es w)) (at.passes e))
  value_set (e ∷ es) (suc i) d w at =
      ap (λ (l : List (K × V)). e ∷ l) (value_set es i d w (behind e es i at))
      ∙ sym (ap (λ (b : Bool). cond b ((e.0, w) ∷ es) (e ∷ set_value test es w)) (at.before zero e (omega arith)))

  nowhere : (es : List (K × V)) → length es ≤ position_or_len (λ e. test e.0) es → lookup test es ≡ None
  nowhere [] high = refl
  nowhere (e ∷ es) high = by (test e.0) refl (nowhere es) where
    by : (b : Bool) → test e.0 ≡ b → (length es ≤ position_or_len (λ e. test e.0) es → lookup test es ≡ None) → lookup test (e ∷ es) ≡ None
    by true is rest =
        let low : suc (length es) ≤ 0 = subst (λ (b : Bool). suc (length es) ≤ cond (not b) (1 + position_or_len (λ (e : K × V). test e.0) es) 0) is high in
        absurd (omega (arith, low))
    by false is rest =
        let low : suc (length es) ≤ 1 + position_or_len (λ e. test e.0) es = subst (λ (b : Bool). suc (length es) ≤ cond (not b) (1 + position_or_len (λ (e : K × V). test e.0) es) 0) is high in
        ap (λ (b : Bool). cond b (Some e.1) (lookup test es)) is ∙ rest (omega (arith, low))

  -- no key passes where no place is found
  pub not_found : (es : List (K × V)) → position (λ e. test e.0) es ≡ None → lookup test es ≡ None
  not_found es none = nowhere es (high (nat_lt (position_or_len (λ e. test e.0) es) (length es)) refl) where
    high : (b : Bool) → nat_lt (position_or_len (λ e. test e.0) es) (length es) ≡ b → length es ≤ position_or_len (λ e. test e.0) es
    high true is = absurd (cc (sym (ap (λ (b : Bool). cond b (Some (position_or_len (λ (e : K × V). test e.0) es)) None) is) ∙ none))
    high false is = search (rules, tests)

  -- the value at the place
  pub found_value : (es : List (K × V)) (i : ℕ) (d : K × V) → position (λ e. test e.0) es ≡ Some i → Some (get_or es i d).1 ≡ lookup test es
  found_value es i d is = value_there es i d (is_place es i is d)

  -- which keys are there
  keys_tell : (es : List (K × V)) → list_any test (keys_of es) ≡ is_some (lookup test es)
  keys_tell [] = refl
  keys_tell (e ∷ es) = by (test e.0) (keys_tell es) where
    by : (b : Bool) → list_any test (keys_of es) ≡ is_some (lookup test es) → (b || list_any test (keys_of es)) ≡ is_some (cond b (Some e.1) (lookup test es))
    by true rest = refl
    by false rest = rest

  -- the first place that passes
  pub first_place : (es : List (K × V)) (i : ℕ) (d : K × V) → i < length es → ((k : ℕ) → k < i → test (get_or es k d).0 ≡ false) → test (get_or es i d).0 ≡ true → Some i ≡ position (λ e. test e.0) es
  first_place es i d low before passes =
      let is : position_or_len (λ (e : K × V). test e.0) es ≡ i = position_or_len_is (λ (e : K × V). test e.0) es i d (omega (arith, low)) before (λ _. passes) in
      subst (λ (n : ℕ). Some i ≡ cond (nat_lt n (length es)) (Some n) None) (sym is) (sym (ap (λ (b : Bool). cond b (Some i) None) (lt-ltb i (length es) low)))

  -- where none passes
  pub no_place : (es : List (K × V)) → ((k : ℕ) → k < length es → (d : K × V) → test (get_or es k d).0 ≡ false) → None ≡ position (λ e. test e.0) es
  no_place [] none = refl
  no_place (e ∷ es) none =
      let all = suc (length es) in
      let is : position_or_len (λ (e : K × V). test e.0) (e ∷ es) ≡ all = position_or_len_is (λ (e : K × V). test e.0) (e ∷ es) all e (omega arith) (λ k low. none k low e) (λ low. absurd (omega (arith, low))) in
      subst (λ (n : ℕ). None ≡ cond (nat_lt n all) (Some n) None) (sym is) (sym (ap (λ (b : Bool). cond b (Some all) None) (le-ltb all all (omega arith))))

-- ---- entries in another order

module _ {K V : Type 0} {eq : K → K → Bool} (laws : IsEquivalence eq) (q : K) where
  -- an entry with an equal key and this value
  record IsEntry (es : List (K × V)) (v : V) : Type 0 where
    key : K
    same : eq q key ≡ true
    stands : Contains es (key, v)

  found : (es : List (K × V)) (v : V) → lookup (eq q) es ≡ Some v → IsEntry es v
  found [] v is = absurd (cc is)
  found (e ∷ es) v is = by (eq q e.0) refl is (found es v) where
    by : (b : Bool) → eq q e.0 ≡ b → cond b (Some e.1) (lookup (eq q) es) ≡ Some v → (lookup (eq q) es ≡ Some v → IsEntry es v) → IsEntry (e ∷ es) v
    by true same is rest = record { key = e.0; same = same; stands = (zero, omega arith, ap (λ (w : V). (e.0, w)) (cc is)) }
    by false other is rest =
        let at = rest is in
        record { key = at.key; same = at.same; stands = (suc at.stands.0, omega (arith, at.stands.1), at.stands.2) }

  module _ (xs ys : List (K × V)) (moved : IsPermutation xs ys) (distinct : IsDistinct eq (keys_of xs)) where
    pub still_distinct : IsDistinct eq (keys_of ys)
    still_distinct = IsDistinct-IsPermutation eq laws.symm (keys_of xs) (keys_of ys) (IsPermutation-map (λ (e : K × V). e.0) xs ys moved) distinct

    still_found : (v : V) → lookup (eq q) xs ≡ Some v → lookup (eq q) ys ≡ Some v
    still_found v is =
        let at = found xs v is in
        ap (λ (test : K → Bool). lookup test ys) (λ i z. laws.congr q at.key z at.same i)
        ∙ lookup-from_Contains laws at.key v ys still_distinct (Contains-permutation xs ys (at.key, v) moved at.stands)

  -- a key has the same value, in whatever order the entries stand
  pub same_value : (xs ys : List (K × V)) → IsPermutation xs ys → IsDistinct eq (keys_of xs) → lookup (eq q) xs ≡ lookup (eq q) ys
  same_value xs ys moved distinct = by (lookup (eq q) xs) (lookup (eq q) ys) refl refl where
    by : (a b : Option V) → lookup (eq q) xs ≡ a → lookup (eq q) ys ≡ b → a ≡ b
    by None None is it = refl
    by (Some v) b is it = sym (still_found xs ys moved distinct v is) ∙ it
    by None (Some v) is it = sym is ∙ still_found ys xs (IsPermutation-sym xs ys moved) (still_distinct xs ys moved distinct) v it

-- no key of entries passes
none_passes : {K V : Type 0} (test : K → Bool) (es : List (K × V)) → AllByRecursion (λ k. test k ≡ false) (keys_of es) → lookup test es ≡ None
none_passes test [] all = refl
none_passes test (e ∷ es) all = ap (λ (b : Bool). cond b (Some e.1) (lookup test es)) all.0 ∙ none_passes test es all.1

-- ---- changes at a key

module _ {K V : Type 0} {cmp : K → K → Ordering} (o : IsTotalOrder cmp) (list others : Entries K V) (sound : IsSound cmp list others) (key : K) where
  laws : IsEquivalence (eq_by_cmp cmp)
  laws = eq_by_cmp_equiv o

  -- an equal key has the same value
  alike : (es : Entries K V) (q : K) → is_eq (cmp key q) ≡ true → value_at cmp es q ≡ value_at cmp es key
  alike es q same = ap (λ f. lookup (is_at f) es) (λ i z. sym (o.congr key q z (equal (cmp key q) same)) i)

  one : (x y : K) → is_at (cmp key) x ≡ true → is_at (cmp key) y ≡ eq_by_cmp cmp x y
  one x y is = laws.congr key x y is

  -- the value at the place of the key is another one
  pub changed_in_list : (i : ℕ) (x : K × V) (w : V) → position (λ e. is_at (cmp key) e.0) list ≡ Some i
      → Changes cmp list others (slice_set list i ((get_or list i x).0, w)) others key (Some w)
  changed_in_list i x w at =
      subst (λ (l : Entries K V). Changes cmp list others l others key (Some w)) (sym (value_set (is_at (cmp key)) list i x w (is_place (is_at (cmp key)) list i at x)))
      (record {
        sound = record {
          distinct = subst (IsDistinct (eq_by_cmp cmp)) (sym (keys-set_value (is_at (cmp key)) list w)) sound.distinct;
          apart = λ q some. by q (is_eq (cmp key q)) refl some;
        };
        here = λ q same. ap (λ v. option_or v (value_at cmp others q)) (now q ∙ ap (λ (b : Bool). cond b (Some w) (value_at cmp list q)) same);
        in_list = λ q other. now q ∙ ap (λ (b : Bool). cond b (Some w) (value_at cmp list q)) other;
        in_others = λ q other. refl;
      })
    where
      there : IsSome (value_at cmp list key)
      there = is_there (value_at cmp list key) _ (found_value (is_at (cmp key)) list i x at)

      now : (q : K) → value_at cmp (set_value (is_at (cmp key)) list w) q ≡ cond (is_eq (cmp key q)) (Some w) (value_at cmp list q)
      now q = lookup-set_value laws (is_at (cmp key)) one q w list there

      by : (q : K) (b : Bool) → is_eq (cmp key q) ≡ b → IsSome (value_at cmp (set_value (is_at (cmp key)) list w) q) → value_at cmp others q ≡ None
      by q true same some = sound.apart q (subst IsSome (sym (alike list q same)) there)
      by q false other some = sound.apart q (subst IsSome (now q ∙ ap (λ (b : Bool). cond b (Some w) (value_at cmp list q)) other) some)

  -- the entry at the place of the key is gone, and the others stand in some order
  pub gone_from_list : (i : ℕ) (x : K × V) (new : Entries K V) → position (λ e. is_at (cmp key) e.0) list ≡ Some i → IsPermutation list (get_or list i x ∷ new) → Changes cmp list others new others key None
  gone_from_list i x new at moved = record {
    sound = record {
      distinct = IsDistinct-tail (eq_by_cmp cmp) e.0 (keys_of new) all;
      apart = λ q some. by q (is_eq (cmp key q)) refl some;
    };
    here = λ q same.
        none_or _ _ (gone q same) ∙ alike others q same
        ∙ sound.apart key (is_there (value_at cmp list key) _ (found_value (is_at (cmp key)) list i x at));
    in_list = left;
    in_others = λ q other. refl;
  } where
    e : K × V
    e = get_or list i x

    its_key : is_at (cmp key) e.0 ≡ true
    its_key = (is_place (is_at (cmp key)) list i at x).passes x

    all : IsDistinct (eq_by_cmp cmp) (keys_of (e ∷ new))
    all = still_distinct laws key list (e ∷ new) moved sound.distinct

    gone : (q : K) → is_eq (cmp key q) ≡ true → value_at cmp new q ≡ None
    gone q same =
        alike new q same ∙ sym (alike new e.0 its_key)
        ∙ none_passes (eq_by_cmp cmp e.0) new (IsDistinct-head (eq_by_cmp cmp) e.0 (keys_of new) all)

    left : (q : K) → is_eq (cmp key q) ≡ false → value_at cmp new q ≡ value_at cmp list q
    left q other =
        sym (ap (λ (b : Bool). cond b (Some e.1) (value_at cmp new q)) (laws.symm q e.0 ∙ sym (laws.congr key e.0 q its_key) ∙ other))
        ∙ sym (same_value laws q list (e ∷ new) moved sound.distinct)

    by : (q : K) (b : Bool) → is_eq (cmp key q) ≡ b → IsSome (value_at cmp new q) → value_at cmp others q ≡ None
    by q true same some = absurd (no_value _ (gone q same) some)
    by q false other some = sound.apart q (subst IsSome (left q other) some)

  module _ (absent : value_at cmp list key ≡ None) where
    -- the key has this value in the ordered map now, or none
    pub changed_in_others : (new : Entries K V) (w : Option V) → ((q : K) → value_at cmp new q ≡ cond (is_eq (cmp key q)) w (value_at cmp others q))
        → Changes cmp list others list new key w
    changed_in_others new w now = record {
      sound = record {
        distinct = sound.distinct;
        apart = λ q some. by q (is_eq (cmp key q)) refl some;
      };
      here = λ q same. none_or _ _ (alike list q same ∙ absent) ∙ now q ∙ ap (λ (b : Bool). cond b w (value_at cmp others q)) same;
      in_list = λ q other. refl;
      in_others = λ q other. now q ∙ ap (λ (b : Bool). cond b w (value_at cmp others q)) other;
    } where
      by : (q : K) (b : Bool) → is_eq (cmp key q) ≡ b → IsSome (value_at cmp list q) → value_at cmp new q ≡ None
      by q true same some = absurd (no_value _ (alike list q same ∙ absent) some)
      by q false other some = now q ∙ ap (λ (b : Bool). cond b w (value_at cmp others q)) other ∙ sound.apart q some

    -- the key stands at the end of the list now
    pub added_to_list : (w : V) → value_at cmp others key ≡ None → Changes cmp list others (list ++ (key, w) ∷ []) others key (Some w)
    added_to_list w nor = record {
      sound = record {
        distinct = subst (IsDistinct (eq_by_cmp cmp)) (sym (map-append (λ (e : K × V). e.0) list ((key, w) ∷ [])))
            (IsDistinct-push laws (keys_of list) key sound.distinct (keys_tell (is_at (cmp key)) list ∙ ap is_some absent));
        apart = λ q some. by q (is_eq (cmp key q)) refl some;
      };
      here = λ q same.
          ap (λ v. option_or v (value_at cmp others q)) (at-append (is_at (cmp q)) list ((key, w) ∷ []) ∙ none_or _ _ (alike list q same ∙ absent)
          ∙ ap (λ (b : Bool). cond b (Some w) None) (laws.symm q key ∙ same));
      in_list = kept;
      in_others = λ q other. refl;
    } where
      kept : (q : K) → is_eq (cmp key q) ≡ false → value_at cmp (list ++ (key, w) ∷ []) q ≡ value_at cmp list q
      kept q other =
          at-append (is_at (cmp q)) list ((key, w) ∷ [])
          ∙ or_none _ _ (ap (λ (b : Bool). cond b (Some w) None) (laws.symm q key ∙ other))

      by : (q : K) (b : Bool) → is_eq (cmp key q) ≡ b → IsSome (value_at cmp (list ++ (key, w) ∷ []) q) → value_at cmp others q ≡ None
      by q true same some = alike others q same ∙ nor
      by q false other some = sound.apart q (subst IsSome (kept q other) some)

  -- the value that stood at the place of the key
  pub held_in_list : (i : ℕ) (x : K × V) → position (λ e. is_at (cmp key) e.0) list ≡ Some i → Some (get_or list i x).1 ≡ value_with cmp list others key
  held_in_list i x at = ap (λ v. option_or v (value_at cmp others key)) (found_value (is_at (cmp key)) list i x at)

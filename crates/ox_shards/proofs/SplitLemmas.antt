-- A line that is split: its keys that go, and those that stay.
use Rattle.std.proofs.Common.{◌≡◌, ◌≢◌, ◌∙◌, ℕ, zero, suc, ◌+◌, ◌-◌, ◌<◌, ◌≤◌, Bool, true, false, cond, List, [], ◌∷◌, ◌++◌, length, take, drop, get_or, slice_set, length-set, Option, Some, None, is_some, Ordering, refl, sym, ap, subst, true≢false, inl, inr, arith}
use Rattle.std.specs.Prelude.{◌⊎◌, IsSome, not, is_ok, OnOk, OnErr}
use Rattle.std.specs.declared.result.Result.{Result}
use Rattle.std.specs.declared.result.Result.TheVariants.{Ok, Err}
use Rattle.std.specs.Ordering.{is_eq, eq_by_cmp}
use Rattle.std.specs.Cmp.{IsTotalOrder, eq_by_cmp_equiv}
use Rattle.std.specs.Map.{lookup}
use Rattle.std.specs.BTreeMap.{is_at}
use Rattle.std.specs.Option.{option_or}
use Rattle.std.proofs.lemmas.Bool.{cases_eq, eq-eqb, eqb-true}
use Rattle.std.proofs.lemmas.List.{get_or-take, drop_all, take_all, append-nil}
use Rattle.std.proofs.lemmas.Map.Entries.{lookup-filter-keys}
use Rattle.std.proofs.lemmas.Map.Made.{IsDistinct-keys_filter}
use Rattle.ox_shards.specs.declared.lines.Lines.{Lines}
use Rattle.ox_shards.specs.Lines.{Splits, line_of, is_last}
use Rattle.ox_shards.specs.Shards.{Entries, value_at, value_with, items_at, entries_of, going, staying, IsSound, IsSplit, AreShards}
use Rattle.ox_shards.proofs.LineLemmas.{leads_below}
use Rattle.ox_shards.proofs.ShardLemmas.{at_shard, same_shards, set_here, set_elsewhere, items_there}

-- ---- two lists change, each in its part of all lists

module _ {K V : Type 0} where
  set_behind : (lists : List (Entries K V)) (last : ℕ) (n : Entries K V) → last < length lists → take last lists ++ slice_set (drop last lists) 0 n ≡ slice_set lists last n
  set_behind [] last n low = absurd (omega (arith, low))
  set_behind (l ∷ lists) zero n low = refl
  set_behind (l ∷ lists) (suc last) n low = ap (λ (ls : List (Entries K V)). l ∷ ls) (set_behind lists last n (omega (arith, low)))

  set_both : (lists : List (Entries K V)) (from last : ℕ) (m n : Entries K V) → from < last → last < length lists
      → slice_set (take last lists) from m ++ slice_set (drop last lists) 0 n ≡ slice_set (slice_set lists from m) last n
  set_both [] from last m n other low = absurd (omega (arith, low))
  set_both (l ∷ lists) from zero m n other low = absurd (omega (arith, other))
  set_both (l ∷ lists) zero (suc last) m n other low = ap (λ (ls : List (Entries K V)). m ∷ ls) (set_behind lists last n (omega (arith, low)))
  set_both (l ∷ lists) (suc from) (suc last) m n other low = ap (λ (ls : List (Entries K V)). l ∷ ls) (set_both lists from last m n (omega (arith, other)) (omega (arith, low)))

  module _ (old lists : List (Entries K V)) (each : (i : ℕ) → items_at lists i ≡ items_at old i) (from last : ℕ) (other : from < last) (low : last < length lists) (p m n : Entries K V) (there : p ≡ get_or (take last lists) from p) where
    abbrev pub both : List (Entries K V)
    both = slice_set (take last lists) from m ++ slice_set (drop last lists) 0 n

    are_both : both ≡ slice_set (slice_set lists from m) last n
    are_both = set_both lists from last m n other low

    old_from : p ≡ items_at old from
    old_from = sym (items_there lists from p (omega (arith, other, low)) (there ∙ get_or-take last lists from p other)) ∙ each from

    at_last : items_at both last ≡ n
    at_last = ap (λ (ls : List (Entries K V)). items_at ls last) are_both ∙ set_here (slice_set lists from m) last n (omega (arith, low, length-set lists from m))

    at_from : items_at both from ≡ m
    at_from =
        ap (λ (ls : List (Entries K V)). items_at ls from) are_both
        ∙ set_elsewhere (slice_set lists from m) last from n (λ same. omega (arith, same, other))
        ∙ set_here lists from m (omega (arith, other, low))

    at_rest : (i : ℕ) → i ≢ from → i ≢ last → items_at both i ≡ items_at old i
    at_rest i not_from not_last =
        ap (λ (ls : List (Entries K V)). items_at ls i) are_both
        ∙ set_elsewhere (slice_set lists from m) last i n (λ same. not_last (sym same))
        ∙ set_elsewhere lists from i m (λ same. not_from (sym same)) ∙ each i

    pub as_long : length both ≡ length lists
    as_long = ap length are_both ∙ length-set (slice_set lists from m) last n ∙ length-set lists from m

    pub parted : (goes : K → Bool) → m ≡ staying goes p → n ≡ going goes p → IsSplit goes from last old both
    parted goes stay go = record {
      stay = at_from ∙ stay ∙ ap (staying goes) old_from;
      go = at_last ∙ go ∙ ap (going goes) old_from;
      rest = at_rest;
      room = omega (arith, as_long, low);
    }

    pub unparted : m ≡ p → n ≡ [] → items_at old last ≡ [] → (i : ℕ) → items_at both i ≡ items_at old i
    unparted same none empty i = by (cases_eq i from) (cases_eq i last) where
      by : (i ≡ from) ⊎ (i ≢ from) → (i ≡ last) ⊎ (i ≢ last) → items_at both i ≡ items_at old i
      by (inl is) either = ap (items_at both) is ∙ at_from ∙ same ∙ old_from ∙ ap (items_at old) (sym is)
      by (inr not_from) (inl is) = ap (items_at both) is ∙ at_last ∙ none ∙ sym empty ∙ ap (items_at old) (sym is)
      by (inr not_from) (inr not_last) = at_rest i not_from not_last

  -- the two parts as they are written back
  module _ (old lists : List (Entries K V)) (each : (i : ℕ) → items_at lists i ≡ items_at old i) (from last n : ℕ) (other : from < last) (low : last < length lists) (long : length lists ≤ n)
      (a b : List (Entries K V)) (front : a ≡ take last lists) (back : b ≡ drop last lists) (p m k : Entries K V) (there : p ≡ get_or a from p) where
    abbrev pub whole : List (Entries K V)
    whole = take n (slice_set a from m ++ slice_set b 0 k ++ drop (length (slice_set a from m ++ slice_set b 0 k)) lists)

    its_entry : p ≡ get_or (take last lists) from p
    its_entry = there ∙ ap (λ (ls : List (Entries K V)). get_or ls from p) front

    is_both : slice_set a from m ++ slice_set b 0 k ≡ slice_set (take last lists) from m ++ slice_set (drop last lists) 0 k
    is_both = ap (λ (ls : List (Entries K V)). slice_set ls from m ++ slice_set b 0 k) front ∙ ap (λ (ls : List (Entries K V)). slice_set (take last lists) from m ++ slice_set ls 0 k) back

    as_many : length (slice_set a from m ++ slice_set b 0 k) ≡ length lists
    as_many = ap length is_both ∙ as_long old lists each from last other low p m k its_entry

    is_whole : whole ≡ slice_set (take last lists) from m ++ slice_set (drop last lists) 0 k
    is_whole =
        ap (take n) (ap (λ (ls : List (Entries K V)). slice_set a from m ++ slice_set b 0 k ++ ls) (drop_all (length (slice_set a from m ++ slice_set b 0 k)) lists (omega (arith, as_many))) ∙ append-nil (slice_set a from m ++ slice_set b 0 k))
        ∙ take_all n (slice_set a from m ++ slice_set b 0 k) (omega (arith, as_many, long)) ∙ is_both

    pub parted_whole : (goes : K → Bool) → m ≡ staying goes p → k ≡ going goes p → IsSplit goes from last old whole
    parted_whole goes stay go = subst (λ (ls : List (Entries K V)). IsSplit goes from last old ls) (sym is_whole) (parted old lists each from last other low p m k its_entry goes stay go)

    pub unparted_whole : m ≡ p → k ≡ [] → items_at old last ≡ [] → (i : ℕ) → items_at whole i ≡ items_at old i
    unparted_whole same none empty i = ap (λ (ls : List (Entries K V)). items_at ls i) is_whole ∙ unparted old lists each from last other low p m k its_entry same none empty i

-- ---- what a call gives

pub if_ok : {A E P : Type 0} (r : Result A E) → is_ok r ≡ true → OnOk r P → P
if_ok (Ok x) is holds = holds
if_ok (Err e) is holds = absurd (true≢false (sym is))

pub if_err : {A E P : Type 0} (r : Result A E) → is_ok r ≡ false → OnErr r P → P
if_err (Ok x) is holds = absurd (true≢false is)
if_err (Err e) is holds = holds

pub from_both : {A E P Q R : Type 0} (r : Result A E) → (P → Q → R) → OnOk r P → OnOk r Q → OnOk r R
from_both (Ok x) f p q = f p q
from_both (Err e) f p q = tt

pub from_failure : {A E P R : Type 0} (r : Result A E) → (P → R) → OnErr r P → OnErr r R
from_failure (Ok x) f p = tt
from_failure (Err e) f p = f p

-- ---- a list of lists in which one is split

if_none : {V : Type 0} (b : Bool) (o : Option V) → IsSome (cond b o None) → (b ≡ true) × IsSome o
if_none true o some = (refl, some)
if_none false o some = absurd (true≢false (sym some))

not_true : (b : Bool) → not b ≡ true → b ≡ false
not_true true is = sym is
not_true false is = refl

-- entries with no key that has a value
no_entry : {K V : Type 0} (cmp : K → K → Ordering) → IsTotalOrder cmp → (es : Entries K V) → ((q : K) → IsSome (value_at cmp es q) → ⊥) → es ≡ []
no_entry cmp o [] none = refl
no_entry cmp o (e ∷ es) none = absurd (none e.0 (ap (λ b. is_some (cond b (Some e.1) (lookup (is_at (cmp e.0)) es))) ((eq_by_cmp_equiv o).refl e.0)))

module _ {K V : Type 0} {cmp : K → K → Ordering} (o : IsTotalOrder cmp) (spread : K → ℕ) (alike : (a b : K) → is_eq (cmp a b) ≡ true → spread a ≡ spread b)
    (old new : Lines) (from : ℕ) (splits : Splits old new from)
    (lists : List (Entries K V)) (others : Entries K V) (are : AreShards cmp (λ key. line_of old (spread key)) old.count lists others) where
  abbrev pub goes : K → Bool
  goes key = is_last new (spread key)

  it_goes : (q : K) → line_of new (spread q) ≡ old.count → goes q ≡ true
  it_goes q last = eq-eqb (line_of new (spread q) + 1) new.count (omega (arith, last, splits.more))

  it_went : (q : K) → goes q ≡ true → line_of new (spread q) ≡ old.count
  it_went q is = omega (arith, eqb-true (line_of new (spread q) + 1) new.count is, splits.more)

  it_stays : (q : K) → line_of new (spread q) < old.count → goes q ≡ false
  it_stays q low = by (goes q) refl where
    by : (b : Bool) → goes q ≡ b → b ≡ false
    by true is = absurd (omega (arith, low, it_went q is))
    by false is = refl

  in_range : (q : K) → line_of old (spread q) < old.count
  in_range q = leads_below old (spread q)

  -- no key stands in the list that is to be the last one
  pub none_yet : items_at lists old.count ≡ []
  none_yet = no_entry cmp o (items_at lists old.count) (λ q some. omega (arith, in_range q, are.own old.count q some))

  same_way : (q k : K) → is_at (cmp q) k ≡ true → goes k ≡ goes q
  same_way q k same = ap (is_last new) (sym (alike q k same))

  at_going : (es : Entries K V) (q : K) → value_at cmp (going goes es) q ≡ cond (goes q) (value_at cmp es q) None
  at_going es q = lookup-filter-keys (is_at (cmp q)) goes (goes q) (same_way q) es

  at_staying : (es : Entries K V) (q : K) → value_at cmp (staying goes es) q ≡ cond (not (goes q)) (value_at cmp es q) None
  at_staying es q = lookup-filter-keys (is_at (cmp q)) (λ k. not (goes k)) (not (goes q)) (λ k same. ap not (same_way q k same)) es

  module _ (more : List (Entries K V)) (parts : IsSplit goes from (new.count - 1) lists more) where
    split : IsSplit goes from old.count lists more
    split = subst (λ (n : ℕ). IsSplit goes from n lists more) (omega (arith, splits.more)) parts

    abbrev old_line : K → ℕ
    old_line q = line_of old (spread q)

    abbrev new_line : K → ℕ
    new_line q = line_of new (spread q)

    -- each key has the value that it had, in the list to which it leads now
    has_still : (q : K) → value_at cmp (items_at more (new_line q)) q ≡ value_at cmp (items_at lists (old_line q)) q
    has_still q = by (splits.leads (spread q)) (cases_eq (old_line q) from) where
      stays : goes q ≡ false → value_at cmp (items_at more from) q ≡ value_at cmp (items_at lists from) q
      stays not_going =
          ap (λ (es : Entries K V). value_at cmp es q) split.stay ∙ at_staying (items_at lists from) q
          ∙ ap (λ (b : Bool). cond (not b) (value_at cmp (items_at lists from) q) None) not_going

      went : goes q ≡ true → value_at cmp (items_at more old.count) q ≡ value_at cmp (items_at lists from) q
      went going_now =
          ap (λ (es : Entries K V). value_at cmp es q) split.go ∙ at_going (items_at lists from) q
          ∙ ap (λ (b : Bool). cond b (value_at cmp (items_at lists from) q) None) going_now

      at_from : old_line q ≡ from → value_at cmp (items_at lists from) q ≡ value_at cmp (items_at lists (old_line q)) q
      at_from is = ap (λ (i : ℕ). value_at cmp (items_at lists i) q) (sym is)

      by : (new_line q ≡ old_line q) ⊎ ((old_line q ≡ from) × (new_line q ≡ old.count)) → (old_line q ≡ from) ⊎ (old_line q ≢ from)
          → value_at cmp (items_at more (new_line q)) q ≡ value_at cmp (items_at lists (old_line q)) q
      by (inl same) (inl is) =
          ap (λ (i : ℕ). value_at cmp (items_at more i) q) (same ∙ is)
          ∙ stays (it_stays q (subst (λ (i : ℕ). i < old.count) (sym same) (in_range q))) ∙ at_from is
      by (inl same) (inr other) =
          ap (λ (i : ℕ). value_at cmp (items_at more i) q) same
          ∙ ap (λ (es : Entries K V). value_at cmp es q) (split.rest (old_line q) other (λ last. omega (arith, last, in_range q)))
      by (inr moves) either =
          ap (λ (i : ℕ). value_at cmp (items_at more i) q) moves.1 ∙ went (it_goes q moves.1) ∙ at_from moves.0

    own_now : (i : ℕ) (q : K) → (i ≡ from) ⊎ (i ≢ from) → (i ≡ old.count) ⊎ (i ≢ old.count) → IsSome (value_at cmp (items_at more i) q) → new_line q ≡ i
    own_now i q (inl is) either some = by (splits.leads (spread q)) where
      there : (not (goes q) ≡ true) × IsSome (value_at cmp (items_at lists from) q)
      there = if_none (not (goes q)) (value_at cmp (items_at lists from) q)
          (subst IsSome (ap (λ (n : ℕ). value_at cmp (items_at more n) q) is ∙ ap (λ (es : Entries K V). value_at cmp es q) split.stay ∙ at_staying (items_at lists from) q) some)

      by : (new_line q ≡ old_line q) ⊎ ((old_line q ≡ from) × (new_line q ≡ old.count)) → new_line q ≡ i
      by (inl same) = same ∙ are.own from q there.1 ∙ sym is
      by (inr moves) = absurd (true≢false (sym (it_goes q moves.1) ∙ not_true (goes q) there.0))
    own_now i q (inr other) (inl is) some =
        let there = if_none (goes q) (value_at cmp (items_at lists from) q)
        (subst IsSome (ap (λ (n : ℕ). value_at cmp (items_at more n) q) is ∙ ap (λ (es : Entries K V). value_at cmp es q) split.go ∙ at_going (items_at lists from) q) some) in
        it_went q there.0 ∙ sym is
    own_now i q (inr other) (inr not_last) some = by (splits.leads (spread q)) where
      there : old_line q ≡ i
      there = are.own i q (subst (λ (es : Entries K V). IsSome (value_at cmp es q)) (split.rest i other not_last) some)

      by : (new_line q ≡ old_line q) ⊎ ((old_line q ≡ from) × (new_line q ≡ old.count)) → new_line q ≡ i
      by (inl same) = same ∙ there
      by (inr moves) = absurd (other (sym there ∙ moves.0))

    sound_now : (i : ℕ) → (i ≡ from) ⊎ (i ≢ from) → (i ≡ old.count) ⊎ (i ≢ old.count) → IsSound cmp (items_at more i) others
    sound_now i (inl is) either = subst (λ (es : Entries K V). IsSound cmp es others) (sym (ap (items_at more) is ∙ split.stay)) (record {
      distinct = IsDistinct-keys_filter (eq_by_cmp cmp) (λ e. not (goes e.0)) (items_at lists from) (are.sound from).distinct;
      apart = λ q some. (are.sound from).apart q (if_none (not (goes q)) (value_at cmp (items_at lists from) q) (subst IsSome (at_staying (items_at lists from) q) some)).1;
    })
    sound_now i (inr other) (inl is) = subst (λ (es : Entries K V). IsSound cmp es others) (sym (ap (items_at more) is ∙ split.go)) (record {
      distinct = IsDistinct-keys_filter (eq_by_cmp cmp) (λ e. goes e.0) (items_at lists from) (are.sound from).distinct;
      apart = λ q some. (are.sound from).apart q (if_none (goes q) (value_at cmp (items_at lists from) q) (subst IsSome (at_going (items_at lists from) q) some)).1;
    })
    sound_now i (inr other) (inr not_last) = subst (λ (es : Entries K V). IsSound cmp es others) (sym (split.rest i other not_last)) (are.sound i)

    pub split_shards : AreShards cmp (λ key. line_of new (spread key)) new.count more others
    split_shards = record {
      made = λ some. omega (arith, split.room, splits.more);
      none = λ is. absurd (omega (arith, is, split.room));
      own = λ i q some. own_now i q (cases_eq i from) (cases_eq i old.count) some;
      sound = λ i. sound_now i (cases_eq i from) (cases_eq i old.count);
    }

    pub split_values : (q : K) → value_at cmp (entries_of more others) q ≡ value_at cmp (entries_of lists others) q
    split_values q =
        at_shard cmp (λ key. line_of new (spread key)) new.count more others split_shards q
        ∙ ap (λ v. option_or v (value_at cmp others q)) (has_still q)
        ∙ sym (at_shard cmp (λ key. line_of old (spread key)) old.count lists others are q)

-- lists that are alike, number by number, have the same values
pub same_values : {K V : Type 0} (cmp : K → K → Ordering) (shard : K → ℕ) (count : ℕ) (lists : List (Entries K V)) (others : Entries K V) → AreShards cmp shard count lists others → (new : List (Entries K V)) → length lists ≤ length new → ((i : ℕ) → items_at new i ≡ items_at lists i)
    → (q : K) → value_at cmp (entries_of new others) q ≡ value_at cmp (entries_of lists others) q
same_values {K} {V} cmp shard count lists others are new kept same q =
    at_shard cmp shard count new others (same_shards cmp shard count lists others are new kept same) q
    ∙ ap (λ (es : Entries K V). value_with cmp es others q) (same (shard q))
    ∙ sym (at_shard cmp shard count lists others are q)

-- Replies that are kept stay true and apart, and are counted as the keys of a tally.
use Rattle.std.proofs.Common.{◌≡◌, ◌∙◌, ℕ, zero, suc, ◌+◌, ◌-◌, ◌^◌, ◌<◌, ◌==◌, Bool, true, false, cond, not, ◌||◌, List, [], ◌∷◌, take, map, filter, length, Some, None, is_some, min, nat_le, bytes_eq, refl, sym, ap, subst, arith, eqb-true}
use Rattle.std.specs.List.{AllByRecursion, list_any}
use Rattle.std.proofs.lemmas.Bool.{and_parts}
use Rattle.std.proofs.lemmas.Slice.Eq.{bytes_eq-Decides}
use Rattle.ox_links.specs.Counted.{Key, is_key, with_get}
use Rattle.ox_model.specs.Stack.{Stack}
use Rattle.ox_cache.specs.Kept.{Entry, Kept, after_hit, after_miss, body_kept, entry_of, is_of, others}
use Rattle.ox_desk.specs.Desk.{AreApart, IsTrueOf, KeepsTrue, key_of, tally_of}

-- ---- the entry of a number and a path

module _ (n : ℕ) (path : List ℕ) where
  abbrev pub IsIts : Entry → Type 0
  IsIts entry = (n ≡ entry.commands) × (path ≡ entry.path)

  its : (entry : Entry) → is_of n path entry ≡ true → IsIts entry
  its entry is =
      let both = and_parts (n == entry.commands) (bytes_eq path entry.path) is in
      (eqb-true n entry.commands both.0, (bytes_eq-Decides path entry.path).0 both.1)

  -- what is found is of them, and has what all entries have
  pub found : (P : Entry → Type 0) (entries : List Entry) (entry : Entry) → AllByRecursion P entries → entry_of n path entries ≡ Some entry → IsIts entry × P entry
  found P [] entry all is = cc is
  found P (x ∷ xs) entry all is = by (is_of n path x) refl is (found P xs entry all.1)
    where
      by : (b : Bool) → is_of n path x ≡ b → cond b (Some x) (entry_of n path xs) ≡ Some entry → (entry_of n path xs ≡ Some entry → IsIts entry × P entry) → IsIts entry × P entry
      by true own e more = let same : x ≡ entry = cc e in subst (λ y. IsIts y × P y) same (its x own, all.0)
      by false other e more = more e

  -- the entries but one
  pub all_others : (P : Entry → Type 0) (entries : List Entry) → AllByRecursion P entries → AllByRecursion P (others n path entries)
  all_others P [] all = tt
  all_others P (x ∷ xs) all = by (is_of n path x) (all_others P xs all.1)
    where
      by : (b : Bool) → AllByRecursion P (others n path xs) → AllByRecursion P (cond b xs (x ∷ others n path xs))
      by true more = all.1
      by false more = (all.0, more)

  pub none_others : (m : ℕ) (q : List ℕ) (entries : List Entry) → entry_of m q entries ≡ None → entry_of m q (others n path entries) ≡ None
  none_others m q [] none = refl
  none_others m q (x ∷ xs) none = by (is_of n path x) (is_of m q x) refl none (none_others m q xs)
    where
      by : (a b : Bool) → is_of m q x ≡ b → cond b (Some x) (entry_of m q xs) ≡ None → (entry_of m q xs ≡ None → entry_of m q (others n path xs) ≡ None)
          → entry_of m q (cond a xs (x ∷ others n path xs)) ≡ None
      by true true e nil more = cc nil
      by true false e nil more = nil
      by false true e nil more = cc nil
      by false false e nil more = ap (λ (t : Bool). cond t (Some x) (entry_of m q (others n path xs))) e ∙ more nil

  pub apart_others : (entries : List Entry) → AreApart entries → AreApart (others n path entries)
  apart_others [] apart = tt
  apart_others (x ∷ xs) apart = by (is_of n path x) (apart_others xs apart.1)
    where
      by : (b : Bool) → AreApart (others n path xs) → AreApart (cond b xs (x ∷ others n path xs))
      by true more = apart.1
      by false more = (none_others x.commands x.path xs apart.0, more)

  -- the one that is found isn't among the others
  pub gone : (entries : List Entry) → AreApart entries → entry_of n path (others n path entries) ≡ None
  gone [] apart = refl
  gone (x ∷ xs) apart = by (is_of n path x) refl (gone xs apart.1)
    where
      by : (b : Bool) → is_of n path x ≡ b → entry_of n path (others n path xs) ≡ None → entry_of n path (cond b xs (x ∷ others n path xs)) ≡ None
      by true own more =
          let is = its x own in
          ap (λ (m : ℕ). entry_of m path xs) is.0 ∙ ap (λ (q : List ℕ). entry_of x.commands q xs) is.1 ∙ apart.0
      by false other more = ap (λ (t : Bool). cond t (Some x) (entry_of n path (others n path xs))) other ∙ more

  pub none_taken : (k : ℕ) (entries : List Entry) → entry_of n path entries ≡ None → entry_of n path (take k entries) ≡ None
  none_taken zero entries none = refl
  none_taken (suc k) [] none = refl
  none_taken (suc k) (x ∷ xs) none = by (is_of n path x) none (none_taken k xs)
    where
      by : (b : Bool) → cond b (Some x) (entry_of n path xs) ≡ None → (entry_of n path xs ≡ None → entry_of n path (take k xs) ≡ None)
          → cond b (Some x) (entry_of n path (take k xs)) ≡ None
      by true nil more = cc nil
      by false nil more = more nil

  -- ---- as keys

  abbrev key : Key
  key = record { accepted = n; path = path }

  pub any_is : (entries : List Entry) → list_any (is_key key) (map key_of entries) ≡ is_some (entry_of n path entries)
  any_is [] = refl
  any_is (x ∷ xs) = by (is_of n path x) (any_is xs)
    where
      by : (b : Bool) → list_any (is_key key) (map key_of xs) ≡ is_some (entry_of n path xs)
          → (b || list_any (is_key key) (map key_of xs)) ≡ is_some (cond b (Some x) (entry_of n path xs))
      by true h = refl
      by false h = h

  pub all_kept : (entries : List Entry) → entry_of n path entries ≡ None → filter (λ k. not (is_key key k)) (map key_of entries) ≡ map key_of entries
  all_kept [] none = refl
  all_kept (x ∷ xs) none = by (is_of n path x) none (all_kept xs)
    where
      by : (b : Bool) → cond b (Some x) (entry_of n path xs) ≡ None → (entry_of n path xs ≡ None → filter (λ k. not (is_key key k)) (map key_of xs) ≡ map key_of xs)
          → cond (not b) (key_of x ∷ filter (λ k. not (is_key key k)) (map key_of xs)) (filter (λ k. not (is_key key k)) (map key_of xs)) ≡ key_of x ∷ map key_of xs
      by true nil more = cc nil
      by false nil more = ap (λ (ks : List Key). key_of x ∷ ks) (more nil)

  pub others_kept : (entries : List Entry) → AreApart entries → filter (λ k. not (is_key key k)) (map key_of entries) ≡ map key_of (others n path entries)
  others_kept [] apart = refl
  others_kept (x ∷ xs) apart = by (is_of n path x) refl (others_kept xs apart.1)
    where
      by : (b : Bool) → is_of n path x ≡ b → filter (λ k. not (is_key key k)) (map key_of xs) ≡ map key_of (others n path xs)
          → cond (not b) (key_of x ∷ filter (λ k. not (is_key key k)) (map key_of xs)) (filter (λ k. not (is_key key k)) (map key_of xs)) ≡ map key_of (cond b xs (x ∷ others n path xs))
      by true own more =
          let is = its x own in
          all_kept xs (ap (λ (m : ℕ). entry_of m path xs) is.0 ∙ ap (λ (q : List ℕ). entry_of x.commands q xs) is.1 ∙ apart.0)
      by false other more = ap (λ (ks : List Key). key_of x ∷ ks) more

all_taken : (P : Entry → Type 0) (k : ℕ) (entries : List Entry) → AllByRecursion P entries → AllByRecursion P (take k entries)
all_taken P zero entries all = tt
all_taken P (suc k) [] all = tt
all_taken P (suc k) (x ∷ xs) all = (all.0, all_taken P k xs all.1)

apart_taken : (k : ℕ) (entries : List Entry) → AreApart entries → AreApart (take k entries)
apart_taken zero entries apart = tt
apart_taken (suc k) [] apart = tt
apart_taken (suc k) (x ∷ xs) apart = (none_taken x.commands x.path k xs apart.0, apart_taken k xs apart.1)

keys_taken : (k : ℕ) (entries : List Entry) → map key_of (take k entries) ≡ take k (map key_of entries)
keys_taken zero entries = refl
keys_taken (suc k) [] = refl
keys_taken (suc k) (x ∷ xs) = ap (λ (ks : List Key). key_of x ∷ ks) (keys_taken k xs)

all_as : (P Q : Entry → Type 0) (entries : List Entry) → ((entry : Entry) → P entry → Q entry) → AllByRecursion P entries → AllByRecursion Q entries
all_as P Q [] leads all = tt
all_as P Q (x ∷ xs) leads all = (leads x all.0, all_as P Q xs leads all.1)

-- ---- replies that are kept stay true

module _ (stack : Stack) (commands : ℕ) where
  pub keeps_hit : (n : ℕ) (path : List ℕ) (entry : Entry) (cache : Kept) → KeepsTrue stack commands cache → entry_of n path cache.entries ≡ Some entry → KeepsTrue stack commands (after_hit n path entry cache)
  keeps_hit n path entry cache keeps is =
      let its = found n path (IsTrueOf stack commands) cache.entries entry keeps.entries is in
      record {
        room = keeps.room;
        entries = (its.1, all_others n path (IsTrueOf stack commands) cache.entries keeps.entries);
        apart = (
          ap (λ (m : ℕ). entry_of m entry.path (others n path cache.entries)) (sym its.0.0)
              ∙ ap (λ (q : List ℕ). entry_of n q (others n path cache.entries)) (sym its.0.1)
              ∙ gone n path cache.entries keeps.apart,
          apart_others n path cache.entries keeps.apart,
        );
      }

  pub keeps_miss : (entry : Entry) (cache : Kept) → KeepsTrue stack commands cache → entry_of entry.commands entry.path cache.entries ≡ None → IsTrueOf stack commands entry → KeepsTrue stack commands (after_miss entry cache)
  keeps_miss entry cache keeps none is = by (nat_le (length entry.reply.body) body_kept)
    where
      by : (b : Bool) → KeepsTrue stack commands (cond b (record cache { entries = entry ∷ take (cache.room - 1) cache.entries }) cache)
      by true = record {
        room = keeps.room;
        entries = (is, all_taken (IsTrueOf stack commands) (cache.room - 1) cache.entries keeps.entries);
        apart = (none_taken entry.commands entry.path (cache.room - 1) cache.entries none, apart_taken (cache.room - 1) cache.entries keeps.apart);
      }
      by false = keeps

-- behind one more command all of them are of the past
pub keeps_past : (old new : Stack) (commands : ℕ) (cache : Kept) → KeepsTrue old commands cache → KeepsTrue new (commands + 1) cache
keeps_past old new commands cache keeps = record {
  room = keeps.room;
  entries = all_as (IsTrueOf old commands) (IsTrueOf new (commands + 1)) cache.entries (λ entry was. record {
    none_above = let e = was.none_above in omega (arith, e);
    present = λ is. let e = was.none_above in absurd (omega (arith, e, is));
  }) keeps.entries;
  apart = keeps.apart;
}

-- before the first reply
pub keeps_none : (stack : Stack) (commands : ℕ) (cache : Kept) → cache.room ≡ 64 → cache.entries ≡ [] → KeepsTrue stack commands cache
keeps_none stack commands cache room none = record {
  room = room;
  entries = subst (AllByRecursion (IsTrueOf stack commands)) (sym none) tt;
  apart = subst AreApart (sym none) tt;
}

-- ---- as a tally

key_is : (n : ℕ) (path : List ℕ) (entry : Entry) → n ≡ entry.commands → path ≡ entry.path → key_of entry ≡ record { accepted = n; path = path }
key_is n path entry a b = λ i. record { accepted = sym a i; path = sym b i }

all_any : (entries : List Entry) → AllByRecursion (λ entry. Unit {0}) entries
all_any [] = tt
all_any (x ∷ xs) = (tt, all_any xs)

-- a hit, of a count that can rise
pub tally_hit : (n : ℕ) (path : List ℕ) (entry : Entry) (cache : Kept) (size : ℕ) → AreApart cache.entries → entry_of n path cache.entries ≡ Some entry → cache.hits < 2 ^ 64 - 1
    → tally_of (after_hit n path entry cache) ≡ with_get (record { accepted = n; path = path }) size (tally_of cache)
tally_hit n path entry cache size apart is few =
    let its = (found n path (λ e. Unit {0}) cache.entries entry (all_any cache.entries) is).0 in
    let any : list_any (is_key (record { accepted = n; path = path })) (map key_of cache.entries) ≡ true = any_is n path cache.entries ∙ ap is_some is in
    let keys : key_of entry ∷ map key_of (others n path cache.entries) ≡ record { accepted = n; path = path } ∷ filter (λ k. not (is_key (record { accepted = n; path = path }) k)) (map key_of cache.entries) =
    ap (λ (k : Key). k ∷ map key_of (others n path cache.entries)) (key_is n path entry its.0 its.1)
    ∙ ap (λ (ks : List Key). record { accepted = n; path = path } ∷ ks) (sym (others_kept n path cache.entries apart)) in
    let hits : min (cache.hits + 1) (2 ^ 64 - 1) ≡ cache.hits + 1 = omega (arith, few) in
    (λ i. record { keys = keys i; hits = hits i })
    ∙ ap (λ (b : Bool). cond b (record { keys = record { accepted = n; path = path } ∷ filter (λ k. not (is_key (record { accepted = n; path = path }) k)) (map key_of cache.entries); hits = cache.hits + 1 })
    (cond (nat_le size 65536) (record (tally_of cache) { keys = take 64 (record { accepted = n; path = path } ∷ map key_of cache.entries) }) (tally_of cache))) (sym any)

-- a miss
pub tally_miss : (entry : Entry) (cache : Kept) → cache.room ≡ 64 → entry_of entry.commands entry.path cache.entries ≡ None
    → tally_of (after_miss entry cache) ≡ with_get (key_of entry) (length entry.reply.body) (tally_of cache)
tally_miss entry cache room none =
    by (nat_le (length entry.reply.body) 65536)
    ∙ ap (λ (b : Bool). cond b (record { keys = key_of entry ∷ filter (λ k. not (is_key (key_of entry) k)) (map key_of cache.entries); hits = cache.hits + 1 })
    (cond (nat_le (length entry.reply.body) 65536) (record (tally_of cache) { keys = take 64 (key_of entry ∷ map key_of cache.entries) }) (tally_of cache)))
    (sym (any_is entry.commands entry.path cache.entries ∙ ap is_some none))
  where
    by : (b : Bool) → tally_of (cond b (record cache { entries = entry ∷ take (cache.room - 1) cache.entries }) cache)
        ≡ cond b (record (tally_of cache) { keys = take 64 (key_of entry ∷ map key_of cache.entries) }) (tally_of cache)
    by true =
        let keys : key_of entry ∷ map key_of (take (cache.room - 1) cache.entries) ≡ key_of entry ∷ take 63 (map key_of cache.entries) =
        ap (λ (ks : List Key). key_of entry ∷ ks) (ap (λ (r : ℕ). map key_of (take (r - 1) cache.entries)) room ∙ keys_taken 63 cache.entries) in
        ap (λ (ks : List Key). record { keys = ks; hits = cache.hits }) keys
    by false = refl

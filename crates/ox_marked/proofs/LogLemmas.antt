-- What stood where something was put, as a list of which the oldest comes first.
use Rattle.std.proofs.Common.{not, ◌≡◌, ◌∙◌, ℕ, ◌<◌, ◌+◌, Bool, true, false, cond, List, [], ◌∷◌, ◌++◌, drop, get_or, length, Option, Some, None, is_some, Result, Ok, Err, Bor, Ordering, Less, Equal, Greater, refl, sym, ap, subst, true≢false}
use Rattle.std.specs.Prelude.{IsSome, IsOk, IfOk, OnOk, OnErr, All, ◌||◌, ◌&&◌, if◌then◌else◌}
use Rattle.std.specs.Ordering.{eq_by_cmp, is_eq, is_lt}
use Rattle.std.specs.Cmp.{IsTotalOrder, eq_by_cmp_equiv}
use Rattle.std.specs.Option.{IfSome, option_copied, option_flatten, option_map, option_or, unwrap_or}
use Rattle.std.specs.List.{AllByRecursion, dedup, dedup_from, filter, list_any}
use Rattle.std.specs.List.Sorted.{IsSorted, IsStable, IsStrictlySortedBy}
use Rattle.std.specs.Map.{keys_of, lookup}
use Rattle.std.specs.BTreeMap.{is_at}
use Rattle.std.proofs.lemmas.Cmp.{on_total}
use Rattle.std.proofs.lemmas.List.Kept.{IsStrictlySortedBy-dedup}
use Rattle.std.proofs.lemmas.Map.Entries.{lookup-filter-keys, lookup_from_place}
use Rattle.std.proofs.lemmas.Map.Keys.{IsDistinct-from_sorted}
use Rattle.std.proofs.lemmas.Option.{slice_get-get_or}
use Rattle.std.proofs.lemmas.List.{drop_more}
use Rattle.std.proofs.lemmas.List.Elements.{All-nil, All-push, All-same, All-weaker}
use Rattle.ox_marked.specs.Marked.{Values, standing, before_in, AreLogged}

equal : (r : Ordering) → is_eq r ≡ true → r ≡ Equal
equal Less is = absurd (true≢false (sym is))
equal Equal is = refl
equal Greater is = absurd (true≢false (sym is))

-- what holds of an Ok, where it is one
pub of_ok : {A E P : Type 0} (r : Result A E) → IsOk r → OnOk r P → P
of_ok (Ok x) is p = p
of_ok (Err e) is p = absurd (true≢false (sym is))

-- what holds in any case holds of an Err
pub on_err : {A E P : Type 0} (r : Result A E) → P → OnErr r P
on_err (Ok x) p = tt
on_err (Err e) p = p

-- what two facts on an answer say together
pub both_ok : {A E : Type 0} (r : Result A E) (P Q R : A → Type 0) → ((a : A) → P a → Q a → R a) → IfOk r P → IfOk r Q → IfOk r R
both_ok (Ok a) P Q R step p q = step a p q
both_ok (Err e) P Q R step p q = tt

pub flat : {V : Type 0} (o : Option (Option V)) → option_flatten o ≡ unwrap_or o None
flat None = refl
flat (Some v) = refl

or_cond : {X : Type 0} (b : Bool) (x : X) (a c : Option X) → cond b (Some x) (option_or a c) ≡ option_or (cond b (Some x) a) c
or_cond true x a c = refl
or_cond false x a c = refl

-- what is found where a note comes behind the others
pub found_last : {K X : Type 0} (test : K → Bool) (log : List (K × X)) (key : K) (x : X) → lookup test (log ++ (key, x) ∷ []) ≡ option_or (lookup test log) (cond (test key) (Some x) None)
found_last test [] key x = refl
found_last test (note ∷ log) key x = ap (cond (test note.0) (Some note.1)) (found_last test log key x) ∙ or_cond (test note.0) note.1 (lookup test log) (cond (test key) (Some x) None)

changed_by : {X : Type 0} (a : Option X) (b : Bool) (x : X) → is_some (option_or a (cond b (Some x) None)) ≡ (if b then true else is_some a)
changed_by None true x = refl
changed_by None false x = refl
changed_by (Some y) true x = refl
changed_by (Some y) false x = refl

noted_by : {V : Type 0} (a : Option (Option V)) (b : Bool) (stood value : Option V) (now was : Option (Option V)) → (b ≡ true → stood ≡ unwrap_or was None) → now ≡ cond b (Some value) was
    → unwrap_or (option_or a (cond b (Some stood) None)) (unwrap_or now None) ≡ unwrap_or a (unwrap_or was None)
noted_by (Some v) b stood value now was same is = refl
noted_by None true stood value now was same is = same refl
noted_by None false stood value now was same is = ap (λ o. unwrap_or o None) is

pub content_by : {V : Type 0} (b : Bool) (value : Option V) (now was : Option (Option V)) → now ≡ cond b (Some value) was → unwrap_or now None ≡ (if b then value else unwrap_or was None)
content_by true value now was is = ap (λ o. unwrap_or o None) is
content_by false value now was is = ap (λ o. unwrap_or o None) is

back_by : {V : Type 0} (b : Bool) (value rest after : Option V) (later : Option (Option V)) (now was : Option (Option V)) → now ≡ cond b (Some value) was → unwrap_or was None ≡ unwrap_or later after
    → unwrap_or now None ≡ unwrap_or (cond b (Some value) later) after
back_by true value rest after later now was is old = ap (λ o. unwrap_or o None) is
back_by false value rest after later now was is old = ap (λ o. unwrap_or o None) is ∙ old

swept_by : {V : Type 0} (b : Bool) (now was : Option (Option V)) → (b ≡ true → unwrap_or was None ≡ None) → now ≡ cond b None was → unwrap_or now None ≡ unwrap_or was None
swept_by true now was none is = ap (λ o. unwrap_or o None) is ∙ sym (none refl)
swept_by false now was none is = ap (λ o. unwrap_or o None) is

still_by : {X : Type 0} (b : Bool) (x : X) (now was : Option X) → now ≡ cond b (Some x) was → IsSome was → IsSome now
still_by true x now was is some = subst IsSome (sym is) refl
still_by false x now was is some = subst IsSome (sym is) some

module _ {K : Type 0} {cmp : K → K → Ordering} (o : IsTotalOrder cmp) where
  -- whether keys are equal, seen from either
  pub same_key : (a b : K) → is_at (cmp a) b ≡ is_at (cmp b) a
  same_key a b = (eq_by_cmp_equiv o).symm a b

  -- at an equal key the same is found
  pub alike : {X : Type 0} (entries : List (K × X)) (a b : K) → is_at (cmp a) b ≡ true → lookup (is_at (cmp a)) entries ≡ lookup (is_at (cmp b)) entries
  alike entries a b same = ap (λ f. lookup (is_at f) entries) (λ i z. o.congr a b z (equal (cmp a b) same) i)

  -- no order between equal keys
  ties_same : (q k : K) → is_at (cmp q) k ≡ true → (not (is_lt (cmp q k)) && not (is_lt (cmp k q))) ≡ true
  ties_same q k same =
      let here : cmp q k ≡ Equal = equal _ same in
      let back : cmp k q ≡ Equal = equal _ (sym (same_key q k) ∙ same) in
      λ i. not (is_lt (here i)) && not (is_lt (back i))

  -- equal keys, seen from a third
  seen_alike : (q a b : K) → is_at (cmp a) b ≡ true → is_at (cmp q) a ≡ is_at (cmp q) b
  seen_alike q a b same = same_key q a ∙ ap is_eq (o.congr a b q (equal (cmp a b) same)) ∙ same_key b q

-- ---- a change is noted

module _ {K V : Type 0} {cmp : K → K → Ordering} (o : IsTotalOrder cmp) where
  module _ (entries new log later : Values K V) (key : K) (value stood : Option V) (pushed : later ≡ log ++ (key, stood) ∷ [])
      (put : (q : K) → lookup (is_at (cmp q)) new ≡ cond (is_eq (cmp key q)) (Some value) (lookup (is_at (cmp q)) entries)) where
    found : (q : K) → lookup (is_at (cmp q)) later ≡ option_or (lookup (is_at (cmp q)) log) (cond (is_at (cmp key) q) (Some stood) None)
    found q =
        ap (lookup (is_at (cmp q))) pushed ∙ found_last (is_at (cmp q)) log key stood
        ∙ ap (λ (b : Bool). option_or (lookup (is_at (cmp q)) log) (cond b (Some stood) None)) (same_key o q key)

    pub changed_more : (q : K) → is_some (lookup (is_at (cmp q)) later) ≡ (if is_eq (cmp key q) then true else is_some (lookup (is_at (cmp q)) log))
    changed_more q = ap is_some (found q) ∙ changed_by (lookup (is_at (cmp q)) log) (is_eq (cmp key q)) stood

    -- what stood at the mark stays
    pub before_stays : stood ≡ standing cmp entries key → (q : K) → before_in cmp later (standing cmp new) q ≡ before_in cmp log (standing cmp entries) q
    before_stays is q =
        ap (λ (n : Option (Option V)). unwrap_or n (standing cmp new q)) (found q)
        ∙ noted_by (lookup (is_at (cmp q)) log) (is_eq (cmp key q)) stood value (lookup (is_at (cmp q)) new) (lookup (is_at (cmp q)) entries)
        (λ same. is ∙ ap (λ (e : Option (Option V)). unwrap_or e None) (alike o entries key q same)) (put q)

    pub mark_stays : (marked : Bool) → stood ≡ standing cmp entries key
        → ◌≡◌ {A = Option (K → Option V)} (if marked then Some (before_in cmp later (standing cmp new)) else None) (if marked then Some (before_in cmp log (standing cmp entries)) else None)
    mark_stays marked is = ap (λ (f : K → Option V). if marked then Some f else None) (λ i q. before_stays is q i)

  -- ---- changes are put back

  -- where an entry stands, one stands after a change
  pub logged_still : (log entries new : Values K V) (key : K) (value : Option V)
      → ((q : K) → lookup (is_at (cmp q)) new ≡ cond (is_eq (cmp key q)) (Some value) (lookup (is_at (cmp q)) entries)) → AreLogged cmp log entries → AreLogged cmp log new
  logged_still log entries new key value put logged =
      All-weaker (λ (note : K × Option V). IsSome (lookup (is_at (cmp note.0)) entries)) (λ (note : K × Option V). IsSome (lookup (is_at (cmp note.0)) new))
      (λ note some. still_by (is_eq (cmp key note.0)) value _ _ (put note.0) some) log logged

  -- and one stands where something was put
  pub logged_more : (log later entries new : Values K V) (key : K) (value stood : Option V) → later ≡ log ++ (key, stood) ∷ []
      → ((q : K) → lookup (is_at (cmp q)) new ≡ cond (is_eq (cmp key q)) (Some value) (lookup (is_at (cmp q)) entries)) → AreLogged cmp log entries → AreLogged cmp later new
  logged_more log later entries new key value stood pushed put logged =
      let There : K × Option V → Type 0 = λ note. IsSome (lookup (is_at (cmp note.0)) new) in
      All-same There later (log ++ (key, stood) ∷ []) pushed
      (All-push There log (key, stood) (logged_still log entries new key value put logged)
      (subst IsSome (sym (put key ∙ ap (λ (b : Bool). cond b (Some value) (lookup (is_at (cmp key)) entries)) ((eq_by_cmp_equiv o).refl key))) refl))

  -- what is put for a note that is the same
  pub put_for : (entries new : Values K V) (told note : K × Option V) (value : Option V) → told ≡ note → value ≡ told.1
      → ((q : K) → lookup (is_at (cmp q)) new ≡ cond (is_eq (cmp told.0 q)) (Some value) (lookup (is_at (cmp q)) entries))
      → (q : K) → lookup (is_at (cmp q)) new ≡ cond (is_eq (cmp note.0 q)) (Some note.1) (lookup (is_at (cmp q)) entries)
  put_for entries new told note value same is put q =
      put q ∙ ap (λ (v : Option V). cond (is_eq (cmp told.0 q)) (Some v) (lookup (is_at (cmp q)) entries)) is
      ∙ ap (λ (n : K × Option V). cond (is_eq (cmp n.0 q)) (Some n.1) (lookup (is_at (cmp q)) entries)) same

  -- one more is put back
  pub one_back : (log entries new : Values K V) (after : K → Option V) (note d : K × Option V) (k left : ℕ) → k + 1 ≡ left → k < length log → get_or log k d ≡ note
      → ((q : K) → lookup (is_at (cmp q)) new ≡ cond (is_eq (cmp note.0 q)) (Some note.1) (lookup (is_at (cmp q)) entries))
      → ((q : K) → standing cmp entries q ≡ before_in cmp (drop left log) after q) → (q : K) → standing cmp new q ≡ before_in cmp (drop k log) after q
  one_back log entries new after note d k left next less is put old q =
      back_by (is_at (cmp q) note.0) note.1 None (after q) (lookup (is_at (cmp q)) (drop left log)) (lookup (is_at (cmp q)) new) (lookup (is_at (cmp q)) entries)
      (put q ∙ ap (λ (b : Bool). cond b (Some note.1) (lookup (is_at (cmp q)) entries)) (same_key o note.0 q)) (old q)
      ∙ sym (ap (λ (l : Values K V). before_in cmp l after q)
      (drop_more log k d less ∙ (λ i. is i ∷ drop (next i) log)))

  -- ---- an entry without a value is taken away

  pub swept : (entries new : Values K V) (key : K) → standing cmp entries key ≡ None → ((q : K) → lookup (is_at (cmp q)) new ≡ cond (is_eq (cmp key q)) None (lookup (is_at (cmp q)) entries))
      → (q : K) → standing cmp new q ≡ standing cmp entries q
  swept entries new key none gone q =
      swept_by (is_eq (cmp key q)) (lookup (is_at (cmp q)) new) (lookup (is_at (cmp q)) entries)
      (λ same. ap (λ (e : Option (Option V)). unwrap_or e None) (sym (alike o entries key q same)) ∙ none) (gone q)

-- ---- all is put back

pub none_logged : {K V : Type 0} (cmp : K → K → Ordering) (log entries : Values K V) → log ≡ [] → AreLogged cmp log entries
none_logged {K} {V} cmp log entries none =
    let There : K × Option V → Type 0 = λ note. IsSome (lookup (is_at (cmp note.0)) entries) in
    All-same There log [] none (All-nil There)

-- what stood at the mark stands again
pub back_to : {K V : Type 0} (cmp : K → K → Ordering) (log told entries back swept : Values K V) → told ≡ log → ((q : K) → standing cmp back q ≡ before_in cmp told (standing cmp entries) q)
    → ((q : K) → standing cmp swept q ≡ standing cmp back q) → (q : K) → standing cmp swept q ≡ before_in cmp log (standing cmp entries) q
back_to {K} {V} cmp log told entries back swept same put sweeps q = sweeps q ∙ put q ∙ ap (λ (l : Values K V). before_in cmp l (standing cmp entries) q) same

-- and the mark stays
pub mark_kept : {K V : Type 0} (cmp : K → K → Ordering) (log cleared entries swept : Values K V) (marked : Bool) → cleared ≡ [] → ((q : K) → standing cmp swept q ≡ before_in cmp log (standing cmp entries) q)
    → ◌≡◌ {A = Option (K → Option V)} (if marked then Some (before_in cmp cleared (standing cmp swept)) else None) (if marked then Some (before_in cmp log (standing cmp entries)) else None)
mark_kept {K} {V} cmp log cleared entries swept marked none back =
    ap (λ (f : K → Option V). if marked then Some f else None) (λ i q. (ap (λ (l : Values K V). before_in cmp l (standing cmp swept) q) none ∙ back q) i)

-- ---- what was put

pub if_marked : {A : Type 0} (marked : Bool) (f : A) (P : A → Type 0) → P f → IfSome {T = A} (if marked then Some f else None) P
if_marked true f P is = is
if_marked false f P is = tt

some_mapped : {A B : Type 0} (f : A → B) (o : Option A) → is_some o ≡ is_some (option_map f o)
some_mapped f None = refl
some_mapped f (Some a) = refl

-- keys that pass, asked of entries
keys_tell : {K X : Type 0} (test : K → Bool) (es : List (K × X)) → list_any test (keys_of es) ≡ is_some (lookup test es)
keys_tell test [] = refl
keys_tell test (e ∷ es) = by (test e.0) (keys_tell test es)
  where
    by : (b : Bool) → list_any test (keys_of es) ≡ is_some (lookup test es) → (b || list_any test (keys_of es)) ≡ is_some (cond b (Some e.1) (lookup test es))
    by true behind = refl
    by false behind = behind

-- ---- the oldest change at each key

keys_below : {K X : Type 0} (cmp : K → K → Ordering) (k : K) (xs : List (K × X)) → AllByRecursion (λ x. cmp k x.0 ≡ Less) xs → AllByRecursion (λ x. cmp k x ≡ Less) (keys_of xs)
keys_below cmp k [] all = tt
keys_below cmp k (x ∷ xs) all = (all.0, keys_below cmp k xs all.1)

keys_sorted : {K X : Type 0} (cmp : K → K → Ordering) (xs : List (K × X)) → IsStrictlySortedBy (λ a b. cmp a.0 b.0) xs → IsStrictlySortedBy cmp (keys_of xs)
unfolding IsStrictlySortedBy
keys_sorted cmp [] sorted = tt
keys_sorted cmp (x ∷ xs) sorted = (keys_below cmp x.0 xs sorted.0, keys_sorted cmp xs sorted.1)

either_is : {X : Type 0} (b : Bool) (s t rest : Option X) → cond b s rest ≡ cond b s (cond b t rest)
either_is true s t rest = refl
either_is false s t rest = refl

-- Changes, and those that are shown of them.
module _ {K X : Type 0} {cmp : K → K → Ordering} (o : IsTotalOrder cmp) where
  -- whether two have one key
  abbrev pub have_one : K × Option X → K × Option X → Bool
  have_one a b = eq_by_cmp cmp a.0 b.0

  -- the first at a key stays the first where those of one key keep their order
  pub found_sorted : (xs ys : List (K × Option X)) → IsStable (λ a b. cmp a.0 b.0) xs ys → (q : K) → lookup (is_at (cmp q)) ys ≡ lookup (is_at (cmp q)) xs
  found_sorted xs ys stable q = sym (kept ys) ∙ ap (lookup (is_at (cmp q))) (stable (q, None)) ∙ kept xs where
    kept : (es : List (K × Option X)) → lookup (is_at (cmp q)) (filter (λ e. not (is_lt (cmp q e.0)) && not (is_lt (cmp e.0 q))) es) ≡ lookup (is_at (cmp q)) es
    kept es = lookup-filter-keys (is_at (cmp q)) (λ k. not (is_lt (cmp q k)) && not (is_lt (cmp k q))) true (ties_same o q) es

  found_from : (q : K) (k : K × Option X) (xs : List (K × Option X)) → lookup (is_at (cmp q)) (dedup_from have_one k xs) ≡ lookup (is_at (cmp q)) (k ∷ xs)
  found_from q k [] = refl
  found_from q k (x ∷ xs) = by_test (found_from q k xs) (found_from q x xs) (is_at (cmp x.0) k.0) refl where
    by_test : lookup (is_at (cmp q)) (dedup_from have_one k xs) ≡ lookup (is_at (cmp q)) (k ∷ xs) → lookup (is_at (cmp q)) (dedup_from have_one x xs) ≡ lookup (is_at (cmp q)) (x ∷ xs)
        → (b : Bool) → is_at (cmp x.0) k.0 ≡ b → lookup (is_at (cmp q)) (cond b (dedup_from have_one k xs) (k ∷ dedup_from have_one x xs)) ≡ lookup (is_at (cmp q)) (k ∷ x ∷ xs)
    by_test first second true same =
        first ∙ either_is (is_at (cmp q) k.0) (Some k.1) (Some x.1) (lookup (is_at (cmp q)) xs)
        ∙ ap (λ (b : Bool). cond (is_at (cmp q) k.0) (Some k.1) (cond b (Some x.1) (lookup (is_at (cmp q)) xs))) (sym (seen_alike o q x.0 k.0 same))
    by_test first second false other = ap (cond (is_at (cmp q) k.0) (Some k.1)) second

  -- the first at a key stays where those behind it go
  pub found_first : (q : K) (xs : List (K × Option X)) → lookup (is_at (cmp q)) (dedup have_one xs) ≡ lookup (is_at (cmp q)) xs
  found_first q [] = refl
  found_first q (x ∷ xs) = found_from q x xs

  pub first_sorted : (xs : List (K × Option X)) → IsSorted (λ a b. cmp a.0 b.0) xs → IsStrictlySortedBy cmp (keys_of (dedup have_one xs))
  first_sorted xs sorted =
      keys_sorted cmp (dedup have_one xs) (IsStrictlySortedBy-dedup {R = λ (a b : K × Option X). cmp a.0 b.0} (on_total (λ (a : K × Option X). a.0) o) {E = have_one} (λ x y. refl) xs sorted)

-- Changes in order that say what the oldest change at each key says.
module _ {K V : Type 0} {cmp : K → K → Ordering} (o : IsTotalOrder cmp) (changes : List (K × Option (Bor V))) (log : Values K V) (ordered : IsStrictlySortedBy cmp (keys_of changes))
    (values : (q : K) → option_map option_copied (lookup (is_at (cmp q)) changes) ≡ lookup (is_at (cmp q)) log) where
  pub keys_put : (q : K) → list_any (λ key. is_eq (cmp q key)) (keys_of changes) ≡ is_some (lookup (is_at (cmp q)) log)
  keys_put q = keys_tell (is_at (cmp q)) changes ∙ some_mapped option_copied (lookup (is_at (cmp q)) changes) ∙ ap is_some (values q)

  pub values_before : (after : K → Option V) → All (λ change. option_copied change.1 ≡ before_in cmp log after change.0) changes
  values_before after =
      λ k d less.
      let e = get_or changes k d in
      let there = lookup_from_place (eq_by_cmp_equiv o) changes k e.0 e.1 (IsDistinct-from_sorted cmp (keys_of changes) ordered) (slice_get-get_or changes k d less) in
      ap (λ (n : Option (Option V)). unwrap_or n (after e.0)) (sym (ap (option_map option_copied) there) ∙ values e.0)

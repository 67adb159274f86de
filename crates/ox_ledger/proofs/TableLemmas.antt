-- Runes that are found by what they have.
use Rattle.std.proofs.Common.{◌≡◌, ◌≢◌, ◌∙◌, ℕ, zero, suc, ◌<◌, Bool, true, false, true≢false, cond, List, [], ◌∷◌, ◌++◌, length, map, refl, sym, ap, subst, Option, Some, None, arith, length-append, Ordering}
use Rattle.std.specs.Prelude.{IsSome, slice_get, slice_set, OnOk, OnErr, Result, Ok, Err}
use Rattle.std.specs.Option.{IfSome, IfNone, IsSomeAnd, option_map}
use Rattle.std.specs.Ordering.{is_eq, nat_cmp}
use Rattle.std.specs.declared.cmp.Ordering.TheVariants.{Less, Equal, Greater}
use Rattle.std.specs.FinMap.{nat_cmp-IsAntisymmetric}
use Rattle.std.proofs.lemmas.Option.{slice_get_within}
use Rattle.ox_marked.specs.Marked.{Logged, content_in, mark_in}
use Rattle.ox_runestone.specs.declared.stone.RuneId.{RuneId}
use Rattle.ox_allocation.specs.Balances.{id_cmp}
use Rattle.ox_allocation.proofs.Ids.{same_id}
use Rattle.ox_etching.specs.declared.row.RuneRow.{RuneRow}
use Rattle.ox_ledger.specs.Indexed.{AreAllIndexed, indexed_by}
use Rattle.ox_ledger.specs.Marks.{WithMark}
use Rattle.ox_ledger.specs.Shown.{AreIndexed, Finds, HasAt, IsAbsent, IsOnly}
use Rattle.ox_ledger.proofs.Fresh.{some_mapped}
use Rattle.ox_ledger.proofs.ListLemmas.{set_elsewhere, set_here}

-- a result is Ok or an error
pub either : {T E : Type 0} {P X Y : Type 0} (r : Result T E) → OnOk r X → OnErr r Y → (X → P) → (Y → P) → P
either (Ok x) ok err first second = first ok
either (Err e) ok err first second = second err

same_or_other : (P : Type 0) (i k : ℕ) → (i ≡ k → P) → (i ≢ k → P) → P
same_or_other P zero zero first second = first refl
same_or_other P zero (suc k) first second = second (λ e. absurd (omega (arith, e)))
same_or_other P (suc i) zero first second = second (λ e. absurd (omega (arith, e)))
same_or_other P (suc i) (suc k) first second = same_or_other P i k (λ e. first (ap suc e)) (λ other. second (λ e. other (omega (arith, e))))

pub value_in : {A : Type 0} (x y : A) → Some x ≡ Some y → x ≡ y
value_in x y is = cc is

module _ {A : Type 0} (of : RuneRow → A) where
  pub finds_none : (f : A → Option ℕ) → Finds of [] f
  finds_none f value place has = let none : None ≡ Some value = has in absurd (cc none)

  pub finds_same : (runes : List RuneRow) (f g : A → Option ℕ) → ((q : A) → g q ≡ f q) → Finds of runes f → Finds of runes g
  finds_same runes f g same finds value place has = same value ∙ finds value place has

  -- what no rune has may be given a place
  pub finds_beside : (runes : List RuneRow) (f g : A → Option ℕ) (test : A → Bool) (at : A) (place : Option ℕ) → ((q : A) → test q ≡ true → at ≡ q)
      → ((q : A) → g q ≡ cond (test q) place (f q)) → IsAbsent of runes at → Finds of runes f → Finds of runes g
  finds_beside runes f g test at place exact put absent finds value there has = put value ∙ by_test (test value) refl where
    by_test : (b : Bool) → test value ≡ b → cond b place (f value) ≡ Some there
    by_test true is = absurd (absent there (has ∙ ap Some (sym (exact value is))))
    by_test false is = finds value there has

  slice_get_last : (xs : List RuneRow) (row : RuneRow) → slice_get (xs ++ row ∷ []) (length xs) ≡ Some row
  slice_get_last [] row = refl
  slice_get_last (x ∷ xs) row = slice_get_last xs row

  slice_get_front : (xs ys : List RuneRow) (i : ℕ) → i < length xs → slice_get (xs ++ ys) i ≡ slice_get xs i
  slice_get_front [] ys i less = absurd (omega (arith, less))
  slice_get_front (x ∷ xs) ys zero less = refl
  slice_get_front (x ∷ xs) ys (suc i) less = slice_get_front xs ys i (omega (arith, less))

  pub finds_push : (runes : List RuneRow) (row : RuneRow) (f : A → Option ℕ) → f (of row) ≡ Some (length runes) → Finds of runes f → Finds of (runes ++ row ∷ []) f
  finds_push runes row f last finds value place has =
      same_or_other (f value ≡ Some place) place (length runes)
      (λ is.
      let here : Some (of row) ≡ Some value = sym (ap (option_map of) (ap (slice_get (runes ++ row ∷ [])) is ∙ slice_get_last runes row)) ∙ has in
      ap f (sym (value_in (of row) value here)) ∙ last ∙ ap Some (sym is))
      (λ other.
      let there = some_mapped of (slice_get (runes ++ row ∷ []) place) value has in
      let within = slice_get_within (runes ++ row ∷ []) place there.0 there.1 in
      let long = length-append runes (row ∷ []) in
      let front : place < length runes = omega (arith, within, long, other) in
      finds value place (ap (option_map of) (sym (slice_get_front runes (row ∷ []) place front)) ∙ has))

  has_set : (runes : List RuneRow) (place i : ℕ) (row : RuneRow) → HasAt of runes place (of row) → option_map of (slice_get (slice_set runes place row) i) ≡ option_map of (slice_get runes i)
  has_set runes place i row has =
      same_or_other (option_map of (slice_get (slice_set runes place row) i) ≡ option_map of (slice_get runes i)) i place
      (λ is.
      let there = some_mapped of (slice_get runes place) (of row) has in
      let within = slice_get_within runes place there.0 there.1 in
      ap (λ k. option_map of (slice_get (slice_set runes place row) k)) is ∙ ap (option_map of) (set_here runes place row within) ∙ sym has ∙ ap (λ k. option_map of (slice_get runes k)) (sym is))
      (λ other. ap (option_map of) (set_elsewhere runes place i row other))

  pub finds_set : (runes : List RuneRow) (place : ℕ) (row : RuneRow) (f : A → Option ℕ) → HasAt of runes place (of row) → Finds of runes f → Finds of (slice_set runes place row) f
  finds_set runes place row f has finds value i is = finds value i (sym (has_set runes place i row has) ∙ is)

  -- the rune that is found
  pub found : (runes : List RuneRow) (f : A → Option ℕ) (value : A) (place : ℕ) (row : RuneRow) → Finds of runes f → Some place ≡ f value → Some row ≡ slice_get runes place → of row ≡ value
      → IsOnly of runes value (place, row)
  found runes f value place row finds is there has = record {
    there = sym there;
    has = has;
    only = λ i has_i. value_in i place (sym (finds value i has_i) ∙ sym is);
  }

  pub not_placed : (runes : List RuneRow) (f : A → Option ℕ) (value : A) → Finds of runes f → None ≡ f value → IsAbsent of runes value
  not_placed runes f value finds none place has = let no : None ≡ Some place = none ∙ finds value place has in absurd (cc no)

  pub not_there : (runes : List RuneRow) (f : A → Option ℕ) (value : A) (place : ℕ) → Finds of runes f → Some place ≡ f value → None ≡ slice_get runes place → IsAbsent of runes value
  not_there runes f value place finds is none i has =
      let same : i ≡ place = value_in i place (sym (finds value i has) ∙ sym is) in
      let no : None ≡ Some value = ap (option_map of) none ∙ ap (λ k. option_map of (slice_get runes k)) (sym same) ∙ has in
      absurd (cc no)

  pub not_this : (runes : List RuneRow) (f : A → Option ℕ) (value : A) (place : ℕ) (row : RuneRow) → Finds of runes f → Some place ≡ f value → Some row ≡ slice_get runes place → of row ≢ value
      → IsAbsent of runes value
  not_this runes f value place row finds is there other i has =
      let same : i ≡ place = value_in i place (sym (finds value i has) ∙ sym is) in
      let here : Some (of row) ≡ Some value = ap (option_map of) there ∙ ap (λ k. option_map of (slice_get runes k)) (sym same) ∙ has in
      other (value_in (of row) value here)

  pub only_has : (runes : List RuneRow) (value : A) (at : ℕ × RuneRow) → IsOnly of runes value at → HasAt of runes at.0 value
  only_has runes value at only = ap (option_map of) only.there ∙ ap Some only.has

-- ---- runes of which one is changed

pub unchanged_by : (f : RuneRow → RuneRow) (runes : List RuneRow) → ((i : ℕ) (other : RuneRow) → slice_get runes i ≡ Some other → f other ≡ other) → runes ≡ map f runes
unchanged_by f [] stay = refl
unchanged_by f (x ∷ runes) stay =
    let first : x ≡ f x = sym (stay 0 x refl) in
    let rest = unchanged_by f runes (λ i other is. stay (suc i) other is) in
    λ i. first i ∷ rest i

-- each rune but the one at a place stays by a function, which changes that one
pub changed_at : (f : RuneRow → RuneRow) (runes : List RuneRow) (place : ℕ) (row : RuneRow) → slice_get runes place ≡ Some row
    → ((i : ℕ) (other : RuneRow) → i ≢ place → slice_get runes i ≡ Some other → f other ≡ other) → slice_set runes place (f row) ≡ map f runes
changed_at f [] place row there stay = let none : None ≡ Some row = there in absurd (cc none)
changed_at f (x ∷ runes) zero row there stay =
    let first : x ≡ row = value_in x row there in
    let rest : runes ≡ map f runes = unchanged_by f runes (λ i other is. stay (suc i) other (λ e. absurd (omega (arith, e))) is) in
    λ i. f (sym first i) ∷ rest i
changed_at f (x ∷ runes) (suc place) row there stay =
    let first : x ≡ f x = sym (stay 0 x (λ e. absurd (omega (arith, e))) refl) in
    let rest = changed_at f runes place row there (λ i other differ is. stay (suc i) other (λ e. differ (omega (arith, e))) is) in
    λ i. first i ∷ rest i

-- ---- the tables of runes

abbrev pub Rows : Type 0
Rows = WithMark (List RuneRow)

abbrev pub Ids : Type 0
Ids = Logged RuneId ℕ

abbrev pub Names : Type 0
Names = Logged ℕ ℕ

abbrev ids_of : Ids → RuneId → Option ℕ
ids_of ids = content_in id_cmp ids

abbrev names_of : Names → ℕ → Option ℕ
names_of names = content_in nat_cmp names

abbrev MarkIndexed : Option (List RuneRow) → Option (RuneId → Option ℕ) → Option (ℕ → Option ℕ) → Type 0
MarkIndexed runes ids names = IfSome runes (λ r. IfSome ids (λ i. IfSome names (λ n. AreIndexed r i n)))

no_mark_of_names : (runes : Option (List RuneRow)) (ids : Option (RuneId → Option ℕ)) → MarkIndexed runes ids None
no_mark_of_names None ids = tt
no_mark_of_names (Some r) None = tt
no_mark_of_names (Some r) (Some i) = tt

mark_from : (runes : List RuneRow) (ids : RuneId → Option ℕ) (names : ℕ → Option ℕ) (i : Option (RuneId → Option ℕ)) (n : Option (ℕ → Option ℕ)) → AreIndexed runes ids names
    → IfSome i (λ at. (q : RuneId) → at q ≡ ids q) → IfSome n (λ at. (q : ℕ) → at q ≡ names q) → MarkIndexed (Some runes) i n
mark_from runes ids names None n are same_ids same_names = tt
mark_from runes ids names (Some i) None are same_ids same_names = tt
mark_from runes ids names (Some i) (Some n) are same_ids same_names = record {
  ids = finds_same (λ row. row.id) runes ids i same_ids are.ids;
  names = finds_same (λ row. row.name) runes names n same_names are.names;
}

mark_at : (runes : List RuneRow) (m : Option (List RuneRow)) (ids : RuneId → Option ℕ) (names : ℕ → Option ℕ) (i : Option (RuneId → Option ℕ)) (n : Option (ℕ → Option ℕ)) → m ≡ Some runes → MarkIndexed m i n
    → IsSome i → IsSome n → IfSome i (λ at. (q : RuneId) → ids q ≡ at q) → IfSome n (λ at. (q : ℕ) → names q ≡ at q) → AreIndexed runes ids names
mark_at runes None ids names i n is indexed some_i some_n same_ids same_names = absurd (cc is)
mark_at runes (Some r) ids names None n is indexed some_i some_n same_ids same_names = absurd (true≢false (sym some_i))
mark_at runes (Some r) ids names (Some i) None is indexed some_i some_n same_ids same_names = absurd (true≢false (sym some_n))
mark_at runes (Some r) ids names (Some i) (Some n) is indexed some_i some_n same_ids same_names =
    let same : r ≡ runes = cc is in
    subst (λ (l : List RuneRow). AreIndexed l ids names) same (record {
      ids = finds_same (λ row. row.id) r i ids same_ids indexed.ids;
      names = finds_same (λ row. row.name) r n names same_names indexed.names;
    })

equal : (r : Ordering) → is_eq r ≡ true → r ≡ Equal
equal Less p = absurd (true≢false (sym p))
equal Equal p = refl
equal Greater p = absurd (true≢false (sym p))

pub indexed_new : (rows : Rows) (ids : Ids) (names : Names) → rows ≡ record { now = []; mark = None } → AreAllIndexed rows ids names
indexed_new rows ids names is = subst (λ (r : Rows). AreAllIndexed r ids names) (sym is) (record {
  now = record { ids = finds_none (λ row. row.id) (ids_of ids); names = finds_none (λ row. row.name) (names_of names) };
  mark = tt;
})

pub indexed_ids : (rows : Rows) (ids new : Ids) (names : Names) (id : RuneId) (place : Option ℕ) → ((q : RuneId) → content_in id_cmp new q ≡ cond (is_eq (id_cmp id q)) place (content_in id_cmp ids q))
    → mark_in id_cmp new ≡ mark_in id_cmp ids → IsAbsent (λ row. row.id) rows.now id → AreAllIndexed rows ids names → AreAllIndexed rows new names
indexed_ids rows ids new names id place put mark absent are = record {
  now = record {
    ids = finds_beside (λ row. row.id) rows.now (ids_of ids) (ids_of new) (λ q. is_eq (id_cmp id q)) id place (λ q is. same_id id q is) put absent are.now.ids;
    names = are.now.names;
  };
  mark = subst (λ (m : Option (RuneId → Option ℕ)). MarkIndexed rows.mark m (mark_in nat_cmp names)) (sym mark) are.mark;
}

pub indexed_names : (rows : Rows) (ids : Ids) (names new : Names) (name : ℕ) (place : Option ℕ) → ((q : ℕ) → content_in nat_cmp new q ≡ cond (is_eq (nat_cmp name q)) place (content_in nat_cmp names q))
    → mark_in nat_cmp new ≡ mark_in nat_cmp names → IsAbsent (λ row. row.name) rows.now name → AreAllIndexed rows ids names → AreAllIndexed rows ids new
indexed_names rows ids names new name place put mark absent are = record {
  now = record {
    ids = are.now.ids;
    names =
        finds_beside (λ row. row.name) rows.now (names_of names) (names_of new) (λ q. is_eq (nat_cmp name q)) name place (λ q is. nat_cmp-IsAntisymmetric name q (equal (nat_cmp name q) is)) put
        absent are.now.names;
  };
  mark = subst (λ (m : Option (ℕ → Option ℕ)). MarkIndexed rows.mark (mark_in id_cmp ids) m) (sym mark) are.mark;
}

pub indexed_push : (rows new : Rows) (ids : Ids) (names : Names) (row : RuneRow) → new ≡ record rows { now = rows.now ++ row ∷ [] } → content_in id_cmp ids row.id ≡ Some (length rows.now)
    → content_in nat_cmp names row.name ≡ Some (length rows.now) → AreAllIndexed rows ids names → AreAllIndexed new ids names
indexed_push rows new ids names row is id name are = subst (λ (r : Rows). AreAllIndexed r ids names) (sym is) (record {
  now = record {
    ids = finds_push (λ row. row.id) rows.now row (ids_of ids) id are.now.ids;
    names = finds_push (λ row. row.name) rows.now row (names_of names) name are.now.names;
  };
  mark = are.mark;
})

pub indexed_set : (rows new : Rows) (ids : Ids) (names : Names) (place : ℕ) (row : RuneRow) → new ≡ record rows { now = slice_set rows.now place row } → HasAt (λ r. r.id) rows.now place row.id
    → HasAt (λ r. r.name) rows.now place row.name → AreAllIndexed rows ids names → AreAllIndexed new ids names
indexed_set rows new ids names place row is id name are = subst (λ (r : Rows). AreAllIndexed r ids names) (sym is) (record {
  now = record {
    ids = finds_set (λ row. row.id) rows.now place row (ids_of ids) id are.now.ids;
    names = finds_set (λ row. row.name) rows.now place row (names_of names) name are.now.names;
  };
  mark = are.mark;
})

-- the places now
same_now : (runes new : List RuneRow) (ids new_ids : Ids) (names new_names : Names) → new ≡ runes → ((q : RuneId) → content_in id_cmp new_ids q ≡ content_in id_cmp ids q)
    → ((q : ℕ) → content_in nat_cmp new_names q ≡ content_in nat_cmp names q) → AreIndexed runes (ids_of ids) (names_of names) → AreIndexed new (ids_of new_ids) (names_of new_names)
same_now runes new ids new_ids names new_names is same_ids same_names are = subst (λ (l : List RuneRow). AreIndexed l (ids_of new_ids) (names_of new_names)) (sym is) (record {
  ids = finds_same (λ row. row.id) runes (ids_of ids) (ids_of new_ids) same_ids are.ids;
  names = finds_same (λ row. row.name) runes (names_of names) (names_of new_names) same_names are.names;
})

pub some_as : {B : Type 0} {P Q : B → Type 0} (o : Option B) → IsSome o → IfSome o P → ((b : B) → P b → Q b) → IfSome o Q
some_as None some is step = absurd (true≢false (sym some))
some_as (Some b) some is step = step b is

pub indexed_begun : (rows new : Rows) (ids new_ids : Ids) (names new_names : Names) → new.now ≡ rows.now → new.mark ≡ Some rows.now
    → ((q : RuneId) → content_in id_cmp new_ids q ≡ content_in id_cmp ids q) → ((q : ℕ) → content_in nat_cmp new_names q ≡ content_in nat_cmp names q)
    → IfSome (mark_in id_cmp new_ids) (λ at. (q : RuneId) → at q ≡ content_in id_cmp new_ids q) → IfSome (mark_in nat_cmp new_names) (λ at. (q : ℕ) → at q ≡ content_in nat_cmp new_names q)
    → AreAllIndexed rows ids names → AreAllIndexed new new_ids new_names
indexed_begun rows new ids new_ids names new_names is mark same_ids same_names ids_mark names_mark are =
    let now = same_now rows.now rows.now ids new_ids names new_names refl same_ids same_names are.now in
    record {
      now = same_now rows.now new.now ids new_ids names new_names is same_ids same_names are.now;
      mark =
          subst (λ (m : Option (List RuneRow)). MarkIndexed m (mark_in id_cmp new_ids) (mark_in nat_cmp new_names)) (sym mark)
          (mark_from rows.now (ids_of new_ids) (names_of new_names) (mark_in id_cmp new_ids) (mark_in nat_cmp new_names) now ids_mark names_mark);
    }

-- back at the mark
pub indexed_back : (rows new : Rows) (ids new_ids : Ids) (names new_names : Names) → rows.mark ≡ Some new.now → IsSome (mark_in id_cmp ids) → IsSome (mark_in nat_cmp names)
    → IfSome (mark_in id_cmp ids) (λ at. (q : RuneId) → content_in id_cmp new_ids q ≡ at q) → IfSome (mark_in nat_cmp names) (λ at. (q : ℕ) → content_in nat_cmp new_names q ≡ at q)
    → MarkIndexed new.mark (mark_in id_cmp new_ids) (mark_in nat_cmp new_names) → AreAllIndexed rows ids names → AreAllIndexed new new_ids new_names
indexed_back rows new ids new_ids names new_names is some_i some_n same_ids same_names mark are = record {
  now = mark_at new.now rows.mark (ids_of new_ids) (names_of new_names) (mark_in id_cmp ids) (mark_in nat_cmp names) is are.mark some_i some_n same_ids same_names;
  mark = mark;
}

pub no_mark_left : (new : Rows) (ids : Ids) (names : Names) → new.mark ≡ None → MarkIndexed new.mark (mark_in id_cmp ids) (mark_in nat_cmp names)
no_mark_left new ids names none = subst (λ (m : Option (List RuneRow)). MarkIndexed m (mark_in id_cmp ids) (mark_in nat_cmp names)) (sym none) tt

pub mark_stays : (rows new : Rows) (ids new_ids : Ids) (names new_names : Names) → new.mark ≡ rows.mark → mark_in id_cmp new_ids ≡ mark_in id_cmp ids → mark_in nat_cmp new_names ≡ mark_in nat_cmp names
    → AreAllIndexed rows ids names → MarkIndexed new.mark (mark_in id_cmp new_ids) (mark_in nat_cmp new_names)
mark_stays rows new ids new_ids names new_names m i n are =
    subst (λ (o : Option (List RuneRow)). MarkIndexed o (mark_in id_cmp new_ids) (mark_in nat_cmp new_names)) (sym m)
    (subst (λ (o : Option (RuneId → Option ℕ)). MarkIndexed rows.mark o (mark_in nat_cmp new_names)) (sym i)
    (subst (λ (o : Option (ℕ → Option ℕ)). MarkIndexed rows.mark (mark_in id_cmp ids) o) (sym n) are.mark))

pub if_from_and : {B : Type 0} (P : B → Type 0) (o : Option B) → IsSomeAnd o P → IfSome o P
if_from_and P None is = absurd is
if_from_and P (Some b) is = is

pub none_anyhow : {B : Type 0} {P : Type 0} (o : Option B) → P → IfNone o P
none_anyhow None p = p
none_anyhow (Some b) p = tt

-- all maps have a mark where the runes show one
pub marks_of : (m : Option (List RuneRow)) (i : Option (RuneId → Option ℕ)) (n : Option (ℕ → Option ℕ)) → IsSome (indexed_by m i n) → IsSome i × IsSome n
marks_of m None n some = absurd (true≢false (sym some))
marks_of m (Some i) None some = absurd (true≢false (sym some))
marks_of m (Some i) (Some n) some = (refl, refl)

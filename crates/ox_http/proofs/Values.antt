-- The values of fields, one field after another.
use Rattle.std.proofs.Common.{◌≡◌, ℕ, ◌+◌, ◌<◌, Bool, true, false, cond, not, ◌&&◌, ◌||◌, List, ◌∷◌, length, map, drop, get_or, refl, sym, ap, ◌∙◌, add-one, drop-cons, true≢false}
use Rattle.std.specs.Prelude.{◌↔◌}
use Rattle.std.specs.List.{list_all, list_any}
use Rattle.std.proofs.lemmas.Bool.{false_from_ne_true}
use Rattle.std.proofs.lemmas.Slice.Eq.{bytes_eq-Decides}
use Rattle.std.specs.Str.{bytes_eq, str_eq_ignore_ascii_case}
use Rattle.httparse.specs.declared.spans.HeaderSpan.{HeaderSpan}
use Rattle.httparse.specs.Spans.{header_bytes}
use Rattle.ox_http.specs.First.{values_of}

-- the values of the fields that spans cover, from the i-th on
abbrev pub values_from : List ℕ → List ℕ → List HeaderSpan → ℕ → List (List ℕ)
values_from name head spans i = values_of name (map (header_bytes head) (drop i spans))

-- the same, its first field taken apart
pub values_step : (name head : List ℕ) (spans : List HeaderSpan) (i : ℕ) (d : HeaderSpan)
    → i < length spans
    → values_from name head spans i
    ≡ values_of name (header_bytes head (get_or spans i d)
    ∷ map (header_bytes head) (drop (i + 1) spans))
values_step name head spans i d h =
    ap (λ l. values_of name (map (header_bytes head) l))
    (drop-cons spans i d h ∙ ap (λ n. get_or spans i d ∷ drop n spans) (sym (add-one i)))

abbrev key_at : List ℕ → List HeaderSpan → ℕ → HeaderSpan → List ℕ
key_at head spans i d = (header_bytes head (get_or spans i d)).0

abbrev value_at : List ℕ → List HeaderSpan → ℕ → HeaderSpan → List ℕ
value_at head spans i d = (header_bytes head (get_or spans i d)).1

-- a field of the name gives its value, another one nothing
with_value : (name : List ℕ) (field : List ℕ × List ℕ) (fields : List (List ℕ × List ℕ)) (v : Bool)
    → str_eq_ignore_ascii_case field.0 name ≡ v
    → values_of name (field ∷ fields)
    ≡ cond v (field.1 ∷ values_of name fields) (values_of name fields)
with_value name field fields true h = rw h refl
with_value name field fields false h = rw h refl

step : (name head : List ℕ) (spans : List HeaderSpan) (i : ℕ) (d : HeaderSpan) (v : Bool)
    → i < length spans → str_eq_ignore_ascii_case (key_at head spans i d) name ≡ v
    → values_from name head spans i
    ≡ cond v (value_at head spans i d ∷ values_from name head spans (i + 1))
    (values_from name head spans (i + 1))
step name head spans i d v h named =
    values_step name head spans i d h
    ∙ with_value name (header_bytes head (get_or spans i d))
    (map (header_bytes head) (drop (i + 1) spans)) v named

-- no field before the i-th has the name, and the i-th has it
pub first_here : (name head : List ℕ) (spans : List HeaderSpan) (i : ℕ) (d : HeaderSpan)
    (value : List ℕ) → i < length spans
    → str_eq_ignore_ascii_case (key_at head spans i d) name ≡ true
    → value ≡ value_at head spans i d
    → values_from name head spans 0 ≡ values_from name head spans i
    → (rest : List (List ℕ)) × (values_of name (map (header_bytes head) spans) ≡ value ∷ rest)
first_here name head spans i d value h named is before = (
  values_from name head spans (i + 1),
  before ∙ step name head spans i d true h named
      ∙ ap (λ z. z ∷ values_from name head spans (i + 1)) (sym is),
)

-- nor has the i-th
pub not_here : (name head : List ℕ) (spans : List HeaderSpan) (i : ℕ) (d : HeaderSpan)
    → i < length spans
    → str_eq_ignore_ascii_case (key_at head spans i d) name ≡ false
    → values_from name head spans 0 ≡ values_from name head spans i
    → values_from name head spans 0 ≡ values_from name head spans (i + 1)
not_here name head spans i d h named before = before ∙ step name head spans i d false h named

-- a field that has the name and fails a test, or none
pub all_step : (test : List ℕ → Bool) (name head : List ℕ) (spans : List HeaderSpan) (i : ℕ)
    (d : HeaderSpan) (o : Bool) → i < length spans
    → o ≡ (str_eq_ignore_ascii_case (key_at head spans i d) name
    && not (test (value_at head spans i d)))
    → list_all test (values_from name head spans i)
    ≡ (not o && list_all test (values_from name head spans (i + 1)))
all_step test name head spans i d o h is =
    by (str_eq_ignore_ascii_case (key_at head spans i d) name)
    (test (value_at head spans i d)) refl refl
  where
    by : (v w : Bool) → str_eq_ignore_ascii_case (key_at head spans i d) name ≡ v
        → test (value_at head spans i d) ≡ w
        → list_all test (values_from name head spans i)
        ≡ (not o && list_all test (values_from name head spans (i + 1)))
    by true true e f =
        ap (list_all test) (step name head spans i d true h e)
        ∙ rw f (rw is (rw (e, f) refl))
    by true false e f =
        ap (list_all test) (step name head spans i d true h e)
        ∙ rw f (rw is (rw (e, f) refl))
    by false w e f =
        ap (list_all test) (step name head spans i d false h e)
        ∙ rw is (rw e refl)

-- a field that has the name and passes a test, or none
pub any_step : (test : List ℕ → Bool) (name head : List ℕ) (spans : List HeaderSpan) (i : ℕ)
    (d : HeaderSpan) (o : Bool) → i < length spans
    → o ≡ (str_eq_ignore_ascii_case (key_at head spans i d) name
    && test (value_at head spans i d))
    → list_any test (values_from name head spans i)
    ≡ (o || list_any test (values_from name head spans (i + 1)))
any_step test name head spans i d o h is =
    by (str_eq_ignore_ascii_case (key_at head spans i d) name)
    (test (value_at head spans i d)) refl refl
  where
    by : (v w : Bool) → str_eq_ignore_ascii_case (key_at head spans i d) name ≡ v
        → test (value_at head spans i d) ≡ w
        → list_any test (values_from name head spans i)
        ≡ (o || list_any test (values_from name head spans (i + 1)))
    by true true e f =
        ap (list_any test) (step name head spans i d true h e)
        ∙ rw f (rw is (rw (e, f) refl))
    by true false e f =
        ap (list_any test) (step name head spans i d true h e)
        ∙ rw f (rw is (rw (e, f) refl))
    by false w e f =
        ap (list_any test) (step name head spans i d false h e)
        ∙ rw is (rw e refl)

-- a test that is true exactly where two texts are the same
pub same_from_iff : (r : Bool) (x y : List ℕ) → ((r ≡ true) ↔ (x ≡ y)) → r ≡ bytes_eq x y
same_from_iff true x y h = sym ((bytes_eq-Decides x y).1 (h.0 refl))
same_from_iff false x y h =
    sym (false_from_ne_true (bytes_eq x y)
    (λ e. true≢false (sym (h.1 ((bytes_eq-Decides x y).0 e)))))

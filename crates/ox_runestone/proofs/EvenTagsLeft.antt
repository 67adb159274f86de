-- Values of even tags that aren't taken: by a list of tags and values, and by what is kept of it.
use Rattle.std.proofs.Common.{◌≡◌, ◌≢◌, ℕ, ◌*◌, ◌/◌, ◌%◌, ◌<◌, ◌≤◌, List, [], ◌∷◌, length, Bool, true, false, cond, eqb, ltb, leb, ◌&&◌, ◌||◌, Option, Some, None, refl, sym, ap, subst, ◌∙◌, lit<, arith, inl, inr}
use Rattle.std.specs.Prelude.{is_some, slice_get}
use Rattle.std.specs.List.{list_any}
use Rattle.std.proofs.lemmas.Bool.{cases_lt, cases_eq, cases_Bool, lt-ltb, le-leb, eq-eqb, ne_eqb, eqb-true, and_parts, leb-true, ltb-true, cond_both, true≢false, false≢true}
use Rattle.ox_runestone.specs.declared.message.Values.{Values}
use Rattle.ox_runestone.specs.declared.message.Fields.{Fields}
use Rattle.ox_runestone.specs.declared.stone.RuneId.{RuneId}
use Rattle.ox_runestone.specs.Message.{Field, values}
use Rattle.ox_runestone.specs.ValuesKept.{values_kept, first_kept, second_kept, values_at, leaves_in, is_strange, IsKeptOf}
use Rattle.ox_runestone.specs.Fields.{Firsts, first_of, takes, only, taken_of, field_of, mint_of, count_taken, leaves_even, etching_of, has_strange_flag, is_etching, has_terms, is_turbo}
use Rattle.ox_runestone.specs.FieldsKept.{firsts_in, mint_kept}
use Rattle.ox_runestone.specs.declared.stone.Terms.{Terms}
use Rattle.ox_runestone.specs.declared.stone.Etching.{Etching}
use Rattle.ox_runestone.specs.declared.stone.Artifact.TheVariants.{Cenotaph}
use Rattle.ox_runestone.specs.Artifact.{mint_in, name_in, cenotaph_of}

-- ---- what is kept, and what it is kept of

first_kept-is : (list : List ℕ) → first_kept (values_kept list) ≡ slice_get list 0
first_kept-is [] = refl
first_kept-is (a ∷ []) = refl
first_kept-is (a ∷ b ∷ []) = refl
first_kept-is (a ∷ b ∷ c ∷ list) = refl

second_kept-is : (list : List ℕ) → second_kept (values_kept list) ≡ slice_get list 1
second_kept-is [] = refl
second_kept-is (a ∷ []) = refl
second_kept-is (a ∷ b ∷ []) = refl
second_kept-is (a ∷ b ∷ c ∷ list) = refl

pub firsts-same : (fields : Fields) (list : List Field) (tag : ℕ) → IsKeptOf fields list → tag < 23 → firsts_in fields tag ≡ first_of list tag
firsts-same fields list tag h lt = ap first_kept (h.known tag lt) ∙ first_kept-is (values list tag)

pub mint-same : (fields : Fields) (list : List Field) → IsKeptOf fields list → mint_kept fields ≡ mint_in list
mint-same fields list h =
    ap (λ (v : Values). mint_of (first_kept v) (second_kept v)) (h.known 20 (lit< tt))
    ∙ ap (λ f. mint_of f (second_kept (values_kept (values list 20)))) (first_kept-is (values list 20))
    ∙ ap (mint_of (slice_get (values list 20) 0)) (second_kept-is (values list 20))

takes-same : (fields : Fields) (list : List Field) (outputs tag value : ℕ) → IsKeptOf fields list → takes (firsts_in fields) outputs tag value ≡ takes (first_of list) outputs tag value
takes-same fields list outputs tag value h = let e = firsts-same fields list 2 h (lit< tt) in rw e refl

taken-same : (fields : Fields) (list : List Field) (outputs tag : ℕ) (value : Option ℕ) → IsKeptOf fields list → taken_of (firsts_in fields) outputs tag value ≡ taken_of (first_of list) outputs tag value
taken-same fields list outputs tag None h = refl
taken-same fields list outputs tag (Some value) h = ap (λ b. only b value) (takes-same fields list outputs tag value h)

pub field-same : (fields : Fields) (list : List Field) (outputs tag : ℕ) → IsKeptOf fields list → tag < 23 → field_of (firsts_in fields) outputs tag ≡ field_of (first_of list) outputs tag
field-same fields list outputs tag h lt = taken-same fields list outputs tag (firsts_in fields tag) h ∙ ap (taken_of (first_of list) outputs tag) (firsts-same fields list tag h lt)

pub count-same : (fields : Fields) (list : List Field) (outputs tag : ℕ) → IsKeptOf fields list → tag < 23 → count_taken (firsts_in fields) (mint_kept fields) outputs tag ≡ count_taken (first_of list) (mint_in list) outputs tag
count-same fields list outputs tag h lt = rw (mint-same fields list h, field-same fields list outputs tag h lt) refl

-- ---- how many values there are

leaves-values_kept : (list : List ℕ) (taken : ℕ) → taken ≤ 2 → leaves_in (values_kept list) taken ≡ ltb taken (length list)
leaves-values_kept [] taken le = refl
leaves-values_kept (a ∷ []) taken le = refl
leaves-values_kept (a ∷ b ∷ []) taken le = refl
leaves-values_kept (a ∷ b ∷ c ∷ list) taken le = lt-ltb taken 3 (omega arith) ∙ sym (lt-ltb taken _ (omega arith))

pub leaves-same : (fields : Fields) (list : List Field) (tag taken : ℕ) → IsKeptOf fields list → tag < 23 → taken ≤ 2 → leaves_in (values_at fields tag) taken ≡ ltb taken (length (values list tag))
leaves-same fields list tag taken h lt le = ap (λ v. leaves_in v taken) (h.known tag lt) ∙ leaves-values_kept (values list tag) taken le

-- ---- some tag of the list, or none

values-here : (field : Field) (list : List Field) → 0 < length (values (field ∷ list) field.0)
values-here field list = rw (eq-eqb field.0 field.0 refl) (omega arith)

values-behind : (field : Field) (list : List Field) (tag : ℕ) → 0 < length (values list tag) → 0 < length (values (field ∷ list) tag)
values-behind field list tag some =
    elim (cases_Bool (eqb field.0 tag)) [
      | inl same ↦ rw same (omega arith)
      | inr other ↦ rw other some
    ]

or_true : (b : Bool) → (b || true) ≡ true
or_true true = refl
or_true false = refl

pub any_true : (P : ℕ → Bool) (list : List Field) (tag : ℕ) → 0 < length (values list tag) → P tag ≡ true → list_any (λ f. P f.0) list ≡ true
any_true P [] tag some is = absurd (omega arith)
any_true P (field ∷ list) tag some is =
    elim (cases_eq field.0 tag) [
      | inl same ↦ let here : P field.0 ≡ true = ap P same ∙ is in rw here refl
      | inr other ↦
          let rest : values (field ∷ list) tag ≡ values list tag = rw (ne_eqb field.0 tag other) refl in
          let some' : 0 < length (values list tag) = rw rest at some in
          ap (λ b. P field.0 || b) (any_true P list tag some' is) ∙ or_true (P field.0)
    ]

pub any_false : (P : ℕ → Bool) (list : List Field) → ((tag : ℕ) → 0 < length (values list tag) → P tag ≡ false) → list_any (λ f. P f.0) list ≡ false
any_false P [] none = refl
any_false P (field ∷ list) none =
    let here : P field.0 ≡ false = none field.0 (values-here field list) in
    rw here (any_false P list (λ tag some. none tag (values-behind field list tag some)))

-- an even tag without a field stands there
pub strange_tag : (list : List Field) → list_any is_strange list ≡ true → (tag : ℕ) × (23 ≤ tag) × (eqb (tag % 2) 0 ≡ true) × (0 < length (values list tag))
strange_tag [] is = absurd (false≢true is)
strange_tag (field ∷ list) is =
    elim (cases_Bool (is_strange field)) [
      | inl here ↦
          let parts = and_parts (leb 23 field.0) (eqb (field.0 % 2) 0) here in
          (field.0, leb-true 23 field.0 parts.0, parts.1, values-here field list)
      | inr other ↦
          let rest = strange_tag list (sym (ap (λ b. b || list_any is_strange list) other) ∙ is) in
          (rest.0, rest.1, rest.2, values-behind field list rest.0 rest.3)
    ]

no_strange_tag : (list : List Field) (tag : ℕ) → list_any is_strange list ≡ false → 23 ≤ tag → 0 < length (values list tag) → eqb (tag % 2) 0 ≡ false
no_strange_tag list tag none high some =
    elim (cases_Bool (eqb (tag % 2) 0)) [
      | inl even ↦
          let P : ℕ → Bool = λ (t : ℕ). leb 23 t && eqb (t % 2) 0 in
          let at : P tag ≡ true = rw (le-leb 23 tag high, even) refl in
          let any : list_any is_strange list ≡ true = any_true P list tag some at in
          absurd (true≢false (sym any ∙ none))
      | inr odd ↦ odd
    ]

-- a tag without a field takes nothing
takes-high : (first : Firsts) (outputs tag value : ℕ) → 23 ≤ tag → takes first outputs tag value ≡ false
takes-high first outputs tag value high =
    let n1 : tag ≢ 1 = omega arith in
    let n2 : tag ≢ 2 = omega arith in
    let n3 : tag ≢ 3 = omega arith in
    let n4 : tag ≢ 4 = omega arith in
    let n5 : tag ≢ 5 = omega arith in
    let n6 : tag ≢ 6 = omega arith in
    let n8 : tag ≢ 8 = omega arith in
    let n10 : tag ≢ 10 = omega arith in
    let n12 : tag ≢ 12 = omega arith in
    let n14 : tag ≢ 14 = omega arith in
    let n16 : tag ≢ 16 = omega arith in
    let n18 : tag ≢ 18 = omega arith in
    let n22 : tag ≢ 22 = omega arith in
    rw (ne_eqb tag 2 n2, ne_eqb tag 4 n4, ne_eqb tag 6 n6, ne_eqb tag 8 n8, ne_eqb tag 10 n10, ne_eqb tag 12 n12, ne_eqb tag 14 n14, ne_eqb tag 16 n16, ne_eqb tag 18 n18, ne_eqb tag 22 n22, ne_eqb tag 1 n1, ne_eqb tag 3 n3, ne_eqb tag 5 n5) refl

taken-high : (first : Firsts) (outputs tag : ℕ) (value : Option ℕ) → 23 ≤ tag → is_some (taken_of first outputs tag value) ≡ false
taken-high first outputs tag None high = refl
taken-high first outputs tag (Some value) high = ap (λ b. is_some (only b value)) (takes-high first outputs tag value high)

count-high : (first : Firsts) (mint : Option RuneId) (outputs tag : ℕ) → 23 ≤ tag → count_taken first mint outputs tag ≡ 0
count-high first mint outputs tag high =
    let n20 : tag ≢ 20 = omega arith in
    rw (ne_eqb tag 20 n20, taken-high first outputs tag (first tag) high) refl

count_of_some : (o : Option ℕ) → cond (is_some o) 1 0 ≤ 2
count_of_some None = omega arith
count_of_some (Some v) = omega arith

count_of_mint : (o : Option RuneId) → cond (is_some o) 2 0 ≤ 2
count_of_mint None = omega arith
count_of_mint (Some v) = omega arith

count-small : (first : Firsts) (mint : Option RuneId) (outputs tag : ℕ) → count_taken first mint outputs tag ≤ 2
count-small first mint outputs tag = cond_both (eqb tag 20) (cond (is_some mint) 2 0) (cond (is_some (field_of first outputs tag)) 1 0) (λ n. n ≤ 2) (λ t. count_of_mint mint) (λ f. count_of_some (field_of first outputs tag))

-- ---- the answer

-- the test of a tag
abbrev pub leaves_tag : List Field → ℕ → ℕ → Bool
leaves_tag list outputs tag = eqb (tag % 2) 0 && ltb (count_taken (first_of list) (mint_in list) outputs tag) (length (values list tag))

pub leaves_strange : (fields : Fields) (outputs : ℕ) (list : List Field) → fields.strange ≡ true → IsKeptOf fields list → true ≡ leaves_even (first_of list) (mint_in list) outputs list
leaves_strange fields outputs list is h =
    let t = strange_tag list (sym h.strange ∙ is) in
    let tag : ℕ = t.0 in
    let more : ltb (count_taken (first_of list) (mint_in list) outputs t.0) (length (values list t.0)) ≡ true =
    ap (λ n. ltb n (length (values list t.0))) (count-high (first_of list) (mint_in list) outputs t.0 t.1) ∙ lt-ltb 0 (length (values list t.0)) t.3 in
    let at : leaves_tag list outputs t.0 ≡ true = rw (t.2, more) refl in
    sym (any_true (leaves_tag list outputs) list tag t.3 at)

longer : (n : ℕ) (list : List ℕ) → ltb n (length list) ≡ true → 0 < length list
longer n [] is = absurd (omega (arith, ltb-true n 0 is))
longer n (a ∷ list) is = omega arith

-- a known tag has more values than are taken
pub leaves_known : (fields : Fields) (outputs half count : ℕ) (list : List Field) → half < 12 → count ≤ 2 → count ≡ count_taken (firsts_in fields) (mint_kept fields) outputs (2 * half) → leaves_in (values_at fields (2 * half)) count ≡ true → IsKeptOf fields list → true ≡ leaves_even (first_of list) (mint_in list) outputs list
leaves_known fields outputs half count list low small is leaves h =
    let lt : 2 * half < 23 = omega arith in
    let even : 2 * half % 2 ≡ 0 = omega arith in
    let count-is = is ∙ count-same fields list outputs (2 * half) h lt in
    let more : ltb count (length (values list (2 * half))) ≡ true = sym (leaves-same fields list (2 * half) count h lt small) ∙ leaves in
    let at : leaves_tag list outputs (2 * half) ≡ true = rw (eq-eqb (2 * half % 2) 0 even, ← count-is, more) refl in
    sym (any_true (leaves_tag list outputs) list (2 * half) (longer count (values list (2 * half)) more) at)

-- no tag below has more values than are taken
abbrev pub NoneLeft : Fields → ℕ → ℕ → Type 0
NoneLeft fields outputs half =
    (k : ℕ) → k < half → leaves_in (values_at fields (2 * k)) (count_taken (firsts_in fields) (mint_kept fields) outputs (2 * k)) ≡ false

pub leaves_none : (fields : Fields) (outputs half : ℕ) (list : List Field) → fields.strange ≡ false → 12 ≤ half → NoneLeft fields outputs half → IsKeptOf fields list → false ≡ leaves_even (first_of list) (mint_in list) outputs list
leaves_none fields outputs half list strange all none h =
    sym (any_false (leaves_tag list outputs) list (λ tag some.
    elim (cases_Bool (eqb (tag % 2) 0)) [
      | inl even ↦
          elim (cases_lt tag 23) [
            | inl low ↦
                let k : ℕ = tag / 2 in
                let zero-rest : tag % 2 ≡ 0 = eqb-true (tag % 2) 0 even in
                let twice : 2 * (tag / 2) ≡ tag = omega arith in
                let K : ℕ → Type 0 = λ (t : ℕ). leaves_in (values_at fields t) (count_taken (firsts_in fields) (mint_kept fields) outputs t) ≡ false in
                let here : K tag = subst K twice (none (tag / 2) (omega arith)) in
                let same = leaves-same fields list tag (count_taken (firsts_in fields) (mint_kept fields) outputs tag) h low (count-small (firsts_in fields) (mint_kept fields) outputs tag) in
                let more : ltb (count_taken (first_of list) (mint_in list) outputs tag) (length (values list tag)) ≡ false = ap (λ n. ltb n (length (values list tag))) (sym (count-same fields list outputs tag h low)) ∙ sym same ∙ here in
                rw (even, more) refl
            | inr high ↦ absurd (true≢false (sym even ∙ no_strange_tag list tag (sym h.strange ∙ strange) high some))
          ]
      | inr odd ↦ rw odd refl
    ]))

-- ---- fields

abbrev terms_with : Option ℕ → Option ℕ → Option ℕ → Option ℕ → Option ℕ → Option ℕ → Terms
terms_with amount cap height_start height_end offset_start offset_end =
    record { amount = amount; cap = cap; height_start = height_start; height_end = height_end; offset_start = offset_start; offset_end = offset_end }

abbrev etching_with : Option ℕ → Option ℕ → Option ℕ → Option ℕ → Option ℕ → Option Terms → Bool → Etching
etching_with name spacers divisibility symbol premine terms turbo =
    record { name = name; spacers = spacers; divisibility = divisibility; symbol = symbol; premine = premine; terms = terms; turbo = turbo }

terms-parts : (a a' b b' c c' d d' e e' f f' : Option ℕ) → a ≡ a' → b ≡ b' → c ≡ c' → d ≡ d' → e ≡ e' → f ≡ f' → terms_with a b c d e f ≡ terms_with a' b' c' d' e' f'
terms-parts a a' b b' c c' d d' e e' f f' p q r s t u = cc

terms-from : (b b' : Bool) (x x' : Terms) → b ≡ b' → x ≡ x' → ◌≡◌ {A = Option Terms} (cond b (Some x) None) (cond b' (Some x') None)
terms-from b b' x x' p q = cc

etching-parts : (a a' b b' c c' d d' e e' : Option ℕ) (t t' : Option Terms) (u u' : Bool) → a ≡ a' → b ≡ b' → c ≡ c' → d ≡ d' → e ≡ e' → t ≡ t' → u ≡ u' → etching_with a b c d e t u ≡ etching_with a' b' c' d' e' t' u'
etching-parts a a' b b' c c' d d' e e' t t' u u' p q r s v w x = cc

etching-from : (b b' : Bool) (x x' : Etching) → b ≡ b' → x ≡ x' → ◌≡◌ {A = Option Etching} (cond b (Some x) None) (cond b' (Some x') None)
etching-from b b' x x' p q = cc

pub etching-same : (fields : Fields) (list : List Field) → IsKeptOf fields list → etching_of (firsts_in fields) ≡ etching_of (first_of list)
etching-same fields list h =
    let f = λ (tag : ℕ) (lt : tag < 23). field-same fields list 0 tag h lt in
    let flags : firsts_in fields 2 ≡ first_of list 2 = firsts-same fields list 2 h (lit< tt) in
    let turbo : is_turbo (firsts_in fields) ≡ is_turbo (first_of list) = rw flags refl in
    let etching : is_etching (firsts_in fields) ≡ is_etching (first_of list) = rw flags refl in
    let with_terms : has_terms (firsts_in fields) ≡ has_terms (first_of list) = rw flags refl in
    etching-from (is_etching (firsts_in fields)) (is_etching (first_of list)) _ _ etching
    (etching-parts _ _ _ _ _ _ _ _ _ _ _ _ _ _ (f 4 (lit< tt)) (f 3 (lit< tt)) (f 1 (lit< tt)) (f 5 (lit< tt)) (f 6 (lit< tt))
    (terms-from (has_terms (firsts_in fields)) (has_terms (first_of list)) _ _ with_terms
    (terms-parts _ _ _ _ _ _ _ _ _ _ _ _ (f 10 (lit< tt)) (f 8 (lit< tt)) (f 12 (lit< tt)) (f 14 (lit< tt)) (f 16 (lit< tt)) (f 18 (lit< tt))))
    turbo)

pub strange-same : (fields : Fields) (list : List Field) → IsKeptOf fields list → has_strange_flag (firsts_in fields) ≡ has_strange_flag (first_of list)
strange-same fields list h = let flags = firsts-same fields list 2 h (lit< tt) in rw flags refl

pub cenotaph-same : (fields : Fields) (list : List Field) → IsKeptOf fields list → Cenotaph (mint_kept fields) (name_in (etching_of (firsts_in fields))) ≡ cenotaph_of list
cenotaph-same fields list h = ap (λ m. Cenotaph m (name_in (etching_of (firsts_in fields)))) (mint-same fields list h) ∙ ap (λ e. Cenotaph (mint_in list) (name_in e)) (etching-same fields list h)

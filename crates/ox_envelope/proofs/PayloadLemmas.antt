-- Telling the pushes of an envelope apart, push by push.
use Rattle.std.proofs.Common.{◌≡◌, ℕ, ◌+◌, Bool, true, false, List, [], ◌∷◌, ◌++◌, map, Option, Some, None, refl, sym, ap, ◌∙◌}
use Rattle.std.proofs.Common.{◌||◌, ap₂, arith, cond, if◌then◌else◌}
use Rattle.std.specs.Prelude.{bytes_eq}
use Rattle.std.specs.List.{list_any}
use Rattle.std.specs.Ordering.{is_eq, nat_cmp}
use Rattle.std.specs.Cmp.Lexicographic.{slice_cmp}
use Rattle.std.proofs.lemmas.Map.Text.{is_eq-slice_cmp}
use Rattle.std.specs.Borrow.{Bor}
use Rattle.ox_envelope.specs.Id.{id_of_value}
use Rattle.std.proofs.Common.{◌<◌, length, get_or, drop}
use Rattle.std.proofs.lemmas.List.{append-nil, drop_more, nil_from_length}
use Rattle.ox_envelope.specs.Payload.{Field, body_pushes, fields, first_id, first_of, has_repeat, is_incomplete, is_single, single_tags}
use Rattle.ox_envelope.specs.Walk.{is_among, seen_field, texts}
use Rattle.ox_envelope.specs.declared.payload.Field as declared
use Rattle.std.proofs.lemmas.Bool.{cond-true, cond-false}
use Rattle.std.specs.Prelude.{not}

-- pushes, with a tag before them that was read
abbrev pub after_tag : Option (Bor (List ℕ)) → List (List ℕ) → List (List ℕ)
after_tag None pushes = pushes
after_tag (Some name) pushes = name.now ∷ pushes

fields-nil : (pushes : List (List ℕ)) → fields ([] ∷ pushes) ≡ []
fields-nil [] = refl
fields-nil (value ∷ pushes) = refl

body_pushes-nil : (pushes : List (List ℕ)) → body_pushes ([] ∷ pushes) ≡ Some pushes
body_pushes-nil [] = refl
body_pushes-nil (value ∷ pushes) = refl

is_incomplete-nil : (pushes : List (List ℕ)) → is_incomplete ([] ∷ pushes) ≡ false
is_incomplete-nil [] = refl
is_incomplete-nil (value ∷ pushes) = refl

-- an empty push is next, and no tag was read before it
pub record EmptyNext (tag : Option (Bor (List ℕ))) (pushes : List (Bor (List ℕ))) (at : ℕ) : Type 0 where
  pub all : after_tag tag (texts (drop at pushes)) ≡ [] ∷ texts (drop (at + 1) pushes)

pub empty_next : (tag : Option (Bor (List ℕ))) (pushes : List (Bor (List ℕ))) (at : ℕ) (d : Bor (List ℕ)) → tag ≡ None → at < length pushes → length (get_or pushes at d).now ≡ 0 → EmptyNext tag pushes at
empty_next tag pushes at d none inside empty =
    let next = ap texts (drop_more pushes at d inside) in
    let is = nil_from_length (get_or pushes at d).now empty in
    record { all = ap (λ tag. after_tag tag (texts (drop at pushes))) none ∙ next ∙ ap (λ push. push ∷ texts (drop (at + 1) pushes)) is }

pub fields-end : (so_far : List Field) (tag : Option (Bor (List ℕ))) (pushes : List (Bor (List ℕ))) (at : ℕ) → EmptyNext tag pushes at → so_far ++ fields (after_tag tag (texts (drop at pushes))) ≡ fields (texts pushes) → so_far ≡ fields (texts pushes)
fields-end so_far tag pushes at next all =
    sym (append-nil so_far) ∙ ap (λ rest. so_far ++ rest) (sym (fields-nil (texts (drop (at + 1) pushes)))) ∙ ap (λ rest. so_far ++ fields rest) (sym next.all) ∙ all

pub body_pushes-end : (tag : Option (Bor (List ℕ))) (pushes body : List (Bor (List ℕ))) (at : ℕ) → EmptyNext tag pushes at → body ≡ drop (at + 1) pushes → body_pushes (after_tag tag (texts (drop at pushes))) ≡ body_pushes (texts pushes) → Some (texts body) ≡ body_pushes (texts pushes)
body_pushes-end tag pushes body at next is all = ap (λ body. Some (texts body)) is ∙ sym (body_pushes-nil (texts (drop (at + 1) pushes))) ∙ ap body_pushes (sym next.all) ∙ all

pub is_incomplete-end : (tag : Option (Bor (List ℕ))) (pushes : List (Bor (List ℕ))) (at : ℕ) → EmptyNext tag pushes at → is_incomplete (after_tag tag (texts (drop at pushes))) ≡ is_incomplete (texts pushes) → false ≡ is_incomplete (texts pushes)
is_incomplete-end tag pushes at next all = sym (is_incomplete-nil (texts (drop (at + 1) pushes))) ∙ ap is_incomplete (sym next.all) ∙ all

-- ---- a tag that stands twice

none_twice : (single : Bool) (tag : List ℕ) → false ≡ has_repeat (if single then tag ∷ [] else [])
none_twice true tag = refl
none_twice false tag = refl

-- one field, or none, repeats no tag
pub no_repeat : (all : List declared.Field) → length all < 2 → false ≡ has_repeat (single_tags (map seen_field all))
no_repeat [] few = refl
no_repeat (field ∷ []) few = none_twice (is_single (seen_field field).tag) (seen_field field).tag
no_repeat (field ∷ other ∷ all) few = absurd (omega (arith, few))

-- a tag of these is known, or stands there again
abbrev pub repeats_with : List (Bor (List ℕ)) → List (List ℕ) → Bool
repeats_with known tags = list_any (is_among known) tags || has_repeat tags

pub is_among-cmp : (q : List ℕ) (keys : List (Bor (List ℕ))) → list_any (λ key. is_eq (slice_cmp nat_cmp q key.now)) keys ≡ is_among keys q
is_among-cmp q [] = refl
is_among-cmp q (key ∷ keys) = ap₂ (λ first others. first || others) (is_eq-slice_cmp q key.now) (is_among-cmp q keys)

pub cond_or : (test other : Bool) → cond test true other ≡ (test || other)
cond_or true other = refl
cond_or false other = refl

or_middle : (a b c d : Bool) → ((a || b) || (c || d)) ≡ ((a || c) || (b || d))
or_middle true b c d = refl
or_middle false true true d = refl
or_middle false true false d = refl
or_middle false false true d = refl
or_middle false false false d = refl

any_of_either : (new old : List (Bor (List ℕ))) (tag : List ℕ) (tags : List (List ℕ)) → ((q : List ℕ) → is_among new q ≡ (bytes_eq tag q || is_among old q)) → list_any (is_among new) tags ≡ (list_any (bytes_eq tag) tags || list_any (is_among old) tags)
any_of_either new old tag [] more = refl
any_of_either new old tag (q ∷ tags) more =
    ap₂ (λ first others. first || others) (more q) (any_of_either new old tag tags more)
    ∙ or_middle (bytes_eq tag q) (is_among old q) (list_any (bytes_eq tag) tags) (list_any (is_among old) tags)

either : (a b c : Bool) → ((b || a) || c) ≡ ((false || a) || (b || c))
either true true c = refl
either true false c = refl
either false true c = refl
either false false c = refl

-- a tag that wasn't known is known from then on
pub repeats_with-new : (old new : List (Bor (List ℕ))) (tag : List ℕ) (tags : List (List ℕ)) → is_among old tag ≡ false → ((q : List ℕ) → is_among new q ≡ (bytes_eq tag q || is_among old q)) → repeats_with new tags ≡ repeats_with old (tag ∷ tags)
repeats_with-new old new tag tags fresh more =
    ap (λ first. first || has_repeat tags) (any_of_either new old tag tags more)
    ∙ either (list_any (is_among old) tags) (list_any (bytes_eq tag) tags) (has_repeat tags)
    ∙ ap (λ first. (first || list_any (is_among old) tags) || has_repeat (tag ∷ tags)) (sym fresh)

pub repeats_with-known : (old : List (Bor (List ℕ))) (tag : List ℕ) (tags : List (List ℕ)) → is_among old tag ≡ true → repeats_with old (tag ∷ tags) ≡ true
repeats_with-known old tag tags known = ap (λ first. (first || list_any (is_among old) tags) || has_repeat (tag ∷ tags)) known

pub repeats_with-none : (known : List (Bor (List ℕ))) (tags : List (List ℕ)) → known ≡ [] → repeats_with known tags ≡ has_repeat tags
repeats_with-none known tags empty = ap (λ known. repeats_with known tags) empty ∙ ap (λ some. some || has_repeat tags) (none_among tags)
  where
    none_among : (tags : List (List ℕ)) → list_any (is_among []) tags ≡ false
    none_among [] = refl
    none_among (tag ∷ tags) = none_among tags

-- what a read past the end would give
abbrev pub no_field : declared.Field
no_field = record { tag = record { ref_ptr = (0, 0); now = [] }; value = record { ref_ptr = (0, 0); now = [] } }

-- the tags that are left from a place on
abbrev pub tags_from : ℕ → List declared.Field → List (List ℕ)
tags_from at fields = single_tags (map seen_field (drop at fields))

tags_from-single : (fields : List declared.Field) (at : ℕ) (d : declared.Field) → at < length fields → is_single (get_or fields at d).tag.now ≡ true → tags_from at fields ≡ (get_or fields at d).tag.now ∷ tags_from (at + 1) fields
tags_from-single fields at d inside single = ap (λ rest. single_tags (map seen_field rest)) (drop_more fields at d inside) ∙ cond-true _ _ _ single

tags_from-other : (fields : List declared.Field) (at : ℕ) (d : declared.Field) → at < length fields → is_single (get_or fields at d).tag.now ≡ false → tags_from at fields ≡ tags_from (at + 1) fields
tags_from-other fields at d inside other = ap (λ rest. single_tags (map seen_field rest)) (drop_more fields at d inside) ∙ cond-false _ _ _ other

pub tag_step : (old new : List (Bor (List ℕ))) (fields : List declared.Field) (at : ℕ) (d : declared.Field) (all : Bool) → at < length fields → is_single (get_or fields at d).tag.now ≡ true → true ≡ not (is_among old (get_or fields at d).tag.now)
    → ((q : List ℕ) → is_among new q ≡ (bytes_eq (get_or fields at d).tag.now q || is_among old q)) → repeats_with old (tags_from at fields) ≡ all → repeats_with new (tags_from (at + 1) fields) ≡ all
tag_step old new fields at d all inside single fresh more so_far =
    repeats_with-new old new _ (tags_from (at + 1) fields) (not_true _ fresh) more ∙ ap (repeats_with old) (sym (tags_from-single fields at d inside single)) ∙ so_far
  where
    not_true : (b : Bool) → true ≡ not b → b ≡ false
    not_true true e = e
    not_true false e = refl

pub other_step : (known : List (Bor (List ℕ))) (fields : List declared.Field) (at : ℕ) (d : declared.Field) (all : Bool) → at < length fields → is_single (get_or fields at d).tag.now ≡ false → repeats_with known (tags_from at fields) ≡ all → repeats_with known (tags_from (at + 1) fields) ≡ all
other_step known fields at d all inside other so_far = ap (repeats_with known) (sym (tags_from-other fields at d inside other)) ∙ so_far

-- ---- the first value

pub first_id-of : (values : List (List ℕ)) (value : List ℕ) → Some value ≡ first_of values → first_id values ≡ id_of_value value
first_id-of [] value is = cc
first_id-of (first ∷ values) value is = let same : first ≡ value = cc in ap id_of_value same

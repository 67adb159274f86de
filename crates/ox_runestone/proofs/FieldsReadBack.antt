-- What is written is deciphered as the same: the fields.
use Rattle.std.proofs.Common.{◌≡◌, ◌≢◌, ℕ, ◌+◌, ◌-◌, ◌/◌, ◌%◌, ◌^◌, ◌<◌, ◌≤◌, List, [], ◌∷◌, ◌++◌, length, Bool, true, false, cond, eqb, ltb, leb, ◌&&◌, ◌||◌, Option, Some, None, refl, sym, ap, ◌∙◌, append-nil, lit<, lit≤, arith, inl, inr}
use Rattle.std.specs.Prelude.{slice_get, is_some, IfSome, option_and_then}
use Rattle.std.specs.List.{list_any, AllByRecursion}
use Rattle.std.proofs.lemmas.Bool.{cases_Bool, cases_lt, lt-ltb, le-ltb, le-leb, leb-true, and_parts, cond-true, cond-false, true≢false}
use Rattle.ox_runestone.specs.declared.stone.RuneId.{RuneId}
use Rattle.ox_runestone.specs.declared.stone.Terms.{Terms}
use Rattle.ox_runestone.specs.declared.stone.Etching.{Etching}
use Rattle.ox_runestone.specs.declared.stone.Runestone.{Runestone}
use Rattle.ox_runestone.specs.Message.{Field, values}
use Rattle.ox_runestone.specs.Fields.{Firsts, first_of, flags_of, is_etching, has_terms, is_turbo, has_strange_flag, is_character, takes, only, taken_of, field_of, mint_of, terms_of, etching_of, overflows, count_taken, leaves_even}
use Rattle.ox_runestone.specs.declared.stone.Edict.{Edict}
use Rattle.ox_runestone.specs.declared.stone.Artifact.TheVariants.{Stone}
use Rattle.ox_runestone.specs.Artifact.{mint_in, are_flawed, artifact_from, of_message, artifact_of}
use Rattle.ox_runestone.proofs.PayloadReadsBack.{id_back, payload_back, integers_back, message_back, edicts_back}
use Rattle.ox_runestone.specs.Payload.{integers_of}
use Rattle.ox_runestone.proofs.ArtifactFromFields.{speaks}
use Rattle.ox_runestone.proofs.EvenTagsLeft.{leaves_tag}
use Rattle.ox_runestone.specs.Spelling.{pair, terms_pairs, flags_for, etching_pairs, mint_pairs, fields_of, tags_and_values, deltas, body_for, integers_for, payload_for, Spells, IsId, AreTerms, IsEtching, IsEdict, CanCome, DontFall}

-- ---- the values of each tag

abbrev pub list_of : Option ℕ → List ℕ
list_of None = []
list_of (Some value) = value ∷ []

values-app : (xs ys : List Field) (tag : ℕ) → values (xs ++ ys) tag ≡ values xs tag ++ values ys tag
values-app [] ys tag = refl
values-app (field ∷ xs) ys tag =
    elim (cases_Bool (eqb field.0 tag)) [
      | inl same ↦ rw same (ap (λ t. field.1 ∷ t) (values-app xs ys tag))
      | inr other ↦ rw other (values-app xs ys tag)
    ]

values-pair : (own : ℕ) (value : Option ℕ) (tag : ℕ) → values (pair own value) tag ≡ cond (eqb own tag) (list_of value) []
values-pair own None tag = elim (cases_Bool (eqb own tag)) [ inl same ↦ rw same refl | inr other ↦ rw other refl ]
values-pair own (Some value) tag = refl

abbrev pub of_terms : (Terms → Option ℕ) → Option Terms → Option ℕ
of_terms f None = None
of_terms f (Some terms) = f terms

abbrev pub of_etching : (Etching → Option ℕ) → Option Etching → Option ℕ
of_etching f None = None
of_etching f (Some etching) = f etching

t8 : (terms : Option Terms) → values (terms_pairs terms) 8 ≡ list_of (of_terms (λ t. t.cap) terms)
t8 None = refl
t8 (Some t) = simp (values-app, values-pair, append-nil)

t10 : (terms : Option Terms) → values (terms_pairs terms) 10 ≡ list_of (of_terms (λ t. t.amount) terms)
t10 None = refl
t10 (Some t) = simp (values-app, values-pair, append-nil)

t12 : (terms : Option Terms) → values (terms_pairs terms) 12 ≡ list_of (of_terms (λ t. t.height_start) terms)
t12 None = refl
t12 (Some t) = simp (values-app, values-pair, append-nil)

t14 : (terms : Option Terms) → values (terms_pairs terms) 14 ≡ list_of (of_terms (λ t. t.height_end) terms)
t14 None = refl
t14 (Some t) = simp (values-app, values-pair, append-nil)

t16 : (terms : Option Terms) → values (terms_pairs terms) 16 ≡ list_of (of_terms (λ t. t.offset_start) terms)
t16 None = refl
t16 (Some t) = simp (values-app, values-pair, append-nil)

t18 : (terms : Option Terms) → values (terms_pairs terms) 18 ≡ list_of (of_terms (λ t. t.offset_end) terms)
t18 None = refl
t18 (Some t) = simp (values-app, values-pair)

-- no term has another tag
pub record IsApart (tag : ℕ) : Type 0 where
  pub n8 : eqb 8 tag ≡ false
  pub n10 : eqb 10 tag ≡ false
  pub n12 : eqb 12 tag ≡ false
  pub n14 : eqb 14 tag ≡ false
  pub n16 : eqb 16 tag ≡ false
  pub n18 : eqb 18 tag ≡ false

t-apart : (terms : Option Terms) (tag : ℕ) → IsApart tag → values (terms_pairs terms) tag ≡ []
t-apart None tag a = refl
t-apart (Some t) tag a = let p8 = a.n8 in let p10 = a.n10 in let p12 = a.n12 in let p14 = a.n14 in let p16 = a.n16 in let p18 = a.n18 in simp (values-app, values-pair, append-nil, p8, p10, p12, p14, p16, p18)

-- what the values of each tag are
pub record AreSaid (list : List Field) (etching : Option Etching) (terms : Option Terms) (mint : Option RuneId) (pointer : Option ℕ) : Type 0 where
  pub v2 : values list 2 ≡ list_of (of_etching (λ e. Some (flags_for e)) etching)
  pub v4 : values list 4 ≡ list_of (of_etching (λ e. e.name) etching)
  pub v1 : values list 1 ≡ list_of (of_etching (λ e. e.divisibility) etching)
  pub v3 : values list 3 ≡ list_of (of_etching (λ e. e.spacers) etching)
  pub v5 : values list 5 ≡ list_of (of_etching (λ e. e.symbol) etching)
  pub v6 : values list 6 ≡ list_of (of_etching (λ e. e.premine) etching)
  pub v8 : values list 8 ≡ list_of (of_terms (λ t. t.cap) terms)
  pub v10 : values list 10 ≡ list_of (of_terms (λ t. t.amount) terms)
  pub v12 : values list 12 ≡ list_of (of_terms (λ t. t.height_start) terms)
  pub v14 : values list 14 ≡ list_of (of_terms (λ t. t.height_end) terms)
  pub v16 : values list 16 ≡ list_of (of_terms (λ t. t.offset_start) terms)
  pub v18 : values list 18 ≡ list_of (of_terms (λ t. t.offset_end) terms)
  pub v20 : values list 20 ≡ values (mint_pairs mint) 20
  pub v22 : values list 22 ≡ list_of pointer

m-other : (mint : Option RuneId) (tag : ℕ) → eqb 20 tag ≡ false → values (mint_pairs mint) tag ≡ []
m-other None tag other = refl
m-other (Some id) tag other = rw other refl

-- in all, where neither the mint nor the pointer has the tag
front : (etching : List Field) (mint : Option RuneId) (pointer : Option ℕ) (tag : ℕ) → eqb 20 tag ≡ false → eqb 22 tag ≡ false → values (etching ++ (mint_pairs mint ++ pair 22 pointer)) tag ≡ values etching tag
front etching mint pointer tag no-mint no-pointer =
    let m : values (mint_pairs mint) tag ≡ [] = m-other mint tag no-mint in
    let p : values (pair 22 pointer) tag ≡ [] = values-pair 22 pointer tag ∙ rw no-pointer refl in
    values-app etching (mint_pairs mint ++ pair 22 pointer) tag ∙ ap (λ t. values etching tag ++ t) (values-app (mint_pairs mint) (pair 22 pointer) tag ∙ ap (λ t. t ++ values (pair 22 pointer) tag) m ∙ p) ∙ append-nil (values etching tag)

apart : (tag : ℕ) → eqb 8 tag ≡ false → eqb 10 tag ≡ false → eqb 12 tag ≡ false → eqb 14 tag ≡ false → eqb 16 tag ≡ false → eqb 18 tag ≡ false → IsApart tag
apart tag a b c d e f = record { n8 = a; n10 = b; n12 = c; n14 = d; n16 = e; n18 = f }

e2 : (e : Etching) → values (etching_pairs (Some e)) 2 ≡ flags_for e ∷ []
e2 e = let a = t-apart e.terms 2 (apart 2 refl refl refl refl refl refl) in simp (values-app, values-pair, append-nil, a)

e4 : (e : Etching) → values (etching_pairs (Some e)) 4 ≡ list_of e.name
e4 e = let a = t-apart e.terms 4 (apart 4 refl refl refl refl refl refl) in simp (values-app, values-pair, append-nil, a)

e1 : (e : Etching) → values (etching_pairs (Some e)) 1 ≡ list_of e.divisibility
e1 e = let a = t-apart e.terms 1 (apart 1 refl refl refl refl refl refl) in simp (values-app, values-pair, append-nil, a)

e3 : (e : Etching) → values (etching_pairs (Some e)) 3 ≡ list_of e.spacers
e3 e = let a = t-apart e.terms 3 (apart 3 refl refl refl refl refl refl) in simp (values-app, values-pair, append-nil, a)

e5 : (e : Etching) → values (etching_pairs (Some e)) 5 ≡ list_of e.symbol
e5 e = let a = t-apart e.terms 5 (apart 5 refl refl refl refl refl refl) in simp (values-app, values-pair, append-nil, a)

e6 : (e : Etching) → values (etching_pairs (Some e)) 6 ≡ list_of e.premine
e6 e = let a = t-apart e.terms 6 (apart 6 refl refl refl refl refl refl) in simp (values-app, values-pair, append-nil, a)

e20 : (e : Etching) → values (etching_pairs (Some e)) 20 ≡ []
e20 e = let a = t-apart e.terms 20 (apart 20 refl refl refl refl refl refl) in simp (values-app, values-pair, append-nil, a)

e22 : (e : Etching) → values (etching_pairs (Some e)) 22 ≡ []
e22 e = let a = t-apart e.terms 22 (apart 22 refl refl refl refl refl refl) in simp (values-app, values-pair, append-nil, a)

e8 : (e : Etching) → values (etching_pairs (Some e)) 8 ≡ values (terms_pairs e.terms) 8
e8 e = simp (values-app, values-pair)

e10 : (e : Etching) → values (etching_pairs (Some e)) 10 ≡ values (terms_pairs e.terms) 10
e10 e = simp (values-app, values-pair)

e12 : (e : Etching) → values (etching_pairs (Some e)) 12 ≡ values (terms_pairs e.terms) 12
e12 e = simp (values-app, values-pair)

e14 : (e : Etching) → values (etching_pairs (Some e)) 14 ≡ values (terms_pairs e.terms) 14
e14 e = simp (values-app, values-pair)

e16 : (e : Etching) → values (etching_pairs (Some e)) 16 ≡ values (terms_pairs e.terms) 16
e16 e = simp (values-app, values-pair)

e18 : (e : Etching) → values (etching_pairs (Some e)) 18 ≡ values (terms_pairs e.terms) 18
e18 e = simp (values-app, values-pair)

pub said : (etching : Option Etching) (terms : Option Terms) (mint : Option RuneId) (pointer : Option ℕ) → ((e : Etching) → etching ≡ Some e → terms ≡ e.terms) → (etching ≡ None → terms ≡ None) → AreSaid (etching_pairs etching ++ (mint_pairs mint ++ pair 22 pointer)) etching terms mint pointer
said None terms mint pointer some none =
    let no : terms ≡ None = none refl in
    record {
      v2 = front [] mint pointer 2 refl refl;
      v4 = front [] mint pointer 4 refl refl;
      v1 = front [] mint pointer 1 refl refl;
      v3 = front [] mint pointer 3 refl refl;
      v5 = front [] mint pointer 5 refl refl;
      v6 = front [] mint pointer 6 refl refl;
      v8 = front [] mint pointer 8 refl refl ∙ sym (ap (λ t. list_of (of_terms (λ t. t.cap) t)) no);
      v10 = front [] mint pointer 10 refl refl ∙ sym (ap (λ t. list_of (of_terms (λ t. t.amount) t)) no);
      v12 = front [] mint pointer 12 refl refl ∙ sym (ap (λ t. list_of (of_terms (λ t. t.height_start) t)) no);
      v14 = front [] mint pointer 14 refl refl ∙ sym (ap (λ t. list_of (of_terms (λ t. t.height_end) t)) no);
      v16 = front [] mint pointer 16 refl refl ∙ sym (ap (λ t. list_of (of_terms (λ t. t.offset_start) t)) no);
      v18 = front [] mint pointer 18 refl refl ∙ sym (ap (λ t. list_of (of_terms (λ t. t.offset_end) t)) no);
      v20 = values-app (mint_pairs mint) (pair 22 pointer) 20 ∙ ap (λ t. values (mint_pairs mint) 20 ++ t) (values-pair 22 pointer 20) ∙ append-nil (values (mint_pairs mint) 20);
      v22 = values-app (mint_pairs mint) (pair 22 pointer) 22 ∙ ap (λ t. t ++ values (pair 22 pointer) 22) (m-other mint 22 refl) ∙ values-pair 22 pointer 22;
    }
said (Some e) terms mint pointer some none =
    let te : terms ≡ e.terms = some e refl in
    let E : List Field = etching_pairs (Some e) in
    record {
      v2 = front (etching_pairs (Some e)) mint pointer 2 refl refl ∙ e2 e;
      v4 = front (etching_pairs (Some e)) mint pointer 4 refl refl ∙ e4 e;
      v1 = front (etching_pairs (Some e)) mint pointer 1 refl refl ∙ e1 e;
      v3 = front (etching_pairs (Some e)) mint pointer 3 refl refl ∙ e3 e;
      v5 = front (etching_pairs (Some e)) mint pointer 5 refl refl ∙ e5 e;
      v6 = front (etching_pairs (Some e)) mint pointer 6 refl refl ∙ e6 e;
      v8 = front (etching_pairs (Some e)) mint pointer 8 refl refl ∙ e8 e ∙ t8 e.terms ∙ sym (ap (λ t. list_of (of_terms (λ t. t.cap) t)) te);
      v10 = front (etching_pairs (Some e)) mint pointer 10 refl refl ∙ e10 e ∙ t10 e.terms ∙ sym (ap (λ t. list_of (of_terms (λ t. t.amount) t)) te);
      v12 = front (etching_pairs (Some e)) mint pointer 12 refl refl ∙ e12 e ∙ t12 e.terms ∙ sym (ap (λ t. list_of (of_terms (λ t. t.height_start) t)) te);
      v14 = front (etching_pairs (Some e)) mint pointer 14 refl refl ∙ e14 e ∙ t14 e.terms ∙ sym (ap (λ t. list_of (of_terms (λ t. t.height_end) t)) te);
      v16 = front (etching_pairs (Some e)) mint pointer 16 refl refl ∙ e16 e ∙ t16 e.terms ∙ sym (ap (λ t. list_of (of_terms (λ t. t.offset_start) t)) te);
      v18 = front (etching_pairs (Some e)) mint pointer 18 refl refl ∙ e18 e ∙ t18 e.terms ∙ sym (ap (λ t. list_of (of_terms (λ t. t.offset_end) t)) te);
      v20 = values-app (etching_pairs (Some e)) (mint_pairs mint ++ pair 22 pointer) 20 ∙ ap (λ t. t ++ values (mint_pairs mint ++ pair 22 pointer) 20) (e20 e) ∙ values-app (mint_pairs mint) (pair 22 pointer) 20 ∙ ap (λ t. values (mint_pairs mint) 20 ++ t) (values-pair 22 pointer 20) ∙ append-nil (values (mint_pairs mint) 20);
      v22 = values-app (etching_pairs (Some e)) (mint_pairs mint ++ pair 22 pointer) 22 ∙ ap (λ t. t ++ values (mint_pairs mint ++ pair 22 pointer) 22) (e22 e) ∙ values-app (mint_pairs mint) (pair 22 pointer) 22 ∙ ap (λ t. t ++ values (pair 22 pointer) 22) (m-other mint 22 refl) ∙ values-pair 22 pointer 22;
    }

-- ---- the fields

first-list_of : (value : Option ℕ) → slice_get (list_of value) 0 ≡ value
first-list_of None = refl
first-list_of (Some value) = refl

first-at : (list : List Field) (tag : ℕ) (value : Option ℕ) → values list tag ≡ list_of value → first_of list tag ≡ value
first-at list tag value is = ap (λ l. slice_get l 0) is ∙ first-list_of value

taken-all : (first : Firsts) (outputs tag : ℕ) (value : Option ℕ) → IfSome value (λ v. takes first outputs tag v ≡ true) → taken_of first outputs tag value ≡ value
taken-all first outputs tag None fits = refl
taken-all first outputs tag (Some value) fits = ap (λ b. only b value) fits

field-at : (list : List Field) (outputs tag : ℕ) (value : Option ℕ) → values list tag ≡ list_of value → IfSome value (λ v. takes (first_of list) outputs tag v ≡ true) → field_of (first_of list) outputs tag ≡ value
field-at list outputs tag value is fits = ap (taken_of (first_of list) outputs tag) (first-at list tag value is) ∙ taken-all (first_of list) outputs tag value fits

all_some : (P : ℕ → Type 0) (value : Option ℕ) → ((v : ℕ) → P v) → IfSome value P
all_some P None h = tt
all_some P (Some value) h = h value

some_map : (P Q : ℕ → Type 0) (value : Option ℕ) → ((v : ℕ) → P v → Q v) → IfSome value P → IfSome value Q
some_map P Q None f h = tt
some_map P Q (Some value) f h = f value h

flags-numbers : (terms turbo : Bool) → (eqb ((1 + cond terms 2 0 + cond turbo 4 0) % 2) 1 ≡ true) × (eqb ((1 + cond terms 2 0 + cond turbo 4 0) / 2 % 2) 1 ≡ terms) × (eqb ((1 + cond terms 2 0 + cond turbo 4 0) / 4 % 2) 1 ≡ turbo) × (leb 8 (1 + cond terms 2 0 + cond turbo 4 0) ≡ false) × (1 + cond terms 2 0 + cond turbo 4 0 < 8)
flags-numbers true true = (refl, refl, refl, refl, lit< tt)
flags-numbers true false = (refl, refl, refl, refl, lit< tt)
flags-numbers false true = (refl, refl, refl, refl, lit< tt)
flags-numbers false false = (refl, refl, refl, refl, lit< tt)

-- the flags of an etching
pub record AreFlags (first : Firsts) (etching : Etching) : Type 0 where
  pub etches : is_etching first ≡ true
  pub with_terms : has_terms first ≡ is_some etching.terms
  pub turbo : is_turbo first ≡ etching.turbo
  pub sound : has_strange_flag first ≡ false

flags_back : (first : Firsts) (etching : Etching) → first 2 ≡ Some (flags_for etching) → AreFlags first etching
flags_back first etching is =
    let n = flags-numbers (is_some etching.terms) etching.turbo in
    let flags : flags_of first ≡ flags_for etching = rw is refl in
    let etches : is_etching first ≡ true = ap (λ f. eqb (f % 2) 1) flags ∙ n.0 in
    record {
      etches = etches;
      with_terms = ap (λ b. b && eqb (flags_of first / 2 % 2) 1) etches ∙ ap (λ f. eqb (f / 2 % 2) 1) flags ∙ n.1;
      turbo = ap (λ b. b && eqb (flags_of first / 4 % 2) 1) etches ∙ ap (λ f. eqb (f / 4 % 2) 1) flags ∙ n.2;
      sound = ap (λ b. cond b (leb 8 (flags_of first)) (ltb 0 (flags_of first))) etches ∙ ap (leb 8) flags ∙ n.3;
    }

-- the fields of the terms
pub record AreTermsBack (list : List Field) (terms : Option Terms) : Type 0 where
  pub f8 : (outputs : ℕ) → field_of (first_of list) outputs 8 ≡ of_terms (λ t. t.cap) terms
  pub f10 : (outputs : ℕ) → field_of (first_of list) outputs 10 ≡ of_terms (λ t. t.amount) terms
  pub f12 : (outputs : ℕ) → field_of (first_of list) outputs 12 ≡ of_terms (λ t. t.height_start) terms
  pub f14 : (outputs : ℕ) → field_of (first_of list) outputs 14 ≡ of_terms (λ t. t.height_end) terms
  pub f16 : (outputs : ℕ) → field_of (first_of list) outputs 16 ≡ of_terms (λ t. t.offset_start) terms
  pub f18 : (outputs : ℕ) → field_of (first_of list) outputs 18 ≡ of_terms (λ t. t.offset_end) terms

small : (first : Firsts) (v : ℕ) → has_terms first ≡ true → v < 2 ^ 64 → (has_terms first && ltb v (2 ^ 64)) ≡ true
small first v has lt = ap (λ b. b && ltb v (2 ^ 64)) has ∙ lt-ltb v (2 ^ 64) lt

terms_fields : (list : List Field) (etching : Option Etching) (terms : Option Terms) (mint : Option RuneId) (pointer : Option ℕ) → AreSaid list etching terms mint pointer → IfSome terms AreTerms → has_terms (first_of list) ≡ is_some terms → AreTermsBack list terms
terms_fields list etching None mint pointer s are has = record {
  f8 = λ o. field-at list o 8 None s.v8 tt;
  f10 = λ o. field-at list o 10 None s.v10 tt;
  f12 = λ o. field-at list o 12 None s.v12 tt;
  f14 = λ o. field-at list o 14 None s.v14 tt;
  f16 = λ o. field-at list o 16 None s.v16 tt;
  f18 = λ o. field-at list o 18 None s.v18 tt;
}
terms_fields list etching (Some t) mint pointer s are has =
    let first : Firsts = first_of list in
    record {
      f8 = λ o. field-at list o 8 t.cap s.v8 (all_some (λ v. takes (first_of list) o 8 v ≡ true) t.cap (λ v. has));
      f10 = λ o. field-at list o 10 t.amount s.v10 (all_some (λ v. takes (first_of list) o 10 v ≡ true) t.amount (λ v. has));
      f12 = λ o. field-at list o 12 t.height_start s.v12 (some_map (λ n. n < 2 ^ 64) (λ v. takes (first_of list) o 12 v ≡ true) t.height_start (λ v lt. small (first_of list) v has lt) are.height_start);
      f14 = λ o. field-at list o 14 t.height_end s.v14 (some_map (λ n. n < 2 ^ 64) (λ v. takes (first_of list) o 14 v ≡ true) t.height_end (λ v lt. small (first_of list) v has lt) are.height_end);
      f16 = λ o. field-at list o 16 t.offset_start s.v16 (some_map (λ n. n < 2 ^ 64) (λ v. takes (first_of list) o 16 v ≡ true) t.offset_start (λ v lt. small (first_of list) v has lt) are.offset_start);
      f18 = λ o. field-at list o 18 t.offset_end s.v18 (some_map (λ n. n < 2 ^ 64) (λ v. takes (first_of list) o 18 v ≡ true) t.offset_end (λ v lt. small (first_of list) v has lt) are.offset_end);
    }

terms-parts : (a a' b b' c c' d d' e e' f f' : Option ℕ) → a ≡ a' → b ≡ b' → c ≡ c' → d ≡ d' → e ≡ e' → f ≡ f' → ◌≡◌ {A = Terms} (record { amount = a; cap = b; height_start = c; height_end = d; offset_start = e; offset_end = f }) (record { amount = a'; cap = b'; height_start = c'; height_end = d'; offset_start = e'; offset_end = f' })
terms-parts a a' b b' c c' d d' e e' f f' p q r s t u = cc

terms_back : (list : List Field) (terms : Option Terms) → AreTermsBack list terms → has_terms (first_of list) ≡ is_some terms → terms_of (first_of list) ≡ terms
terms_back list None b has = rw has refl
terms_back list (Some t) b has = rw has (ap Some (terms-parts _ _ _ _ _ _ _ _ _ _ _ _ (b.f10 0) (b.f8 0) (b.f12 0) (b.f14 0) (b.f16 0) (b.f18 0)))

-- the fields of the etching
pub record IsEtchingBack (list : List Field) (etching : Option Etching) : Type 0 where
  pub f2 : (outputs : ℕ) → field_of (first_of list) outputs 2 ≡ of_etching (λ e. Some (flags_for e)) etching
  pub f4 : (outputs : ℕ) → field_of (first_of list) outputs 4 ≡ of_etching (λ e. e.name) etching
  pub f6 : (outputs : ℕ) → field_of (first_of list) outputs 6 ≡ of_etching (λ e. e.premine) etching
  pub whole : etching_of (first_of list) ≡ etching
  pub sound : has_strange_flag (first_of list) ≡ false

etching-parts : (a a' b b' c c' d d' e e' : Option ℕ) (t t' : Option Terms) (u u' : Bool) → a ≡ a' → b ≡ b' → c ≡ c' → d ≡ d' → e ≡ e' → t ≡ t' → u ≡ u' → ◌≡◌ {A = Etching} (record { name = a; spacers = b; divisibility = c; symbol = d; premine = e; terms = t; turbo = u }) (record { name = a'; spacers = b'; divisibility = c'; symbol = d'; premine = e'; terms = t'; turbo = u' })
etching-parts a a' b b' c c' d d' e e' t t' u u' p q r s v w x = cc

and_true : (a b : Bool) → a ≡ true → b ≡ true → (a && b) ≡ true
and_true a b p q = rw (p, q) refl

etching_none : (list : List Field) (terms : Option Terms) (mint : Option RuneId) (pointer : Option ℕ) → AreSaid list None terms mint pointer → IsEtchingBack list None
etching_none list terms mint pointer s =
    let no : first_of list 2 ≡ None = first-at list 2 None s.v2 in
    record {
      f2 = λ o. field-at list o 2 None s.v2 tt;
      f4 = λ o. field-at list o 4 None s.v4 tt;
      f6 = λ o. field-at list o 6 None s.v6 tt;
      whole = rw no refl;
      sound = rw no refl;
    }

etching_some : (list : List Field) (e : Etching) (mint : Option RuneId) (pointer : Option ℕ) → AreSaid list (Some e) e.terms mint pointer → IsEtching e → AreFlags (first_of list) e → AreTermsBack list e.terms → IsEtchingBack list (Some e)
etching_some list e mint pointer s is flags b =
    let f4 = λ (o : ℕ). field-at list o 4 e.name s.v4 (all_some (λ v. takes (first_of list) o 4 v ≡ true) e.name (λ v. flags.etches)) in
    let f6 = λ (o : ℕ). field-at list o 6 e.premine s.v6 (all_some (λ v. takes (first_of list) o 6 v ≡ true) e.premine (λ v. flags.etches)) in
    let f1 : field_of (first_of list) 0 1 ≡ e.divisibility = field-at list 0 1 e.divisibility s.v1 (some_map (λ n. n ≤ 38) (λ v. takes (first_of list) 0 1 v ≡ true) e.divisibility (λ v le. and_true _ _ flags.etches (le-leb v 38 le)) is.divisibility) in
    let f3 : field_of (first_of list) 0 3 ≡ e.spacers = field-at list 0 3 e.spacers s.v3 (some_map (λ n. n < 2 ^ 27) (λ v. takes (first_of list) 0 3 v ≡ true) e.spacers (λ v lt. and_true _ _ flags.etches (lt-ltb v (2 ^ 27) lt)) is.spacers) in
    let f5 : field_of (first_of list) 0 5 ≡ e.symbol = field-at list 0 5 e.symbol s.v5 (some_map (λ n. is_character n ≡ true) (λ v. takes (first_of list) 0 5 v ≡ true) e.symbol (λ v c. and_true _ _ flags.etches c) is.symbol) in
    let read : Etching = record { name = field_of (first_of list) 0 4; spacers = field_of (first_of list) 0 3; divisibility = field_of (first_of list) 0 1; symbol = field_of (first_of list) 0 5; premine = field_of (first_of list) 0 6; terms = terms_of (first_of list); turbo = is_turbo (first_of list) } in
    record {
      f2 = λ o. field-at list o 2 (Some (flags_for e)) s.v2 refl;
      f4 = f4;
      f6 = f6;
      whole = cond-true (is_etching (first_of list)) (Some read) None flags.etches ∙ ap Some (etching-parts _ _ _ _ _ _ _ _ _ _ _ _ _ _ (f4 0) f3 f1 f5 (f6 0) (terms_back list e.terms b flags.with_terms) flags.turbo);
      sound = flags.sound;
    }

-- ---- the mint

mint_back : (list : List Field) (mint : Option RuneId) → values list 20 ≡ values (mint_pairs mint) 20 → IfSome mint IsId → mint_in list ≡ mint
mint_back list None is id = ap (λ l. mint_of (slice_get l 0) (slice_get l 1)) is
mint_back list (Some m) is id = ap (λ l. mint_of (slice_get l 0) (slice_get l 1)) is ∙ id_back m.block m.tx id.block id.tx id.first

-- ---- no value of an even tag is left

any-app : (P : ℕ → Bool) (xs ys : List Field) → list_any (λ f. P f.0) xs ≡ false → list_any (λ f. P f.0) ys ≡ false → list_any (λ f. P f.0) (xs ++ ys) ≡ false
any-app P [] ys x y = y
any-app P (field ∷ xs) ys x y =
    elim (cases_Bool (P field.0)) [
      | inl t ↦ let b : true ≡ false = sym (rw t refl) ∙ x in absurd (true≢false b)
      | inr f ↦ let rest : list_any (λ g. P g.0) xs ≡ false = rw f at x in rw f (any-app P xs ys rest y)
    ]

any-pair : (P : ℕ → Bool) (tag : ℕ) (value : Option ℕ) → P tag ≡ false → list_any (λ f. P f.0) (pair tag value) ≡ false
any-pair P tag None is = refl
any-pair P tag (Some value) is = rw is refl

quiet_number : (value : Option ℕ) → ltb (cond (is_some value) 1 0) (length (list_of value)) ≡ false
quiet_number None = refl
quiet_number (Some value) = refl

and_right_false : (a : Bool) → (a && false) ≡ false
and_right_false true = refl
and_right_false false = refl

quiet : (list : List Field) (outputs tag : ℕ) (value : Option ℕ) → eqb tag 20 ≡ false → values list tag ≡ list_of value → field_of (first_of list) outputs tag ≡ value → leaves_tag list outputs tag ≡ false
quiet list outputs tag value other is field =
    let count : count_taken (first_of list) (mint_in list) outputs tag ≡ cond (is_some value) 1 0 = ap (λ b. cond b (cond (is_some (mint_in list)) 2 0) (cond (is_some (field_of (first_of list) outputs tag)) 1 0)) other ∙ ap (λ o. cond (is_some o) 1 0) field in
    ap (λ n. eqb (tag % 2) 0 && ltb n (length (values list tag))) count ∙ ap (λ l. eqb (tag % 2) 0 && ltb (cond (is_some value) 1 0) (length l)) is ∙ ap (λ b. eqb (tag % 2) 0 && b) (quiet_number value) ∙ and_right_false (eqb (tag % 2) 0)

quiet_mint : (list : List Field) (outputs : ℕ) (mint : Option RuneId) → values list 20 ≡ values (mint_pairs mint) 20 → mint_in list ≡ mint → leaves_tag list outputs 20 ≡ false
quiet_mint list outputs None is in' = ap (λ m. ltb (cond (is_some m) 2 0) (length (values list 20))) in' ∙ ap (λ l. ltb 0 (length l)) is
quiet_mint list outputs (Some m) is in' = ap (λ m. ltb (cond (is_some m) 2 0) (length (values list 20))) in' ∙ ap (λ l. ltb 2 (length l)) is

any_terms : (P : ℕ → Bool) (terms : Option Terms) → P 8 ≡ false → P 10 ≡ false → P 12 ≡ false → P 14 ≡ false → P 16 ≡ false → P 18 ≡ false → list_any (λ f. P f.0) (terms_pairs terms) ≡ false
any_terms P None a b c d e f = refl
any_terms P (Some t) a b c d e f =
    any-app P (pair 8 t.cap) _ (any-pair P 8 t.cap a) (any-app P (pair 10 t.amount) _ (any-pair P 10 t.amount b) (any-app P (pair 12 t.height_start) _ (any-pair P 12 t.height_start c) (any-app P (pair 14 t.height_end) _ (any-pair P 14 t.height_end d) (any-app P (pair 16 t.offset_start) _ (any-pair P 16 t.offset_start e) (any-pair P 18 t.offset_end f)))))

any_etching : (P : ℕ → Bool) (etching : Option Etching) → P 2 ≡ false → P 4 ≡ false → P 1 ≡ false → P 3 ≡ false → P 5 ≡ false → P 6 ≡ false → ((e : Etching) → list_any (λ f. P f.0) (terms_pairs e.terms) ≡ false) → list_any (λ f. P f.0) (etching_pairs etching) ≡ false
any_etching P None a b c d e f terms = refl
any_etching P (Some x) a b c d e f terms =
    rw a (any-app P (pair 4 x.name) _ (any-pair P 4 x.name b) (any-app P (pair 1 x.divisibility) _ (any-pair P 1 x.divisibility c) (any-app P (pair 3 x.spacers) _ (any-pair P 3 x.spacers d) (any-app P (pair 5 x.symbol) _ (any-pair P 5 x.symbol e) (any-app P (pair 6 x.premine) _ (any-pair P 6 x.premine f) (terms x))))))

any_mint : (P : ℕ → Bool) (mint : Option RuneId) → P 20 ≡ false → list_any (λ f. P f.0) (mint_pairs mint) ≡ false
any_mint P None a = refl
any_mint P (Some id) a = rw a refl

-- ---- all of it

pub record IsBack (list : List Field) (stone : Runestone) (outputs : ℕ) : Type 0 where
  pub etching : etching_of (first_of list) ≡ stone.etching
  pub mint : mint_in list ≡ stone.mint
  pub pointer : field_of (first_of list) outputs 22 ≡ stone.pointer
  pub sound : are_flawed outputs list ≡ false

supply_sound : (etching : Option Etching) → IfSome etching IsEtching → overflows etching ≡ false
supply_sound None is = refl
supply_sound (Some e) is = is.supply

all_back : (list : List Field) (stone : Runestone) (outputs : ℕ) (terms : Option Terms) → CanCome stone outputs → list ≡ fields_of stone → AreSaid list stone.etching terms stone.mint stone.pointer → AreTermsBack list terms → IsEtchingBack list stone.etching → IsBack list stone outputs
all_back list stone outputs terms can is s t e =
    let pointer : field_of (first_of list) outputs 22 ≡ stone.pointer = field-at list outputs 22 stone.pointer s.v22 (some_map (λ n. n < outputs) (λ v. takes (first_of list) outputs 22 v ≡ true) stone.pointer (λ v lt. lt-ltb v outputs lt) can.pointer) in
    let mint : mint_in list ≡ stone.mint = mint_back list stone.mint s.v20 can.mint in
    let P : ℕ → Bool = leaves_tag list outputs in
    let terms-quiet : (x : Etching) → list_any (λ f. leaves_tag list outputs f.0) (terms_pairs x.terms) ≡ false = λ x.
    any_terms (leaves_tag list outputs) x.terms (quiet list outputs 8 _ refl s.v8 (t.f8 outputs)) (quiet list outputs 10 _ refl s.v10 (t.f10 outputs)) (quiet list outputs 12 _ refl s.v12 (t.f12 outputs)) (quiet list outputs 14 _ refl s.v14 (t.f14 outputs)) (quiet list outputs 16 _ refl s.v16 (t.f16 outputs)) (quiet list outputs 18 _ refl s.v18 (t.f18 outputs)) in
    let etching-quiet : list_any (λ f. leaves_tag list outputs f.0) (etching_pairs stone.etching) ≡ false =
    any_etching (leaves_tag list outputs) stone.etching (quiet list outputs 2 _ refl s.v2 (e.f2 outputs)) (quiet list outputs 4 _ refl s.v4 (e.f4 outputs)) refl refl refl (quiet list outputs 6 _ refl s.v6 (e.f6 outputs)) terms-quiet in
    let mint-quiet : list_any (λ f. leaves_tag list outputs f.0) (mint_pairs stone.mint) ≡ false = any_mint (leaves_tag list outputs) stone.mint (quiet_mint list outputs stone.mint s.v20 mint) in
    let pointer-quiet : list_any (λ f. leaves_tag list outputs f.0) (pair 22 stone.pointer) ≡ false = any-pair (leaves_tag list outputs) 22 stone.pointer (quiet list outputs 22 stone.pointer refl s.v22 pointer) in
    let all : list_any (λ f. leaves_tag list outputs f.0) (fields_of stone) ≡ false = any-app (leaves_tag list outputs) (etching_pairs stone.etching) (mint_pairs stone.mint ++ pair 22 stone.pointer) etching-quiet (any-app (leaves_tag list outputs) (mint_pairs stone.mint) (pair 22 stone.pointer) mint-quiet pointer-quiet) in
    let here : leaves_even (first_of list) (mint_in list) outputs list ≡ false = ap (list_any (λ f. leaves_tag list outputs f.0)) is ∙ all in
    let supply : overflows (etching_of (first_of list)) ≡ false = ap overflows e.whole ∙ supply_sound stone.etching can.etching in
    record {
      etching = e.whole;
      mint = mint;
      pointer = pointer;
      sound = rw (e.sound, here, supply) refl;
    }

abbrev terms_in : Option Etching → Option Terms
terms_in None = None
terms_in (Some etching) = etching.terms

parts_back : (list : List Field) (etching : Option Etching) (mint : Option RuneId) (pointer : Option ℕ) → AreSaid list etching (terms_in etching) mint pointer → IfSome etching IsEtching → AreTermsBack list (terms_in etching) × IsEtchingBack list etching
parts_back list None mint pointer s is =
    let no : first_of list 2 ≡ None = first-at list 2 None s.v2 in
    let has : has_terms (first_of list) ≡ false = rw no refl in
    (terms_fields list None None mint pointer s tt has, etching_none list None mint pointer s)
parts_back list (Some e) mint pointer s is =
    let flags = flags_back (first_of list) e (first-at list 2 (Some (flags_for e)) s.v2) in
    let t = terms_fields list (Some e) e.terms mint pointer s is.terms flags.with_terms in
    (t, etching_some list e mint pointer s is flags t)

pub fields_back : (stone : Runestone) (outputs : ℕ) → CanCome stone outputs → IsBack (fields_of stone) stone outputs
fields_back stone outputs can =
    let s = said stone.etching (terms_in stone.etching) stone.mint stone.pointer (λ e q. ap terms_in q) (λ q. ap terms_in q) in
    let p = parts_back (fields_of stone) stone.etching stone.mint stone.pointer s can.etching in
    all_back (fields_of stone) stone outputs (terms_in stone.etching) can refl s p.0 p.1

-- ---- each integer has 128 bits, and no tag is 0

abbrev pub IsField : Field → Type 0
IsField field = (field.0 ≢ 0) × (field.0 < 2 ^ 128) × (field.1 < 2 ^ 128)

all-app : {A : Type 0} (P : A → Type 0) (xs ys : List A) → AllByRecursion P xs → AllByRecursion P ys → AllByRecursion P (xs ++ ys)
all-app P [] ys x y = y
all-app P (a ∷ xs) ys x y = (x.0, all-app P xs ys x.1 y)

not_zero : (n : ℕ) → 0 < n → n ≢ 0
not_zero n some = omega arith

pair_small : (tag : ℕ) (value : Option ℕ) → tag ≢ 0 → tag < 2 ^ 128 → IfSome value (λ v. v < 2 ^ 128) → AllByRecursion IsField (pair tag value)
pair_small tag None ne lt is = tt
pair_small tag (Some value) ne lt is = ((ne, lt, is), tt)

less : (k : ℕ) (value : Option ℕ) → k ≤ 2 ^ 128 → IfSome value (λ v. v < k) → IfSome value (λ v. v < 2 ^ 128)
less k value le is = some_map (λ v. v < k) (λ v. v < 2 ^ 128) value (λ v lt. omega arith) is

terms_small : (terms : Option Terms) → IfSome terms AreTerms → AllByRecursion IsField (terms_pairs terms)
terms_small None is = tt
terms_small (Some t) is =
    all-app IsField (pair 8 t.cap) _ (pair_small 8 t.cap (omega arith) (lit< tt) is.cap)
    (all-app IsField (pair 10 t.amount) _ (pair_small 10 t.amount (omega arith) (lit< tt) is.amount)
    (all-app IsField (pair 12 t.height_start) _ (pair_small 12 t.height_start (omega arith) (lit< tt) (less (2 ^ 64) t.height_start (lit≤ tt) is.height_start))
    (all-app IsField (pair 14 t.height_end) _ (pair_small 14 t.height_end (omega arith) (lit< tt) (less (2 ^ 64) t.height_end (lit≤ tt) is.height_end))
    (all-app IsField (pair 16 t.offset_start) _ (pair_small 16 t.offset_start (omega arith) (lit< tt) (less (2 ^ 64) t.offset_start (lit≤ tt) is.offset_start))
    (pair_small 18 t.offset_end (omega arith) (lit< tt) (less (2 ^ 64) t.offset_end (lit≤ tt) is.offset_end))))))

character_small : (c : ℕ) → is_character c ≡ true → c < 2 ^ 128
character_small c is =
    elim (cases_lt c 0xd800) [
      | inl low ↦ omega arith
      | inr high ↦
          let rest : (leb 0xe000 c && leb c 0x10ffff) ≡ true = sym (ap (λ b. b || (leb 0xe000 c && leb c 0x10ffff)) (le-ltb c 0xd800 high)) ∙ is in
          let le : c ≤ 0x10ffff = leb-true c 0x10ffff (and_parts (leb 0xe000 c) (leb c 0x10ffff) rest).1 in
          omega arith
    ]

etching_small : (etching : Option Etching) → IfSome etching IsEtching → AllByRecursion IsField (etching_pairs etching)
etching_small None is = tt
etching_small (Some e) is =
    let n = flags-numbers (is_some e.terms) e.turbo in
    let flags : flags_for e < 2 ^ 128 = omega (arith, n.4) in (
      (not_zero 2 (lit< tt), lit< tt, flags),
      all-app IsField (pair 4 e.name) _ (pair_small 4 e.name (omega arith) (lit< tt) is.name)
          (all-app IsField (pair 1 e.divisibility) _ (pair_small 1 e.divisibility (omega arith) (lit< tt) (some_map (λ v. v ≤ 38) (λ v. v < 2 ^ 128) e.divisibility (λ v le. omega arith) is.divisibility))
          (all-app IsField (pair 3 e.spacers) _ (pair_small 3 e.spacers (omega arith) (lit< tt) (less (2 ^ 27) e.spacers (lit≤ tt) is.spacers))
          (all-app IsField (pair 5 e.symbol) _ (pair_small 5 e.symbol (omega arith) (lit< tt) (some_map (λ c. is_character c ≡ true) (λ v. v < 2 ^ 128) e.symbol character_small is.symbol))
          (all-app IsField (pair 6 e.premine) _ (pair_small 6 e.premine (omega arith) (lit< tt) is.premine) (terms_small e.terms is.terms))))),
    )

mint_small : (mint : Option RuneId) → IfSome mint IsId → AllByRecursion IsField (mint_pairs mint)
mint_small None is = tt
mint_small (Some id) is =
    let b : id.block < 2 ^ 64 = is.block in
    let t : id.tx < 2 ^ 32 = is.tx in
    ((not_zero 20 (lit< tt), lit< tt, omega arith), ((not_zero 20 (lit< tt), lit< tt, omega arith), tt))

pub fields_small : (stone : Runestone) (outputs : ℕ) → outputs < 2 ^ 32 → CanCome stone outputs → AllByRecursion IsField (fields_of stone)
fields_small stone outputs few can =
    all-app IsField (etching_pairs stone.etching) _ (etching_small stone.etching can.etching)
    (all-app IsField (mint_pairs stone.mint) _ (mint_small stone.mint can.mint)
    (pair_small 22 stone.pointer (omega arith) (lit< tt) (some_map (λ v. v < outputs) (λ v. v < 2 ^ 128) stone.pointer (λ v lt. omega arith) can.pointer)))

pub tags_of : (fields : List Field) → AllByRecursion IsField fields → AllByRecursion (λ (f : Field). f.0 ≢ 0) fields
tags_of [] all = tt
tags_of (f ∷ fields) all = (all.0.0, tags_of fields all.1)

tags_and_values_small : (fields : List Field) → AllByRecursion IsField fields → AllByRecursion (λ n. n < 2 ^ 128) (tags_and_values fields)
tags_and_values_small [] all = tt
tags_and_values_small (f ∷ fields) all = (all.0.1, (all.0.2, tags_and_values_small fields all.1))

tx_small : (a b : ℕ) (same : Bool) → a < 2 ^ 32 → cond same (a - b) a < 2 ^ 128
tx_small a b true lt = omega arith
tx_small a b false lt = omega arith

deltas_small : (outputs : ℕ) (id : RuneId) (edicts : List Edict) → outputs < 2 ^ 32 → AllByRecursion (IsEdict outputs) edicts → AllByRecursion (λ n. n < 2 ^ 128) (deltas id edicts)
deltas_small outputs id [] few all = tt
deltas_small outputs id (edict ∷ edicts) few all =
    let b : edict.id.block < 2 ^ 64 = all.0.id.block in
    let t : edict.id.tx < 2 ^ 32 = all.0.id.tx in
    let o : edict.output ≤ outputs = all.0.output in
    (omega arith, (tx_small edict.id.tx id.tx (eqb edict.id.block id.block) t, (all.0.amount, (omega arith, deltas_small outputs edict.id edicts few all.1))))

body_small : (outputs : ℕ) (edicts : List Edict) → outputs < 2 ^ 32 → AllByRecursion (IsEdict outputs) edicts → AllByRecursion (λ n. n < 2 ^ 128) (body_for edicts)
body_small outputs [] few all = tt
body_small outputs (edict ∷ edicts) few all = (lit< tt, deltas_small outputs (record { block = 0; tx = 0 }) (edict ∷ edicts) few all)

pub integers_small : (stone : Runestone) (outputs : ℕ) → outputs < 2 ^ 32 → CanCome stone outputs → AllByRecursion (λ n. n < 2 ^ 128) (integers_for stone)
integers_small stone outputs few can =
    all-app (λ n. n < 2 ^ 128) (tags_and_values (fields_of stone)) (body_for stone.edicts) (tags_and_values_small (fields_of stone) (fields_small stone outputs few can)) (body_small outputs stone.edicts few can.edicts)

-- ---- the artifact

stone-parts : (e e' : Option Etching) (m m' : Option RuneId) (p p' : Option ℕ) (d : List Edict) → e ≡ e' → m ≡ m' → p ≡ p' → Stone (record { etching = e; mint = m; pointer = p; edicts = d }) ≡ Stone (record { etching = e'; mint = m'; pointer = p'; edicts = d })
stone-parts e e' m m' p p' d x y z = cc

artifact_from_back : (list : List Field) (stone : Runestone) (outputs : ℕ) → IsBack list stone outputs → artifact_from outputs list false (Some stone.edicts) ≡ Stone stone
artifact_from_back list stone outputs back =
    cond-false (are_flawed outputs list) _ _ back.sound ∙ stone-parts _ _ _ _ _ _ stone.edicts back.etching back.mint back.pointer

pub artifact_back : (script : List ℕ) (stone : Runestone) (outputs : ℕ) → outputs < 2 ^ 32 → CanCome stone outputs → DontFall stone.edicts → Spells script stone → artifact_of script outputs ≡ Stone stone
artifact_back script stone outputs few can rising spells =
    let payload = payload_back script spells.0 (payload_for stone) spells.1 spells.2 in
    let integers = integers_back (integers_for stone) (integers_small stone outputs few can) in
    let message = message_back (fields_of stone) stone.edicts (tags_of (fields_of stone) (fields_small stone outputs few can)) in
    let edicts = edicts_back outputs stone.edicts can.edicts rising in
    sym (speaks script (integers_for stone) outputs (ap (option_and_then integers_of) payload ∙ integers))
    ∙ ap (of_message outputs) message
    ∙ ap (artifact_from outputs (fields_of stone) false) edicts
    ∙ artifact_from_back (fields_of stone) stone outputs (fields_back stone outputs can)

-- What is deciphered is in the range of what a script can say.
use Rattle.std.proofs.Common.{◌≡◌, ℕ, ◌+◌, ◌^◌, ◌<◌, ◌≤◌, List, [], ◌∷◌, Bool, true, false, cond, eqb, ltb, leb, ◌&&◌, ◌||◌, Option, Some, None, refl, sym, subst, ◌∙◌, arith, inl, inr}
use Rattle.std.specs.Prelude.{slice_get, IfSome}
use Rattle.std.specs.List.{AllByRecursion}
use Rattle.std.specs.Prelude.{All}
use Rattle.std.proofs.lemmas.List.Elements.{recursion_from_All}
use Rattle.std.proofs.lemmas.Bool.{cases_Bool, ltb-true, leb-true, eqb-true, and_parts, or_cases, or_parts}
use Rattle.ox_runestone.specs.declared.stone.RuneId.{RuneId}
use Rattle.ox_runestone.specs.declared.stone.Edict.{Edict}
use Rattle.ox_runestone.specs.declared.stone.Artifact.{Artifact}
use Rattle.ox_runestone.specs.Message.{Field, message_of, values, id_of, id_after, edict_before, edicts_after, edicts_of}
use Rattle.ox_runestone.specs.Fields.{Firsts, first_of, is_etching, has_terms, is_turbo, has_strange_flag, is_character, takes, only, taken_of, field_of, mint_of, terms_of, etching_of, overflows, leaves_even}
use Rattle.ox_runestone.specs.Artifact.{mint_in, are_flawed, artifact_from, of_message}
use Rattle.ox_runestone.specs.Spelling.{IsId, AreTerms, IsEtching, IsEdict, CanCome, StoneCanCome}

abbrev pub AreSmall : List ℕ → Type 0
AreSmall integers = AllByRecursion (λ n. n < 2 ^ 128) integers

abbrev pub HaveSmall : List Field → Type 0
HaveSmall fields = AllByRecursion (λ (f : Field). f.1 < 2 ^ 128) fields

-- ---- the message

pub message_small : (integers : List ℕ) → AreSmall integers → HaveSmall (message_of integers).fields × AreSmall (message_of integers).body
message_small [] all = (tt, tt)
message_small (tag ∷ []) all = (tt, tt)
message_small (tag ∷ value ∷ rest) all =
    elim (cases_Bool (eqb tag 0)) [
      | inl body ↦ rw body (tt, all.1)
      | inr field ↦
          let ih = message_small rest all.1.1 in
          rw field ((all.1.0, ih.0), ih.1)
    ]

values_small : (fields : List Field) (tag : ℕ) → HaveSmall fields → AreSmall (values fields tag)
values_small [] tag all = tt
values_small (f ∷ fields) tag all =
    elim (cases_Bool (eqb f.0 tag)) [
      | inl same ↦ rw same (all.0, values_small fields tag all.1)
      | inr other ↦ rw other (values_small fields tag all.1)
    ]

head_small : (list : List ℕ) → AreSmall list → IfSome (slice_get list 0) (λ v. v < 2 ^ 128)
head_small [] all = tt
head_small (v ∷ list) all = all.0

-- ---- the fields

abbrev pub Fits : Firsts → ℕ → ℕ → ℕ → Type 0
Fits first outputs tag v = (takes first outputs tag v ≡ true) × (v < 2 ^ 128)

only_fits : (first : Firsts) (outputs tag v : ℕ) (b : Bool) → takes first outputs tag v ≡ b → v < 2 ^ 128 → IfSome (only b v) (λ w. (takes first outputs tag w ≡ true) × (w < 2 ^ 128))
only_fits first outputs tag v true is lt = (is, lt)
only_fits first outputs tag v false is lt = tt

taken_fits : (first : Firsts) (outputs tag : ℕ) (value : Option ℕ) → IfSome value (λ v. v < 2 ^ 128) → IfSome (taken_of first outputs tag value) (λ v. (takes first outputs tag v ≡ true) × (v < 2 ^ 128))
taken_fits first outputs tag None lt = tt
taken_fits first outputs tag (Some v) lt = only_fits first outputs tag v (takes first outputs tag v) refl lt

pub field_fits : (fields : List Field) (outputs tag : ℕ) → HaveSmall fields → IfSome (field_of (first_of fields) outputs tag) (λ v. (takes (first_of fields) outputs tag v ≡ true) × (v < 2 ^ 128))
field_fits fields outputs tag all = taken_fits (first_of fields) outputs tag (first_of fields tag) (head_small (values fields tag) (values_small fields tag all))

some_map : (P Q : ℕ → Type 0) (value : Option ℕ) → ((v : ℕ) → P v → Q v) → IfSome value P → IfSome value Q
some_map P Q None f h = tt
some_map P Q (Some value) f h = f value h

below : (a : Bool) (v k : ℕ) → (a && ltb v k) ≡ true → v < k
below a v k is = ltb-true v k (and_parts a (ltb v k) is).1

terms_can : (fields : List Field) → HaveSmall fields → IfSome (terms_of (first_of fields)) AreTerms
terms_can fields all =
    elim (has_terms (first_of fields)) as (λ b. IfSome (cond b (Some (record {
      amount = field_of (first_of fields) 0 10;
      cap = field_of (first_of fields) 0 8;
      height_start = field_of (first_of fields) 0 12;
      height_end = field_of (first_of fields) 0 14;
      offset_start = field_of (first_of fields) 0 16;
      offset_end = field_of (first_of fields) 0 18;
    })) None) AreTerms) [
      | true ↦ record {
        amount = some_map _ (λ v. v < 2 ^ 128) (field_of (first_of fields) 0 10) (λ v f. f.1) (field_fits fields 0 10 all);
        cap = some_map _ (λ v. v < 2 ^ 128) (field_of (first_of fields) 0 8) (λ v f. f.1) (field_fits fields 0 8 all);
        height_start = some_map _ (λ v. v < 2 ^ 64) (field_of (first_of fields) 0 12) (λ v f. below _ v (2 ^ 64) f.0) (field_fits fields 0 12 all);
        height_end = some_map _ (λ v. v < 2 ^ 64) (field_of (first_of fields) 0 14) (λ v f. below _ v (2 ^ 64) f.0) (field_fits fields 0 14 all);
        offset_start = some_map _ (λ v. v < 2 ^ 64) (field_of (first_of fields) 0 16) (λ v f. below _ v (2 ^ 64) f.0) (field_fits fields 0 16 all);
        offset_end = some_map _ (λ v. v < 2 ^ 64) (field_of (first_of fields) 0 18) (λ v f. below _ v (2 ^ 64) f.0) (field_fits fields 0 18 all);
      }
      | false ↦ tt
    ]

etching_can : (fields : List Field) → HaveSmall fields → overflows (etching_of (first_of fields)) ≡ false → IfSome (etching_of (first_of fields)) IsEtching
etching_can fields all =
    elim (is_etching (first_of fields)) as (λ b. overflows (cond b (Some (record {
      name = field_of (first_of fields) 0 4;
      spacers = field_of (first_of fields) 0 3;
      divisibility = field_of (first_of fields) 0 1;
      symbol = field_of (first_of fields) 0 5;
      premine = field_of (first_of fields) 0 6;
      terms = terms_of (first_of fields);
      turbo = is_turbo (first_of fields);
    })) None) ≡ false → IfSome (cond b (Some (record {
      name = field_of (first_of fields) 0 4;
      spacers = field_of (first_of fields) 0 3;
      divisibility = field_of (first_of fields) 0 1;
      symbol = field_of (first_of fields) 0 5;
      premine = field_of (first_of fields) 0 6;
      terms = terms_of (first_of fields);
      turbo = is_turbo (first_of fields);
    })) None) IsEtching) [
      | true ↦ λ sound. record {
        name = some_map _ (λ v. v < 2 ^ 128) (field_of (first_of fields) 0 4) (λ v f. f.1) (field_fits fields 0 4 all);
        spacers = some_map _ (λ v. v < 2 ^ 27) (field_of (first_of fields) 0 3) (λ v f. below _ v (2 ^ 27) f.0) (field_fits fields 0 3 all);
        divisibility = some_map _ (λ v. v ≤ 38) (field_of (first_of fields) 0 1) (λ v f. leb-true v 38 (and_parts _ (leb v 38) f.0).1) (field_fits fields 0 1 all);
        symbol = some_map _ (λ v. is_character v ≡ true) (field_of (first_of fields) 0 5) (λ v f. (and_parts _ (is_character v) f.0).1) (field_fits fields 0 5 all);
        premine = some_map _ (λ v. v < 2 ^ 128) (field_of (first_of fields) 0 6) (λ v f. f.1) (field_fits fields 0 6 all);
        terms = terms_can fields all;
        supply = sound;
      }
      | false ↦ λ sound. tt
    ]

-- ---- ids and edicts

id_parts : (block tx : ℕ) (b : Bool) → (ltb block (2 ^ 64) && (ltb tx (2 ^ 32) && (ltb 0 block || eqb tx 0))) ≡ b → ◌≡◌ {A = Bool} b true → IsId (record { block = block; tx = tx })
id_parts block tx b is holds =
    let p = and_parts (ltb block (2 ^ 64)) (ltb tx (2 ^ 32) && (ltb 0 block || eqb tx 0)) (is ∙ holds) in
    let q = and_parts (ltb tx (2 ^ 32)) (ltb 0 block || eqb tx 0) p.1 in
    record {
      block = ltb-true block (2 ^ 64) p.0;
      tx = ltb-true tx (2 ^ 32) q.0;
      first = λ none. elim (or_cases (ltb 0 block) (eqb tx 0) q.1) [
        | inl some ↦ let lt : 0 < block = ltb-true 0 block some in absurd (omega arith)
        | inr fails ↦ eqb-true tx 0 fails
      ];
    }

id_can : (block tx : ℕ) → IfSome (id_of block tx) IsId
id_can block tx =
    elim (cases_Bool (ltb block (2 ^ 64) && (ltb tx (2 ^ 32) && (ltb 0 block || eqb tx 0)))) [
      | inl holds ↦ rw holds (id_parts block tx true holds refl)
      | inr fails ↦ rw fails tt
    ]

mint_can : (block tx : Option ℕ) → IfSome (mint_of block tx) IsId
mint_can None tx = tt
mint_can (Some block) None = tt
mint_can (Some block) (Some tx) = id_can block tx

edict_can : (outputs amount output : ℕ) (id : Option RuneId) (edicts : Option (List Edict)) → IfSome id IsId → amount < 2 ^ 128 → IfSome edicts (AllByRecursion (IsEdict outputs)) → IfSome (edict_before outputs id amount output edicts) (AllByRecursion (IsEdict outputs))
edict_can outputs amount output None edicts is lt all = tt
edict_can outputs amount output (Some id) None is lt all = tt
edict_can outputs amount output (Some id) (Some edicts) is lt all =
    elim (cases_Bool (leb output outputs)) [
      | inl holds ↦ rw holds (record { id = is; amount = lt; output = leb-true output outputs holds }, all)
      | inr fails ↦ rw fails tt
    ]

edicts_can : (outputs : ℕ) (id : Option RuneId) (body : List ℕ) → AreSmall body → IfSome (edicts_after outputs id body) (AllByRecursion (IsEdict outputs))
edicts_can outputs None body all = tt
edicts_can outputs (Some id) [] all = tt
edicts_can outputs (Some id) (a ∷ []) all = tt
edicts_can outputs (Some id) (a ∷ b ∷ []) all = tt
edicts_can outputs (Some id) (a ∷ b ∷ c ∷ []) all = tt
edicts_can outputs (Some id) (a ∷ b ∷ c ∷ d ∷ rest) all =
    edict_can outputs c d (id_after id a b) (edicts_after outputs (id_after id a b) rest) (id_can (id.block + a) (cond (eqb a 0) (id.tx + b) b)) all.1.1.0 (edicts_can outputs (id_after id a b) rest all.1.1.1.1)

pub body_can : (outputs : ℕ) (body : List ℕ) → AreSmall body → IfSome (edicts_of outputs body) (AllByRecursion (IsEdict outputs))
unfolding edicts_of
body_can outputs body all = edicts_can outputs (Some (record { block = 0; tx = 0 })) body all

-- ---- the artifact

stone_can : (outputs : ℕ) (fields : List Field) (edicts : List Edict) → HaveSmall fields → AllByRecursion (IsEdict outputs) edicts → are_flawed outputs fields ≡ false → CanCome (record { etching = etching_of (first_of fields); mint = mint_in fields; pointer = field_of (first_of fields) outputs 22; edicts = edicts }) outputs
stone_can outputs fields edicts all each sound =
    let first = or_parts (has_strange_flag (first_of fields)) (leaves_even (first_of fields) (mint_in fields) outputs fields || overflows (etching_of (first_of fields))) sound in
    let second = or_parts (leaves_even (first_of fields) (mint_in fields) outputs fields) (overflows (etching_of (first_of fields))) first.1 in
    record {
      etching = etching_can fields all second.1;
      mint = mint_can (slice_get (values fields 20) 0) (slice_get (values fields 20) 1);
      pointer = some_map _ (λ v. v < outputs) (field_of (first_of fields) outputs 22) (λ v f. ltb-true v outputs f.0) (field_fits fields outputs 22 all);
      edicts = each;
    }

artifact_from_can : (outputs : ℕ) (fields : List Field) (lone : Bool) (edicts : Option (List Edict)) → HaveSmall fields → IfSome edicts (AllByRecursion (IsEdict outputs)) → StoneCanCome outputs (artifact_from outputs fields lone edicts)
artifact_from_can outputs fields lone None all each = tt
artifact_from_can outputs fields lone (Some edicts) all each =
    elim (cases_Bool (lone || are_flawed outputs fields)) [
      | inl flawed ↦ rw flawed tt
      | inr sound ↦ rw sound (stone_can outputs fields edicts all each (or_parts lone (are_flawed outputs fields) sound).1)
    ]

message_can : (outputs : ℕ) (integers : List ℕ) → AreSmall integers → StoneCanCome outputs (of_message outputs (message_of integers))
message_can outputs integers all =
    let m = message_small integers all in
    artifact_from_can outputs (message_of integers).fields (message_of integers).lone (edicts_of outputs (message_of integers).body) m.0 (body_can outputs (message_of integers).body m.1)

pub artifact_can : (outputs : ℕ) (integers : List ℕ) (artifact : Artifact) → All (λ n. n < 2 ^ 128) integers → artifact ≡ of_message outputs (message_of integers) → StoneCanCome outputs artifact
artifact_can outputs integers artifact all is =
    let S : Artifact → Type 0 = λ (a : Artifact). StoneCanCome outputs a in
    subst S (sym is) (message_can outputs integers (recursion_from_All (λ n. n < 2 ^ 128) integers all))

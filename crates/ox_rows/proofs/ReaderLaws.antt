-- The laws of readers that are made of others: of fields one after the other, of options, of bytes.
use Rattle.std.proofs.Common.{◌≡◌, ℕ, ◌+◌, ◌^◌, ◌<◌, Bool, true, false, cond, eqb, List, [], ◌∷◌, ◌++◌, length, Ok, Err, Option, Some, None, refl, sym, ap, subst, ◌∙◌, append_assoc, arith, inl, inr}
use Rattle.std.specs.Prelude.{All, IfSome}
use Rattle.std.specs.Int.{w8, w16, w32, w64, w128, to_le_bytes}
use Rattle.std.proofs.lemmas.List.Elements.{All-from_recursion, recursion_from_All}
use Rattle.std.proofs.lemmas.Bool.{cases_lt, eqb-true}
use Rattle.std.proofs.lemmas.List.{get_or_past}
use Rattle.ox_bytes.specs.Reading.{◌>>=◌, Reader, number_at, run_at}
use Rattle.ox_bytes.proofs.Laws.{IsBytes, IsBytes-rest, bind_ok, chosen, ok_is, Takes, Takes-then, Law, wide16, wide32, wide64, number_law, run_law, counted_list_law}
use Rattle.ox_rows.proofs.Widths.{wide8, wide128}
use Rattle.ox_rows.specs.Spelling.{list, text, optional}
use Rattle.ox_rows.specs.Fits.{FitsList, FitsText}
use Rattle.ox_rows.specs.Reading.{made, ◌<*>◌, list_at, text_at, flag_at, maybe_at, optional_at}

-- each is a byte
pub bytes_are : (bytes : List ℕ) → All (λ byte. byte < 256) bytes → IsBytes bytes
bytes_are bytes are i =
    elim (cases_lt i (length bytes)) [
      | inl lt ↦ are i 0 lt
      | inr le ↦ rw (get_or_past bytes i 0 le) (omega arith)
    ]

-- ---- fields one after the other

-- what is made of fields p is read where these are spelled so
pub record Shape {P X : Type 0} (FP : P → Type 0) (sp : P → List ℕ) (make : P → X) (read : Reader X) : Type 0 where
  pub takes : (bytes : List ℕ) (x : X × List ℕ) → IsBytes bytes → read bytes ≡ Ok x → (p : P) × (make p ≡ x.0) × Takes bytes (sp p) x.1 × FP p
  pub again : (p : P) (rest : List ℕ) → FP p → read (sp p ++ rest) ≡ Ok (make p, rest)

abbrev pub NoFields : Type 0
NoFields = Unit {0}

pub no_fields : {X : Type 0} (make : X) → Shape {P = NoFields} (λ p. Unit {0}) (λ p. []) (λ p. make) (made make)
no_fields {X} make = record {
  takes = λ bytes x fits e.
      let is = ok_is {F = ℕ} (make, bytes) x e in
      (tt, ap (λ (y : X × List ℕ). y.0) is, subst (λ (r : List ℕ). Takes bytes [] r) (ap (λ (y : X × List ℕ). y.1) is) (record { parts = refl; rest_fits = fits }), tt);
  again = λ p rest fits. refl;
}

infixl 20 ◌then◌
pub ◌then◌ : {P A X : Type 0} {FP : P → Type 0} {sp : P → List ℕ} {make : P → A → X} {rp : Reader (A → X)} {FA : A → Type 0} {sa : A → List ℕ} {ra : Reader A}
    → Shape FP sp make rp → Law FA sa ra → Shape (λ (q : P × A). FP q.0 × FA q.1) (λ (q : P × A). sp q.0 ++ sa q.1) (λ (q : P × A). make q.0 q.1) (rp <*> ra)
◌then◌ {P} {A} {X} {FP} {sp} {make} {rp} {FA} {sa} {ra} front law = record {
  takes = λ bytes z fits e.
      let a = bind_ok (rp bytes) (λ f. ra f.1 >>= λ x. Ok (f.0 x.0, x.1)) z e in
      let b = bind_ok (ra a.0.1) (λ x. Ok (a.0.0 x.0, x.1)) z a.2 in
      let tp = front.takes bytes a.0 fits a.1 in
      let ta = law.takes a.0.1 b.0 tp.2.rest_fits b.1 in
      let is = ok_is {F = ℕ} (a.0.0 b.0.0, b.0.1) z b.2 in
      let whole = Takes-then bytes (sp tp.0) a.0.1 (sa b.0.0) b.0.1 tp.2 ta.0 in
      ((tp.0, b.0.0), ap (λ (f : A → X). f b.0.0) tp.1 ∙ ap (λ (y : X × List ℕ). y.0) is, subst (λ (r : List ℕ). Takes bytes (sp tp.0 ++ sa b.0.0) r) (ap (λ (y : X × List ℕ). y.1) is) whole, (tp.3, ta.1));
  again = λ q rest fits.
      ap (rp <*> ra) (append_assoc (sp q.0) (sa q.1) rest) ∙ rw (front.again q.0 (sa q.1 ++ rest) fits.0, law.again q.1 rest fits.1) refl;
}

-- what is made of fields is spelled by its fields
pub by_fields : {P X : Type 0} {FP : P → Type 0} {sp : P → List ℕ} {make : P → X} {read : Reader X} → Shape FP sp make read → (Fits : X → Type 0) (spell : X → List ℕ) (to : X → P)
    → ((p : P) → FP p → Fits (make p)) → ((p : P) → FP p → spell (make p) ≡ sp p) → ((x : X) → Fits x → FP (to x)) → ((x : X) → make (to x) ≡ x) → Law Fits spell read
by_fields {P} {X} {FP} {sp} {make} {read} shape Fits spell to fits_made spells fits_to back = record {
  takes = λ bytes x fits e.
      let t = shape.takes bytes x fits e in
      subst (λ (y : X). Takes bytes (spell y) x.1 × Fits y) t.1 (subst (λ (s : List ℕ). Takes bytes s x.1) (sym (spells t.0 t.3)) t.2, fits_made t.0 t.3);
  again = λ x rest fits.
      let spelled : spell x ≡ sp (to x) = ap spell (sym (back x)) ∙ spells (to x) (fits_to x fits) in
      ap (λ (s : List ℕ). read (s ++ rest)) spelled ∙ shape.again (to x) rest (fits_to x fits) ∙ ap (λ (y : X). Ok (y, rest)) (back x);
}

-- ---- bytes and lists

pub law16 : Law (λ n. n < 2 ^ 16) (to_le_bytes w16) (number_at w16)
law16 = number_law w16 (2 ^ 16) wide16

pub law8 : Law (λ n. n < 2 ^ 8) (to_le_bytes w8) (number_at w8)
law8 = number_law w8 (2 ^ 8) wide8

pub law128 : Law (λ n. n < 2 ^ 128) (to_le_bytes w128) (number_at w128)
law128 = number_law w128 (2 ^ 128) wide128

pub law32 : Law (λ n. n < 2 ^ 32) (to_le_bytes w32) (number_at w32)
law32 = number_law w32 (2 ^ 32) wide32

pub law64 : Law (λ n. n < 2 ^ 64) (to_le_bytes w64) (number_at w64)
law64 = number_law w64 (2 ^ 64) wide64

text_take : (bytes : List ℕ) (z : List ℕ × List ℕ) → IsBytes bytes → text_at bytes ≡ Ok z → Takes bytes (text z.0) z.1 × FitsText z.0
unfolding text_at
text_take bytes z fits e =
    let n = bind_ok (number_at w32 bytes) (λ x. run_at x.0 x.1) z e in
    let tn = law32.takes bytes n.0 fits n.1 in
    let t = (run_law n.0.0).takes n.0.1 z tn.0.rest_fits n.2 in
    let whole = Takes-then bytes (to_le_bytes w32 n.0.0) n.0.1 z.0 z.1 tn.0 t.0 in
    (subst (λ (k : ℕ). Takes bytes (to_le_bytes w32 k ++ z.0) z.1) (sym t.1) whole, subst (λ (k : ℕ). k < 2 ^ 32) (sym t.1) tn.1)

text_repeats : (bytes rest : List ℕ) → FitsText bytes → text_at (text bytes ++ rest) ≡ Ok (bytes, rest)
unfolding text_at
text_repeats bytes rest lt =
    ap text_at (append_assoc (to_le_bytes w32 (length bytes)) bytes rest) ∙ rw (law32.again (length bytes) (bytes ++ rest) lt) ((run_law (length bytes)).again bytes rest refl)

pub text_law : Law FitsText text text_at
text_law = record { takes = text_take; again = text_repeats }

-- what fits in other words
pub law_as : {A : Type 0} {F G : A → Type 0} {s : A → List ℕ} {r : Reader A} → ((x : A) → F x → G x) → ((x : A) → G x → F x) → Law F s r → Law G s r
law_as to from law = record {
  takes = λ bytes z fits e. let t = law.takes bytes z fits e in (t.0, to z.0 t.1);
  again = λ x rest fits. law.again x rest (from x fits);
}

pub list_law : {A : Type 0} {FA : A → Type 0} {sa : A → List ℕ} {ra : Reader A} → Law FA sa ra → Law (FitsList FA) (list sa) (list_at ra)
list_law {A} {FA} {sa} {ra} law =
    law_as (λ xs h. (h.0, All-from_recursion FA xs h.1)) (λ xs h. (h.0, recursion_from_All FA xs h.1))
    (counted_list_law (λ n. n < 2 ^ 32) (to_le_bytes w32) (number_at w32) FA sa ra law32 law)

-- ---- options

abbrev pub flag_byte : Bool → ℕ
flag_byte false = 0
flag_byte true = 1

flag_takes : (bytes : List ℕ) (z : Bool × List ℕ) → IsBytes bytes → flag_at bytes ≡ Ok z → Takes bytes (flag_byte z.0 ∷ []) z.1
unfolding flag_at
flag_takes [] z fits e = absurd cc
flag_takes (flag ∷ rest) z fits e =
    let rest_fits = IsBytes-rest flag rest fits in
    elim (chosen (eqb flag 0) (Ok (false, rest)) (cond (eqb flag 1) (Ok (true, rest)) (Err (length rest + 1))) (Ok z) e) [
      | inl p ↦
          subst (λ (y : Bool × List ℕ). Takes (flag ∷ rest) (flag_byte y.0 ∷ []) y.1) (ok_is {F = ℕ} (false, rest) z p.1) (record { parts = ap (λ (f : ℕ). f ∷ rest) (eqb-true _ _ p.0); rest_fits = rest_fits })
      | inr p ↦
          elim (chosen (eqb flag 1) (Ok (true, rest)) (Err (length rest + 1)) (Ok z) p.1) [
            | inl q ↦
                subst (λ (y : Bool × List ℕ). Takes (flag ∷ rest) (flag_byte y.0 ∷ []) y.1) (ok_is {F = ℕ} (true, rest) z q.1) (record { parts = ap (λ (f : ℕ). f ∷ rest) (eqb-true _ _ q.0); rest_fits = rest_fits })
            | inr q ↦ absurd (let no = q.1 in cc)
          ]
    ]

maybe_takes : {A : Type 0} (FA : A → Type 0) (sa : A → List ℕ) (ra : Reader A) → Law FA sa ra → (b : Bool) (bytes rest : List ℕ) (z : Option A × List ℕ) → Takes bytes (flag_byte b ∷ []) rest → maybe_at b ra rest ≡ Ok z
    → Takes bytes (optional sa z.0) z.1 × IfSome z.0 FA
maybe_takes {A} FA sa ra law false bytes rest z begun e =
    subst (λ (y : Option A × List ℕ). Takes bytes (optional sa y.0) y.1 × IfSome y.0 FA) (ok_is {F = ℕ} (None, rest) z e) (begun, tt)
maybe_takes {A} FA sa ra law true bytes rest z begun e =
    let a = bind_ok (ra rest) (λ x. Ok (Some x.0, x.1)) z e in
    let ta = law.takes rest a.0 begun.rest_fits a.1 in
    let whole = Takes-then bytes (1 ∷ []) rest (sa a.0.0) a.0.1 begun ta.0 in
    subst (λ (y : Option A × List ℕ). Takes bytes (optional sa y.0) y.1 × IfSome y.0 FA) (ok_is {F = ℕ} (Some a.0.0, a.0.1) z a.2) (whole, ta.1)

optional_again : {A : Type 0} (FA : A → Type 0) (sa : A → List ℕ) (ra : Reader A) → Law FA sa ra → (x : Option A) (rest : List ℕ) → IfSome x FA → optional_at ra (optional sa x ++ rest) ≡ Ok (x, rest)
unfolding flag_at
optional_again FA sa ra law None rest fits = refl
optional_again FA sa ra law (Some x) rest fits = rw (law.again x rest fits) refl

pub optional_law : {A : Type 0} {FA : A → Type 0} {sa : A → List ℕ} {ra : Reader A} → Law FA sa ra → Law (λ (x : Option A). IfSome x FA) (optional sa) (optional_at ra)
optional_law {A} {FA} {sa} {ra} law = record {
  takes = λ bytes z fits e.
      let f = bind_ok (flag_at bytes) (λ flag. maybe_at flag.0 ra flag.1) z e in
      maybe_takes FA sa ra law f.0.0 bytes f.0.1 z (flag_takes bytes f.0 fits f.1) f.2;
  again = optional_again FA sa ra law;
}

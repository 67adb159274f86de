-- The faults of a head, by three questions.
use Rattle.std.proofs.Common.{◌≡◌, ◌≢◌, ◌∙◌, ℕ, ◌==◌, Bool, true, false, not, ◌&&◌, ◌||◌, List, [], ◌∷◌, length, Option, Some, None, refl, sym, ap, inl, inr, ◌⊎◌, true≢false, if◌then◌else◌, arith}
use Rattle.std.specs.Prelude.{◌↔◌, All, codes, nat_lt, unwrap_or}
use Rattle.std.specs.List.{AllByRecursion, list_all}
use Rattle.std.specs.Str.{bytes_eq}
use Rattle.std.proofs.lemmas.Bool.{lt-ltb, eqb-true}
use Rattle.std.proofs.lemmas.Bool.Decides.{Decides-ltb}
use Rattle.std.proofs.lemmas.Slice.Eq.{bytes_eq-Decides}
use Rattle.std.proofs.lemmas.List.Elements.{recursion_from_All, All-from_recursion}
use Rattle.ox_http.specs.Faults.{HasOneLength, LacksLength, IsTooLong, lengths_in}
use Rattle.ox_http.specs.First.{are_one_length, body_limit, fault_of, is_length, is_post, lacks_length, length_told, values_of}
use Rattle.ox_http.specs.Head.{Head}

-- which fault it is, where these three facts say so
pub record Orders (fault : Option ℕ) (One Lacks Long : Type 0) : Type 0 where
  pub unclear : (fault ≡ Some 400) ↔ (One → ⊥)
  pub lacking : (fault ≡ Some 411) ↔ (One × Lacks)
  pub long : (fault ≡ Some 413) ↔ (One × (Lacks → ⊥) × Long)
  pub none : (fault ≡ None) ↔ (One × (Lacks → ⊥) × (Long → ⊥))

isnt : {P : Type 0} → ((false ≡ true) ↔ P) → P → ⊥
isnt is p = true≢false (sym (is.1 p))

-- no status is another
apart : (m n : ℕ) → (m ≡ n → ⊥) → Some m ≡ Some n → ⊥
apart m n differ e = differ (ap (λ (o : Option ℕ). unwrap_or o m) e)

no_411 : ◌≡◌ {A = Option ℕ} (Some 400) (Some 411) → ⊥
no_411 = apart 400 411 (λ e. omega (arith, e))

no_413 : ◌≡◌ {A = Option ℕ} (Some 400) (Some 413) → ⊥
no_413 = apart 400 413 (λ e. omega (arith, e))

long_isnt_lacking : ◌≡◌ {A = Option ℕ} (Some 411) (Some 413) → ⊥
long_isnt_lacking = apart 411 413 (λ e. omega (arith, e))

orders : {One Lacks Long : Type 0} (a b c : Bool) → ((a ≡ true) ↔ One) → ((b ≡ true) ↔ Lacks) → ((c ≡ true) ↔ Long)
    → Orders (if not a then Some 400 else if b then Some 411 else if c then Some 413 else None) One Lacks Long
orders false b c one lacks long = record {
  unclear = ((λ e. isnt one), (λ no. refl));
  lacking = ((λ e. absurd (no_411 e)), (λ x. absurd (isnt one x.0)));
  long = ((λ e. absurd (no_413 e)), (λ x. absurd (isnt one x.0)));
  none = ((λ e. absurd (cc e)), (λ x. absurd (isnt one x.0)));
}
orders true true c one lacks long = record {
  unclear = ((λ e. absurd (no_411 (sym e))), (λ no. absurd (no (one.0 refl))));
  lacking = ((λ e. (one.0 refl, lacks.0 refl)), (λ x. refl));
  long = ((λ e. absurd (long_isnt_lacking e)), (λ x. absurd (x.1 (lacks.0 refl))));
  none = ((λ e. absurd (cc e)), (λ x. absurd (x.1 (lacks.0 refl))));
}
orders true false true one lacks long = record {
  unclear = ((λ e. absurd (no_413 (sym e))), (λ no. absurd (no (one.0 refl))));
  lacking = ((λ e. absurd (long_isnt_lacking (sym e))), (λ x. absurd (isnt lacks x.1)));
  long = ((λ e. (one.0 refl, isnt lacks, long.0 refl)), (λ x. refl));
  none = ((λ e. absurd (cc e)), (λ x. absurd (x.2 (long.0 refl))));
}
orders true false false one lacks long = record {
  unclear = ((λ e. absurd (cc e)), (λ no. absurd (no (one.0 refl))));
  lacking = ((λ e. absurd (cc e)), (λ x. absurd (isnt lacks x.1)));
  long = ((λ e. absurd (cc e)), (λ x. absurd (isnt long x.2)));
  none = ((λ e. (one.0 refl, isnt lacks, isnt long)), (λ x. refl));
}

-- ---- the three questions

both_are : (a b : Bool) → (a && b) ≡ true → (a ≡ true) × (b ≡ true)
both_are true b is = (refl, is)
both_are false b is = absurd (cc is)

all_same : (text : List ℕ) (texts : List (List ℕ)) → list_all (bytes_eq text) texts ≡ true → AllByRecursion (λ (told : List ℕ). told ≡ text) texts
all_same text [] is = tt
all_same text (told ∷ texts) is =
    let each = both_are (bytes_eq text told) (list_all (bytes_eq text) texts) is in
    (sym ((bytes_eq-Decides text told).0 each.0), all_same text texts each.1)

same_all : (text : List ℕ) (texts : List (List ℕ)) → AllByRecursion (λ (told : List ℕ). told ≡ text) texts → list_all (bytes_eq text) texts ≡ true
same_all text [] is = refl
same_all text (told ∷ texts) is =
    ap (λ (b : Bool). b && list_all (bytes_eq text) texts) ((bytes_eq-Decides text told).1 (sym is.0)) ∙ same_all text texts is.1

abbrev AreOne : List (List ℕ) → Type 0
AreOne texts = (text : List ℕ) × (is_length text ≡ true) × All (λ (told : List ℕ). told ≡ text) texts

one_told : (texts : List (List ℕ)) → are_one_length texts ≡ true → AreOne texts
one_told [] is = (codes "0", refl, All-from_recursion (λ (told : List ℕ). told ≡ codes "0") [] tt)
one_told (text ∷ texts) is =
    let each = both_are (is_length text) (list_all (bytes_eq text) texts) is in
    (text, each.0, All-from_recursion (λ (told : List ℕ). told ≡ text) (text ∷ texts) (refl, all_same text texts each.1))

told_one : (texts : List (List ℕ)) → AreOne texts → are_one_length texts ≡ true
told_one [] is = refl
told_one (told ∷ texts) (text, is, same) =
    let each = recursion_from_All (λ (told : List ℕ). told ≡ text) (told ∷ texts) same in
    ap (λ (t : List ℕ). is_length t && list_all (bytes_eq t) texts) each.0
    ∙ ap (λ (b : Bool). b && list_all (bytes_eq text) texts) is ∙ same_all text texts each.1

some_told : (texts : List (List ℕ)) → (nat_lt 0 (length texts) ≡ true) ↔ (texts ≢ [])
some_told [] = ((λ e. absurd (cc e)), (λ no. absurd (no refl)))
some_told (text ∷ texts) = ((λ e f. absurd (cc f)), (λ no. lt-ltb 0 (length (text ∷ texts)) (omega arith)))

none_told : (texts : List (List ℕ)) → ((length texts == 0) ≡ true) ↔ (texts ≡ [])
none_told [] = ((λ e. refl), (λ e. refl))
none_told (text ∷ texts) =
    ((λ e. absurd (let none = eqb-true (length (text ∷ texts)) 0 e in omega (arith, none))), (λ e. absurd (cc e)))

neither : {P Q : Type 0} → (P → ⊥) → (Q → ⊥) → P ⊎ Q → ⊥
neither p q (inl x) = p x
neither p q (inr x) = q x

either_is : {P Q R : Type 0} (a b c : Bool) → ((a ≡ true) ↔ P) → ((b ≡ true) ↔ Q) → ((c ≡ true) ↔ R) → ((a || (b && c)) ≡ true) ↔ (P ⊎ (Q × R))
either_is true b c p q r = ((λ e. inl (p.0 refl)), (λ x. refl))
either_is false true true p q r = ((λ e. inr (q.0 refl, r.0 refl)), (λ x. refl))
either_is false true false p q r = ((λ e. absurd (cc e)), (λ x. absurd (neither (isnt p) (λ y. isnt r y.1) x)))
either_is false false c p q r = ((λ e. absurd (cc e)), (λ x. absurd (neither (isnt p) (λ y. isnt q y.0) x)))

lacking_is : (head : Head) → (lacks_length head (lengths_in head) ≡ true) ↔ LacksLength head
lacking_is head =
    let lengths = lengths_in head in
    let encodings = values_of (codes "transfer-encoding") head.fields in
    either_is (nat_lt 0 (length encodings)) (is_post head) (length lengths == 0)
    (some_told encodings) (bytes_eq-Decides head.start.method (codes "POST")) (none_told lengths)

pub faults_order : (head : Head) → Orders (fault_of head) (HasOneLength head) (LacksLength head) (IsTooLong head)
unfolding fault_of
faults_order head =
    let lengths = lengths_in head in
    orders (are_one_length lengths) (lacks_length head lengths) (nat_lt body_limit (length_told lengths))
    (one_told lengths, told_one lengths) (lacking_is head) (Decides-ltb body_limit (length_told lengths))

-- What a change at one key of a map does at every key.
use Rattle.std.proofs.Common.{◌≡◌, ◌∙◌, ℕ, Bool, true, false, cond, List, [], ◌∷◌, refl, sym, ap, Option, Some, None, Ok, Err, Ordering}
use Rattle.std.specs.Prelude.{unwrap_or, OnOk, Result}
use Rattle.std.specs.BTreeMap.{BTreeMap, get}
use Rattle.std.specs.Cmp.{IsTotalOrder}
use Rattle.std.specs.Cmp.Lexicographic.{nat_list_cmp_total}
use Rattle.std.specs.Map.{lookup}
use Rattle.std.specs.Ordering.{is_eq}
use Rattle.std.specs.declared.cmp.Ordering.TheVariants.{Less, Equal, Greater}
use Rattle.std.proofs.lemmas.Cmp.{then_total, on_total, nat_cmp_total}
use Rattle.ox_envelope.specs.declared.id.InsId.{InsId}
use Rattle.ox_inscribe.specs.Shelved.{at, first_if, id_cmp, is_first, none_if}
use Rattle.ox_shards.specs.Shards.{Entries, value_at}

pub on_ok : {A E P Q : Type 0} (r : Result A E) → OnOk r P → (P → Q) → OnOk r Q
on_ok (Ok x) is then = then is
on_ok (Err e) is then = tt

equal : (r : Ordering) → is_eq r ≡ true → r ≡ Equal
equal Less p = absurd (cc p)
equal Equal p = refl
equal Greater p = absurd (cc p)

found_alike : {K X : Type 0} (one other : K → Bool) (es : List (K × X)) → ((k : K) → one k ≡ other k) → lookup one es ≡ lookup other es
found_alike one other [] alike = refl
found_alike one other (e ∷ es) alike =
    ap (λ (b : Bool). cond b (Some e.1) (lookup one es)) (alike e.0) ∙ ap (λ (o : Option _). cond (other e.0) (Some e.1) o) (found_alike one other es alike)

-- entries have the same at keys that compare equal
value_same : {K X : Type 0} {R : K → K → Ordering} → IsTotalOrder R → (es : Entries K X) (k q : K) → is_eq (R k q) ≡ true → value_at R es q ≡ value_at R es k
value_same {R = R} o es k q tie = sym (found_alike (λ z. is_eq (R k z)) (λ z. is_eq (R q z)) es (λ z. ap (λ (r : Ordering). is_eq r) (o.congr k q z (equal (R k q) tie))))

at_same : {K : Type 0} {R : K → K → Ordering} → IsTotalOrder R → (m : BTreeMap K (List ℕ)) (k q : K) → is_eq (R k q) ≡ true → at R m k ≡ at R m q
at_same {R = R} o m k q tie = sym (ap (λ (found : Option (List ℕ)). unwrap_or found []) (value_same {R = R} o m.entries k q tie))

pub updated : {K : Type 0} {R : K → K → Ordering} → IsTotalOrder R → (m n : BTreeMap K (List ℕ)) (k : K) (w : Option (List ℕ)) (f : List ℕ → List ℕ) → ((q : K) → get R n q ≡ cond (is_eq (R k q)) w (get R m q)) → unwrap_or w [] ≡ f (at R m k) → (q : K) → at R n q ≡ cond (is_eq (R k q)) (f (at R m q)) (at R m q)
updated {R = R} o m n k w f is new q = by_test (is_eq (R k q)) refl (is q) where
  by_test : (b : Bool) → is_eq (R k q) ≡ b → get R n q ≡ cond b w (get R m q) → at R n q ≡ cond b (f (at R m q)) (at R m q)
  by_test true tie now = ap (λ (found : Option (List ℕ)). unwrap_or found []) now ∙ new ∙ ap f (at_same {R = R} o m k q tie)
  by_test false apart now = ap (λ (found : Option (List ℕ)). unwrap_or found []) now

pub unchanged : {K : Type 0} {R : K → K → Ordering} → IsTotalOrder R → (m : BTreeMap K (List ℕ)) (k : K) (f : List ℕ → List ℕ) → at R m k ≡ f (at R m k) → (q : K) → at R m q ≡ cond (is_eq (R k q)) (f (at R m q)) (at R m q)
unchanged {R = R} o m k f same q = by_test (is_eq (R k q)) refl where
  by_test : (b : Bool) → is_eq (R k q) ≡ b → at R m q ≡ cond b (f (at R m q)) (at R m q)
  by_test true tie = sym (at_same {R = R} o m k q tie) ∙ same ∙ ap f (at_same {R = R} o m k q tie)
  by_test false apart = refl

-- a key without numbers can go
pub removed : {K : Type 0} {R : K → K → Ordering} → IsTotalOrder R → (m n : BTreeMap K (List ℕ)) (k : K) → ((q : K) → get R n q ≡ cond (is_eq (R k q)) None (get R m q)) → at R m k ≡ [] → (q : K) → at R n q ≡ at R m q
removed {R = R} o m n k is none q = by_test (is_eq (R k q)) refl (is q) where
  by_test : (b : Bool) → is_eq (R k q) ≡ b → get R n q ≡ cond b None (get R m q) → at R n q ≡ at R m q
  by_test true tie now = ap (λ (found : Option (List ℕ)). unwrap_or found []) now ∙ sym none ∙ at_same {R = R} o m k q tie
  by_test false apart now = ap (λ (found : Option (List ℕ)). unwrap_or found []) now

-- ---- ids

pub ids_total : IsTotalOrder id_cmp
ids_total = then_total (on_total (λ (id : InsId). id.txid) nat_list_cmp_total) (on_total (λ (id : InsId). id.index) nat_cmp_total)

pub first_put : (m n : Entries InsId ℕ) (id : InsId) (number : ℕ) → None ≡ value_at id_cmp m id → ((q : InsId) → value_at id_cmp n q ≡ cond (is_eq (id_cmp id q)) (Some number) (value_at id_cmp m q)) → (q : InsId) → value_at id_cmp n q ≡ first_if (is_eq (id_cmp id q)) number (value_at id_cmp m q)
first_put m n id number none is q = by_test (is_eq (id_cmp id q)) refl (is q) where
  by_test : (b : Bool) → is_eq (id_cmp id q) ≡ b → value_at id_cmp n q ≡ cond b (Some number) (value_at id_cmp m q) → value_at id_cmp n q ≡ cond b (Some (unwrap_or (value_at id_cmp m q) number)) (value_at id_cmp m q)
  by_test true tie now = now ∙ ap (λ (first : Option ℕ). Some (unwrap_or first number)) (none ∙ sym (value_same ids_total m id q tie))
  by_test false apart now = now

pub first_stays : (m : Entries InsId ℕ) (id : InsId) (number first : ℕ) → Some first ≡ value_at id_cmp m id → (q : InsId) → value_at id_cmp m q ≡ first_if (is_eq (id_cmp id q)) number (value_at id_cmp m q)
first_stays m id number first some q = by_test (is_eq (id_cmp id q)) refl where
  by_test : (b : Bool) → is_eq (id_cmp id q) ≡ b → value_at id_cmp m q ≡ cond b (Some (unwrap_or (value_at id_cmp m q) number)) (value_at id_cmp m q)
  by_test true tie = let there : value_at id_cmp m q ≡ Some first = value_same ids_total m id q tie ∙ sym some in there ∙ ap (λ (f : Option ℕ). Some (unwrap_or f number)) (sym there)
  by_test false apart = refl

pub first_goes : (m n : Entries InsId ℕ) (id : InsId) (number : ℕ) → is_first number (value_at id_cmp m id) ≡ true → ((q : InsId) → value_at id_cmp n q ≡ cond (is_eq (id_cmp id q)) None (value_at id_cmp m q)) → (q : InsId) → value_at id_cmp n q ≡ none_if (is_eq (id_cmp id q)) number (value_at id_cmp m q)
first_goes m n id number there is q = by_test (is_eq (id_cmp id q)) refl (is q) where
  by_test : (b : Bool) → is_eq (id_cmp id q) ≡ b → value_at id_cmp n q ≡ cond b None (value_at id_cmp m q) → value_at id_cmp n q ≡ none_if b number (value_at id_cmp m q)
  by_test true tie now = now ∙ sym (ap (λ (h : Bool). cond h None (value_at id_cmp m q)) (ap (is_first number) (value_same ids_total m id q tie) ∙ there))
  by_test false apart now = now

pub no_first_goes : (m : Entries InsId ℕ) (id : InsId) (number : ℕ) → is_first number (value_at id_cmp m id) ≡ false → (q : InsId) → value_at id_cmp m q ≡ none_if (is_eq (id_cmp id q)) number (value_at id_cmp m q)
no_first_goes m id number absent q = by_test (is_eq (id_cmp id q)) refl where
  by_test : (b : Bool) → is_eq (id_cmp id q) ≡ b → value_at id_cmp m q ≡ none_if b number (value_at id_cmp m q)
  by_test true tie = sym (ap (λ (h : Bool). cond h None (value_at id_cmp m q)) (ap (is_first number) (value_same ids_total m id q tie) ∙ absent))
  by_test false apart = refl

-- How many moments have come, and how many answers are begun, where the answers of some lines are wholly shown.
use Rattle.std.proofs.Common.{◌≡◌, ◌∙◌, ◌≤◌, ◌<◌, ◌+◌, ℕ, zero, suc, List, [], ◌∷◌, ◌++◌, length, drop, refl, sym, ap, arith, length-append, append_assoc}
use Rattle.std.proofs.Common.{◌⊎◌, inl, inr}
use Rattle.std.specs.Prelude.{All, Bool, true, false, nat_le, if◌then◌else◌}
use Rattle.std.specs.List.{concat}
use Rattle.std.proofs.lemmas.Bool.{le-leb, lt-leb}
use Rattle.std.proofs.lemmas.List.{append-nil}
use Rattle.std.proofs.lemmas.List.Elements.{All-head, All-tail}
use Rattle.ox_files.specs.Moments.{moments}
use Rattle.ox_outside.specs.Shown.{acknowledgements}

abbrev pub HasByte : List ℕ → Type 0
HasByte answer = 0 < length answer

dropped : (x y : List ℕ) → drop (length x) (x ++ y) ≡ y
dropped [] y = refl
dropped (b ∷ x) y = dropped x y

all_dropped : (x : List ℕ) (n : ℕ) → length x ≤ n → drop n x ≡ []
all_dropped [] zero le = refl
all_dropped [] (suc n) le = refl
all_dropped (b ∷ x) zero le = absurd (omega arith)
all_dropped (b ∷ x) (suc n) le = all_dropped x n (omega arith)

suc_plus : (m n k : ℕ) → m ≡ n + k → suc m ≡ suc n + k
suc_plus m n k is = omega (arith, is)

-- ---- moments

whole_first : (answer : List ℕ) (answers : List (List ℕ)) (p : List ℕ) → moments (answer ∷ answers) (answer ++ p) ≡ suc (moments answers p)
unfolding moments
whole_first answer answers p =
    rw (le-leb (length answer) (length (answer ++ p)) (omega (arith, length-append answer p)), dropped answer p) refl

pub moments_past : (done next : List (List ℕ)) (p : List ℕ) → moments (done ++ next) (concat done ++ p) ≡ length done + moments next p
moments_past [] next p = omega arith
moments_past (answer ∷ done) next p =
    ap (moments (answer ∷ (done ++ next))) (append_assoc answer (concat done) p)
    ∙ whole_first answer (done ++ next) (concat done ++ p) ∙ suc_plus _ _ _ (moments_past done next p)

few : (answers : List (List ℕ)) → All HasByte answers → moments answers [] ≤ 1
unfolding moments
few [] some = omega arith
few (answer ∷ answers) some = rw (lt-leb (length answer) 0 (All-head HasByte answer answers some)) (omega arith)

one_or_two : (m : ℕ) → m ≤ 1 → (b : Bool) → (suc (if b then m else 0) ≡ 1) ⊎ (suc (if b then m else 0) ≡ 2)
one_or_two zero le true = inl refl
one_or_two (suc zero) le true = inr refl
one_or_two (suc (suc m)) le true = absurd (omega arith)
one_or_two m le false = inl refl

front_first : (answer p : List ℕ) (answers : List (List ℕ)) → length p ≤ length answer → moments (answer ∷ answers) p ≡ suc (if nat_le (length answer) (length p) then moments answers [] else 0)
unfolding moments
front_first answer p answers short =
    ap (λ (l : List ℕ). suc (if nat_le (length answer) (length p) then moments answers l else 0)) (all_dropped p (length answer) short)

one_or_two_begun : (answer rest p : List ℕ) (answers : List (List ℕ)) → p ++ rest ≡ answer → All HasByte answers → (moments (answer ∷ answers) p ≡ 1) ⊎ (moments (answer ∷ answers) p ≡ 2)
one_or_two_begun answer rest p answers is some =
    rw (front_first answer p answers (omega (arith, length-append p rest, ap (λ (l : List ℕ). length l) is)))
    (one_or_two (moments answers []) (few answers some) (nat_le (length answer) (length p)))

-- all answers of the lines that are done are shown, and nothing else
pub count_at_rest : (done next : List (List ℕ)) → All HasByte next → (moments (done ++ next) (concat done) ≡ length done) ⊎ (moments (done ++ next) (concat done) ≡ suc (length done))
count_at_rest done next some =
    let past : moments (done ++ next) (concat done) ≡ length done + moments next [] =
    ap (moments (done ++ next)) (sym (append-nil (concat done))) ∙ moments_past done next [] in
    by_few (moments next []) (few next some) past where
      by_few : (m : ℕ) → m ≤ 1 → moments (done ++ next) (concat done) ≡ length done + m
          → (moments (done ++ next) (concat done) ≡ length done) ⊎ (moments (done ++ next) (concat done) ≡ suc (length done))
      by_few zero le past = inl (omega (arith, past))
      by_few (suc zero) le past = inr (omega (arith, past))
      by_few (suc (suc m)) le past = absurd (omega arith)

-- and a front of the next one
pub count_ahead : (done : List (List ℕ)) (answer rest p : List ℕ) (next : List (List ℕ)) → p ++ rest ≡ answer → All HasByte next
    → (moments (done ++ answer ∷ next) (concat done ++ p) ≡ suc (length done)) ⊎ (moments (done ++ answer ∷ next) (concat done ++ p) ≡ suc (suc (length done)))
count_ahead done answer rest p next is some = by_begun (one_or_two_begun answer rest p next is some) (moments_past done (answer ∷ next) p) where
  by_begun : (moments (answer ∷ next) p ≡ 1) ⊎ (moments (answer ∷ next) p ≡ 2) → moments (done ++ answer ∷ next) (concat done ++ p) ≡ length done + moments (answer ∷ next) p
      → (moments (done ++ answer ∷ next) (concat done ++ p) ≡ suc (length done)) ⊎ (moments (done ++ answer ∷ next) (concat done ++ p) ≡ suc (suc (length done)))
  by_begun (inl one) past = inl (omega (arith, one, past))
  by_begun (inr two) past = inr (omega (arith, two, past))

-- ---- acknowledgements

begins : (answer p : List ℕ) (answers : List (List ℕ)) → HasByte answer → acknowledgements (answer ∷ answers) (answer ++ p) ≡ suc (acknowledgements answers p)
unfolding acknowledgements
begins [] p answers some = absurd (omega arith)
begins (b ∷ answer) p answers some = ap (λ (l : List ℕ). suc (acknowledgements answers l)) (dropped answer p)

none_shown : (answers : List (List ℕ)) → acknowledgements answers [] ≡ 0
unfolding acknowledgements
none_shown [] = refl
none_shown (answer ∷ answers) = refl

pub acknowledged_past : (done next : List (List ℕ)) (p : List ℕ) → All HasByte done → acknowledgements (done ++ next) (concat done ++ p) ≡ length done + acknowledgements next p
acknowledged_past [] next p some = omega arith
acknowledged_past (answer ∷ done) next p some =
    ap (acknowledgements (answer ∷ (done ++ next))) (append_assoc answer (concat done) p)
    ∙ begins answer (concat done ++ p) (done ++ next) (All-head HasByte answer done some)
    ∙ suc_plus _ _ _ (acknowledged_past done next p (All-tail HasByte answer done some))

pub acknowledged_at_rest : (done next : List (List ℕ)) → All HasByte done → acknowledgements (done ++ next) (concat done) ≤ length done
acknowledged_at_rest done next some =
    omega (arith, ap (acknowledgements (done ++ next)) (sym (append-nil (concat done))), acknowledged_past done next [] some, none_shown next)

front_begun : (answer rest p : List ℕ) (answers : List (List ℕ)) → p ++ rest ≡ answer → acknowledgements (answer ∷ answers) p ≤ 1
unfolding acknowledgements
front_begun answer rest [] answers is = omega arith
front_begun answer rest (b ∷ p) answers is =
    rw (all_dropped (b ∷ p) (length answer) (omega (arith, length-append (b ∷ p) rest, ap (λ (l : List ℕ). length l) is))) (omega arith)

pub acknowledged_ahead : (done : List (List ℕ)) (answer rest p : List ℕ) (next : List (List ℕ)) → p ++ rest ≡ answer → All HasByte done
    → acknowledgements (done ++ answer ∷ next) (concat done ++ p) ≤ suc (length done)
acknowledged_ahead done answer rest p next is some =
    omega (arith, acknowledged_past done (answer ∷ next) p some, front_begun answer rest p next is)

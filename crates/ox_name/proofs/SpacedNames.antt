-- Letters with their spacers, one by one.
use Rattle.std.proofs.Common.{◌≡◌, ℕ, ◌+◌, ◌/◌, ◌%◌, ◌<◌, ◌≤◌, List, [], ◌∷◌, ◌++◌, length, get_or, take, drop, Bool, true, false, cond, eqb, ltb, refl, sym, ap, ◌∙◌, append_assoc, append-nil, arith, inl, inr}
use Rattle.std.specs.Prelude.{◌&&◌}
use Rattle.std.proofs.lemmas.Bool.{cases_lt, lt-ltb, le-ltb}
use Rattle.std.proofs.lemmas.List.{drop_more, drop_all, length-drop, length-append, drop-drop, drop_at, take_at, length-take-le}
use Rattle.ox_name.specs.Spaced.{bullet, spaced_name}

-- what put_letter writes
abbrev pub put : ℕ → Bool → List ℕ
put c b = c ∷ cond b bullet []

spaced-step : (spacers c : ℕ) (rest : List ℕ) (more : Bool) → more ≡ ltb 0 (length rest) → spaced_name spacers (c ∷ rest) ≡ put c (more && eqb (spacers % 2) 1) ++ spaced_name (spacers / 2) rest
spaced-step spacers c [] more e = rw e refl
spaced-step spacers c (d ∷ ds) more e = let t : more ≡ true = e ∙ lt-ltb 0 _ (omega arith) in rw t refl

-- the letter at a place, and those behind it
pub letter_more : (target letters : List ℕ) (spacers place : ℕ) → place < length letters → (front : List ℕ) → front ++ spaced_name spacers (drop place letters) ≡ target → (front ++ put (get_or letters place 0) (ltb (place + 1) (length letters) && eqb (spacers % 2) 1)) ++ spaced_name (spacers / 2) (drop (place + 1) letters) ≡ target
letter_more target letters spacers place within front before =
    let c : ℕ = get_or letters place 0 in
    let rest : List ℕ = drop (place + 1) letters in
    let split : drop place letters ≡ get_or letters place 0 ∷ drop (place + 1) letters = drop_more letters place 0 within in
    let more : ltb (place + 1) (length letters) ≡ ltb 0 (length (drop (place + 1) letters)) =
    elim (cases_lt (place + 1) (length letters)) [
      | inl lt ↦ lt-ltb _ _ lt ∙ sym (lt-ltb 0 _ (omega (arith, length-drop (place + 1) letters)))
      | inr le ↦ le-ltb _ _ le ∙ sym (le-ltb 0 _ (omega (arith, length-drop (place + 1) letters)))
    ] in
    let step : spaced_name spacers (get_or letters place 0 ∷ drop (place + 1) letters) ≡ put (get_or letters place 0) (ltb (place + 1) (length letters) && eqb (spacers % 2) 1) ++ spaced_name (spacers / 2) (drop (place + 1) letters) = spaced-step spacers c rest (ltb (place + 1) (length letters)) more in
    append_assoc front (put (get_or letters place 0) (ltb (place + 1) (length letters) && eqb (spacers % 2) 1)) (spaced_name (spacers / 2) (drop (place + 1) letters)) ∙ ap (λ t. front ++ t) (sym (ap (spaced_name spacers) split ∙ step)) ∙ before

length-put : (c : ℕ) (b : Bool) → length (put c b) ≡ cond b 4 1
length-put c true = refl
length-put c false = refl

-- one letter more is written
pub put_more : (target letters into old new : List ℕ) (spacers place len result letter : ℕ) (b : Bool) → place < length letters → len + 4 ≤ length into → letter ≡ get_or letters place 0 → b ≡ (ltb (place + 1) (length letters) && eqb (spacers % 2) 1) → result ≡ len + cond b 4 1 → new ≡ take len into ++ put letter b ++ drop result into → take len into ++ spaced_name spacers (drop place letters) ≡ target → drop len into ≡ drop len old → (take result new ++ spaced_name (spacers / 2) (drop (place + 1) letters) ≡ target) × (drop result new ≡ drop result old)
put_more target letters into old new spacers place len result letter b within room letter-is b-is result-is new-is before behind =
    let front : List ℕ = take len into ++ put letter b in
    let long : length (take len into ++ put letter b) ≡ result = length-append (take len into) (put letter b) ∙ ap (λ k. k + length (put letter b)) (length-take-le len into (omega arith)) ∙ ap (λ k. len + k) (length-put letter b) ∙ sym result-is in
    let taken : take result new ≡ take len into ++ put letter b = ap (take result) new-is ∙ take_at front (drop result into) result long in
    let left : drop result new ≡ drop result into = ap (drop result) new-is ∙ drop_at front (drop result into) result long in
    let step : (take len into ++ put (get_or letters place 0) (ltb (place + 1) (length letters) && eqb (spacers % 2) 1)) ++ spaced_name (spacers / 2) (drop (place + 1) letters) ≡ target = letter_more target letters spacers place within (take len into) before in
    let same : drop result into ≡ drop result old = rw result-is (sym (drop-drop (cond b 4 1) len into) ∙ ap (drop (cond b 4 1)) behind ∙ drop-drop (cond b 4 1) len old) in
    (ap (λ t. t ++ spaced_name (spacers / 2) (drop (place + 1) letters)) (taken ∙ ap (λ c. take len into ++ put c b) letter-is ∙ ap (λ d. take len into ++ put (get_or letters place 0) d) b-is) ∙ step, left ∙ same)

pub all_put : (target letters into : List ℕ) (spacers place len : ℕ) → length letters ≤ place → len ≤ length into → take len into ++ spaced_name spacers (drop place letters) ≡ target → (take len into ≡ target) × (len ≡ length target)
all_put target letters into spacers place len end within before =
    let none : spaced_name spacers (drop place letters) ≡ [] = ap (spaced_name spacers) (drop_all place letters end) in
    let all : take len into ≡ target = sym (append-nil (take len into)) ∙ ap (λ t. take len into ++ t) (sym none) ∙ before in
    (all, sym (length-take-le len into within) ∙ ap length all)

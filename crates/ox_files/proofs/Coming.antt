-- Whose moment has come.
use Rattle.std.proofs.Common.{◌≡◌, ◌≤◌, ◌<◌, ◌↔◌, inl, inr, ℕ, zero, suc, Bool, true, false, List, [], ◌∷◌, ◌++◌, length, take, drop, refl, ap, arith, length-append, length-drop}
use Rattle.std.specs.Prelude.{All, nat_le, if◌then◌else◌}
use Rattle.std.specs.List.{concat}
use Rattle.std.proofs.lemmas.Bool.{cases_lt, leb-true, leb-false}
use Rattle.std.proofs.lemmas.List.{take-append-le}
use Rattle.std.proofs.lemmas.List.Elements.{All-head, All-tail}
use Rattle.ox_files.specs.Moments.{moments}
use Rattle.ox_files.proofs.CountedMoments.{HasByte}

abbrev pub HasCome : List (List ℕ) → List ℕ → ℕ → Type 0
HasCome answers shown line = (line < length answers) × (length (concat (take line answers)) ≤ length shown)

come_by : (answer : List ℕ) (answers : List (List ℕ)) (shown : List ℕ) (k : ℕ) (whole : Bool) → nat_le (length answer) (length shown) ≡ whole
    → ((k < moments answers (drop (length answer) shown)) ↔ HasCome answers (drop (length answer) shown) k)
    → (suc k < suc (if whole then moments answers (drop (length answer) shown) else 0)) ↔ HasCome (answer ∷ answers) shown (suc k)
come_by answer answers shown k true is ih =
    let le = leb-true (length answer) (length shown) is in
    let cut = length-drop (length answer) shown in
    let joined = length-append answer (concat (take k answers)) in (
      (λ less. let had = ih.0 (omega (arith, less)) in (omega (arith, had.0), omega (arith, had.1, cut, joined, le))),
      (λ had. let less = ih.1 (omega (arith, had.0), omega (arith, had.1, cut, joined, le)) in omega (arith, less)),
    )
come_by answer answers shown k false is ih =
    let more = leb-false (length answer) (length shown) is in
    let joined = length-append answer (concat (take k answers)) in
    ((λ less. absurd (omega (arith, less))), (λ had. absurd (omega (arith, had.1, joined, more))))

pub come : (answers : List (List ℕ)) (shown : List ℕ) (k : ℕ) → (k < moments answers shown) ↔ HasCome answers shown k
unfolding moments
come [] shown k = ((λ less. absurd (omega (arith, less))), (λ had. absurd (omega (arith, had.0))))
come (answer ∷ answers) shown zero = ((λ less. (omega arith, omega arith)), (λ had. omega arith))
come (answer ∷ answers) shown (suc k) = come_by answer answers shown k (nat_le (length answer) (length shown)) refl (come answers (drop (length answer) shown) k)

-- what is so of each number below m is so of m
no_more : (m n : ℕ) → ((k : ℕ) → k < m → k < n) → m ≤ n
no_more zero n each = omega arith
no_more (suc m) n each = let last = each m (omega arith) in omega (arith, last)

in_front : (answers further : List (List ℕ)) (k : ℕ) → k ≤ length answers → take k (answers ++ further) ≡ take k answers
in_front answers further k le = take-append-le k answers further le

pub stay : (answers further : List (List ℕ)) (shown more : List ℕ) → moments answers shown ≤ moments (answers ++ further) (shown ++ more)
stay answers further shown more = no_more (moments answers shown) (moments (answers ++ further) (shown ++ more)) (λ k less.
    let had = (come answers shown k).0 less in
    let same : length (concat (take k (answers ++ further))) ≡ length (concat (take k answers)) = ap (λ (l : List (List ℕ)). length (concat l)) (in_front answers further k (omega (arith, had.0))) in
    (come (answers ++ further) (shown ++ more) k).1 (omega (arith, had.0, length-append answers further), omega (arith, had.1, same, length-append shown more)))

-- one answer more has a byte more
longer : (k : ℕ) (answers : List (List ℕ)) → All HasByte answers → k < length answers → length (concat (take k answers)) < length (concat (take (suc k) answers))
longer k [] some less = absurd (omega (arith, less))
longer zero (answer ∷ answers) some less = omega (arith, All-head HasByte answer answers some, length-append answer [])
longer (suc k) (answer ∷ answers) some less =
    omega (arith, longer k answers (All-tail HasByte answer answers some) (omega (arith, less)), length-append answer (concat (take k answers)), length-append answer (concat (take (suc k) answers)))

-- no more moments have come than lines stand whole
most : (answers : List (List ℕ)) (shown : List ℕ) → moments answers shown ≤ length answers
most answers shown = no_more (moments answers shown) (length answers) (λ k less. ((come answers shown k).0 less).0)

pub one_by_one : (answers further : List (List ℕ)) (shown more : List ℕ) → All HasByte (answers ++ further)
    → length (shown ++ more) ≤ length (concat (take (moments answers shown) answers))
    → moments (answers ++ further) (shown ++ more) ≤ suc (moments answers shown)
one_by_one answers further shown more some short =
    let m = moments answers shown in
    let all = answers ++ further in
    let same : length (concat (take m all)) ≡ length (concat (take m answers)) = ap (λ (l : List (List ℕ)). length (concat l)) (in_front answers further m (most answers shown)) in
    no_more (moments all (shown ++ more)) (suc m) (λ k less. elim (cases_lt k (suc m)) [
      | inl below ↦ below
      | inr above ↦
          let had = (come all (shown ++ more) (suc m)).0 (omega (arith, less, above)) in
          let long = longer m all some (omega (arith, had.0)) in
          absurd (omega (arith, had.1, long, same, short))
    ])

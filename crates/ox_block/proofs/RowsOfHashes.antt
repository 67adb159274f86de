-- Rows of hashes, from one to the row above it.
use Rattle.std.proofs.Common.{◌≡◌, ℕ, zero, suc, ◌+◌, ◌-◌, ◌*◌, ◌<◌, ◌≤◌, List, [], ◌∷◌, ◌++◌, length, get_or, take, drop, append_assoc, refl, sym, ap, ◌∙◌, arith, inl, inr}
use Rattle.std.proofs.lemmas.Bool.{cases_lt, lt-ltb, le-ltb}
use Rattle.std.proofs.lemmas.List.{append-nil, take_all}
use Rattle.ox_block.specs.Hashes.{double_hash, next_row, rows_up, first_hash, root_of}

-- a row above has about half as many hashes, and one at least
pub length-paired : (row : List (List ℕ)) → (length row ≤ 2 * length (next_row row)) × (2 * length (next_row row) ≤ length row + 1)
unfolding next_row
length-paired [] = (omega arith, omega arith)
length-paired (a ∷ []) = (omega arith, omega arith)
length-paired (a ∷ b ∷ row) = let more = length-paired row in (omega arith, omega arith)

-- enough steps are enough
steps : (n m : ℕ) (row : List (List ℕ)) → length row ≤ suc n → length row ≤ suc m → rows_up n row ≡ rows_up m row
unfolding rows_up
steps zero zero row hn hm = refl
steps zero (suc m) row hn hm =
    let small : length row ≤ 1 = omega arith in
    rw (le-ltb 1 (length row) small) refl
steps (suc n) zero row hn hm =
    let small : length row ≤ 1 = omega arith in
    rw (le-ltb 1 (length row) small) refl
steps (suc n) (suc m) row hn hm =
    elim (cases_lt 1 (length row)) [
      | inl more ↦
          let less = length-paired row in
          rw (lt-ltb 1 (length row) more) (steps n m (next_row row) (omega (arith, less.0, less.1)) (omega (arith, less.0, less.1)))
      | inr le ↦ rw (le-ltb 1 (length row) le) refl
    ]

up_once : (n : ℕ) (row : List (List ℕ)) → 1 < length row → length row ≤ suc n → rows_up n row ≡ rows_up (n - 1) (next_row row)
unfolding rows_up
up_once zero row more few = absurd (omega arith)
up_once (suc n) row more few =
    let k : suc n - 1 ≡ n = omega arith in
    rw (lt-ltb 1 (length row) more, k) refl

-- a row of more than one hash has the root of the row above
pub root_above : (row : List (List ℕ)) → 1 < length row → root_of (next_row row) ≡ root_of row
unfolding root_of
root_above row more =
    let less = length-paired row in
    ap first_hash (steps (length (next_row row)) (length row - 1) (next_row row) (omega arith) (omega (arith, less.0, less.1)) ∙ sym (up_once (length row) row more (omega arith)))

rows_alone : (n : ℕ) (row : List (List ℕ)) → length row ≤ 1 → rows_up n row ≡ row
unfolding rows_up
rows_alone zero row one = refl
rows_alone (suc n) row one = rw (le-ltb 1 (length row) one) refl

-- a row of one hash has that one
pub root_alone : (row : List (List ℕ)) → length row ≤ 1 → root_of row ≡ first_hash row
unfolding root_of
root_alone row one = ap first_hash (rows_alone (length row) row one)

-- which is the root
pub root_only : (row : List (List ℕ)) → length row ≡ 1 → get_or row 0 [] ≡ root_of row
root_only [] one = absurd (omega arith)
root_only (a ∷ row) one = sym (root_alone (a ∷ row) (omega arith))

pub first_at : (row : List (List ℕ)) (x : List ℕ) → 0 < length row → x ≡ get_or row 0 x → x ≡ first_hash row
first_at [] x more is = absurd (omega arith)
first_at (a ∷ row) x more is = is

-- the last row's hash is the root
pub is_root : (row all : List (List ℕ)) (x : List ℕ) → 0 < length row → length row ≤ 1 → x ≡ get_or row 0 x → root_of row ≡ root_of all → x ≡ root_of all
is_root row all x more one is same = first_at row x more is ∙ sym (root_alone row one) ∙ same

-- ---- one pair after the other

pub pair_put : (above rest total : List (List ℕ)) (h : List ℕ) → 2 ≤ length rest → h ≡ double_hash (get_or rest 0 [] ++ get_or rest 1 []) → above ++ next_row rest ≡ total
    → (above ++ h ∷ []) ++ next_row (take (length rest - 2) (drop 2 rest)) ≡ total
unfolding next_row
pair_put above [] total h more is so_far = absurd (omega arith)
pair_put above (a ∷ []) total h more is so_far = absurd (omega arith)
pair_put above (a ∷ b ∷ row) total h more is so_far =
    let all : take (suc (suc (length row)) - 2) row ≡ row = take_all (suc (suc (length row)) - 2) row (omega arith) in
    rw (all, is, append_assoc above (double_hash (a ++ b) ∷ []) (next_row row)) so_far

pub last_put : (above rest total : List (List ℕ)) (h : List ℕ) → 1 ≤ length rest → length rest < 2 → h ≡ double_hash (get_or rest 0 [] ++ get_or rest 0 []) → above ++ next_row rest ≡ total → above ++ h ∷ [] ≡ total
unfolding next_row
last_put above [] total h more few is so_far = absurd (omega arith)
last_put above (a ∷ []) total h more few is so_far = rw is so_far
last_put above (a ∷ b ∷ row) total h more few is so_far = absurd (omega arith)

pub none_left : (above rest total : List (List ℕ)) → length rest < 1 → above ++ next_row rest ≡ total → above ≡ total
unfolding next_row
none_left above [] total few so_far = sym (append-nil above) ∙ so_far
none_left above (a ∷ rest) total few so_far = absurd (omega arith)

-- Six symbols make the polynomial what it has to be exactly where they are the checksum.
use Rattle.std.proofs.Common.{◌≡◌, ℕ, suc, ◌+◌, ◌*◌, ◌/◌, ◌%◌, ◌^◌, ◌<◌, ◌≤◌, List, [], ◌∷◌, ◌++◌, length, map, All, replicate, refl, sym, ap, subst, ◌∙◌, arith, lit<, bit_xor}
use Rattle.std.specs.Prelude.{fold, slice_index}
use Rattle.std.proofs.lemmas.Nat.{xor_comm, xor_lt, xor_shr, xor_mod}
use Rattle.std.proofs.lemmas.List.Sums.{fold-append}
use Rattle.std.proofs.lemmas.List.Elements.{All-head, All-tail, All-append, All-cons, All-map, All-weaker, All-replicate}
use Rattle.std.proofs.Math.Nat.{pow-le-pow_right, pow-suc}
use Rattle.std.proofs.lemmas.Bool.{cond_both}
use Rattle.std.specs.Prelude.{◌==◌}
use Rattle.ox_address.specs.Digits.{number, digits}
use Rattle.ox_address.specs.Checksum.{step, polynomial, expanded, wanted, checksum, generators, IsSymbol, IsTheChecksum}
use Rattle.ox_address.proofs.Xors.{xor_assoc, xor_undo, xor_zero, xor_times, xor_below}
use Rattle.ox_address.proofs.Tables.{generators-below}
use Rattle.ox_address.proofs.DigitLaws.{digits-number, number-digits}

-- exclusive ors in another order: a join n, x, g
reorder : (a n x g : ℕ) → bit_xor (bit_xor (bit_xor a n) x) g ≡ bit_xor (bit_xor a g) (bit_xor n x)
reorder a n x g =
    xor_assoc (bit_xor a n) x g
    ∙ xor_assoc a n (bit_xor x g)
    ∙ ap (λ m. bit_xor a m) (sym (xor_assoc n x g) ∙ xor_comm (bit_xor n x) g)
    ∙ sym (xor_assoc a g (bit_xor n x))

pub step-below : (sum value : ℕ) → sum < 2 ^ 30 → value < 32 → step sum value < 2 ^ 30
unfolding step
step-below sum value bounded symbol =
    let moved : (sum % 2 ^ 25) * 32 < 2 ^ 30 = omega arith in
    let few : value < 2 ^ 30 = omega arith in
    let top : sum / 2 ^ 25 < 32 = omega arith in
    xor_lt 30 _ _ (xor_lt 30 _ _ moved few) (generators-below (sum / 2 ^ 25) top)

-- A number of at most 25 bits that was joined to the sum moves up, and what is new stands below it.
pub step-joined :
    (sum n value : ℕ) → sum < 2 ^ 30 → n < 2 ^ 25 → value < 32 →
    step (bit_xor sum n) value ≡ bit_xor (step sum 0) (n * 32 + value)
unfolding step
step-joined sum n value bounded few symbol =
    let low : bit_xor sum n % 2 ^ 25 ≡ bit_xor (sum % 2 ^ 25) n =
    xor_mod sum n 25 ∙ ap (bit_xor (sum % 2 ^ 25)) (let e : n % 2 ^ 25 ≡ n = omega arith in e) in
    let top : bit_xor sum n / 2 ^ 25 ≡ sum / 2 ^ 25 =
    xor_shr sum n 25 ∙ ap (bit_xor (sum / 2 ^ 25)) (let e : n / 2 ^ 25 ≡ 0 = omega arith in e) ∙ xor_zero (sum / 2 ^ 25) in
    let moved : bit_xor (sum % 2 ^ 25) n * 32 ≡ bit_xor ((sum % 2 ^ 25) * 32) (n * 32) = xor_times (sum % 2 ^ 25) n in
    let joined : bit_xor (n * 32) value ≡ n * 32 + value = xor_below n value symbol in
    let g : ℕ = generators (sum / 2 ^ 25) in
    ap (λ m. bit_xor (bit_xor (m * 32) value) (generators (bit_xor sum n / 2 ^ 25))) low
    ∙ ap (λ t. bit_xor (bit_xor (bit_xor (sum % 2 ^ 25) n * 32) value) (generators t)) top
    ∙ ap (λ m. bit_xor (bit_xor m value) g) moved
    ∙ reorder ((sum % 2 ^ 25) * 32) (n * 32) value g
    ∙ ap (λ m. bit_xor (bit_xor ((sum % 2 ^ 25) * 32) g) m) joined
    ∙ ap (λ m. bit_xor (bit_xor m g) (n * 32 + value)) (sym (xor_zero ((sum % 2 ^ 25) * 32)))

-- some symbols more, beside as many zeros
joined-steps :
    (xs : List ℕ) (sum n j : ℕ) → sum < 2 ^ 30 → n < 32 ^ j → j + length xs ≤ 6 → All IsSymbol xs →
    fold step (bit_xor sum n) xs
    ≡ bit_xor (fold step sum (replicate (length xs) 0)) (fold (λ m digit. m * 32 + digit) n xs)
joined-steps [] sum n j bounded few fits symbols = refl
joined-steps (x ∷ xs) sum n j bounded few fits symbols =
    let within : 32 ^ j ≤ 32 ^ 5 = pow-le-pow_right (lit< tt) (let le : j ≤ 5 = omega arith in le) in
    let low : x < 32 = All-head IsSymbol x xs symbols in
    let p : 32 ^ suc j ≡ 32 ^ j * 32 = pow-suc 32 j in
    let zero_low : 0 < 32 = lit< tt in
    ap (λ s. fold step s xs) (step-joined sum n x bounded (omega (arith, within)) low)
    ∙ joined-steps xs (step sum 0) (n * 32 + x) (suc j) (step-below sum 0 bounded zero_low) (omega (arith, p)) (omega arith) (All-tail IsSymbol x xs symbols)

pub six-steps :
    (sum : ℕ) (six : List ℕ) → sum < 2 ^ 30 → length six ≡ 6 → All IsSymbol six →
    fold step sum six ≡ bit_xor (fold step sum (replicate 6 0)) (number 32 six)
unfolding number
six-steps sum six bounded long symbols =
    ap (λ s. fold step s six) (sym (xor_zero sum))
    ∙ joined-steps six sum 0 0 bounded (lit< tt) (omega arith) symbols
    ∙ ap (λ n. bit_xor (fold step sum (replicate n 0)) (fold (λ m digit. m * 32 + digit) 0 six)) long

pub fold-below : (values : List ℕ) (sum : ℕ) → sum < 2 ^ 30 → All IsSymbol values → fold step sum values < 2 ^ 30
fold-below [] sum bounded symbols = bounded
fold-below (v ∷ values) sum bounded symbols =
    fold-below values (step sum v) (step-below sum v bounded (All-head IsSymbol v values symbols)) (All-tail IsSymbol v values symbols)

pub expanded-symbols : (hrp : List ℕ) → All (λ c. c < 256) hrp → All IsSymbol (expanded hrp)
unfolding expanded
expanded-symbols hrp bytes =
    All-append IsSymbol (map (λ c. c / 32) hrp) (0 ∷ map (λ c. c % 32) hrp)
    (All-map IsSymbol (λ c. c / 32) hrp (All-weaker (λ c. c < 256) (λ c. c / 32 < 32) (λ c low. omega arith) hrp bytes))
    (All-cons IsSymbol 0 (map (λ c. c % 32) hrp) (lit< tt)
    (All-map IsSymbol (λ c. c % 32) hrp (All-weaker (λ c. c < 256) (λ c. c % 32 < 32) (λ c low. omega arith) hrp bytes)))

pub wanted-below : (version : ℕ) → wanted version < 2 ^ 30
wanted-below version = cond_both (version == 0) 1 0x2bc830a3 (λ n. n < 2 ^ 30) (λ e. lit< tt) (λ e. lit< tt)

-- of a joined number one part gives the other
xor_moves : (z n w : ℕ) → bit_xor z n ≡ w → n ≡ bit_xor z w
xor_moves z n w e = sym (xor_undo n z) ∙ ap (λ m. bit_xor m z) (xor_comm n z ∙ e) ∙ xor_comm w z

pub is_the_checksum : IsTheChecksum
unfolding polynomial checksum
is_the_checksum hrp symbols six bytes all_symbols all_six long =
    let front : List ℕ = expanded hrp ++ symbols in
    let a : ℕ = fold step 1 front in
    let w : ℕ = wanted (slice_index symbols 0) in
    let bounded : a < 2 ^ 30 = fold-below front 1 (lit< tt) (All-append IsSymbol (expanded hrp) symbols (expanded-symbols hrp bytes) all_symbols) in
    let zeros : ℕ = fold step 1 (front ++ replicate 6 0) in
    let z : zeros ≡ fold step a (replicate 6 0) = fold-append step 1 front (replicate 6 0) in
    let whole : fold step 1 (front ++ six) ≡ bit_xor zeros (number 32 six) =
    fold-append step 1 front six ∙ six-steps a six bounded long all_six ∙ ap (λ m. bit_xor m (number 32 six)) (sym z) in
    let P : ℕ → Type 0 = λ m. m < 2 ^ 30 in
    let zeros_below : zeros < 2 ^ 30 = subst P (sym z) (fold-below (replicate 6 0) a bounded (All-replicate IsSymbol 6 0 (lit< tt))) in
    let both_below : bit_xor zeros w < 2 ^ 30 = xor_lt 30 zeros w zeros_below (wanted-below (slice_index symbols 0)) in (
      λ e. sym (digits-number 32 6 six long all_six) ∙ ap (digits 32 6) (xor_moves zeros (number 32 six) w (sym whole ∙ e)),
      λ e. whole ∙ ap (λ m. bit_xor zeros m) (ap (number 32) e ∙ number-digits 32 6 (bit_xor zeros w) (lit< tt) both_below)
          ∙ sym (xor_moves zeros w (bit_xor zeros w) refl),
    )

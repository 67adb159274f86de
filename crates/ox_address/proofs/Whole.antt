-- A whole address as it is written.
use Rattle.std.proofs.Common.{◌≡◌, ℕ, ◌+◌, ◌-◌, ◌*◌, ◌/◌, ◌%◌, ◌^◌, ◌<◌, ◌≤◌, List, [], ◌∷◌, ◌++◌, length, take, drop, replicate, sym, ap, subst, ◌∙◌, append_assoc, arith, bit_xor}
use Rattle.std.specs.Prelude.{fold, slice_index}
use Rattle.std.proofs.lemmas.List.{take_more, take_all}
use Rattle.std.proofs.lemmas.List.Sums.{fold-append}
use Rattle.ox_address.specs.Digits.{digits}
use Rattle.ox_address.specs.Checksum.{step, polynomial, expanded, wanted, checksum}
use Rattle.ox_address.specs.Address.{version_of, groups, symbols_of}
use Rattle.ox_address.specs.Passes.{Wrote, SumIs, front_of}
use Rattle.ox_address.proofs.DigitLaws.{six-at, length-digits}
use Rattle.ox_address.proofs.Writes.{length-front_of}
use Rattle.ox_address.proofs.Groups.{length-groups}

pub wrote-six :
    (hrp symbols before into : List ℕ) (len n i s : ℕ) → i < 6 → s ≡ n / 2 ^ (25 - 5 * i) % 32 →
    Wrote hrp ((symbols ++ take i (digits 32 6 n)) ++ s ∷ []) before into (len + i + 1) →
    Wrote hrp (symbols ++ take (i + 1) (digits 32 6 n)) before into (len + (i + 1))
wrote-six hrp symbols before into len n i s low is wrote =
    let d : List ℕ = digits 32 6 n in
    let e : (symbols ++ take i d) ++ s ∷ [] ≡ symbols ++ take (i + 1) d =
    append_assoc symbols (take i d) (s ∷ [])
    ∙ ap (λ xs. symbols ++ xs) (ap (λ v. take i d ++ v ∷ []) (is ∙ sym (six-at n i low))
    ∙ sym (take_more d i 0 (omega (arith, length-digits 32 6 n)))) in
    let P : List ℕ → Type 0 = λ xs. Wrote hrp xs before into (len + i + 1) in
    let Q : ℕ → Type 0 = λ m. Wrote hrp (symbols ++ take (i + 1) d) before into m in
    subst Q (let f : len + i + 1 ≡ len + (i + 1) = omega arith in f) (subst P e wrote)

pub wrote-six_end :
    (hrp symbols before into : List ℕ) (len n i : ℕ) → i ≡ 6 →
    Wrote hrp (symbols ++ take i (digits 32 6 n)) before into (len + i) →
    Wrote hrp (symbols ++ digits 32 6 n) before into (len + 6)
wrote-six_end hrp symbols before into len n i end wrote =
    let d : List ℕ = digits 32 6 n in
    let P : List ℕ → Type 0 = λ xs. Wrote hrp (symbols ++ xs) before into (len + i) in
    let Q : ℕ → Type 0 = λ m. Wrote hrp (symbols ++ d) before into (len + m) in
    subst Q end (subst P (take_all i d (omega (arith, length-digits 32 6 n, end))) wrote)

-- there is room for six letters behind the symbols of a script
pub room-left :
    (hrp program : List ℕ) (version len : ℕ) → length hrp ≤ 4 → length program ≤ 40 →
    len ≡ length (front_of hrp (version ∷ groups program)) → len ≤ 84
room-left hrp program version len few short place =
    omega (arith, place, length-front_of hrp (version ∷ groups program), length-groups program)

pub whole-symbols :
    (hrp script program : List ℕ) (version sum n : ℕ) → program ≡ drop 2 script → version ≡ version_of (slice_index script 0) →
    SumIs hrp (version ∷ groups program) sum → n ≡ bit_xor (fold step sum (replicate 6 0)) (wanted version) →
    (version ∷ groups program) ++ digits 32 6 n ≡ symbols_of script ++ checksum hrp (symbols_of script)
unfolding polynomial checksum symbols_of
whole-symbols hrp script program version sum n p v s e =
    let xs : List ℕ = version ∷ groups program in
    let all : fold step sum (replicate 6 0) ≡ fold step 1 (expanded hrp ++ xs ++ replicate 6 0) =
    ap (λ m. fold step m (replicate 6 0)) s ∙ sym (fold-append step 1 (expanded hrp ++ xs) (replicate 6 0)) in
    let six : digits 32 6 n ≡ checksum hrp xs = ap (digits 32 6) (e ∙ ap (λ m. bit_xor m (wanted version)) all) in
    let same : xs ≡ symbols_of script =
    ap (λ m. m ∷ groups program) v ∙ ap (λ bytes. version_of (slice_index script 0) ∷ groups bytes) p in
    ap (λ ys. xs ++ ys) six ∙ ap (λ ys. ys ++ checksum hrp ys) same

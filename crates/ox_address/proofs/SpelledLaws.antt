-- The script whose address a text is.
use Rattle.std.proofs.Common.{◌≡◌, ℕ, ◌+◌, ◌-◌, ◌*◌, ◌/◌, ◌^◌, ◌<◌, ◌⊎◌, Bool, true, false, List, [], ◌∷◌, ◌++◌, length, map, take, drop, get_or, All, refl, sym, ap, subst, ◌∙◌, arith, inl, inr, length-append, append_assoc, cond, eqb, lit<}
use Rattle.std.specs.Prelude.{◌&&◌, ◌||◌, ◌==◌, nat_le, bytes_eq, Some, None}
use Rattle.std.specs.Cmp.Lexicographic.{bytes_decides}
use Rattle.std.proofs.lemmas.Bool.{and_from, and_parts, or_cases, or_left, or_right, le-leb, leb-true, eqb-true, eq-eqb, cond-true, agree_below_at}
use Rattle.std.proofs.lemmas.Nat.{div-mul-add, pow_pos}
use Rattle.std.proofs.lemmas.List.{take_at, drop_at, take-map, drop-map, length-map, map-append}
use Rattle.std.proofs.lemmas.List.Elements.{All-head, All-tail}
use Rattle.ox_address.specs.Digits.{number, digits}
use Rattle.ox_address.specs.Checksum.{IsSymbol, checksum}
use Rattle.ox_address.specs.Address.{IsAddress, IsSegwit, IsProgram, letter_of, symbols_of, address_of, groups, group_count, capital}
use Rattle.ox_address.specs.Spelled.{symbol_of, bytes_of, script_of, middle_of, is_program, has_address, script_in, IsFound}
use Rattle.ox_address.proofs.DigitLaws.{digits-number, digits-below}
use Rattle.ox_address.proofs.Groups.{length-groups, number-groups, fill_of}
use Rattle.ox_address.proofs.Decide.{symbols_of-symbols, length-checksum, opcode-version}

symbol-letter : (s : ℕ) → s < 32 → symbol_of (letter_of s) ≡ s
unfolding symbol_of letter_of
symbol-letter s low = eqb-true (symbol_of (letter_of s)) s (agree_below_at (λ n. eqb (symbol_of (letter_of n)) n) (λ n. true) 32 s refl low)

symbol-capital : (s : ℕ) → s < 32 → symbol_of (capital (letter_of s)) ≡ s
unfolding symbol_of letter_of
symbol-capital s low = eqb-true (symbol_of (capital (letter_of s))) s (agree_below_at (λ n. eqb (symbol_of (capital (letter_of n))) n) (λ n. true) 32 s refl low)

symbols-letters : (xs : List ℕ) → All IsSymbol xs → map symbol_of (map letter_of xs) ≡ xs
symbols-letters [] all = refl
symbols-letters (x ∷ xs) all =
    ap (λ s. s ∷ map symbol_of (map letter_of xs)) (symbol-letter x (All-head IsSymbol x xs all))
    ∙ ap (λ ss. x ∷ ss) (symbols-letters xs (All-tail IsSymbol x xs all))

symbols-capitals : (xs : List ℕ) → All IsSymbol xs → map symbol_of (map capital (map letter_of xs)) ≡ xs
symbols-capitals [] all = refl
symbols-capitals (x ∷ xs) all =
    ap (λ s. s ∷ map symbol_of (map capital (map letter_of xs))) (symbol-capital x (All-head IsSymbol x xs all))
    ∙ ap (λ ss. x ∷ ss) (symbols-capitals xs (All-tail IsSymbol x xs all))

-- groups fill the bytes that they were made of
count-back : (n : ℕ) → group_count n * 5 / 8 ≡ n
count-back n = omega arith

fills : (bytes groups : List ℕ) (n count : ℕ) → All (λ b. b < 256) bytes → n ≡ length bytes → length groups ≡ group_count n →
    count ≡ n → number 32 groups ≡ number 256 bytes * 2 ^ fill_of n →
    digits 256 count (number 32 groups / 2 ^ (5 * length groups - 8 * count)) ≡ bytes
fills bytes groups n count below n_is long count_is same =
    let f : ℕ = fill_of n in
    let e : 5 * length groups - 8 * count ≡ f = ap (λ m. 5 * m - 8 * count) long ∙ ap (λ m. 5 * group_count n - 8 * m) count_is in
    let z : number 256 bytes * 2 ^ f ≡ number 256 bytes * 2 ^ f + 0 = omega arith in
    let q : number 32 groups / 2 ^ (5 * length groups - 8 * count) ≡ number 256 bytes =
    ap (λ m. number 32 groups / 2 ^ m) e ∙ ap (λ m. m / 2 ^ f) (same ∙ z)
    ∙ div-mul-add (number 256 bytes) (2 ^ f) 0 (pow_pos f) in
    ap (digits 256 count) q ∙ digits-number 256 count bytes (sym n_is ∙ sym count_is) below

bytes-groups : (bytes : List ℕ) → All (λ b. b < 256) bytes → bytes_of (groups bytes) ≡ bytes
unfolding bytes_of
bytes-groups bytes below =
    let n : ℕ = length bytes in
    let long : length (groups bytes) ≡ group_count n = length-groups bytes in
    fills bytes (groups bytes) n (length (groups bytes) * 5 / 8) below refl long
    (ap (λ m. m * 5 / 8) long ∙ count-back n) (number-groups bytes below)

-- a script's symbols spell it
script-symbols : (script : List ℕ) → IsSegwit script → script_of (symbols_of script) ≡ script
unfolding symbols_of script_of
script-symbols [] segwit = absurd segwit
script-symbols (opcode ∷ []) segwit = absurd segwit
script-symbols (opcode ∷ size ∷ program) segwit =
    ap (λ o. o ∷ length (bytes_of (groups program)) ∷ bytes_of (groups program)) (opcode-version opcode size segwit.0)
    ∙ ap (λ bytes. opcode ∷ length bytes ∷ bytes) (bytes-groups program segwit.2)
    ∙ ap (λ n. opcode ∷ n ∷ program) (sym segwit.1)

middle-parts : (hrp middle six : List ℕ) → length six ≡ 6 → middle_of hrp (hrp ++ 49 ∷ (middle ++ six)) ≡ middle
middle-parts hrp middle six few =
    let rest : List ℕ = middle ++ six in
    let text : List ℕ = hrp ++ 49 ∷ rest in
    let whole : hrp ++ 49 ∷ rest ≡ (hrp ++ 49 ∷ []) ++ rest = grind (arith, append_assoc) in
    let front : length hrp + 1 ≡ length (hrp ++ 49 ∷ []) = omega (arith, length-append hrp (49 ∷ [])) in
    let behind : drop (length hrp + 1) text ≡ rest =
    ap (drop (length hrp + 1)) whole ∙ drop_at (hrp ++ 49 ∷ []) rest (length hrp + 1) (sym front) in
    let count : length text - length hrp - 7 ≡ length middle =
    omega (arith, length-append hrp (49 ∷ rest), length-append middle six, few) in
    ap (take (length text - length hrp - 7)) behind ∙ take_at middle six (length text - length hrp - 7) (sym count)

middle-mapped : (f : ℕ → ℕ) (hrp text : List ℕ) → middle_of hrp (map f text) ≡ map f (middle_of hrp text)
middle-mapped f hrp text =
    let n : ℕ = length hrp + 1 in
    let k : length (map f text) - length hrp - 7 ≡ length text - length hrp - 7 = ap (λ m. m - length hrp - 7) (length-map text f) in
    ap (λ m. take m (drop n (map f text))) k
    ∙ ap (take (length text - length hrp - 7)) (drop-map f n text)
    ∙ take-map f (length text - length hrp - 7) (drop n text)

middle-address : (hrp script : List ℕ) → middle_of hrp (address_of hrp script) ≡ map letter_of (symbols_of script)
unfolding address_of
middle-address hrp script =
    let symbols : List ℕ = symbols_of script in
    let six : List ℕ = checksum hrp symbols in
    ap (λ tail. middle_of hrp (hrp ++ 49 ∷ tail)) (map-append letter_of symbols six)
    ∙ middle-parts hrp (map letter_of symbols) (map letter_of six) (length-map six letter_of ∙ length-checksum hrp symbols)

spelled-symbols : (hrp script text : List ℕ) → IsAddress hrp script text → map symbol_of (middle_of hrp text) ≡ symbols_of script
spelled-symbols hrp script text is =
    let a : List ℕ = address_of hrp script in
    let all : All IsSymbol (symbols_of script) = symbols_of-symbols script is.segwit in
    let f : List ℕ → List ℕ = λ xs. map symbol_of xs in
    elim is.spelled [
      | inl same ↦
          ap (λ t. f (middle_of hrp t)) same ∙ ap f (middle-address hrp script) ∙ symbols-letters (symbols_of script) all
      | inr large ↦
          ap (λ t. f (middle_of hrp t)) large ∙ ap f (middle-mapped capital hrp a)
          ∙ ap (λ xs. f (map capital xs)) (middle-address hrp script) ∙ symbols-capitals (symbols_of script) all
    ]

-- the test of an opcode and a length
program-passes : (opcode size : ℕ) → IsProgram opcode size → is_program opcode size ≡ true
program-passes opcode size (inl program) =
    let long : (size == 20 || size == 32) ≡ true =
    elim program.1 [
      | inl e ↦ or_left (size == 20) (size == 32) (eq-eqb size 20 e)
      | inr e ↦ or_right (size == 20) (size == 32) (eq-eqb size 32 e)
    ] in
    or_left (opcode == 0 && (size == 20 || size == 32)) _ (and_from (opcode == 0) _ (eq-eqb opcode 0 program.0) long)
program-passes opcode size (inr program) =
    or_right (opcode == 0 && (size == 20 || size == 32)) _
    (and_from (nat_le 0x51 opcode && nat_le opcode 0x60) _
    (and_from (nat_le 0x51 opcode) _ (le-leb 0x51 opcode program.0.0) (le-leb opcode 0x60 program.0.1))
    (and_from (nat_le 2 size) _ (le-leb 2 size program.1.0) (le-leb size 40 program.1.1)))

program-told : (opcode size : ℕ) → is_program opcode size ≡ true → IsProgram opcode size
program-told opcode size passes =
    elim (or_cases (opcode == 0 && (size == 20 || size == 32)) _ passes) [
      | inl old ↦
          let both = and_parts (opcode == 0) (size == 20 || size == 32) old in
          let long : (size ≡ 20) ⊎ (size ≡ 32) =
          elim (or_cases (size == 20) (size == 32) both.1) [
            | inl e ↦ inl (eqb-true size 20 e)
            | inr e ↦ inr (eqb-true size 32 e)
          ] in
          inl (eqb-true opcode 0 both.0, long)
      | inr new ↦
          let both = and_parts (nat_le 0x51 opcode && nat_le opcode 0x60) (nat_le 2 size && nat_le size 40) new in
          let first = and_parts (nat_le 0x51 opcode) (nat_le opcode 0x60) both.0 in
          let second = and_parts (nat_le 2 size) (nat_le size 40) both.1 in
          inr ((leb-true 0x51 opcode first.0, leb-true opcode 0x60 first.1), (leb-true 2 size second.0, leb-true size 40 second.1))
    ]

segwit-program : (script : List ℕ) → IsSegwit script → IsProgram (get_or script 0 0) (get_or script 1 0)
segwit-program [] segwit = absurd segwit
segwit-program (opcode ∷ []) segwit = absurd segwit
segwit-program (opcode ∷ size ∷ program) segwit = segwit.0

bytes-below : (xs : List ℕ) → All (λ b. b < 256) (bytes_of xs)
unfolding bytes_of
bytes-below xs = digits-below 256 _ _ (lit< tt)

spelled-segwit : (symbols : List ℕ) → IsProgram (get_or (script_of symbols) 0 0) (get_or (script_of symbols) 1 0) → IsSegwit (script_of symbols)
unfolding script_of
spelled-segwit symbols program = (program, refl, bytes-below (drop 1 symbols))

address-passes : (hrp script text : List ℕ) → IsAddress hrp script text → has_address hrp script text ≡ true
address-passes hrp script text is =
    let a : List ℕ = address_of hrp script in
    let spelled : (bytes_eq text a || bytes_eq text (map capital a)) ≡ true =
    elim is.spelled [
      | inl e ↦ or_left (bytes_eq text a) (bytes_eq text (map capital a)) ((bytes_decides text a).1 e)
      | inr e ↦ or_right (bytes_eq text a) (bytes_eq text (map capital a)) ((bytes_decides text (map capital a)).1 e)
    ] in
    and_from (is_program (get_or script 0 0) (get_or script 1 0)) _
    (program-passes (get_or script 0 0) (get_or script 1 0) (segwit-program script is.segwit)) spelled

address-told : (hrp symbols text : List ℕ) → has_address hrp (script_of symbols) text ≡ true → IsAddress hrp (script_of symbols) text
address-told hrp symbols text passes =
    let script : List ℕ = script_of symbols in
    let a : List ℕ = address_of hrp script in
    let both = and_parts (is_program (get_or script 0 0) (get_or script 1 0)) (bytes_eq text a || bytes_eq text (map capital a)) passes in
    let spelled : (text ≡ a) ⊎ (text ≡ map capital a) =
    elim (or_cases (bytes_eq text a) (bytes_eq text (map capital a)) both.1) [
      | inl e ↦ inl ((bytes_decides text a).0 e)
      | inr e ↦ inr ((bytes_decides text (map capital a)).0 e)
    ] in
    record {
      segwit = spelled-segwit symbols (program-told (get_or script 0 0) (get_or script 1 0) both.0);
      spelled = spelled;
    }

only_some : (b : Bool) (found script : List ℕ) → cond b (Some found) None ≡ Some script → (b ≡ true) × (found ≡ script)
only_some true found script e = (refl, cc)
only_some false found script e = absurd (let no : ⊥ = cc in no)

pub is_found : IsFound
unfolding script_in
is_found hrp script text is_hrp =
    let symbols : List ℕ = map symbol_of (middle_of hrp text) in
    let found : List ℕ = script_of symbols in (
      λ e. let is = only_some (has_address hrp found text) found script e in
          let P : List ℕ → Type 0 = λ xs. IsAddress hrp xs text in
          subst P is.1 (address-told hrp symbols text is.0),
      λ is. let same : found ≡ script = ap script_of (spelled-symbols hrp script text is) ∙ script-symbols script is.segwit in
          let P : List ℕ → Type 0 = λ xs. has_address hrp xs text ≡ true in
          cond-true (has_address hrp found text) (Some found) None (subst P (sym same) (address-passes hrp script text is))
          ∙ ap (λ xs. Some xs) same,
    )

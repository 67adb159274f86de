-- Ids as text: numbers, digit by digit.
use Rattle.std.proofs.Common.{◌≡◌, cond, rules, ℕ, zero, suc, ◌+◌, ◌*◌, ◌<◌, ◌≤◌, Bool, true, false, ◌&&◌, List, [], ◌∷◌, ◌++◌, length, get_or, take, drop, sym, refl, ap, ◌∙◌, arith}
use Rattle.std.specs.List.{list_all}
use Rattle.std.specs.Char.{digit_value}
use Rattle.std.specs.Str.Parse.{digits_value_after, digits_value}
use Rattle.std.specs.Prelude.{Some, None, Result, Ok, Err, MatchResult}
use Rattle.hex.specs.declared.error.FromHexError.{FromHexError}
use Rattle.std.specs.Prelude.{codes, decimal, reverse, bytes_eq}
use Rattle.std.specs.Result.{result_ok}
use Rattle.std.specs.Char.{is_ascii_digit}
use Rattle.std.proofs.Common.{eqb, ◌-◌, ◌^◌, ⊎_elim, subst}
use Rattle.std.proofs.lemmas.Str.Parse.{IsNumeralModel, numerals_by_value}
use Rattle.std.proofs.lemmas.Fmt.{decimal_nonempty, digits_decimal, digits_value-decimal}
use Rattle.hex.specs.Hex.{IsBytes, decode_sized, encode_lower, lower_digits}
use Rattle.hex.proofs.HexLemmas.{length-encode_with}
use Rattle.ox_envelope.specs.declared.id.InsId.{InsId}
use Rattle.ox_envelope.specs.Id.{is_number, id_if_text, id_from_digits, id_of_text, id_text}
use Rattle.std.proofs.Math.Nat.{mul-le-mul_left}
use Rattle.std.proofs.lemmas.List.{take_more, take-append-drop, drop_all, drop-drop, append_assoc, length-append, length-reverse, reverse-reverse, take_at, drop_at, get_or-reverse, get_or_past}
use Rattle.std.proofs.lemmas.Bool.{and_left, and_right, cond-true, cond-false, and_from, eq-eqb, lt-ltb, cases_lt}

and_assoc : (x y z : Bool) → ((x && y) && z) ≡ (x && (y && z))
and_assoc true y z = refl
and_assoc false y z = refl

list_all-append : {X : Type 0} (p : X → Bool) (xs ys : List X) → list_all p (xs ++ ys) ≡ (list_all p xs && list_all p ys)
list_all-append p [] ys = refl
list_all-append p (x ∷ xs) ys = ap (λ t. p x && t) (list_all-append p xs ys) ∙ sym (and_assoc (p x) _ _)

-- one more element passes
pub list_all_more : {X : Type 0} (p : X → Bool) (xs : List X) (i : ℕ) (d : X) → i < length xs → list_all p (take i xs) ≡ true → p (get_or xs i d) ≡ true → list_all p (take (i + 1) xs) ≡ true
list_all_more p xs i d inside before here =
    ap (list_all p) (take_more xs i d inside) ∙ list_all-append p (take i xs) _ ∙ (λ k. before k && (here k && true))

-- one element fails
pub list_all_fails : {X : Type 0} (p : X → Bool) (xs : List X) (i : ℕ) (d : X) → i < length xs → p (get_or xs i d) ≡ false → list_all p xs ≡ false
list_all_fails p [] i d inside fails = absurd (omega arith)
list_all_fails p (x ∷ xs) zero d inside fails = and_left _ _ fails
list_all_fails p (x ∷ xs) (suc i) d inside fails = and_right _ _ (list_all_fails p xs i d (omega arith) fails)

-- more digits make no smaller number
digits_value_after-ge : (radix : ℕ) (ds : List ℕ) (n : ℕ) → 1 ≤ radix → n ≤ digits_value_after radix n ds
digits_value_after-ge radix [] n some = omega arith
digits_value_after-ge radix (d ∷ ds) n some =
    omega (arith, mul-le-mul_left n some, digits_value_after-ge radix ds (n * radix + digit_value d) some)

digits_value_after-append : (radix n : ℕ) (xs ys : List ℕ) → digits_value_after radix n (xs ++ ys) ≡ digits_value_after radix (digits_value_after radix n xs) ys
digits_value_after-append radix n [] ys = refl
digits_value_after-append radix n (x ∷ xs) ys = digits_value_after-append radix (n * radix + digit_value x) xs ys

pub digits_value-take-le : (radix i : ℕ) (ds : List ℕ) → 1 ≤ radix → digits_value radix (take i ds) ≤ digits_value radix ds
digits_value-take-le radix i ds some =
    let whole = ap (digits_value radix) (sym (take-append-drop i ds)) ∙ digits_value_after-append radix 0 (take i ds) (drop i ds) in
    omega (arith, digits_value_after-ge radix (drop i ds) (digits_value radix (take i ds)) some)

-- ---- a text that is read

pub id_of_text-short : (text : List ℕ) → length text ≤ 65 → id_of_text text ≡ None
id_of_text-short text short = ap (λ digits. cond (is_number digits) (id_from_digits (decode_sized (take 64 text) 32) (digits_value 10 digits) text) None) (drop_all 65 text short)

-- what follows the letter
pub number_at : (text rest number : List ℕ) (letter : ℕ) → rest ≡ drop 64 text → rest ≡ letter ∷ number → drop 65 text ≡ number
number_at text rest number letter is begins = sym (drop-drop 1 64 text) ∙ ap (drop 1) (sym is ∙ begins)

pub id_of_text-no_number : (text number : List ℕ) (test : Bool) → drop 65 text ≡ number → is_number number ≡ test → None ≡ cond test (Some (digits_value 10 number)) None → id_of_text text ≡ None
id_of_text-no_number text number true is tested none = cc
id_of_text-no_number text number false is tested none =
    ap (λ digits. cond (is_number digits) (id_from_digits (decode_sized (take 64 text) 32) (digits_value 10 digits) text) None) is ∙ cond-false _ _ _ tested

pub id_of_text-number : (text number : List ℕ) (index : ℕ) (test : Bool) → drop 65 text ≡ number → is_number number ≡ test → Some index ≡ cond test (Some (digits_value 10 number)) None → id_of_text text ≡ id_from_digits (decode_sized (take 64 text) 32) index text
id_of_text-number text number index true is tested some =
    let value : digits_value 10 number ≡ index = cc in
    ap (λ digits. cond (is_number digits) (id_from_digits (decode_sized (take 64 text) 32) (digits_value 10 digits) text) None) is ∙ cond-true _ _ _ tested
    ∙ ap (λ index. id_from_digits (decode_sized (take 64 text) 32) index text) value
id_of_text-number text number index false is tested some = cc

-- what decoding says at an answer `Ok`
pub decoded : (reading : Result (List ℕ) FromHexError) (out : List ℕ) (answer : Result Unit FromHexError) → answer ≡ Ok tt → MatchResult reading (λ bytes. (answer ≡ Ok tt) × (out ≡ bytes)) (λ e. answer ≡ Err e) → reading ≡ Ok out
decoded (Ok read) out answer ok matched = ap Ok (sym matched.1)
decoded (Err e) out answer ok matched = cc

pub ok_from_some : (answer : Result Unit FromHexError) (value : Unit {0}) → Some value ≡ result_ok answer → answer ≡ Ok tt
ok_from_some (Ok value) other is = refl
ok_from_some (Err e) other is = cc

-- the id, if its text is this one
pub id_of_text-read : (text new out : List ℕ) (index : ℕ) (same : Bool) → id_of_text text ≡ id_from_digits (decode_sized (take 64 text) 32) index text → decode_sized (take 64 text) 32 ≡ Ok out → new ≡ reverse out
    → same ≡ bytes_eq (id_text (record { txid = new; index = index })) text → id_of_text text ≡ cond same (Some (record { txid = new; index = index })) None
id_of_text-read text new out index same read digits turned tested =
    read ∙ ap (λ reading. id_from_digits reading index text) digits ∙ ap (λ txid. id_if_text (record { txid = txid; index = index }) text) (sym turned)
    ∙ ap (λ (test : Bool). cond test (Some (record { txid = new; index = index })) None) (sym tested)

-- ---- a text that is written

bytes_eq_self : (bytes : List ℕ) → bytes_eq bytes bytes ≡ true
bytes_eq_self [] = refl
bytes_eq_self (byte ∷ bytes) = and_from (eqb byte byte) (bytes_eq bytes bytes) (eq-eqb byte byte refl) (bytes_eq_self bytes)

numerals : IsNumeralModel (λ digits. list_all is_ascii_digit digits ≡ true) (digits_value 10)
numerals = numerals_by_value _ (search rules)

pub is_number-decimal : (n : ℕ) → n < 2 ^ 32 → is_number (decimal n) ≡ true
is_number-decimal n small =
    let wide : n < 2 ^ 64 = omega arith in
    let value : digits_value 10 (decimal n) < 2 ^ 32 = omega (arith, digits_value-decimal numerals n wide) in
    and_from _ _ (lt-ltb 0 (length (decimal n)) (decimal_nonempty n wide)) (and_from _ _ (digits_decimal numerals n wide) (lt-ltb (digits_value 10 (decimal n)) (2 ^ 32) value))

pub id_of_text-id_text : (id : InsId) (digits : List ℕ) → digits ≡ encode_lower (reverse id.txid) → decode_sized digits 32 ≡ Ok (reverse id.txid) → length id.txid ≡ 32 → id.index < 2 ^ 32 → id_of_text (id_text id) ≡ Some id
id_of_text-id_text id digits written read size small =
    let hex = encode_lower (reverse id.txid) in
    let hex_size : length hex ≡ 64 = length-encode_with lower_digits (reverse id.txid) ∙ ap (λ n. 2 * n) (length-reverse id.txid ∙ size) in
    let front : take 64 (id_text id) ≡ hex = ap (take 64) (append_assoc hex (codes "i") (decimal id.index)) ∙ take_at hex (codes "i" ++ decimal id.index) 64 hex_size in
    let back : drop 65 (id_text id) ≡ decimal id.index = drop_at (hex ++ codes "i") (decimal id.index) 65 (length-append hex (codes "i") ∙ ap (λ n. n + 1) hex_size) in
    let wide : id.index < 2 ^ 64 = omega arith in
    let decodes : decode_sized (take 64 (id_text id)) 32 ≡ Ok (reverse id.txid) = ap (λ digits. decode_sized digits 32) (front ∙ sym written) ∙ read in
    let number : id_of_text (id_text id) ≡ id_from_digits (decode_sized (take 64 (id_text id)) 32) id.index (id_text id) =
    ap (λ digits. cond (is_number digits) (id_from_digits (decode_sized (take 64 (id_text id)) 32) (digits_value 10 digits) (id_text id)) None) back
    ∙ cond-true _ _ _ (is_number-decimal id.index small) ∙ ap (λ index. id_from_digits (decode_sized (take 64 (id_text id)) 32) index (id_text id)) (digits_value-decimal numerals id.index wide) in
    id_of_text-read (id_text id) id.txid (reverse id.txid) id.index true number decodes (sym (reverse-reverse id.txid)) (sym (bytes_eq_self (id_text id)))

pub drop_past : (m n : ℕ) (xs ys : List ℕ) → m ≤ n → drop m xs ≡ drop m ys → drop n xs ≡ drop n ys
drop_past m n xs ys le same =
    let sum : m + (n - m) ≡ n = omega arith in
    ap (λ k. drop k xs) (sym sum) ∙ sym (drop-drop (n - m) m xs) ∙ ap (drop (n - m)) same ∙ drop-drop (n - m) m ys ∙ ap (λ k. drop k ys) sum

pub IsBytes-reverse : (bytes : List ℕ) → IsBytes bytes → IsBytes (reverse bytes)
IsBytes-reverse bytes all i = ⊎_elim (λ inside. subst (λ (byte : ℕ). byte < 256) (sym (get_or-reverse bytes i 0 inside)) (all (length bytes - 1 - i))) (λ past. let size = length-reverse bytes in let zero_byte = get_or_past (reverse bytes) i 0 (omega arith) in omega arith) (cases_lt i (length bytes))

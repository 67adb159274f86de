-- Byte strings that stand one after the other: stepping over them, finding one, and cutting them out.
use Rattle.std.proofs.Common.{◌≡◌, ℕ, zero, suc, ◌+◌, ◌-◌, ◌^◌, ◌<◌, ◌≤◌, Bool, true, false, cond, ltb, List, [], ◌∷◌, ◌++◌, length, take, drop, Result, Ok, Err, refl, sym, ap, subst, ◌∙◌, arith}
use Rattle.std.specs.Prelude.{slice_get}
use Rattle.std.specs.List.{flat_map, AllByRecursion}
use Rattle.std.specs.Result.{result_ok}
use Rattle.std.proofs.lemmas.List.{append-nil, take_at, drop_at, length-append}
use Rattle.std.proofs.lemmas.List.Concat.{flat_map-cons, flat_map-append}
use Rattle.ox_bytes.specs.Spelling.{compact, string}
use Rattle.ox_bytes.specs.Reading.{◌>>=◌, compact_at, size_of, string_at, times}
use Rattle.ox_bytes.proofs.Laws.{IsBytes, bind_ok, ok_is, times_law, string_law}
use Rattle.ox_block.specs.Witness.{AreStrings, strings_in, strings_read, behind, behind_strings, string_behind}

abbrev pub Lengths : List (List ℕ) → Type 0
Lengths items = AllByRecursion (λ (item : List ℕ). length item < 2 ^ 64) items

-- ---- stepping over them

without_first : (item : List ℕ) (read : Result (List (List ℕ) × List ℕ) ℕ) → behind (read >>= λ xs. Ok (item ∷ xs.0, xs.1)) ≡ behind read
without_first item (Ok x) = refl
without_first item (Err left) = refl

pub behind_more : (count i : ℕ) (bytes item after : List ℕ) (total : Result (List ℕ) ℕ) → i < count → string_at bytes ≡ Ok (item, after) → behind_strings (count - i) bytes ≡ total → behind_strings (count - (i + 1)) after ≡ total
unfolding times
behind_more count i bytes item after total lt is so_far =
    let k : count - i ≡ suc (count - (i + 1)) = omega arith in
    let one : behind_strings (count - i) bytes ≡ behind_strings (count - (i + 1)) after = rw (k, is) (without_first item (times string_at (count - (i + 1)) after)) in
    sym one ∙ so_far

pub behind_fault : (count i left : ℕ) (bytes : List ℕ) (total : Result (List ℕ) ℕ) → i < count → string_at bytes ≡ Err left → behind_strings (count - i) bytes ≡ total → total ≡ Err left
unfolding times
behind_fault count i left bytes total lt is so_far =
    let k : count - i ≡ suc (count - (i + 1)) = omega arith in
    let one : behind_strings (count - i) bytes ≡ Err left = rw (k, is) refl in
    sym so_far ∙ one

pub behind_all : (count i : ℕ) (bytes : List ℕ) (total : Result (List ℕ) ℕ) → count ≤ i → behind_strings (count - i) bytes ≡ total → total ≡ Ok bytes
unfolding times
behind_all count i bytes total le so_far =
    let k : count - i ≡ 0 = omega arith in
    let one : behind_strings (count - i) bytes ≡ Ok bytes = rw k refl in
    sym so_far ∙ one

-- ---- finding one

abbrev next : Result (List ℕ) ℕ → Result (List ℕ) ℕ
next read = read >>= λ rest. string_at rest >>= λ x. Ok x.0

first_again : (item : List ℕ) (items : List (List ℕ)) → length item < 2 ^ 64 → string_at (flat_map string (item ∷ items)) ≡ Ok (item, flat_map string items)
first_again item items fits = ap string_at (flat_map-cons string item items) ∙ string_law.again item (flat_map string items) fits

pub item_found : (place : ℕ) (items : List (List ℕ)) → Lengths items → result_ok (string_behind place (flat_map string items)) ≡ slice_get items place
unfolding times string_at compact_at size_of
item_found zero [] fits = refl
item_found (suc place) [] fits = refl
item_found zero (item ∷ items) fits = rw (first_again item items fits.0) refl
item_found (suc place) (item ∷ items) fits =
    let one : string_behind (suc place) (flat_map string (item ∷ items)) ≡ string_behind place (flat_map string items) = rw (first_again item items fits.0) (ap next (without_first item (times string_at place (flat_map string items)))) in
    ap result_ok one ∙ item_found place items fits.1

-- ---- strings and their bytes

pub strings_again : (items : List (List ℕ)) → Lengths items → times string_at (length items) (flat_map string items) ≡ Ok (items, [])
strings_again items fits =
    ap (times string_at (length items)) (sym (append-nil (flat_map string items)))
    ∙ (times_law (λ (item : List ℕ). length item < 2 ^ 64) string string_at string_law (length items)).again items [] (refl, fits)

pub strings_are : (items : List (List ℕ)) (count : ℕ) → Lengths items → length items ≡ count → strings_in count (flat_map string items) ≡ items
strings_are items count fits many = ap (λ (n : ℕ). strings_in n (flat_map string items)) (sym many) ∙ ap strings_read (strings_again items fits)

pub are_strings : (items : List (List ℕ)) (count : ℕ) → Lengths items → length items ≡ count → AreStrings count (flat_map string items)
are_strings items count fits many =
    let is = strings_are items count fits many in
    record { number = ap (λ (xs : List (List ℕ)). length xs) is ∙ many; spelled = ap (flat_map string) is; lengths = subst Lengths (sym is) fits }

-- ---- cutting them out

pub record Cut (count : ℕ) (bytes rest front back : List ℕ) : Type 0 where
  pub within : length rest ≤ length bytes
  pub strings : AreStrings count front
  pub read : times string_at count bytes ≡ Ok (strings_in count front, back)

-- strings and what stands behind them, cut where the strings end
cut_at : (items : List (List ℕ)) (count k : ℕ) (bytes rest : List ℕ) → Lengths items → length items ≡ count → times string_at count bytes ≡ Ok (items, rest) → bytes ≡ flat_map string items ++ rest → k ≡ length bytes - length rest
    → Cut count bytes rest (take k bytes) (drop k bytes)
cut_at items count k bytes rest lengths many read parts is =
    let text : List ℕ = flat_map string items in
    let long : length bytes ≡ length text + length rest = ap (λ (t : List ℕ). length t) parts ∙ length-append text rest in
    let ends : length text ≡ k = omega (arith, long, is) in
    let front : take k bytes ≡ text = ap (take k) parts ∙ take_at text rest k ends in
    let back : drop k bytes ≡ rest = ap (drop k) parts ∙ drop_at text rest k ends in
    let found : strings_in count (take k bytes) ≡ items = ap (strings_in count) front ∙ strings_are items count lengths many in
    record {
      within = omega (arith, long);
      strings = subst (AreStrings count) (sym front) (are_strings items count lengths many);
      read = rw (found, back) read;
    }

pub cut : (count : ℕ) (bytes rest : List ℕ) → IsBytes bytes → behind_strings count bytes ≡ Ok rest
    → Cut count bytes rest (take (length bytes - length rest) bytes) (drop (length bytes - length rest) bytes)
cut count bytes rest fits is =
    let read = bind_ok (times string_at count bytes) (λ x. Ok x.1) rest is in
    let took = (times_law (λ (item : List ℕ). length item < 2 ^ 64) string string_at string_law count).takes bytes read.0 fits read.1 in
    let same : read.0.1 ≡ rest = ok_is {F = ℕ} read.0.1 rest read.2 in
    cut_at read.0.0 count (length bytes - length rest) bytes rest took.1.1 took.1.0
    (read.1 ∙ ap (λ (t : List ℕ). Ok (read.0.0, t)) same)
    (took.0.parts ∙ ap (λ (t : List ℕ). flat_map string read.0.0 ++ t) same) refl

-- ---- one more

with_last : (items : List (List ℕ)) (item : List ℕ) → Lengths items → length item < 2 ^ 64 → Lengths (items ++ item ∷ [])
with_last [] item fits one = (one, tt)
with_last (first ∷ items) item fits one = (fits.0, with_last items item fits.1 one)

pub record OneMore (count : ℕ) (bytes : List ℕ) (items : List (List ℕ)) : Type 0 where
  pub strings : AreStrings count bytes
  pub are : strings_in count bytes ≡ items

-- a string behind all others
pub one_more : (count : ℕ) (bytes item after : List ℕ) → AreStrings count bytes → length item < 2 ^ 64 → after ≡ bytes ++ string item → OneMore (count + 1) after (strings_in count bytes ++ item ∷ [])
one_more count bytes item after old fits is =
    let items : List (List ℕ) = strings_in count bytes in
    let all : List (List ℕ) = items ++ item ∷ [] in
    let lengths : Lengths all = with_last items item old.lengths fits in
    let many : length all ≡ count + 1 = omega (arith, length-append items (item ∷ []), old.number) in
    let last : flat_map string (item ∷ []) ≡ string item = flat_map-cons string item [] ∙ append-nil (string item) in
    let text : flat_map string all ≡ after = flat_map-append string items (item ∷ []) ∙ ap (λ (t : List ℕ). t ++ flat_map string (item ∷ [])) old.spelled ∙ ap (λ (t : List ℕ). bytes ++ t) last ∙ sym is in
    record {
      strings = subst (AreStrings (count + 1)) text (are_strings all (count + 1) lengths many);
      are = ap (strings_in (count + 1)) (sym text) ∙ strings_are all (count + 1) lengths many;
    }

-- each string has a byte at least, that of its length

either_some : (b : Bool) (x y : List ℕ) → 0 < length x → 0 < length y → 0 < length (cond b x y)
either_some true x y p q = p
either_some false x y p q = q

some_byte : (n : ℕ) → 0 < length (compact n)
some_byte n =
    either_some (ltb n 253) _ _ (omega arith) (either_some (ltb n (2 ^ 16)) _ _ (omega arith) (either_some (ltb n (2 ^ 32)) _ _ (omega arith) (omega arith)))

no_more_than_bytes : (items : List (List ℕ)) → length items ≤ length (flat_map string items)
no_more_than_bytes [] = omega arith
no_more_than_bytes (item ∷ items) =
    let first = some_byte (length item) in
    let whole = ap (λ (t : List ℕ). length t) (flat_map-cons string item items) in
    omega (arith, first, whole, length-append (string item) (flat_map string items), length-append (compact (length item)) item, no_more_than_bytes items)

pub count_within : (count : ℕ) (bytes : List ℕ) → AreStrings count bytes → count ≤ length bytes
count_within count bytes old = omega (arith, no_more_than_bytes (strings_in count bytes), old.number, ap (λ (t : List ℕ). length t) old.spelled)

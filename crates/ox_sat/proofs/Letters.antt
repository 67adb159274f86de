use Rattle.std.proofs.Common.{◌≡◌, ℕ, zero, suc, ◌+◌, ◌-◌, ◌*◌, ◌/◌, ◌%◌, ◌<◌, ◌≤◌, List, [], ◌∷◌, ◌++◌, length, take, set, reverse, All, inl, inr, refl, sym, ap, ◌∙◌, arith, lit<, lit≤, length-append, append_assoc, div-add-mod', get_or}
use Rattle.std.proofs.lemmas.Bool.{cases_lt}
use Rattle.std.proofs.lemmas.Nat.{div_below, mod_below, div-mul-add, mod-mul-add}
use Rattle.std.proofs.lemmas.List.{take_more_set, reverse-append, reverse-reverse, get_or_append_left, get_or_at, take_more, length-reverse}
use Rattle.std.proofs.lemmas.List.Elements.{All-push}
use Rattle.std.proofs.lemmas.List.Sums.{fold_push}
use Rattle.ox_sat.specs.declared.profiles.Profile.{Profile}
use Rattle.ox_sat.specs.Names.{IsLetter, letters_value, letters, name_of, IsNameOf}
use Rattle.ox_sat.proofs.Epochs.{Counts}

-- the greatest number that so many letters write
unfoldable pub most_of : ℕ → ℕ
most_of zero = 0
most_of (suc count) = 26 * most_of count + 26

pub most_of-zero : most_of 0 ≡ 0
unfolding most_of
most_of-zero = refl

pub most_of-more : (count : ℕ) → most_of (count + 1) ≡ 26 * most_of count + 26
unfolding most_of
most_of-more count = rw (let e : count + 1 ≡ suc count = omega arith in e) refl

pub most_of-eleven : most_of 11 ≡ 3817158266467286
unfolding most_of
most_of-eleven = refl

pub letters-zero : (count : ℕ) → letters count 0 ≡ []
unfolding letters
letters-zero zero = refl
letters-zero (suc count) = refl

letters-none : (x : ℕ) → letters 0 x ≡ []
unfolding letters
letters-none x = refl

pub letters-more : (count x : ℕ) → 0 < x → letters (count + 1) x ≡ letters count ((x - 1) / 26) ++ (97 + (x - 1) % 26) ∷ []
unfolding letters
letters-more count zero h = absurd (omega (arith, h))
letters-more count (suc y) h =
    let same : suc y - 1 ≡ y = omega arith in
    rw (let e : count + 1 ≡ suc count = omega arith in e, same) refl

-- one letter less leaves a smaller number
pub fewer : (count x : ℕ) → 0 < x → x ≤ most_of (count + 1) → (x - 1) / 26 ≤ most_of count
fewer count x some h =
    let more : most_of (count + 1) ≡ 26 * most_of count + 26 = most_of-more count in
    let below : (x - 1) / 26 < most_of count + 1 = div_below (x - 1) 26 (most_of count + 1) (lit< tt) (omega (arith, more, h)) in
    omega arith

pub letters_value-letters : (count x : ℕ) → x ≤ most_of count → letters_value (letters count x) ≡ x
letters_value-letters zero x h =
    let none : x ≡ 0 = omega (arith, most_of-zero, h) in
    rw (none, letters-zero 0) refl
letters_value-letters (suc count) x h =
    elim (cases_lt 0 x) [
      | inl some ↦
          let count_is : suc count ≡ count + 1 = omega arith in
          let h' : x ≤ most_of (count + 1) = rw (sym count_is) h in
          let front : letters_value (letters count ((x - 1) / 26)) ≡ (x - 1) / 26 = letters_value-letters count ((x - 1) / 26) (fewer count x some h') in
          let whole : (x - 1) / 26 * 26 + (x - 1) % 26 ≡ x - 1 = div-add-mod' (x - 1) 26 in
          let last : letters_value (letters count ((x - 1) / 26) ++ (97 + (x - 1) % 26) ∷ []) ≡ 26 * letters_value (letters count ((x - 1) / 26)) + (97 + (x - 1) % 26 - 96) = fold_push (λ (y c : ℕ). 26 * y + (c - 96)) 0 (letters count ((x - 1) / 26)) (97 + (x - 1) % 26) in
          rw (count_is, letters-more count x some, last, front) (omega (arith, whole, some))
      | inr none ↦
          let zero_is : x ≡ 0 = omega arith in
          rw (zero_is, letters-zero (suc count)) refl
    ]

pub letters-are : (count x : ℕ) → All IsLetter (letters count x)
letters-are zero x = rw (letters-none x) (λ k d h. absurd (omega (arith, h)))
letters-are (suc count) x =
    elim (cases_lt 0 x) [
      | inl some ↦
          let count_is : suc count ≡ count + 1 = omega arith in
          let low : (x - 1) % 26 < 26 = mod_below (x - 1) 26 (lit< tt) in
          rw (count_is, letters-more count x some) (All-push IsLetter _ _ (letters-are count ((x - 1) / 26)) (omega arith, omega arith))
      | inr none ↦
          let zero_is : x ≡ 0 = omega arith in
          rw (zero_is, letters-zero (suc count)) (λ k d h. absurd (omega (arith, h)))
    ]

pub letters-few : (count x : ℕ) → length (letters count x) ≤ count
letters-few zero x = rw (letters-none x) (lit≤ tt)
letters-few (suc count) x =
    elim (cases_lt 0 x) [
      | inl some ↦
          let count_is : suc count ≡ count + 1 = omega arith in
          let front : length (letters count ((x - 1) / 26)) ≤ count = letters-few count ((x - 1) / 26) in
          rw (count_is, letters-more count x some, length-append) (omega arith)
      | inr none ↦
          let zero_is : x ≡ 0 = omega arith in
          rw (zero_is, letters-zero (suc count)) (omega arith)
    ]

letters-some : (count x : ℕ) → 0 < x → 0 < length (letters (count + 1) x)
letters-some count x some = rw (letters-more count x some, length-append) (omega arith)

-- a name is letters that write the distance from the supply
pub name_of-is : (p : Profile) (sat : ℕ) → Counts p → sat < p.supply → IsNameOf p sat (name_of p sat)
name_of-is p sat c h = record {
  letters = letters-are 11 (p.supply - sat);
  some = letters-some 10 (p.supply - sat) (omega arith);
  few = letters-few 11 (p.supply - sat);
  value =
      let value : letters_value (letters 11 (p.supply - sat)) ≡ p.supply - sat = letters_value-letters 11 (p.supply - sat) (omega (arith, c.few, most_of-eleven)) in
      omega (arith, value, h);
}

-- one letter more is written, in front of those before
pub letter_more : (count x : ℕ) (into : List ℕ) (len c : ℕ) → 0 < x → len < length into → c ≡ 97 + (x - 1) % 26 → letters count ((x - 1) / 26) ++ reverse (take (len + 1) (set into len c)) ≡ letters (count + 1) x ++ reverse (take len into)
letter_more count x into len c some room is =
    rw (take_more_set into len c room, reverse-append, is, letters-more count x some) (sym (append_assoc (letters count ((x - 1) / 26)) ((97 + (x - 1) % 26) ∷ []) (reverse (take len into))))

pub name_begins : (p : Profile) (sat : ℕ) → Counts p → p.supply - sat ≤ most_of 11
name_begins p sat c = omega (arith, c.few, most_of-eleven)

-- where a letter is left to write, there is room for it
pub room_for : (len left : ℕ) → len ≤ 11 → 0 < left → left ≤ most_of (11 - len) → len < 11
room_for len left within some small =
    elim (cases_lt len 11) [
      | inl room ↦ room
      | inr full ↦
          let none : most_of (11 - len) ≡ 0 = ap most_of (let e : 11 - len ≡ 0 = omega arith in e) ∙ most_of-zero in
          absurd (omega (arith, none, some, small))
    ]

all_front : (xs : List ℕ) (c : ℕ) → All IsLetter (xs ++ c ∷ []) → All IsLetter xs
all_front xs c all k d h =
    let long : length (xs ++ c ∷ []) ≡ length xs + 1 = length-append xs (c ∷ []) in
    let letter = all k d (omega (arith, long, h)) in
    rw (get_or_append_left xs (c ∷ []) d k h) at letter

all_last : (xs : List ℕ) (c : ℕ) → All IsLetter (xs ++ c ∷ []) → IsLetter c
all_last xs c all =
    let long : length (xs ++ c ∷ []) ≡ length xs + 1 = length-append xs (c ∷ []) in
    let letter = all (length xs) 0 (omega (arith, long)) in
    rw (get_or_at xs c [] 0 (length xs) refl) at letter

reverse_cons : (c : ℕ) (r : List ℕ) → reverse (c ∷ r) ≡ reverse r ++ c ∷ []
reverse_cons c r = reverse-append (c ∷ []) r

-- letters are written of the number that they write
letters_read_from : (count : ℕ) (r : List ℕ) → length r ≤ count → All IsLetter (reverse r) → letters count (letters_value (reverse r)) ≡ reverse r
letters_read_from count [] h all = letters-zero count
letters_read_from zero (c ∷ r) h all = absurd (omega (arith, h))
letters_read_from (suc count) (c ∷ r) h all =
    let all' = rw (reverse_cons c r) at all in
    let letter : IsLetter c = all_last (reverse r) c all' in
    let front : letters count (letters_value (reverse r)) ≡ reverse r = letters_read_from count r (omega (arith, h)) (all_front (reverse r) c all') in
    let value : letters_value (reverse r ++ c ∷ []) ≡ 26 * letters_value (reverse r) + (c - 96) = fold_push (λ (y b : ℕ). 26 * y + (b - 96)) 0 (reverse r) c in
    let less : 26 * letters_value (reverse r) + (c - 96) - 1 ≡ letters_value (reverse r) * 26 + (c - 97) = omega (arith, letter) in
    let over : (letters_value (reverse r) * 26 + (c - 97)) / 26 ≡ letters_value (reverse r) = div-mul-add (letters_value (reverse r)) 26 (c - 97) (omega (arith, letter)) in
    let left : (letters_value (reverse r) * 26 + (c - 97)) % 26 ≡ c - 97 = mod-mul-add (letters_value (reverse r)) 26 (c - 97) (omega (arith, letter)) in
    let back : 97 + (c - 97) ≡ c = omega (arith, letter) in
    let one : suc count ≡ count + 1 = omega arith in
    rw (reverse_cons c r, value, one, letters-more count (26 * letters_value (reverse r) + (c - 96)) (omega (arith, letter)), less, over, left, back, front) refl

pub letters_read : (count : ℕ) (text : List ℕ) → length text ≤ count → All IsLetter text → letters count (letters_value text) ≡ text
letters_read count text h all =
    let turned : reverse (reverse text) ≡ text = reverse-reverse text in
    let read = letters_read_from count (reverse text) (rw length-reverse h) (rw turned all) in
    rw turned at read

-- no other letters write the distance from the supply
pub name_of-only : (p : Profile) (sat : ℕ) (text : List ℕ) → IsNameOf p sat text → text ≡ name_of p sat
name_of-only p sat text name =
    let value : letters_value text ≡ p.supply - sat = omega (arith, name.value) in
    let read : letters 11 (letters_value text) ≡ text = letters_read 11 text name.few name.letters in
    sym read ∙ ap (letters 11) value

-- one letter more is read
pub letter_read : (text : List ℕ) (i value : ℕ) → i < length text → IsLetter (get_or text i 0) → letters_value (take i text) ≡ value → letters_value (take (i + 1) text) ≡ 26 * value + (get_or text i 0 - 97) + 1
letter_read text i value h letter is =
    let more : letters_value (take i text ++ get_or text i 0 ∷ []) ≡ 26 * letters_value (take i text) + (get_or text i 0 - 96) = fold_push (λ (y b : ℕ). 26 * y + (b - 96)) 0 (take i text) (get_or text i 0) in
    rw (take_more text i 0 h, more, is) (omega (arith, letter))

pub letters_more_read : (text : List ℕ) (i : ℕ) → i < length text → IsLetter (get_or text i 0) → All IsLetter (take i text) → All IsLetter (take (i + 1) text)
letters_more_read text i h letter all = rw (take_more text i 0 h) (All-push IsLetter (take i text) (get_or text i 0) all letter)

most_of-adds : (low more : ℕ) → most_of low ≤ most_of (low + more)
most_of-adds low zero = rw (let e : low + 0 ≡ low = omega arith in e) (omega arith)
most_of-adds low (suc more) =
    let same : most_of (low + suc more) ≡ most_of (low + more + 1) = ap most_of (omega arith) in
    omega (arith, same, most_of-more (low + more), most_of-adds low more)

pub letter_fits : (i value : ℕ) → i < 11 → value ≤ most_of i → (26 * value + 26 ≤ most_of (i + 1)) × (26 * value + 26 ≤ 3817158266467286)
letter_fits i value h most =
    let more : most_of (i + 1) ≡ 26 * most_of i + 26 = most_of-more i in
    let same : most_of (i + 1 + (10 - i)) ≡ most_of 11 = ap most_of (omega arith) in
    (omega (arith, more, most), omega (arith, more, most, same, most_of-adds (i + 1) (10 - i), most_of-eleven))

use Rattle.std.proofs.Common.{◌≡◌, ◌≢◌, ℕ, suc, ◌+◌, ◌*◌, ◌/◌, ◌^◌, ◌<◌, ◌≤◌, ◌==◌, List, [], ◌∷◌, ◌++◌, length, get_or, take, drop, All, inl, inr, refl, sym, ap, ◌∙◌, arith, lit<, length-append, decimal, Result, Ok, Err, div-le_self, append-nil, Option, Some, None, IfSome, IfNone, IfOk, OnErr, ok_or, le_refl}
use Rattle.std.specs.Str.Parse.{AllDigits, digits_value, ParsesUnsigned}
use Rattle.std.specs.List.{position_or_len}
use Rattle.std.specs.Result.{OkIff, result_ok}
use Rattle.std.proofs.lemmas.Bool.{cases_lt, ne_eqb, eq-eqb}
use Rattle.std.proofs.lemmas.Nat.{le-div}
use Rattle.std.proofs.lemmas.Fmt.{decimal_digit, first_decimal, decimal_is_IsNumeral, decimal_nonempty, decimal-digits_value, decimal_injective, parse-decimal}
use Rattle.std.proofs.lemmas.Str.Parse.{IsNumeralModel, numerals_by_value, tells_digits, parse_plain, digit_at}
use Rattle.std.proofs.lemmas.List.{get_or_append_left, get_or_at, take_at, drop_at}
use Rattle.std.proofs.lemmas.List.Sums.{position_or_len_is}
use Rattle.ox_sat.specs.declared.profiles.Profile.{Profile}
use Rattle.ox_sat.specs.Heights.{subsidy_at, first_at}
use Rattle.ox_sat.specs.Names.{IsLetter, letters_value, IsNameOf}
use Rattle.ox_sat.specs.Spellings.{IsPlain, IsNumberOf, IsDecimalOf, Spells}
use Rattle.ox_sat.proofs.Letters.{letters_read, letters-zero}
use Rattle.ox_sat.proofs.Epochs.{Counts, nothing_after, first_most}

own : IsNumeralModel (AllDigits 10) (digits_value 10)
own = numerals_by_value (AllDigits 10) tells_digits

-- what `decimal` writes has neither a sign nor a leading zero
pub plain_decimal : (n : ℕ) → n < 2 ^ 64 → IsPlain (decimal n)
plain_decimal n h =
    elim (cases_lt 0 n) [
      | inl some ↦
          let first : 48 < get_or (decimal n) 0 0 = first_decimal n some h in
          ((λ e. absurd (omega (arith, first, e))), (λ e. absurd (omega (arith, first, e))))
      | inr none ↦
          let is : decimal n ≡ 48 ∷ [] = ap decimal (let e : n ≡ 0 = omega arith in e) ∙ decimal_digit 0 (lit< tt) in
          rw is ((λ e. absurd (omega (arith, e))), (λ e. refl))
    ]

-- what `parse` reads of plain digits is what `decimal` writes
pub parse_reads : {E : Type 0} (text : List ℕ) (n : ℕ) (r : Result ℕ E) → IsPlain text → ParsesUnsigned 64 10 text r → r ≡ Ok n → text ≡ decimal n
parse_reads {E} text n r plain parsed is =
    let read : OkIff r (AllDigits 10 text × (0 < length text) × (digits_value 10 text < 2 ^ 64)) (digits_value 10 text) = parse_plain own 64 text r parsed plain.0 in
    let at = rw is at read in
    let same : decimal (digits_value 10 text) ≡ text = decimal-digits_value own text at.0.0 at.0.1 plain.1 at.0.2 in
    sym same ∙ ap decimal (sym at.1)

pub digit_of_decimal : (n k : ℕ) → n < 2 ^ 64 → k < length (decimal n) → (48 ≤ get_or (decimal n) k 0) × (get_or (decimal n) k 0 ≤ 57)
digit_of_decimal n k h within = digit_at (decimal n) k (decimal_is_IsNumeral n h).0.1 within

-- the point of a decimal is its first
pub point_of : (h o : ℕ) → h < 2 ^ 64 → position_or_len (λ c. c == 46) (decimal h ++ 46 ∷ decimal o) ≡ length (decimal h)
point_of h o small = position_or_len_is (λ c. c == 46) (decimal h ++ 46 ∷ decimal o) (length (decimal h)) 0 (rw length-append (omega arith))
    (λ k within. let digit = digit_of_decimal h k small within in ne_eqb _ 46 (rw (get_or_append_left (decimal h) (46 ∷ decimal o) 0 k within) (λ e. absurd (omega (arith, digit, e)))))
    (λ _. eq-eqb _ 46 (get_or_at (decimal h) 46 (decimal o) 0 (length (decimal h)) refl))

pub no_point : (n : ℕ) → n < 2 ^ 64 → position_or_len (λ c. c == 46) (decimal n) ≡ length (decimal n)
no_point n small = position_or_len_is (λ c. c == 46) (decimal n) (length (decimal n)) 0 (omega arith)
    (λ k within. let digit = digit_of_decimal n k small within in ne_eqb _ 46 (λ e. absurd (omega (arith, digit, e))))
    (λ past. absurd (omega (arith, past)))

-- what a block mints a place of is a height within reach
pub small_decimal : (p : Profile) (h o : ℕ) → Counts p → o < subsidy_at p h → (h < 2 ^ 64) × (o < 2 ^ 64)
small_decimal p h o c within =
    let few : h < 33 * p.halving = elim (cases_lt h (33 * p.halving)) [
      | inl early ↦ early
      | inr late ↦ absurd (omega (arith, within, nothing_after (h / p.halving) (le-div 33 h p.halving c.halving late)))
    ] in
    let most : subsidy_at p h ≤ 5000000000 = div-le_self 5000000000 (2 ^ (h / p.halving)) in
    (omega (arith, few, c.short), omega (arith, most, within))

place_minted : (p : Profile) (h o sat : ℕ) → Counts p → o < subsidy_at p h → sat ≡ first_at p h + o → sat < p.supply
unfolding first_at
place_minted p h o sat c within is =
    let most : first_at p (suc h) ≤ p.supply = first_most p (suc h) c in
    omega (arith, most, within, is)

letters_value-some : (text : List ℕ) → All IsLetter text → 0 < length text → 0 < letters_value text
letters_value-some text letters some =
    elim (cases_lt 0 (letters_value text)) [
      | inl positive ↦ positive
      | inr none ↦
          let zero_is : letters_value text ≡ 0 = omega arith in
          let empty : text ≡ [] = sym (letters_read (length text) text (le_refl _) letters) ∙ (rw (zero_is, letters-zero (length text)) refl) in
          absurd (omega (arith, some, ap length empty))
    ]

pub minted : (p : Profile) (sat : ℕ) (text : List ℕ) → Counts p → Spells p sat text → sat < p.supply
minted p sat text c (inl number) = number.minted
minted p sat text c (inr (inl place)) = place_minted p place.height place.offset sat c place.within place.is
minted p sat text c (inr (inr name)) = omega (arith, name.value, letters_value-some text name.letters name.some)

pub number_reads : {E : Type 0} (text : List ℕ) (r : Result ℕ E) (o : Option ℕ) → IsPlain text → ParsesUnsigned 64 10 text r → o ≡ result_ok r → IfSome o (λ n. text ≡ decimal n)
number_reads {E} text (Ok n) o plain parsed is = rw is (parse_reads {E = E} text n (Ok n) plain parsed (let r : Result ℕ E = Ok n in let same : r ≡ r = refl in same))
number_reads text (Err e) o plain parsed is = rw is tt

pub number_small : {E : Type 0} (text : List ℕ) (r : Result ℕ E) (o : Option ℕ) → IsPlain text → ParsesUnsigned 64 10 text r → o ≡ result_ok r → IfSome o (λ n. n < 2 ^ 64)
number_small {E} text (Ok n) o plain parsed is =
    let read = parse_plain own {E = E} 64 text (Ok n) parsed plain.0 in
    rw is (omega (arith, read.0.2, read.1))
number_small text (Err e) o plain parsed is = rw is tt

pub number_none : {E : Type 0} (text : List ℕ) (r : Result ℕ E) (o : Option ℕ) → ParsesUnsigned 64 10 text r → o ≡ result_ok r → IfNone o ((n : ℕ) → n < 2 ^ 64 → text ≢ decimal n)
number_none text (Ok n) o parsed is = rw is tt
number_none {E} text (Err e) o parsed is = rw is (λ n small same. let r : Result ℕ E = Err e in let wrong : r ≡ Ok n = parse-decimal 64 n text (Err e) small small same parsed in absurd cc)

pub if_none : {T : Type 0} (o : Option T) (P : Type 0) → P → IfNone o P
if_none None P h = h
if_none (Some x) P h = tt

pub if_some : {T : Type 0} (o : Option T) (P Q : T → Type 0) → ((x : T) → P x → Q x) → IfSome o P → IfSome o Q
if_some None P Q f h = tt
if_some (Some x) P Q f h = f x h

pub if_none_more : {T : Type 0} (o : Option T) (P Q : Type 0) → (P → Q) → IfNone o P → IfNone o Q
if_none_more None P Q f h = f h
if_none_more (Some x) P Q f h = tt

pub if_none_both : {T : Type 0} (o : Option T) (P Q R : Type 0) → (P → Q → R) → IfNone o P → IfNone o Q → IfNone o R
if_none_both None P Q R f x y = f x y
if_none_both (Some x) P Q R f h i = tt

pub ok_or_ok : {T E : Type 0} (o : Option T) (e : E) (r : Result T E) (P : T → Type 0) → r ≡ ok_or o e → IfSome o P → IfOk r P
ok_or_ok None e r P is h = rw is tt
ok_or_ok (Some x) e r P is h = rw is h

pub ok_or_err : {T E : Type 0} (o : Option T) (e : E) (r : Result T E) (Q : Type 0) → r ≡ ok_or o e → IfNone o Q → OnErr r Q
ok_or_err None e r Q is h = rw is h
ok_or_err (Some x) e r Q is h = rw is tt

-- a byte that is a point is no digit and no letter
point_no_number : (n : ℕ) (text before after : List ℕ) → n < 2 ^ 64 → text ≡ before ++ 46 ∷ after → text ≡ decimal n → ⊥
point_no_number n text before after small split is =
    let long : length (decimal n) ≡ length before + length (46 ∷ after) = sym (ap length is) ∙ ap length split ∙ length-append before (46 ∷ after) in
    let digit = digit_of_decimal n (length before) small (omega (arith, long)) in
    let point : get_or (decimal n) (length before) 0 ≡ 46 = rw (sym is, split) (get_or_at before 46 after 0 (length before) refl) in
    absurd (omega (arith, digit, point))

point_no_name : (p : Profile) (a : ℕ) (text before after : List ℕ) → text ≡ before ++ 46 ∷ after → IsNameOf p a text → ⊥
point_no_name p a text before after split name =
    let long : length text ≡ length before + length (46 ∷ after) = ap length split ∙ length-append before (46 ∷ after) in
    let letter = name.letters (length before) 0 (omega (arith, long)) in
    let point : get_or text (length before) 0 ≡ 46 = rw split (get_or_at before 46 after 0 (length before) refl) in
    absurd (omega (arith, letter, point))

-- text with a point spells nothing where its two parts are no decimal
pub divided_none : (p : Profile) (text before after : List ℕ) → Counts p → text ≡ before ++ 46 ∷ after
    → ((h o : ℕ) → h < 2 ^ 64 → text ≡ decimal h ++ 46 ∷ decimal o → (before ≡ decimal h) × (after ≡ decimal o))
    → ((h o : ℕ) → o < subsidy_at p h → before ≡ decimal h → after ≢ decimal o)
    → (sat : ℕ) → ¬ Spells p sat text
divided_none p text before after c split parts none sat (inl x) = point_no_number sat text before after (omega (arith, x.minted, c.few)) split x.digits
divided_none p text before after c split parts none sat (inr (inl x)) =
    let both = parts x.height x.offset (small_decimal p x.height x.offset c x.within).0 x.digits in
    none x.height x.offset x.within both.0 both.1
divided_none p text before after c split parts none sat (inr (inr x)) = point_no_name p sat text before after split x

-- text without a point spells nothing where it is no number and no name
pub undivided_none : (p : Profile) (text : List ℕ) → Counts p
    → ((h o : ℕ) → h < 2 ^ 64 → text ≢ decimal h ++ 46 ∷ decimal o)
    → ((sat : ℕ) → ¬ IsNumberOf p sat text) → ((sat : ℕ) → ¬ IsNameOf p sat text)
    → (sat : ℕ) → ¬ Spells p sat text
undivided_none p text c whole number name sat (inl x) = number sat x
undivided_none p text c whole number name sat (inr (inl x)) = whole x.height x.offset (small_decimal p x.height x.offset c x.within).0 x.digits
undivided_none p text c whole number name sat (inr (inr x)) = name sat x

pub no_point_before : (h : ℕ) → h < 2 ^ 64 → (i : ℕ) → i < length (decimal h) → get_or (decimal h) i 0 ≢ 46
no_point_before h small i within = let digit = digit_of_decimal h i small within in λ e. absurd (omega (arith, digit, e))

-- one text spells one satoshi
pub one_number : (p : Profile) (a b : ℕ) (text : List ℕ) → Counts p → IsNumberOf p a text → IsNumberOf p b text → a ≡ b
one_number p a b text c x y = decimal_injective a b (omega (arith, x.minted, c.few)) (omega (arith, y.minted, c.few)) (sym x.digits ∙ y.digits)

pub one_decimal : (p : Profile) (a b : ℕ) (text : List ℕ) → Counts p → IsDecimalOf p a text → IsDecimalOf p b text → a ≡ b
one_decimal p a b text c x y =
    let sx = small_decimal p x.height x.offset c x.within in
    let sy = small_decimal p y.height y.offset c y.within in
    let same : decimal x.height ++ 46 ∷ decimal x.offset ≡ decimal y.height ++ 46 ∷ decimal y.offset = sym x.digits ∙ y.digits in
    let long : length (decimal x.height) ≡ length (decimal y.height) = sym (point_of x.height x.offset sx.0) ∙ ap (position_or_len (λ c. c == 46)) same ∙ point_of y.height y.offset sy.0 in
    let front : decimal x.height ≡ decimal y.height = sym (take_at (decimal x.height) (46 ∷ decimal x.offset) (length (decimal x.height)) refl) ∙ ap (take (length (decimal x.height))) same ∙ take_at (decimal y.height) (46 ∷ decimal y.offset) (length (decimal x.height)) (sym long) in
    let back : 46 ∷ decimal x.offset ≡ 46 ∷ decimal y.offset = sym (drop_at (decimal x.height) (46 ∷ decimal x.offset) (length (decimal x.height)) refl) ∙ ap (drop (length (decimal x.height))) same ∙ drop_at (decimal y.height) (46 ∷ decimal y.offset) (length (decimal x.height)) (sym long) in
    let height : x.height ≡ y.height = decimal_injective x.height y.height sx.0 sy.0 front in
    let offset : x.offset ≡ y.offset = decimal_injective x.offset y.offset sx.1 sy.1 (cc) in
    x.is ∙ (rw (height, offset) refl) ∙ sym y.is

pub one_name : (p : Profile) (a b : ℕ) (text : List ℕ) → IsNameOf p a text → IsNameOf p b text → a ≡ b
one_name p a b text x y = omega (arith, x.value, y.value)

pub first_is_digit : (n : ℕ) (rest : List ℕ) → n < 2 ^ 64 → get_or (decimal n ++ rest) 0 0 ≤ 57
first_is_digit n rest small =
    let some : 0 < length (decimal n) = decimal_nonempty n small in
    let digit = digit_of_decimal n 0 small some in
    rw (get_or_append_left (decimal n) rest 0 0 some) digit.1

number_no_decimal : (p : Profile) (a b : ℕ) (text : List ℕ) → Counts p → IsNumberOf p a text → IsDecimalOf p b text → ⊥
number_no_decimal p a b text c x y =
    let sy = small_decimal p y.height y.offset c y.within in
    let none : position_or_len (λ c. c == 46) text ≡ length text = rw x.digits (no_point a (omega (arith, x.minted, c.few))) in
    let some : position_or_len (λ c. c == 46) text ≡ length (decimal y.height) = ap (position_or_len (λ c. c == 46)) y.digits ∙ point_of y.height y.offset sy.0 in
    let long : length text ≡ length (decimal y.height) + length (46 ∷ decimal y.offset) = ap length y.digits ∙ length-append (decimal y.height) (46 ∷ decimal y.offset) in
    absurd (omega (arith, none, some, long))

digit_no_name : (p : Profile) (a : ℕ) (text : List ℕ) → get_or text 0 0 ≤ 57 → IsNameOf p a text → ⊥
digit_no_name p a text first name =
    let letter = name.letters 0 0 name.some in
    absurd (omega (arith, first, letter))

number_no_name : (p : Profile) (a b : ℕ) (text : List ℕ) → Counts p → IsNumberOf p a text → IsNameOf p b text → ⊥
number_no_name p a b text c x y = digit_no_name p b text (rw (x.digits, ← append-nil (decimal a)) (first_is_digit a [] (omega (arith, x.minted, c.few)))) y

decimal_no_name : (p : Profile) (a b : ℕ) (text : List ℕ) → Counts p → IsDecimalOf p a text → IsNameOf p b text → ⊥
decimal_no_name p a b text c x y =
    let sx = small_decimal p x.height x.offset c x.within in
    digit_no_name p b text (rw x.digits (first_is_digit x.height (46 ∷ decimal x.offset) sx.0)) y

pub one_satoshi : (p : Profile) (text : List ℕ) (a b : ℕ) → Counts p → Spells p a text → Spells p b text → a ≡ b
one_satoshi p text a b c (inl x) (inl y) = one_number p a b text c x y
one_satoshi p text a b c (inl x) (inr (inl y)) = absurd (number_no_decimal p a b text c x y)
one_satoshi p text a b c (inl x) (inr (inr y)) = absurd (number_no_name p a b text c x y)
one_satoshi p text a b c (inr (inl x)) (inl y) = absurd (number_no_decimal p b a text c y x)
one_satoshi p text a b c (inr (inl x)) (inr (inl y)) = one_decimal p a b text c x y
one_satoshi p text a b c (inr (inl x)) (inr (inr y)) = absurd (decimal_no_name p a b text c x y)
one_satoshi p text a b c (inr (inr x)) (inl y) = absurd (number_no_name p b a text c y x)
one_satoshi p text a b c (inr (inr x)) (inr (inl y)) = absurd (decimal_no_name p b a text c y x)
one_satoshi p text a b c (inr (inr x)) (inr (inr y)) = one_name p a b text x y

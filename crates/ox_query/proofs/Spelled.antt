-- What a part spells is text, so that a part that is none spells nothing.
use Rattle.std.proofs.Common.{◌≡◌, ◌≢◌, ℕ, ◌+◌, ◌-◌, ◌<◌, ◌^◌, ◌==◌, ◌&&◌, Bool, true, false, cond, ltb, List, ◌∷◌, ◌++◌, All, Option, Some, None, is_some, IfSome, IfNone, decimal, bytes_eq, IsUtf8, refl, sym, ap, ◌∙◌, subst, arith, true≢false, unwrap_or, ltb-true}
use Rattle.std.specs.List.{before_first, after_first}
use Rattle.std.specs.Option.{option_or}
use Rattle.std.specs.Str.Parse.{digits_value}
use Rattle.std.proofs.lemmas.Str.{IsUtf8-from_ascii, IsAscii-append}
use Rattle.std.proofs.lemmas.Str.Ascii.{IsAscii-cons, IsAscii-from_all}
use Rattle.std.proofs.lemmas.Fmt.{IsAscii-decimal}
use Rattle.std.proofs.lemmas.Slice.Eq.{bytes_eq-Decides}
use Rattle.ox_replies.specs.Texts.{number_in}
use Rattle.ox_replies.proofs.Halves.{first_half}
use Rattle.ox_replies.proofs.Read.{number_written, number_read}
use Rattle.ox_sat.specs.declared.profiles.Profile.{Profile}
use Rattle.ox_sat.specs.Heights.{subsidy_at, first_at}
use Rattle.ox_sat.specs.Names.{IsLetter, letters_value, name_of}
use Rattle.ox_sat.specs.Profiles.{IsProfile}
use Rattle.ox_sat.specs.Spellings.{only_if, sat_in}
use Rattle.ox_sat.proofs.Epochs.{Counts, counts}
use Rattle.ox_sat.proofs.Letters.{name_of-is}
use Rattle.ox_sat.proofs.Numbers.{small_decimal}

-- what is told where a test passes
pub test_passed : {A : Type 0} (test : Bool) (a b : A) → cond test (Some a) None ≡ Some b → (test ≡ true) × (a ≡ b)
test_passed true a b e = (refl, ap (λ o. unwrap_or o a) e)
test_passed false a b e = absurd (true≢false (sym (ap is_some e)))

pub number_small : (text : List ℕ) (n : ℕ) → number_in text ≡ Some n → n < 2 ^ 64
number_small text n e =
    let value = digits_value 10 text in
    let is = test_passed (ltb value (2 ^ 64) && bytes_eq text (decimal value)) value n e in
    subst (λ (v : ℕ). v < 2 ^ 64) is.1 (ltb-true value (2 ^ 64) (first_half (ltb value (2 ^ 64)) (bytes_eq text (decimal value)) is.0))

digits_text : (n : ℕ) → n < 2 ^ 64 → IsUtf8 (decimal n)
digits_text n h = IsUtf8-from_ascii (decimal n) (IsAscii-decimal n h)

-- what reads a number as it is written is the number that is spelled
pub number_is : (text : List ℕ) (o : Option ℕ) → IfSome o (λ n. text ≡ decimal n) → IfSome o (λ n. n < 2 ^ 64)
    → IfNone o ((n : ℕ) → n < 2 ^ 64 → text ≢ decimal n) → o ≡ number_in text
number_is text (Some n) reads small none = sym (ap number_in reads ∙ number_written n small)
number_is text None reads small none = by (number_in text) refl
  where
    by : (r : Option ℕ) → number_in text ≡ r → None ≡ number_in text
    by None e = sym e
    by (Some n) e = absurd (none n (number_small text n e) (number_read text n e))

pub number_unread : (text : List ℕ) → ¬ IsUtf8 text → None ≡ number_in text
number_unread text h = by (number_in text) refl
  where
    by : (r : Option ℕ) → number_in text ≡ r → None ≡ number_in text
    by None e = sym e
    by (Some n) e = absurd (h (subst IsUtf8 (sym (number_read text n e)) (digits_text n (number_small text n e))))

-- a text that isn't UTF-8 is none that is
test_fails : (test : Bool) (a b : List ℕ) → ¬ IsUtf8 a → (test ≡ true → IsUtf8 b) → (test && bytes_eq a b) ≡ false
test_fails false a b h k = refl
test_fails true a b h k = by (bytes_eq a b) refl
  where
    by : (v : Bool) → bytes_eq a b ≡ v → bytes_eq a b ≡ false
    by true e = absurd (h (subst IsUtf8 (sym ((bytes_eq-Decides a b).0 e)) (k refl)))
    by false e = e

none_passes : (a b c : Bool) (x y z : ℕ) → a ≡ false → b ≡ false → c ≡ false
    → None ≡ option_or (only_if a x) (option_or (only_if b y) (only_if c z))
none_passes false false false x y z e f g = refl
none_passes false false true x y z e f g = absurd (true≢false g)
none_passes false true c x y z e f g = absurd (true≢false f)
none_passes true b c x y z e f g = absurd (true≢false e)

letters_small : (text : List ℕ) → All IsLetter text → All (λ b. b < 128) text
letters_small text h i d within = omega (arith, (h i d within).1)

pub name_is_text : (p : Profile) (sat : ℕ) → IsProfile p → sat < p.supply → IsUtf8 (name_of p sat)
name_is_text p sat known h =
    IsUtf8-from_ascii (name_of p sat) (IsAscii-from_all (name_of p sat) (letters_small (name_of p sat) (name_of-is p sat (counts p known) h).letters))

pub sat_unread : (p : Profile) (text : List ℕ) → IsProfile p → ¬ IsUtf8 text → None ≡ sat_in p text
sat_unread p text known h =
    let c : Counts p = counts p known in
    let number = digits_value 10 text in
    let height = digits_value 10 (before_first (λ c. c == 46) text) in
    let offset = digits_value 10 (after_first (λ c. c == 46) text) in
    let named = p.supply - letters_value text in
    none_passes _ _ _ number (first_at p height + offset) named
    (test_fails (ltb number p.supply) text (decimal number) h (λ e. digits_text number (omega (arith, ltb-true number p.supply e, c.few))))
    (test_fails (ltb offset (subsidy_at p height)) text (decimal height ++ 46 ∷ decimal offset) h (λ e.
    let small = small_decimal p height offset c (ltb-true offset (subsidy_at p height) e) in
    IsUtf8-from_ascii _ (IsAscii-append (decimal height) (46 ∷ decimal offset) (IsAscii-decimal height small.0)
    (IsAscii-cons 46 (decimal offset) (omega arith) (IsAscii-decimal offset small.1)))))
    (test_fails (ltb named p.supply) text (name_of p named) h (λ e. name_is_text p named known (ltb-true named p.supply e)))

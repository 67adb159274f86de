-- Words that are looked at one by one.
use Rattle.std.proofs.Common.{◌≡◌, ◌≢◌, ◌∙◌, ℕ, ◌<◌, ◌≤◌, ◌^◌, List, [], ◌∷◌, length, get_or, refl, sym, ap, subst, arith, decimal}
use Rattle.std.specs.Str.Parse.{digits_value}
use Rattle.std.specs.Str.{IsUtf8}
use Rattle.std.proofs.lemmas.Fmt.{IsAscii-decimal, decimal_is_IsNumeral}
use Rattle.std.proofs.lemmas.Str.{IsUtf8-from_ascii}
use Rattle.ox_app.specs.Subcommands.{IsDepth, IsUpTo}

same_one : (a x : List ℕ) → a ≡ x → a ∷ [] ≡ x ∷ []
same_one a x e = rw e refl

same_two : (a b x y : List ℕ) → a ≡ x → b ≡ y → a ∷ b ∷ [] ≡ x ∷ y ∷ []
same_two a b x y e f = rw (e, f) refl

same_three : (a b c x y z : List ℕ) → a ≡ x → b ≡ y → c ≡ z → a ∷ b ∷ c ∷ [] ≡ x ∷ y ∷ z ∷ []
same_three a b c x y z e f h = rw (e, f, h) refl

-- one word, two or three are these, one by one
pub one_word : (words : List (List ℕ)) (row x : List ℕ) → 1 ≤ length words → length words < 2 → row ≡ get_or words 0 row → row ≡ x → words ≡ x ∷ []
one_word [] row x low high r first = absurd (omega arith)
one_word (a ∷ []) row x low high r first = same_one a x (sym r ∙ first)
one_word (a ∷ b ∷ words) row x low high r first = absurd (omega arith)

pub two_words : (words : List (List ℕ)) (row word x y : List ℕ) → 2 ≤ length words → length words < 3 → row ≡ get_or words 0 row → word ≡ get_or words 1 word → row ≡ x → word ≡ y → words ≡ x ∷ y ∷ []
two_words [] row word x y low high r w first second = absurd (omega arith)
two_words (a ∷ []) row word x y low high r w first second = absurd (omega arith)
two_words (a ∷ b ∷ []) row word x y low high r w first second = same_two a b x y (sym r ∙ first) (sym w ∙ second)
two_words (a ∷ b ∷ c ∷ words) row word x y low high r w first second = absurd (omega arith)

pub three_words : (words : List (List ℕ)) (row word last x y z : List ℕ) → 3 ≤ length words → length words < 4 → row ≡ get_or words 0 row → word ≡ get_or words 1 word → last ≡ get_or words 2 last
    → row ≡ x → word ≡ y → last ≡ z → words ≡ x ∷ y ∷ z ∷ []
three_words [] row word last x y z low high r w l first second third = absurd (omega arith)
three_words (a ∷ []) row word last x y z low high r w l first second third = absurd (omega arith)
three_words (a ∷ b ∷ []) row word last x y z low high r w l first second third = absurd (omega arith)
three_words (a ∷ b ∷ c ∷ []) row word last x y z low high r w l first second third = same_three a b c x y z (sym r ∙ first) (sym w ∙ second) (sym l ∙ third)
three_words (a ∷ b ∷ c ∷ d ∷ words) row word last x y z low high r w l first second third = absurd (omega arith)

-- ---- numbers

pub same_number : (m n : ℕ) → m < 2 ^ 64 → n < 2 ^ 64 → decimal m ≡ decimal n → m ≡ n
same_number m n few few' is = sym (decimal_is_IsNumeral m few).1 ∙ ap (digits_value 10) is ∙ (decimal_is_IsNumeral n few').1

pub same_depth : (m n : ℕ) → IsDepth m → IsDepth n → decimal m ≡ decimal n → m ≡ n
same_depth m n p q = same_number m n (omega (arith, p.few)) (omega (arith, q.few))

-- a number that isn't within a limit isn't written as one that is
pub none_within : (most number : ℕ) (text : List ℕ) → most < 2 ^ 64 → number < 2 ^ 64 → text ≡ decimal number → (IsUpTo most number → ⊥) → (n : ℕ) → IsUpTo most n → text ≢ decimal n
none_within most number text bounded few is isnt n fits written =
    isnt (subst (IsUpTo most) (sym (same_number number n few (omega (arith, bounded, fits.few)) (sym is ∙ written))) fits)

-- a number within a limit is written as text
pub number_text : (most n : ℕ) (word : List ℕ) → most < 2 ^ 64 → IsUpTo most n → word ≡ decimal n → IsUtf8 word
number_text most n word bounded fits written = subst IsUtf8 (sym written) (IsUtf8-from_ascii (decimal n) (IsAscii-decimal n (omega (arith, bounded, fits.few))))

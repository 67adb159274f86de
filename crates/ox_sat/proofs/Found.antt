use Rattle.std.proofs.Common.{◌≡◌, ℕ, ◌+◌, ◌-◌, ◌<◌, ◌==◌, ◌⊎◌, List, ◌∷◌, ◌++◌, length, take, drop, inl, inr, refl, sym, ap, ◌∙◌, subst, arith, decimal, Bool, true, false, ◌^◌, Option, Some, None, IfSome, IfNone, Result, ok_or, Decides}
use Rattle.std.specs.List.{before_first, after_first}
use Rattle.std.specs.Option.{option_or}
use Rattle.std.specs.Result.{result_ok}
use Rattle.std.specs.Str.Parse.{digits_value}
use Rattle.std.proofs.lemmas.Bool.Decides.{Decides-and, Decides-ltb}
use Rattle.std.proofs.lemmas.Slice.Eq.{bytes_eq-Decides}
use Rattle.std.proofs.lemmas.Fmt.{decimal_is_IsNumeral}
use Rattle.std.proofs.lemmas.List.{take_at, drop_at, drop-drop}
use Rattle.ox_sat.specs.declared.profiles.Profile.{Profile}
use Rattle.ox_sat.specs.Heights.{subsidy_at}
use Rattle.ox_sat.specs.Names.{letters_value, name_of, IsNameOf}
use Rattle.ox_sat.specs.Spellings.{IsNumberOf, IsDecimalOf, Spells, only_if, sat_in}
use Rattle.ox_sat.proofs.Epochs.{Counts}
use Rattle.ox_sat.proofs.Letters.{name_of-is, name_of-only}
use Rattle.ox_sat.proofs.Numbers.{small_decimal, point_of, minted, one_satoshi}

-- a number that counts where a test passes, and what the test decides
reads_if : (test : Bool) (n : ℕ) (T : Type 0) (P : ℕ → Type 0) → Decides test T → (T → P n) → IfSome (only_if test n) P
reads_if true n T P decides to = to (decides.0 refl)
reads_if false n T P decides to = tt

none_if : (test : Bool) (n : ℕ) (T : Type 0) (P : ℕ → Type 0) → Decides test T → ((s : ℕ) → P s → T) → IfNone (only_if test n) ((s : ℕ) → ¬ P s)
none_if true n T P decides from = tt
none_if false n T P decides from = λ s h. let yes : false ≡ true = decides.1 (from s h) in absurd cc

none_of : (s : ℕ) (P Q R : ℕ → Type 0) → ¬ P s → ¬ Q s → ¬ R s → (P s ⊎ Q s ⊎ R s) → ⊥
none_of s P Q R p q r (inl h) = p h
none_of s P Q R p q r (inr (inl h)) = q h
none_of s P Q R p q r (inr (inr h)) = r h

-- the first of three answers
first_reads : (a b c : Option ℕ) (P Q R : ℕ → Type 0) → IfSome a P → IfSome b Q → IfSome c R → IfSome (option_or a (option_or b c)) (λ s. P s ⊎ Q s ⊎ R s)
first_reads (Some x) b c P Q R p q r = inl p
first_reads None (Some x) c P Q R p q r = inr (inl q)
first_reads None None (Some x) P Q R p q r = inr (inr r)
first_reads None None None P Q R p q r = tt

first_none : (a b c : Option ℕ) (P Q R : ℕ → Type 0) → IfNone a ((s : ℕ) → ¬ P s) → IfNone b ((s : ℕ) → ¬ Q s) → IfNone c ((s : ℕ) → ¬ R s) → IfNone (option_or a (option_or b c)) ((s : ℕ) → ¬ (P s ⊎ Q s ⊎ R s))
first_none (Some x) b c P Q R p q r = tt
first_none None (Some x) c P Q R p q r = tt
first_none None None (Some x) P Q R p q r = tt
first_none None None None P Q R p q r = λ s h. none_of s P Q R (p s) (q s) (r s) h

-- the number that `decimal` writes is read back
value_of_decimal : (n : ℕ) → n < 2 ^ 64 → digits_value 10 (decimal n) ≡ n
value_of_decimal n small = (decimal_is_IsNumeral n small).1

before_point : (h o : ℕ) (text : List ℕ) → h < 2 ^ 64 → text ≡ decimal h ++ 46 ∷ decimal o → before_first (λ c. c == 46) text ≡ decimal h
before_point h o text small is =
    ap (before_first (λ c. c == 46)) is ∙ ap (λ n. take n (decimal h ++ 46 ∷ decimal o)) (point_of h o small) ∙ take_at (decimal h) (46 ∷ decimal o) (length (decimal h)) refl

after_point : (h o : ℕ) (text : List ℕ) → h < 2 ^ 64 → text ≡ decimal h ++ 46 ∷ decimal o → after_first (λ c. c == 46) text ≡ decimal o
after_point h o text small is =
    ap (after_first (λ c. c == 46)) is ∙ ap (λ n. drop (n + 1) (decimal h ++ 46 ∷ decimal o)) (point_of h o small)
    ∙ sym (drop-drop 1 (length (decimal h)) (decimal h ++ 46 ∷ decimal o)) ∙ ap (drop 1) (drop_at (decimal h) (46 ∷ decimal o) (length (decimal h)) refl)

-- what each reading comes to
number_test : (p : Profile) (text : List ℕ) (s : ℕ) → Counts p → IsNumberOf p s text → (digits_value 10 text < p.supply) × (text ≡ decimal (digits_value 10 text))
number_test p text s c x =
    let value : digits_value 10 text ≡ s = ap (digits_value 10) x.digits ∙ value_of_decimal s (omega (arith, x.minted, c.few)) in
    (omega (arith, value, x.minted), x.digits ∙ sym (ap decimal value))

decimal_test : (p : Profile) (text : List ℕ) (s : ℕ) → Counts p → IsDecimalOf p s text
    → (digits_value 10 (after_first (λ c. c == 46) text) < subsidy_at p (digits_value 10 (before_first (λ c. c == 46) text)))
    × (text ≡ decimal (digits_value 10 (before_first (λ c. c == 46) text)) ++ 46 ∷ decimal (digits_value 10 (after_first (λ c. c == 46) text)))
decimal_test p text s c x =
    let small = small_decimal p x.height x.offset c x.within in
    let height : digits_value 10 (before_first (λ c. c == 46) text) ≡ x.height = ap (digits_value 10) (before_point x.height x.offset text small.0 x.digits) ∙ value_of_decimal x.height small.0 in
    let offset : digits_value 10 (after_first (λ c. c == 46) text) ≡ x.offset = ap (digits_value 10) (after_point x.height x.offset text small.0 x.digits) ∙ value_of_decimal x.offset small.1 in
    (rw (height, offset) x.within, x.digits ∙ sym (rw (height, offset) refl))

name_test : (p : Profile) (text : List ℕ) (s : ℕ) → Counts p → IsNameOf p s text → (p.supply - letters_value text < p.supply) × (text ≡ name_of p (p.supply - letters_value text))
name_test p text s c x =
    let named : p.supply - letters_value text ≡ s = omega (arith, x.value) in
    (rw named (minted p s text c (inr (inr x))), name_of-only p s text x ∙ sym (ap (name_of p) named))

-- `sat_in` answers a satoshi that the text spells, and none where it spells none
sat_in-reads : (p : Profile) (text : List ℕ) → Counts p → IfSome (sat_in p text) (λ s. Spells p s text)
sat_in-reads p text c =
    first_reads _ _ _ (λ s. IsNumberOf p s text) (λ s. IsDecimalOf p s text) (λ s. IsNameOf p s text)
    (reads_if _ _ _ (λ s. IsNumberOf p s text) (Decides-and _ _ (Decides-ltb _ _) (bytes_eq-Decides _ _)) (λ h. record { digits = h.1; minted = h.0 }))
    (reads_if _ _ _ (λ s. IsDecimalOf p s text) (Decides-and _ _ (Decides-ltb _ _) (bytes_eq-Decides _ _)) (λ h. record { height = _; offset = _; digits = h.1; within = h.0; is = refl }))
    (reads_if _ _ _ (λ s. IsNameOf p s text) (Decides-and _ _ (Decides-ltb _ _) (bytes_eq-Decides _ _)) (λ h. let P : List ℕ → Type 0 = λ t. IsNameOf p (p.supply - letters_value text) t in subst P (sym h.1) (name_of-is p (p.supply - letters_value text) c h.0)))

sat_in-none : (p : Profile) (text : List ℕ) → Counts p → IfNone (sat_in p text) ((s : ℕ) → ¬ Spells p s text)
sat_in-none p text c =
    first_none _ _ _ (λ s. IsNumberOf p s text) (λ s. IsDecimalOf p s text) (λ s. IsNameOf p s text)
    (none_if _ _ _ (λ s. IsNumberOf p s text) (Decides-and _ _ (Decides-ltb _ _) (bytes_eq-Decides _ _)) (λ s h. number_test p text s c h))
    (none_if _ _ _ (λ s. IsDecimalOf p s text) (Decides-and _ _ (Decides-ltb _ _) (bytes_eq-Decides _ _)) (λ s h. decimal_test p text s c h))
    (none_if _ _ _ (λ s. IsNameOf p s text) (Decides-and _ _ (Decides-ltb _ _) (bytes_eq-Decides _ _)) (λ s h. name_test p text s c h))

-- two answers that both tell are one
same_answer : (a b : Option ℕ) (P : ℕ → Type 0) → ((x y : ℕ) → P x → P y → x ≡ y) → IfSome a P → IfNone a ((s : ℕ) → ¬ P s) → IfSome b P → IfNone b ((s : ℕ) → ¬ P s) → a ≡ b
same_answer None None P one p q r s = refl
same_answer None (Some y) P one p q r s = absurd (q y r)
same_answer (Some x) None P one p q r s = absurd (s x p)
same_answer (Some x) (Some y) P one p q r s = ap (λ n. Some n) (one x y p r)

result_of : {E : Type 0} (o : Option ℕ) (e : E) (r : Result ℕ E) → r ≡ ok_or o e → result_ok r ≡ o
result_of None e r is = rw is refl
result_of (Some x) e r is = rw is refl

pub read_is : {E : Type 0} (p : Profile) (text : List ℕ) → Counts p → (o : Option ℕ) (e : E) (r : Result ℕ E) → r ≡ ok_or o e → IfSome o (λ s. Spells p s text) → IfNone o ((s : ℕ) → ¬ Spells p s text) → result_ok r ≡ sat_in p text
read_is p text c o e r is reads none =
    result_of o e r is ∙ same_answer o (sat_in p text) (λ s. Spells p s text) (λ x y. one_satoshi p text x y c) reads none (sat_in-reads p text c) (sat_in-none p text c)

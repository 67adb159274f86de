-- Letters and symbols, list by list.
use Rattle.std.proofs.Common.{◌≡◌, ℕ, ◌<◌, Bool, List, [], ◌∷◌, ◌++◌, length, map, take, drop, All, refl, sym, ap, subst, ◌∙◌, arith, length-append}
use Rattle.std.proofs.lemmas.List.{take_at, drop_at, get_or-map, length-map}
use Rattle.std.proofs.lemmas.List.Elements.{All-head, All-tail, All-map}
use Rattle.ox_address.specs.Checksum.{IsSymbol}
use Rattle.ox_address.specs.Address.{letter_of}
use Rattle.ox_address.specs.Passes.{small, value_of, values_of, AreSymbols}
use Rattle.ox_address.proofs.Tables.{place, place-of, place-is}

-- two lists with equally long ends
pub split_same :
    (xs ys xs' ys' : List ℕ) → length ys ≡ length ys' → xs ++ ys ≡ xs' ++ ys' → (xs ≡ xs') × (ys ≡ ys')
split_same xs ys xs' ys' long e =
    let n : length xs' ≡ length xs = omega (arith, ap length e, length-append xs ys, length-append xs' ys', long) in (
      sym (take_at xs ys (length xs) refl) ∙ ap (take (length xs)) e ∙ take_at xs' ys' (length xs) n,
      sym (drop_at xs ys (length xs) refl) ∙ ap (drop (length xs)) e ∙ drop_at xs' ys' (length xs) n,
    )

value-back : (is_capital : Bool) (b x : ℕ) → x < 32 → small is_capital b ≡ letter_of x → value_of is_capital b ≡ x
unfolding value_of
value-back is_capital b x low e = ap place e ∙ place-of x low

pub values-back :
    (is_capital : Bool) (bs xs : List ℕ) → All IsSymbol xs → map (small is_capital) bs ≡ map letter_of xs →
    values_of is_capital bs ≡ xs
values-back is_capital [] [] symbols e = refl
values-back is_capital [] (x ∷ xs) symbols e = absurd (let no : ⊥ = cc in no)
values-back is_capital (b ∷ bs) [] symbols e = absurd (let no : ⊥ = cc in no)
values-back is_capital (b ∷ bs) (x ∷ xs) symbols e =
    let h : small is_capital b ≡ letter_of x = cc in
    let t : map (small is_capital) bs ≡ map letter_of xs = cc in
    ap (λ v. v ∷ values_of is_capital bs) (value-back is_capital b x (All-head IsSymbol x xs symbols) h)
    ∙ ap (λ vs. x ∷ vs) (values-back is_capital bs xs (All-tail IsSymbol x xs symbols) t)

letter-forth : (is_capital : Bool) (b : ℕ) → value_of is_capital b < 32 → small is_capital b ≡ letter_of (value_of is_capital b)
unfolding value_of
letter-forth is_capital b low = sym (place-is (small is_capital b) low)

pub letters-forth :
    (is_capital : Bool) (bs : List ℕ) → AreSymbols is_capital bs →
    map (small is_capital) bs ≡ map letter_of (values_of is_capital bs)
letters-forth is_capital [] symbols = refl
letters-forth is_capital (b ∷ bs) symbols =
    let P : ℕ → Type 0 = λ c. value_of is_capital c < 32 in
    ap (λ l. l ∷ map (small is_capital) bs) (letter-forth is_capital b (All-head P b bs symbols))
    ∙ ap (λ ls. letter_of (value_of is_capital b) ∷ ls) (letters-forth is_capital bs (All-tail P b bs symbols))

pub symbols-from_values : (is_capital : Bool) (bs : List ℕ) → All IsSymbol (values_of is_capital bs) → AreSymbols is_capital bs
symbols-from_values is_capital bs all = λ k d low.
    let P : ℕ → Type 0 = λ n. n < 32 in
    subst P (get_or-map (value_of is_capital) bs k d 0 low) (all k 0 (omega (arith, length-map bs (value_of is_capital))))

pub values-symbols : (is_capital : Bool) (bs : List ℕ) → AreSymbols is_capital bs → All IsSymbol (values_of is_capital bs)
values-symbols is_capital bs symbols = All-map IsSymbol (value_of is_capital) bs symbols

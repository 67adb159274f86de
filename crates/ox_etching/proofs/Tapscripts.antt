-- The tapscript stands at the place that is counted.
use Rattle.std.proofs.Common.{◌≡◌, ◌∙◌, ℕ, ◌+◌, ◌-◌, List, [], ◌∷◌, ◌++◌, length, sym, ap, arith, Some, None, length-append}
use Rattle.std.specs.Prelude.{slice_get}
use Rattle.ox_script.specs.Witness.{item_at, tapscript}

-- items end with the last of them
ends_with : (first : List ℕ) (items : List (List ℕ)) (last : List ℕ) → Some last ≡ slice_get (first ∷ items) (length items)
    → (front : List (List ℕ)) × (first ∷ items ≡ front ++ last ∷ [])
ends_with first [] last is = let same : last ≡ first = cc is in ([], λ i. sym same i ∷ [])
ends_with first (second ∷ items) last is =
    let rest = ends_with second items last is in (first ∷ rest.0, λ i. first ∷ rest.1 i)

pub tapscript_at : (items : List (List ℕ)) (last : List ℕ) (place : ℕ) → Some last ≡ slice_get items (length items - 1)
    → ((before : List (List ℕ)) → length before + 1 ≡ length items → tapscript (before ++ last ∷ []) ≡ item_at (before ++ last ∷ []) (Some place))
    → slice_get items place ≡ tapscript items
tapscript_at [] last place is counted = let none : Some last ≡ None = is in absurd (cc none)
tapscript_at (first ∷ items) last place is counted =
    let count : length (first ∷ items) - 1 ≡ length items = omega arith in
    let split = ends_with first items last (is ∙ ap (slice_get (first ∷ items)) count) in
    let long : length split.0 + 1 ≡ length (first ∷ items) = omega (arith, ap length split.1, length-append split.0 (last ∷ [])) in
    ap (λ (all : List (List ℕ)). slice_get all place) split.1 ∙ sym (counted split.0 long) ∙ ap tapscript (sym split.1)

-- Items that are mapped or put one after the other, as loops do.
use Rattle.std.proofs.Common.{◌≡◌, ℕ, ◌+◌, ◌<◌, ◌≤◌, List, [], ◌∷◌, ◌++◌, length, get_or, take, map, refl, sym, ap, subst, ◌∙◌}
use Rattle.std.specs.List.{flat_map}
use Rattle.std.proofs.lemmas.List.{append-nil, take_all, take_more, map_more}
use Rattle.std.proofs.lemmas.List.Concat.{flat_map-append}
use Rattle.ox_block.specs.Putting.{Puts}
use Rattle.ox_block.proofs.PiecesInTurn.{puts_then}

-- ---- mapped

pub mapped_on : {X Y : Type 0} (f : X → Y) (xs : List X) (i : ℕ) (x : X) (y : Y) (ys : List Y) → i < length xs → x ≡ get_or xs i x → y ≡ f x → ys ≡ map f (take i xs)
    → ys ++ y ∷ [] ≡ map f (take (i + 1) xs)
mapped_on f xs i x y ys less is made so_far =
    ap (λ zs. zs ++ y ∷ []) so_far ∙ ap (λ z. map f (take i xs) ++ z ∷ []) (made ∙ ap f is) ∙ sym (map_more f xs i x less)

pub mapped_all : {X Y : Type 0} (f : X → Y) (xs : List X) (i : ℕ) (ys : List Y) → length xs ≤ i → ys ≡ map f (take i xs) → ys ≡ map f xs
mapped_all f xs i ys all is = is ∙ ap (map f) (take_all i xs all)

-- behind a first one
pub mapped_behind : {X Y : Type 0} (f : X → Y) (xs : List X) (i : ℕ) (x : X) (first y : Y) (ys : List Y) → i < length xs → x ≡ get_or xs i x → y ≡ f x → ys ≡ first ∷ map f (take i xs)
    → ys ++ y ∷ [] ≡ first ∷ map f (take (i + 1) xs)
mapped_behind f xs i x first y ys less is made so_far =
    ap (λ zs. zs ++ y ∷ []) so_far ∙ ap (λ zs. first ∷ zs) (mapped_on f xs i x y (map f (take i xs)) less is made refl)

pub behind_all : {X Y : Type 0} (f : X → Y) (xs : List X) (i : ℕ) (first : Y) (ys : List Y) → length xs ≤ i → ys ≡ first ∷ map f (take i xs) → ys ≡ first ∷ map f xs
behind_all f xs i first ys all is = is ∙ ap (λ zs. first ∷ map f zs) (take_all i xs all)

-- ---- put

pub run_none : {S : Type 0} (holds : S → List ℕ → Type 0) (s : S) → Puts holds [] s s
run_none holds s before h = subst (holds s) (sym (append-nil before)) h

pub run_on : {S X : Type 0} (holds : S → List ℕ → Type 0) (f : X → List ℕ) (xs : List X) (i : ℕ) (x : X) (s0 s1 s2 : S) → i < length xs → x ≡ get_or xs i x
    → Puts holds (flat_map f (take i xs)) s0 s1 → Puts holds (f x) s1 s2 → Puts holds (flat_map f (take (i + 1) xs)) s0 s2
run_on holds f xs i x s0 s1 s2 less is so_far put =
    let next : take (i + 1) xs ≡ take i xs ++ x ∷ [] = take_more xs i x less ∙ ap (λ y. take i xs ++ y ∷ []) (sym is) in
    let text : flat_map f (take (i + 1) xs) ≡ flat_map f (take i xs) ++ f x = ap (flat_map f) next ∙ flat_map-append f (take i xs) (x ∷ []) ∙ ap (λ t. flat_map f (take i xs) ++ t) (append-nil (f x)) in
    subst (λ t. Puts holds t s0 s2) (sym text) (puts_then holds (flat_map f (take i xs)) (f x) s0 s1 s2 so_far put)

pub run_all : {S X : Type 0} (holds : S → List ℕ → Type 0) (f : X → List ℕ) (xs : List X) (i : ℕ) (s0 s1 : S) → length xs ≤ i → Puts holds (flat_map f (take i xs)) s0 s1 → Puts holds (flat_map f xs) s0 s1
run_all holds f xs i s0 s1 all put = subst (λ ys. Puts holds (flat_map f ys) s0 s1) (take_all i xs all) put

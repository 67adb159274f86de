-- Lists that are the front of others.
use Rattle.std.proofs.Common.{◌≡◌, ◌∙◌, ◌≤◌, ◌<◌, ℕ, zero, suc, List, [], ◌∷◌, length, take, refl, sym, ap, arith, Some, slice_get, take_all, take-take, drop, get_or, ◌+◌}
use Rattle.std.proofs.lemmas.List.{drop_more, take_min}
use Rattle.std.proofs.lemmas.Option.{get_or_from_slice_get, slice_get_within}
use Rattle.std.proofs.lemmas.List.{length-take}

pub record IsFront {A : Type 0} (front whole : List A) : Type 0 where
  pub within : length front ≤ length whole
  pub is : front ≡ take (length front) whole

pub front_whole : {A : Type 0} (xs : List A) → IsFront xs xs
front_whole xs = record { within = omega arith; is = sym (take_all (length xs) xs (omega arith)) }

pub front_on : {A : Type 0} (xs ys zs : List A) → IsFront xs ys → IsFront ys zs → IsFront xs zs
front_on xs ys zs one two = record {
  within = omega (arith, one.within, two.within);
  is = one.is ∙ ap (take (length xs)) two.is ∙ take-take (length xs) (length ys) zs one.within;
}

pub front_take : {A : Type 0} (n : ℕ) (xs : List A) → IsFront (take n xs) xs
front_take n xs = record {
  within = let long = length-take n xs in omega (arith, long);
  is = sym (ap (λ (k : ℕ). take k xs) (length-take n xs) ∙ take_min n xs);
}

pub get_front : {A : Type 0} (xs : List A) (n k : ℕ) → n < k → slice_get (take k xs) n ≡ slice_get xs n
get_front [] n zero less = refl
get_front [] n (suc k) less = refl
get_front (x ∷ xs) n zero less = absurd (omega (arith, less))
get_front (x ∷ xs) zero (suc k) less = refl
get_front (x ∷ xs) (suc n) (suc k) less = get_front xs n k (omega (arith, less))

-- what stands in the front stands there in the whole
pub get_whole : {A : Type 0} (front whole : List A) (n : ℕ) → IsFront front whole → n < length front → slice_get front n ≡ slice_get whole n
get_whole front whole n is less = ap (λ (l : List _). slice_get l n) is.is ∙ get_front whole n (length front) less

-- what is left from a place on
pub drop_one : {A : Type 0} (xs : List A) (n : ℕ) (x : A) → slice_get xs n ≡ Some x → drop n xs ≡ x ∷ drop (n + 1) xs
drop_one xs n x there =
    drop_more xs n x (slice_get_within xs n x there) ∙ ap (λ (y : _). y ∷ drop (n + 1) xs) (get_or_from_slice_get xs n x x there)

pub drop_item : {A : Type 0} (xs : List A) (n : ℕ) (x : A) → n < length xs → x ≡ get_or xs n x → drop n xs ≡ x ∷ drop (n + 1) xs
drop_item xs n x less is = drop_more xs n x less ∙ ap (λ (y : _). y ∷ drop (n + 1) xs) (sym is)

-- The oldest change that names an outpoint decides.
use Rattle.std.proofs.Common.{◌≡◌, ◌∙◌, ℕ, zero, suc, ◌+◌, List, [], ◌∷◌, ◌++◌, map, take, refl, ap, subst, Option, Some, slice_get}
use Rattle.std.specs.List.{AllByRecursion}
use Rattle.std.proofs.lemmas.List.{map_push, take_more}
use Rattle.std.proofs.lemmas.Option.{get_or_from_slice_get, slice_get_within}
use Rattle.ox_block.specs.declared.block.OutPoint.{OutPoint}
use Rattle.ox_rules.specs.Differences.{Difference}
use Rattle.ox_asof.specs.Said.{before_all, by, meant, said_in}
use Rattle.ox_asof.specs.declared.said.Said.{Said}
use Rattle.ox_asof.specs.declared.said.Said.TheVariants.{Stood, Gone, Nothing}

-- what holds of each holds of the one at a place
pub all_at : {A : Type 0} (P : A → Type 0) (xs : List A) (n : ℕ) (x : A) → AllByRecursion P xs → slice_get xs n ≡ Some x → P x
all_at P [] n x all there = absurd (cc there)
all_at P (y ∷ xs) zero x all there = let same : y ≡ x = cc there in subst P same all.0
all_at P (y ∷ xs) (suc n) x all there = all_at P xs n x all.1 there

-- the front with one more
pub one_longer : {A : Type 0} (xs : List A) (n : ℕ) (x : A) → slice_get xs n ≡ Some x → take (n + 1) xs ≡ take n xs ++ x ∷ []
one_longer xs n x there =
    take_more xs n x (slice_get_within xs n x there) ∙ ap (λ (y : _). take n xs ++ y ∷ []) (get_or_from_slice_get xs n x x there)

last_decides : {X : Type 0} (differences : List (Difference OutPoint X)) (last : Difference OutPoint X) (at : OutPoint) (now : Option X)
    → before_all (differences ++ last ∷ []) at now ≡ by (said_in last at) (before_all differences at now)
last_decides [] last at now = refl
last_decides (first ∷ differences) last at now = last_decides differences last at (by (said_in first at) now)

pub one_more : {A X : Type 0} (told : A → Difference OutPoint X) (changes : List A) (n : ℕ) (change : A) (at : OutPoint) (now : Option X) → slice_get changes n ≡ Some change
    → before_all (map told (take (n + 1) changes)) at now ≡ by (said_in (told change) at) (before_all (map told (take n changes)) at now)
one_more told changes n change at now there =
    ap (λ (l : List _). before_all (map told l) at now) (one_longer changes n change there)
    ∙ ap (λ (l : List (Difference OutPoint _)). before_all l at now) (map_push told (take n changes) change)
    ∙ last_decides (map told (take n changes)) (told change) at now

pub decides : {X : Type 0} (said : Said X) (x y : Option X) → (said ≡ Nothing → ⊥) → by (meant said) x ≡ by (meant said) y
decides (Stood row) x y some = refl
decides Gone x y some = refl
decides Nothing x y some = absurd (some refl)

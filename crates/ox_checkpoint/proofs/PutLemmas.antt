-- Places of a list, and lists of none.
use Rattle.std.proofs.Common.{◌≡◌, ◌∙◌, ℕ, ◌+◌, ◌<◌, List, [], ◌∷◌, ◌++◌, length, take, sym, ap, subst, arith, Some, None}
use Rattle.std.specs.Prelude.{All, slice_get}
use Rattle.std.specs.Int.{w32, to_le_bytes}
use Rattle.std.proofs.lemmas.List.{append-nil, take_more}
use Rattle.std.proofs.lemmas.List.Elements.{All-get_or, All-nil}
use Rattle.std.proofs.lemmas.Option.{get_or_from_slice_get, slice_get-get_or, slice_get_within}
use Rattle.ox_rows.specs.Spelling.{list}

pub at_place : {X : Type 0} (P : X → Type 0) (xs : List X) (k : ℕ) (x : X) → All P xs → slice_get xs k ≡ Some x → P x
at_place P xs k x all there = subst P (get_or_from_slice_get xs k x x there) (All-get_or P xs k x (slice_get_within xs k x there) all)

pub take_next : {X : Type 0} (xs : List X) (k : ℕ) (x : X) → slice_get xs k ≡ Some x → take (k + 1) xs ≡ take k xs ++ x ∷ []
take_next {X} xs k x there = take_more xs k x (slice_get_within xs k x there) ∙ ap (λ (e : X). take k xs ++ e ∷ []) (get_or_from_slice_get xs k x x there)

-- a place before the end isn't empty
pub not_past : {X : Type 0} (xs : List X) (k end : ℕ) → end ≡ length xs → k < end → None ≡ slice_get xs k → ⊥
not_past [] k end all less none = omega (arith, all, less)
not_past (x ∷ xs) k end all less none = cc (none ∙ slice_get-get_or (x ∷ xs) k x (omega (arith, all, less)))

-- a list of none
pub none_listed : {X : Type 0} (item : X → List ℕ) (all : List X) (count : ℕ) → count ≡ length all → count ≡ 0 → to_le_bytes w32 count ≡ list item all
none_listed item [] count long none = ap (to_le_bytes w32) long ∙ sym (append-nil (to_le_bytes w32 0))
none_listed item (x ∷ all) count long none = absurd (omega (arith, long, none))

pub none_fit : {X : Type 0} (Fits : X → Type 0) (all : List X) (count : ℕ) → count ≡ length all → count ≡ 0 → All Fits all
none_fit Fits [] count long none = All-nil Fits
none_fit Fits (x ∷ all) count long none = absurd (omega (arith, long, none))

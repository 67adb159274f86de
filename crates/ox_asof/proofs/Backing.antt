-- The newest block of a chain without its last ones.
use Rattle.std.proofs.Common.{◌≡◌, ◌≢◌, ◌∙◌, ℕ, ◌+◌, ◌-◌, ◌<◌, ◌≤◌, List, length, take, sym, ap, arith, Some, None, slice_get, length-take-le, inl, inr, Bool, true, false, bytes_eq, true≢false}
use Rattle.std.specs.Bool.{OnFalse, OnTrue}
use Rattle.std.proofs.lemmas.Slice.Eq.{bytes_eq-Decides}
use Rattle.std.specs.Prelude.{◌⊎◌}
use Rattle.std.proofs.lemmas.Bool.{cases_lt}
use Rattle.ox_replies.specs.Status.{tip}
use Rattle.ox_asof.specs.Back.{tip_back}
use Rattle.ox_asof.proofs.Fronts.{get_front}

none_some : {A X : Type 0} (x : X) → None ≡ Some x → A
none_some x is = absurd (cc is)

none_of : (hashes : List (List ℕ)) (count : ℕ) → count ≡ 0 → tip (take count hashes) ≡ None
none_of hashes count none = ap (λ (n : ℕ). tip (take n hashes)) none

-- there are no more blocks
pub past_all : (hashes : List (List ℕ)) (blocks back : ℕ) (hash : List ℕ) → blocks ≡ length hashes → blocks ≤ back → tip_back hashes back ≢ Some hash
past_all hashes blocks back hash all past = λ is. none_some hash (sym (none_of hashes (length hashes - back) (omega (arith, all, past))) ∙ is)

pub tip_here : (hashes : List (List ℕ)) (blocks back : ℕ) → blocks ≡ length hashes → back < blocks → tip_back hashes back ≡ slice_get hashes (blocks - back - 1)
tip_here hashes blocks back all less =
    let count : ℕ = length hashes - back in
    let long : length (take count hashes) ≡ count = length-take-le count hashes (omega arith) in
    let last : length (take count hashes) - 1 ≡ blocks - back - 1 = omega (arith, long, all, less) in
    ap (slice_get (take count hashes)) last ∙ get_front hashes (blocks - back - 1) count (omega (arith, all, less))

pub here_is : (hashes : List (List ℕ)) (blocks back : ℕ) (newest hash : List ℕ) → blocks ≡ length hashes → back < blocks → Some newest ≡ slice_get hashes (blocks - back - 1) → newest ≡ hash
    → tip_back hashes back ≡ Some hash
here_is hashes blocks back newest hash all less there same = tip_here hashes blocks back all less ∙ sym there ∙ ap (λ (h : List ℕ). Some h) same

pub here_isnt : (hashes : List (List ℕ)) (blocks back : ℕ) (newest hash : List ℕ) → blocks ≡ length hashes → back < blocks → Some newest ≡ slice_get hashes (blocks - back - 1) → newest ≢ hash
    → tip_back hashes back ≢ Some hash
here_isnt hashes blocks back newest hash all less there other = λ is. other (same_some newest hash (there ∙ sym (tip_here hashes blocks back all less) ∙ is)) where
  same_some : (x y : List ℕ) → Some x ≡ Some y → x ≡ y
  same_some x y e = cc e

pub here_none : (hashes : List (List ℕ)) (blocks back : ℕ) (hash : List ℕ) → blocks ≡ length hashes → back < blocks → None ≡ slice_get hashes (blocks - back - 1) → tip_back hashes back ≢ Some hash
here_none hashes blocks back hash all less there = λ is. none_some hash (there ∙ sym (tip_here hashes blocks back all less) ∙ is)

-- one more that isn't it
pub one_more : (hashes : List (List ℕ)) (back : ℕ) (hash : List ℕ) → ((b : ℕ) → b < back → tip_back hashes b ≢ Some hash) → tip_back hashes back ≢ Some hash
    → (b : ℕ) → b < back + 1 → tip_back hashes b ≢ Some hash
one_more hashes back hash none other b less = λ is. by_order (cases_lt b back) is where
  by_order : (b < back) ⊎ (back ≤ b) → tip_back hashes b ≡ Some hash → ⊥
  by_order (inl under) is = none b under is
  by_order (inr over) is = let same : b ≡ back = omega (arith, less, over) in other (ap (tip_back hashes) (sym same) ∙ is)

-- by a test whether the one there is it
module _ (hashes : List (List ℕ)) (blocks back : ℕ) (newest hash : List ℕ) (all : blocks ≡ length hashes) (less : back < blocks) (there : Some newest ≡ slice_get hashes (blocks - back - 1)) where
  pub here_yes : (same : Bool) → same ≡ bytes_eq newest hash → OnTrue same (tip_back hashes back ≡ Some hash)
  here_yes true is = here_is hashes blocks back newest hash all less there ((bytes_eq-Decides newest hash).0 (sym is))
  here_yes false is = tt

  pub here_no : (same : Bool) → same ≡ bytes_eq newest hash → OnFalse same (tip_back hashes back ≢ Some hash)
  here_no true is = tt
  here_no false is = here_isnt hashes blocks back newest hash all less there (λ one. true≢false (sym ((bytes_eq-Decides newest hash).1 one) ∙ sym is))

-- An array that is written in two parts.
use borrow.Rule.Slice.PartMut.{put_mid}
use Rattle.std.proofs.Common.{◌≡◌, ◌∙◌, ℕ, List, [], ◌++◌, length, drop, ap, arith}
use Rattle.std.proofs.lemmas.List.{append-nil, drop_all, drop_at, take_at}

pub two_parts : (a k : ℕ) (front blank behind : List ℕ) → length front ≡ a → length blank ≡ k → put_mid a k (front ++ blank) behind ≡ front ++ behind
two_parts a k front blank behind long room =
    let gone : drop k (drop a (front ++ blank)) ≡ [] = ap (drop k) (drop_at front blank a long) ∙ drop_all k blank (omega (arith, room)) in
    (λ i. take_at front blank a long i ++ (behind ++ gone i)) ∙ ap (λ (l : List ℕ). front ++ l) (append-nil behind)

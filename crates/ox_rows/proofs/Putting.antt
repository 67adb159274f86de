-- Bytes that were put one after the other.
use Rattle.std.proofs.Common.{◌≡◌, ℕ, List, ◌++◌, ap, ◌∙◌, append_assoc}

-- these were put behind bytes, and then others behind these
pub more : (before front next : List ℕ) {between behind : List ℕ} → between ≡ before ++ front → behind ≡ between ++ next → behind ≡ before ++ (front ++ next)
more before front next first second = second ∙ ap (λ (bytes : List ℕ). bytes ++ next) first ∙ append_assoc before front next

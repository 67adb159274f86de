-- Pieces that are put one after the other.
use Rattle.std.proofs.Common.{ℕ, List, ◌++◌, Result, Ok, Err, subst, append_assoc}
use Rattle.std.specs.Prelude.{OnOk}
use Rattle.ox_block.specs.Putting.{Puts}

pub puts_then : {S : Type 0} (holds : S → List ℕ → Type 0) (a b : List ℕ) (s0 s1 s2 : S) → Puts holds a s0 s1 → Puts holds b s1 s2 → Puts holds (a ++ b) s0 s2
puts_then holds a b s0 s1 s2 p q before h = subst (λ (t : List ℕ). holds s2 t) (append_assoc before a b) (q (before ++ a) (p before h))

-- where the last piece is put, all are
pub puts_last : {S F : Type 0} (holds : S → List ℕ → Type 0) (a b : List ℕ) (s0 s1 s2 : S) (r : Result Unit F) → Puts holds a s0 s1 → OnOk r (Puts holds b s1 s2) → OnOk r (Puts holds (a ++ b) s0 s2)
puts_last holds a b s0 s1 s2 (Ok x) p q = puts_then holds a b s0 s1 s2 p q
puts_last holds a b s0 s1 s2 (Err f) p q = tt

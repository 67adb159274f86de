-- What is covered, as three parts.
use Rattle.std.proofs.Common.{◌≡◌, ◌∙◌, ℕ, zero, suc, ◌+◌, ◌-◌, min, Bool, false, List, [], ◌∷◌, ◌++◌, length, take, drop, refl, sym, ap, arith}
use Rattle.std.specs.Prelude.{replicate}
use Rattle.ox_outside.specs.Disk.{solid_outside}

pub covered_parts : (at n : ℕ) (solid : List Bool) (start over : ℕ) → start ≡ min at (length solid) → over ≡ min n (length solid - start) → solid_outside at n solid ≡ take start solid ++ replicate over false ++ drop (start + over) solid
covered_parts zero zero solid zero zero is ends = refl
covered_parts zero n solid (suc start) over is ends = absurd (omega arith)
covered_parts zero zero solid zero (suc over) is ends = absurd (omega arith)
covered_parts zero (suc n) [] zero zero is ends = refl
covered_parts zero (suc n) [] zero (suc over) is ends = absurd (omega arith)
covered_parts zero (suc n) (s ∷ solid) zero zero is ends = absurd (omega arith)
covered_parts zero (suc n) (s ∷ solid) zero (suc over) is ends =
    let rest = covered_parts zero n solid zero over (omega arith) (omega arith) in
    let one : drop (zero + suc over) (s ∷ solid) ≡ drop (zero + over) solid = ap (λ (k : ℕ). drop k (s ∷ solid)) (let e : zero + suc over ≡ suc (zero + over) = omega arith in e) in
    ap (λ (l : List Bool). false ∷ l) (rest ∙ ap (λ (l : List Bool). replicate over false ++ l) (sym one))
covered_parts (suc at) n [] zero zero is ends = refl
covered_parts (suc at) n [] zero (suc over) is ends = absurd (omega arith)
covered_parts (suc at) n [] (suc start) over is ends = absurd (omega arith)
covered_parts (suc at) n (s ∷ solid) zero over is ends = absurd (omega arith)
covered_parts (suc at) n (s ∷ solid) (suc start) over is ends =
    let rest = covered_parts at n solid start over (omega arith) (omega arith) in
    let one : drop (suc start + over) (s ∷ solid) ≡ drop (start + over) solid = ap (λ (k : ℕ). drop k (s ∷ solid)) (let e : suc start + over ≡ suc (start + over) = omega arith in e) in
    ap (λ (l : List Bool). s ∷ l) (rest ∙ ap (λ (l : List Bool). (take start solid ++ replicate over false) ++ l) (sym one))

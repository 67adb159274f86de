-- The kept bytes, one more.
use Rattle.std.proofs.Common.{◌≡◌, ◌∙◌, ◌<◌, ◌+◌, ℕ, zero, suc, Bool, true, false, List, [], ◌∷◌, ◌++◌, length, get_or, take, refl, ap, add-one, arith}
use Rattle.std.specs.Prelude.{slice_get}
use Rattle.ox_outside.specs.Disk.{filled_bytes}
use Rattle.ox_memsite.specs.Kept.{kept_at}

filled-take_suc : (fill : ℕ) (solid : List Bool) (seen : List ℕ) (i : ℕ) (d : Bool) → i < length solid → filled_bytes fill (take (suc i) solid) seen ≡ filled_bytes fill (take i solid) seen ++ kept_at fill (get_or solid i d) (slice_get seen i) ∷ []
filled-take_suc fill [] seen i d lt = absurd (omega arith)
filled-take_suc fill (s ∷ solid) [] zero d lt = refl
filled-take_suc fill (true ∷ solid) (b ∷ seen) zero d lt = refl
filled-take_suc fill (false ∷ solid) (b ∷ seen) zero d lt = refl
filled-take_suc fill (s ∷ solid) [] (suc i) d lt = ap (λ (l : List ℕ). fill ∷ l) (filled-take_suc fill solid [] i d (omega arith))
filled-take_suc fill (true ∷ solid) (b ∷ seen) (suc i) d lt = ap (λ (l : List ℕ). b ∷ l) (filled-take_suc fill solid seen i d (omega arith))
filled-take_suc fill (false ∷ solid) (b ∷ seen) (suc i) d lt = ap (λ (l : List ℕ). fill ∷ l) (filled-take_suc fill solid seen i d (omega arith))

pub filled_more : (fill : ℕ) (solid : List Bool) (seen : List ℕ) (i : ℕ) (d : Bool) → i < length solid → filled_bytes fill (take (i + 1) solid) seen ≡ filled_bytes fill (take i solid) seen ++ kept_at fill (get_or solid i d) (slice_get seen i) ∷ []
filled_more fill solid seen i d lt = ap (λ (k : ℕ). filled_bytes fill (take k solid) seen) (add-one i) ∙ filled-take_suc fill solid seen i d lt

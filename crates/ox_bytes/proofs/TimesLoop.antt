-- Reading values one after the other, as a loop does.
use Rattle.std.proofs.Common.{◌≡◌, ℕ, suc, ◌-◌, ◌+◌, ◌≤◌, ◌<◌, List, [], ◌∷◌, ◌++◌, Result, Ok, Err, refl, sym, ap, ◌∙◌, append_assoc, arith}
use Rattle.std.proofs.lemmas.List.{append-nil}
use Rattle.ox_bytes.specs.declared.fault.ReadError.{ReadError}
use Rattle.ox_bytes.specs.declared.fault.ReadError.TheVariants as errors
use Rattle.ox_bytes.specs.Reading.{◌>>=◌, Reader, Fails, times}

-- what was read before, and what is still read
abbrev pub with_front : {A : Type 0} → List A → Result (List A × List ℕ) ℕ → Result (List A × List ℕ) ℕ
with_front front read = read >>= λ x. Ok (front ++ x.0, x.1)

-- the next value joins those before
pub regroup : {A : Type 0} (front : List A) (a : A) (read : Result (List A × List ℕ) ℕ) → with_front front (read >>= λ x. Ok (a ∷ x.0, x.1)) ≡ with_front (front ++ a ∷ []) read
regroup {A} front a (Ok x) = ap (λ (xs : List A). Ok (xs, x.1)) (simp append_assoc)
regroup front a (Err f) = refl

pub goes_on : {A : Type 0} (read : Reader A) (front : List A) (count i : ℕ) (bytes : List ℕ) (a : A) (after : List ℕ) (total : Result (List A × List ℕ) ℕ) → i < count → read bytes ≡ Ok (a, after)
    → with_front front (times read (count - i) bytes) ≡ total → with_front (front ++ a ∷ []) (times read (count - (i + 1)) after) ≡ total
unfolding times
goes_on read front count i bytes a after total lt h so_far =
    let k : count - i ≡ suc (count - (i + 1)) = omega arith in
    let one : with_front front (times read (count - i) bytes) ≡ with_front (front ++ a ∷ []) (times read (count - (i + 1)) after) = rw (k, h) (regroup front a (times read (count - (i + 1)) after)) in
    sym one ∙ so_far

pub ends : {A : Type 0} (read : Reader A) (e : ReadError) (front : List A) (count i : ℕ) (bytes : List ℕ) (total : Result (List A × List ℕ) ℕ) → i < count → Fails e (read bytes)
    → with_front front (times read (count - i) bytes) ≡ total → Fails e total
unfolding times
ends read errors.Memory front count i bytes total lt h so_far = tt
ends read (errors.Fault f) front count i bytes total lt h so_far =
    let k : count - i ≡ suc (count - (i + 1)) = omega arith in
    let one : with_front front (times read (count - i) bytes) ≡ Err f.left = rw (k, h) refl in
    sym so_far ∙ one

pub is_done : {A : Type 0} (read : Reader A) (front : List A) (count i : ℕ) (bytes : List ℕ) (total : Result (List A × List ℕ) ℕ) → count ≤ i → with_front front (times read (count - i) bytes) ≡ total → total ≡ Ok (front, bytes)
unfolding times
is_done {A} read front count i bytes total le so_far =
    let k : count - i ≡ 0 = omega arith in
    let one : with_front front (times read (count - i) bytes) ≡ Ok (front, bytes) = rw k (ap (λ (xs : List A). Ok (xs, bytes)) (append-nil front)) in
    sym so_far ∙ one

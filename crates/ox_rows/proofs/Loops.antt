-- Reading items by rising keys, or runs, one after the other, as loops do.
use Rattle.std.proofs.Common.{◌≡◌, ℕ, suc, ◌-◌, ◌+◌, ◌≤◌, ◌<◌, List, [], ◌∷◌, ◌++◌, Result, Ok, Err, Option, Some, Ordering, refl, sym, ap, ◌∙◌, append_assoc, arith}
use Rattle.std.proofs.lemmas.List.{append-nil}
use Rattle.ox_bytes.specs.declared.fault.ReadError.{ReadError}
use Rattle.ox_bytes.specs.declared.fault.ReadError.TheVariants as errors
use Rattle.ox_bytes.specs.declared.fault.FieldFault.{FieldFault}
use Rattle.ox_bytes.specs.Reading.{◌>>=◌, Reader, Fails, unless}
use Rattle.ox_bytes.proofs.TimesLoop.{with_front, regroup}
use Rattle.ox_range.specs.declared.runs.Run.{Run}
use Rattle.ox_range.specs.Numbers.{numbers_from}
use Rattle.ox_range.specs.Runs.{end_of}
use Rattle.ox_rows.specs.Reading.{falls, rising_at, run_at, runs_at}

module _ {K X : Type 0} (cmp : K → K → Ordering) (rk : Reader K) (rx : Reader X) where
  pub rising_goes_on : (front : List (K × X)) (count i : ℕ) (last : Option K) (bytes behind after : List ℕ) (k : K) (x : X) (total : Result (List (K × X) × List ℕ) ℕ) → i < count
      → unless (falls cmp last) rk bytes ≡ Ok (k, behind) → rx behind ≡ Ok (x, after)
      → with_front front (rising_at cmp rk rx last (count - i) bytes) ≡ total → with_front (front ++ (k, x) ∷ []) (rising_at cmp rk rx (Some k) (count - (i + 1)) after) ≡ total
  unfolding rising_at
  rising_goes_on front count i last bytes behind after k x total lt key value so_far =
      let n : count - i ≡ suc (count - (i + 1)) = omega arith in
      let one : with_front front (rising_at cmp rk rx last (count - i) bytes) ≡ with_front (front ++ (k, x) ∷ []) (rising_at cmp rk rx (Some k) (count - (i + 1)) after) = rw (n, key, value) (regroup front (k, x) (rising_at cmp rk rx (Some k) (count - (i + 1)) after)) in
      sym one ∙ so_far

  pub rising_ends_at_key : (e : ReadError) (front : List (K × X)) (count i : ℕ) (last : Option K) (bytes : List ℕ) (total : Result (List (K × X) × List ℕ) ℕ) → i < count → Fails e (unless (falls cmp last) rk bytes)
      → with_front front (rising_at cmp rk rx last (count - i) bytes) ≡ total → Fails e total
  unfolding rising_at
  rising_ends_at_key errors.Memory front count i last bytes total lt h so_far = tt
  rising_ends_at_key (errors.Fault f) front count i last bytes total lt h so_far =
      let n : count - i ≡ suc (count - (i + 1)) = omega arith in
      let one : with_front front (rising_at cmp rk rx last (count - i) bytes) ≡ Err f.left = rw (n, h) refl in
      sym so_far ∙ one

  pub rising_ends_at_value : (e : ReadError) (front : List (K × X)) (count i : ℕ) (last : Option K) (bytes behind : List ℕ) (k : K) (total : Result (List (K × X) × List ℕ) ℕ) → i < count
      → unless (falls cmp last) rk bytes ≡ Ok (k, behind) → Fails e (rx behind)
      → with_front front (rising_at cmp rk rx last (count - i) bytes) ≡ total → Fails e total
  unfolding rising_at
  rising_ends_at_value errors.Memory front count i last bytes behind k total lt key h so_far = tt
  rising_ends_at_value (errors.Fault f) front count i last bytes behind k total lt key h so_far =
      let n : count - i ≡ suc (count - (i + 1)) = omega arith in
      let one : with_front front (rising_at cmp rk rx last (count - i) bytes) ≡ Err f.left = rw (n, key, h) refl in
      sym so_far ∙ one

  pub rising_is_done : (front : List (K × X)) (count i : ℕ) (last : Option K) (bytes : List ℕ) (total : Result (List (K × X) × List ℕ) ℕ) → count ≤ i → with_front front (rising_at cmp rk rx last (count - i) bytes) ≡ total → total ≡ Ok (front, bytes)
  unfolding rising_at
  rising_is_done front count i last bytes total le so_far =
      let n : count - i ≡ 0 = omega arith in
      let one : with_front front (rising_at cmp rk rx last (count - i) bytes) ≡ Ok (front, bytes) = rw n (ap (λ (xs : List (K × X)). Ok (xs, bytes)) (append-nil front)) in
      sym so_far ∙ one

-- ---- runs

join_numbers : (front numbers : List ℕ) (read : Result (List ℕ × List ℕ) ℕ) → with_front front (read >>= λ x. Ok (numbers ++ x.0, x.1)) ≡ with_front (front ++ numbers) read
join_numbers front numbers (Ok x) = ap (λ (xs : List ℕ). Ok (xs, x.1)) (sym (append_assoc front numbers x.0))
join_numbers front numbers (Err f) = refl

pub runs_go_on : (front : List ℕ) (count i spare : ℕ) (end : Option ℕ) (bytes after : List ℕ) (r : Run) (total : Result (List ℕ × List ℕ) ℕ) → i < count → run_at spare end bytes ≡ Ok (r, after)
    → with_front front (runs_at spare end (count - i) bytes) ≡ total → with_front (front ++ numbers_from r.first r.count) (runs_at (spare - r.count) (Some (end_of r)) (count - (i + 1)) after) ≡ total
unfolding runs_at
runs_go_on front count i spare end bytes after r total lt h so_far =
    let n : count - i ≡ suc (count - (i + 1)) = omega arith in
    let more = runs_at (spare - r.count) (Some (end_of r)) (count - (i + 1)) after in
    let one : with_front front (runs_at spare end (count - i) bytes) ≡ with_front (front ++ numbers_from r.first r.count) more = rw (n, h) (join_numbers front (numbers_from r.first r.count) more) in
    sym one ∙ so_far

pub runs_end : (f : FieldFault) (front : List ℕ) (count i spare : ℕ) (end : Option ℕ) (bytes : List ℕ) (total : Result (List ℕ × List ℕ) ℕ) → i < count → run_at spare end bytes ≡ Err f.left
    → with_front front (runs_at spare end (count - i) bytes) ≡ total → total ≡ Err f.left
unfolding runs_at
runs_end f front count i spare end bytes total lt h so_far =
    let n : count - i ≡ suc (count - (i + 1)) = omega arith in
    let one : with_front front (runs_at spare end (count - i) bytes) ≡ Err f.left = rw (n, h) refl in
    sym so_far ∙ one

pub runs_done : (front : List ℕ) (count i spare : ℕ) (end : Option ℕ) (bytes : List ℕ) (total : Result (List ℕ × List ℕ) ℕ) → count ≤ i → with_front front (runs_at spare end (count - i) bytes) ≡ total → total ≡ Ok (front, bytes)
unfolding runs_at
runs_done front count i spare end bytes total le so_far =
    let n : count - i ≡ 0 = omega arith in
    let one : with_front front (runs_at spare end (count - i) bytes) ≡ Ok (front, bytes) = rw n (ap (λ (xs : List ℕ). Ok (xs, bytes)) (append-nil front)) in
    sym so_far ∙ one

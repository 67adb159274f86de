-- Reading outputs and stacks one after the other, as loops do.
use Rattle.std.proofs.Common.{◌≡◌, ℕ, suc, ◌-◌, ◌+◌, ◌≤◌, ◌<◌, List, [], ◌∷◌, ◌++◌, length, get_or, take, drop, add-one, Result, Ok, Err, refl, sym, ap, ◌∙◌, arith}
use Rattle.std.proofs.Math.Seq.{drop-cons}
use Rattle.std.proofs.Math.ListN.{set}
use Rattle.std.proofs.lemmas.List.{append-nil, take_more_set, drop-set-lt, take_all, drop_all}
use Rattle.ox_bytes.specs.declared.fault.ReadError.{ReadError}
use Rattle.ox_bytes.specs.declared.fault.ReadError.TheVariants as errors
use Rattle.ox_bytes.specs.Reading.{Fails}
use Rattle.ox_bytes.proofs.TimesLoop.{with_front, regroup}
use Rattle.ox_block.specs.declared.block.TxOut.{TxOut}
use Rattle.ox_block.specs.declared.block.TxIn.{TxIn}
use Rattle.ox_block.specs.Reading.{output_at, outputs_of, stack_at, stacks_of}

pub outputs_go_on : (front : List TxOut) (count i most : ℕ) (bytes : List ℕ) (o : TxOut) (after : List ℕ) (total : Result (List TxOut × List ℕ) ℕ) → i < count → output_at most bytes ≡ Ok (o, after)
    → with_front front (outputs_of (count - i) most bytes) ≡ total → with_front (front ++ o ∷ []) (outputs_of (count - (i + 1)) (most - o.value) after) ≡ total
unfolding outputs_of
outputs_go_on front count i most bytes o after total lt h so_far =
    let k : count - i ≡ suc (count - (i + 1)) = omega arith in
    let one : with_front front (outputs_of (count - i) most bytes) ≡ with_front (front ++ o ∷ []) (outputs_of (count - (i + 1)) (most - o.value) after) = rw (k, h) (regroup front o (outputs_of (count - (i + 1)) (most - o.value) after)) in
    sym one ∙ so_far

pub outputs_end : (e : ReadError) (front : List TxOut) (count i most : ℕ) (bytes : List ℕ) (total : Result (List TxOut × List ℕ) ℕ) → i < count → Fails e (output_at most bytes)
    → with_front front (outputs_of (count - i) most bytes) ≡ total → Fails e total
unfolding outputs_of
outputs_end errors.Memory front count i most bytes total lt h so_far = tt
outputs_end (errors.Fault f) front count i most bytes total lt h so_far =
    let k : count - i ≡ suc (count - (i + 1)) = omega arith in
    let one : with_front front (outputs_of (count - i) most bytes) ≡ Err f.left = rw (k, h) refl in
    sym so_far ∙ one

pub outputs_done : (front : List TxOut) (count i most : ℕ) (bytes : List ℕ) (total : Result (List TxOut × List ℕ) ℕ) → count ≤ i → with_front front (outputs_of (count - i) most bytes) ≡ total → total ≡ Ok (front, bytes)
unfolding outputs_of
outputs_done front count i most bytes total le so_far =
    let k : count - i ≡ 0 = omega arith in
    let one : with_front front (outputs_of (count - i) most bytes) ≡ Ok (front, bytes) = rw k (ap (λ (xs : List TxOut). Ok (xs, bytes)) (append-nil front)) in
    sym so_far ∙ one

-- ---- stacks

pub stacks_go_on : (xs : List TxIn) (i : ℕ) (d : TxIn) (bytes : List ℕ) (w : List (List ℕ)) (after : List ℕ) (total : Result (List TxIn × List ℕ) ℕ) → i < length xs → stack_at bytes ≡ Ok (w, after)
    → with_front (take i xs) (stacks_of (drop i xs) bytes) ≡ total
    → with_front (take (i + 1) (set xs i (record (get_or xs i d) { witness = w }))) (stacks_of (drop (i + 1) (set xs i (record (get_or xs i d) { witness = w }))) after) ≡ total
unfolding stacks_of
stacks_go_on xs i d bytes w after total lt h so_far =
    let y : TxIn = record (get_or xs i d) { witness = w } in
    let next : drop i xs ≡ get_or xs i d ∷ drop (i + 1) xs = rw add-one (drop-cons xs i d lt) in
    let one : with_front (take i xs) (stacks_of (drop i xs) bytes) ≡ with_front (take i xs ++ y ∷ []) (stacks_of (drop (i + 1) xs) after) = rw (next, h) (regroup (take i xs) y (stacks_of (drop (i + 1) xs) after)) in
    rw (take_more_set xs i y lt, drop-set-lt (i + 1) xs i y (omega arith)) (sym one ∙ so_far)

pub stacks_end : (e : ReadError) (xs : List TxIn) (i : ℕ) (d : TxIn) (bytes : List ℕ) (total : Result (List TxIn × List ℕ) ℕ) → i < length xs → Fails e (stack_at bytes)
    → with_front (take i xs) (stacks_of (drop i xs) bytes) ≡ total → Fails e total
unfolding stacks_of
stacks_end errors.Memory xs i d bytes total lt h so_far = tt
stacks_end (errors.Fault f) xs i d bytes total lt h so_far =
    let next : drop i xs ≡ get_or xs i d ∷ drop (i + 1) xs = rw add-one (drop-cons xs i d lt) in
    let one : with_front (take i xs) (stacks_of (drop i xs) bytes) ≡ Err f.left = rw (next, h) refl in
    sym so_far ∙ one

pub stacks_done : (xs : List TxIn) (i : ℕ) (bytes : List ℕ) (total : Result (List TxIn × List ℕ) ℕ) → length xs ≤ i → with_front (take i xs) (stacks_of (drop i xs) bytes) ≡ total → total ≡ Ok (xs, bytes)
unfolding stacks_of
stacks_done xs i bytes total le so_far =
    let one : with_front (take i xs) (stacks_of (drop i xs) bytes) ≡ Ok (xs, bytes) = rw (take_all i xs le, drop_all i xs le) (ap (λ (ys : List TxIn). Ok (ys, bytes)) (append-nil xs)) in
    sym so_far ∙ one

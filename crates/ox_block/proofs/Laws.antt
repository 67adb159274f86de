-- The two laws of each reader: what is read is spelled so, and what is spelled so is read, whatever follows it.
use Rattle.std.proofs.Common.{◌≡◌, ℕ, zero, suc, ◌-◌, ◌^◌, ◌<◌, ◌≤◌, Bool, true, false, ◌||◌, ltb, eqb, List, [], ◌∷◌, ◌++◌, length, Ok, refl, sym, ap, subst, ◌∙◌, append_assoc, arith}
use Rattle.std.specs.Int.{w32, w64, to_le_bytes}
use Rattle.std.specs.List.{flat_map, AllByRecursion, list_any}
use Rattle.std.specs.Prelude.{sum_by}
use Rattle.std.proofs.lemmas.Bool.{ltb-false, le-ltb, ne_eqb}
use Rattle.std.proofs.lemmas.List.{nil_from_length}
use Rattle.std.proofs.lemmas.List.Concat.{flat_map-cons}
use Rattle.std.proofs.lemmas.List.Sums.{sum_by-cons}
use Rattle.ox_bytes.specs.Spelling.{compact, string}
use Rattle.ox_bytes.specs.Reading.{◌>>=◌, number_at, run_at, compact_at, string_at, both, unless}
use Rattle.ox_bytes.proofs.Laws.{IsBytes, bind_ok, ok_is, Takes, Takes-then, Law, wide32, wide64, number_law, run_law, compact_law, string_law, both_law, reading_map_law, unless_law, counted_list_law}
use Rattle.ox_block.specs.declared.block.OutPoint.{OutPoint}
use Rattle.ox_block.specs.declared.block.TxIn.{TxIn}
use Rattle.ox_block.specs.declared.block.TxOut.{TxOut}
use Rattle.ox_block.specs.Spelling.{outpoint, input, output, inputs, outputs, stack, stacks, most_value, FitsString, FitsInput, FitsOutput, FitsStack, has_witness}
use Rattle.ox_block.specs.Reading.{count_at, outpoint_at, input_at, inputs_at, output_at, outputs_of, outputs_at, stack_at, stacks_of}
use Rattle.ox_block.proofs.PartsAsPairs.{InputParts, input_from, input_parts, input_same}

-- ---- counts

abbrev pub IsCount : ℕ → Type 0
IsCount n = (n < 2 ^ 64) × (eqb n 0 ≡ false)

pub count_law : Law IsCount compact count_at
unfolding count_at
count_law = unless_law (λ n. eqb n 0) (λ n. n < 2 ^ 64) compact compact_at compact_law

pub count_from : (n : ℕ) → 0 < n → n < 2 ^ 64 → IsCount n
count_from n more less = (less, ne_eqb n 0 (λ e. omega arith))

-- ---- inputs

abbrev pub FitsOutpoint : OutPoint → Type 0
FitsOutpoint o = (length o.txid.0 ≡ 32) × (o.index < 2 ^ 32)

outpoint_law : Law FitsOutpoint outpoint outpoint_at
unfolding outpoint_at
outpoint_law = reading_map_law (λ (p : List ℕ × ℕ). record { txid = record { 0 = p.0 }; index = p.1 }) (λ (o : OutPoint). (o.txid.0, o.index))
    (λ (p : List ℕ × ℕ). (length p.0 ≡ 32) × (p.1 < 2 ^ 32)) FitsOutpoint (λ (p : List ℕ × ℕ). p.0 ++ to_le_bytes w32 p.1) outpoint (both (run_at 32) (number_at w32))
    (λ p h. h) (λ p h. refl) (λ o h. h) (λ o h. refl)
    (both_law (λ (x : List ℕ). length x ≡ 32) (λ n. n < 2 ^ 32) (λ (x : List ℕ). x) (to_le_bytes w32) (run_at 32) (number_at w32) (run_law 32) (number_law w32 (2 ^ 32) wide32))

-- an input that has no witness yet
abbrev pub FitsBare : TxIn → Type 0
FitsBare i = FitsInput i × (i.witness ≡ [])

input_parts_law : Law FitsBare input input_parts
input_parts_law = reading_map_law input_from (λ (i : TxIn). ((i.from, i.script), i.sequence))
    (λ (p : InputParts). (FitsOutpoint p.0.0 × FitsString p.0.1) × (p.1 < 2 ^ 32)) FitsBare (λ (p : InputParts). (outpoint p.0.0 ++ string p.0.1) ++ to_le_bytes w32 p.1) input (both (both outpoint_at string_at) (number_at w32))
    (λ p h. (record { txid = h.0.0.0; index = h.0.0.1; script = h.0.1; sequence = h.1 }, refl)) (λ p h. refl) (λ i h. (((h.0.txid, h.0.index), h.0.script), h.0.sequence))
    (λ i h. ap (λ (w : List (List ℕ)). record i { witness = w }) (sym h.1))
    (both_law (λ (p : OutPoint × List ℕ). FitsOutpoint p.0 × FitsString p.1) (λ n. n < 2 ^ 32) (λ (p : OutPoint × List ℕ). outpoint p.0 ++ string p.1) (to_le_bytes w32) (both outpoint_at string_at) (number_at w32)
    (both_law FitsOutpoint FitsString outpoint string outpoint_at string_at outpoint_law string_law) (number_law w32 (2 ^ 32) wide32))

input_law : Law FitsBare input input_at
input_law = record {
  takes = λ bytes i fits e. input_parts_law.takes bytes i fits (input_same bytes ∙ e);
  again = λ i rest fits. sym (input_same (input i ++ rest)) ∙ input_parts_law.again i rest fits;
}

pub inputs_law : Law (λ (is : List TxIn). IsCount (length is) × AllByRecursion FitsBare is) inputs inputs_at
unfolding inputs_at
inputs_law = counted_list_law IsCount compact count_at FitsBare input input_at count_law input_law

-- ---- outputs

abbrev pub FitsBelow : ℕ → TxOut → Type 0
FitsBelow most o = ((o.value < 2 ^ 64) × (ltb most o.value ≡ false)) × FitsString o.script

output_law : (most : ℕ) → Law (FitsBelow most) output (output_at most)
unfolding output_at
output_law most = reading_map_law (λ (p : ℕ × List ℕ). record { value = p.0; script = p.1 }) (λ (o : TxOut). (o.value, o.script))
    (λ (p : ℕ × List ℕ). ((p.0 < 2 ^ 64) × (ltb most p.0 ≡ false)) × FitsString p.1) (FitsBelow most) (λ (p : ℕ × List ℕ). to_le_bytes w64 p.0 ++ string p.1) output (both (unless (λ value. ltb most value) (number_at w64)) string_at)
    (λ p h. h) (λ p h. refl) (λ o h. h) (λ o h. refl)
    (both_law (λ n. (n < 2 ^ 64) × (ltb most n ≡ false)) FitsString (to_le_bytes w64) string (unless (λ value. ltb most value) (number_at w64)) string_at
    (unless_law (λ value. ltb most value) (λ n. n < 2 ^ 64) (to_le_bytes w64) (number_at w64) (number_law w64 (2 ^ 64) wide64)) string_law)

-- each output fits what the outputs before it leave
abbrev pub FitAll : ℕ → List TxOut → Type 0
FitAll most [] = Unit {0}
FitAll most (o ∷ os) = FitsBelow most o × FitAll (most - o.value) os

outputs_take : (n most : ℕ) (bytes : List ℕ) (z : List TxOut × List ℕ) → IsBytes bytes → outputs_of n most bytes ≡ Ok z → Takes bytes (flat_map output z.0) z.1 × ((length z.0 ≡ n) × FitAll most z.0)
unfolding outputs_of
outputs_take zero most bytes z fits e =
    subst (λ (y : List TxOut × List ℕ). Takes bytes (flat_map output y.0) y.1 × ((length y.0 ≡ 0) × FitAll most y.0)) (ok_is {F = ℕ} ([], bytes) z e) (record { parts = refl; rest_fits = fits }, (refl, tt))
outputs_take (suc n) most bytes z fits e =
    let a = bind_ok (output_at most bytes) (λ x. outputs_of n (most - x.0.value) x.1 >>= λ xs. Ok (x.0 ∷ xs.0, xs.1)) z e in
    let b = bind_ok (outputs_of n (most - a.0.0.value) a.0.1) (λ xs. Ok (a.0.0 ∷ xs.0, xs.1)) z a.2 in
    let first = (output_law most).takes bytes a.0 fits a.1 in
    let others = outputs_take n (most - a.0.0.value) a.0.1 b.0 first.0.rest_fits b.1 in
    let whole = Takes-then bytes (output a.0.0) a.0.1 (flat_map output b.0.0) b.0.1 first.0 others.0 in
    subst (λ (y : List TxOut × List ℕ). Takes bytes (flat_map output y.0) y.1 × ((length y.0 ≡ suc n) × FitAll most y.0)) (ok_is {F = ℕ} (a.0.0 ∷ b.0.0, b.0.1) z b.2)
    (rw flat_map-cons whole, (ap suc others.1.0, (first.1, others.1.1)))

outputs_repeat : (os : List TxOut) (most : ℕ) (rest : List ℕ) → FitAll most os → outputs_of (length os) most (flat_map output os ++ rest) ≡ Ok (os, rest)
unfolding outputs_of
outputs_repeat [] most rest fits = refl
outputs_repeat (o ∷ os) most rest fits =
    let regrouped : flat_map output (o ∷ os) ++ rest ≡ output o ++ (flat_map output os ++ rest) = ap (λ (t : List ℕ). t ++ rest) (flat_map-cons output o os) ∙ append_assoc (output o) (flat_map output os) rest in
    ap (outputs_of (suc (length os)) most) regrouped ∙ rw ((output_law most).again o (flat_map output os ++ rest) fits.0, outputs_repeat os (most - o.value) rest fits.1) refl

-- together they have no more than the most
fit_sum : (most : ℕ) (os : List TxOut) → FitAll most os → AllByRecursion FitsOutput os × (sum_by (λ o. o.value) os ≤ most)
fit_sum most [] fits = (tt, omega arith)
fit_sum most (o ∷ os) fits =
    let others = fit_sum (most - o.value) os fits.1 in
    let one : o.value ≤ most = ltb-false _ _ fits.0.0.1 in
    ((record { value = fits.0.0.0; script = fits.0.1 }, others.0), omega (arith, others.1, sum_by-cons (λ (x : TxOut). x.value) o os))

sum_fits : (most : ℕ) (os : List TxOut) → AllByRecursion FitsOutput os → sum_by (λ o. o.value) os ≤ most → FitAll most os
sum_fits most [] all sum = tt
sum_fits most (o ∷ os) all sum =
    let split = sum_by-cons (λ (x : TxOut). x.value) o os in
    (((all.0.value, le-ltb _ _ (omega (arith, split))), all.0.script), sum_fits (most - o.value) os all.1 (omega (arith, split)))

abbrev pub FitsOutputs : List TxOut → Type 0
FitsOutputs os = IsCount (length os) × (AllByRecursion FitsOutput os × (sum_by (λ o. o.value) os ≤ most_value))

outputs_all_take : (bytes : List ℕ) (z : List TxOut × List ℕ) → IsBytes bytes → outputs_at bytes ≡ Ok z → Takes bytes (outputs z.0) z.1 × FitsOutputs z.0
unfolding outputs_at
outputs_all_take bytes z fits e =
    let n = bind_ok (count_at bytes) (λ x. outputs_of x.0 most_value x.1) z e in
    let tn = count_law.takes bytes n.0 fits n.1 in
    let t = outputs_take n.0.0 most_value n.0.1 z tn.0.rest_fits n.2 in
    let whole = Takes-then bytes (compact n.0.0) n.0.1 (flat_map output z.0) z.1 tn.0 t.0 in
    (subst (λ (k : ℕ). Takes bytes (compact k ++ flat_map output z.0) z.1) (sym t.1.0) whole, (subst IsCount (sym t.1.0) tn.1, fit_sum most_value z.0 t.1.1))

outputs_all_repeat : (os : List TxOut) (rest : List ℕ) → FitsOutputs os → outputs_at (outputs os ++ rest) ≡ Ok (os, rest)
unfolding outputs_at
outputs_all_repeat os rest fits =
    ap outputs_at (append_assoc (compact (length os)) (flat_map output os) rest) ∙ rw (count_law.again (length os) (flat_map output os ++ rest) fits.0) (outputs_repeat os most_value rest (sum_fits most_value os fits.1.0 fits.1.1))

pub outputs_law : Law FitsOutputs outputs outputs_at
outputs_law = record { takes = outputs_all_take; again = outputs_all_repeat }

-- ---- stacks

stack_law : Law FitsStack stack stack_at
unfolding stack_at
stack_law = counted_list_law (λ n. n < 2 ^ 64) compact compact_at FitsString string string_at compact_law string_law

-- an input without its witness
abbrev pub bare : TxIn → TxIn
bare i = record i { witness = [] }

abbrev pub bares : List TxIn → List TxIn
bares [] = []
bares (i ∷ is) = bare i ∷ bares is

abbrev pub FitStacks : List TxIn → Type 0
FitStacks is = AllByRecursion (λ (i : TxIn). FitsStack i.witness) is

abbrev pub each_stack : TxIn → List ℕ
each_stack i = stack i.witness

pub stacks_take : (is : List TxIn) (bytes : List ℕ) (z : List TxIn × List ℕ) → IsBytes bytes → stacks_of is bytes ≡ Ok z → Takes bytes (stacks z.0) z.1 × (FitStacks z.0 × (bares z.0 ≡ bares is))
unfolding stacks_of
stacks_take [] bytes z fits e =
    subst (λ (y : List TxIn × List ℕ). Takes bytes (stacks y.0) y.1 × (FitStacks y.0 × (bares y.0 ≡ []))) (ok_is {F = ℕ} ([], bytes) z e) (record { parts = refl; rest_fits = fits }, (tt, refl))
stacks_take (i ∷ is) bytes z fits e =
    let a = bind_ok (stack_at bytes) (λ w. stacks_of is w.1 >>= λ xs. Ok (record i { witness = w.0 } ∷ xs.0, xs.1)) z e in
    let b = bind_ok (stacks_of is a.0.1) (λ xs. Ok (record i { witness = a.0.0 } ∷ xs.0, xs.1)) z a.2 in
    let first = stack_law.takes bytes a.0 fits a.1 in
    let others = stacks_take is a.0.1 b.0 first.0.rest_fits b.1 in
    let whole = Takes-then bytes (stack a.0.0) a.0.1 (stacks b.0.0) b.0.1 first.0 others.0 in
    let made : TxIn = record i { witness = a.0.0 } in
    let grouped : stacks (made ∷ b.0.0) ≡ stack a.0.0 ++ stacks b.0.0 = flat_map-cons each_stack made b.0.0 in
    subst (λ (y : List TxIn × List ℕ). Takes bytes (stacks y.0) y.1 × (FitStacks y.0 × (bares y.0 ≡ bares (i ∷ is)))) (ok_is {F = ℕ} (made ∷ b.0.0, b.0.1) z b.2)
    (subst (λ (t : List ℕ). Takes bytes t b.0.1) (sym grouped) whole, ((first.1, others.1.0), ap (λ (xs : List TxIn). bare i ∷ xs) others.1.1))

pub stacks_repeat : (is : List TxIn) (rest : List ℕ) → FitStacks is → stacks_of (bares is) (stacks is ++ rest) ≡ Ok (is, rest)
unfolding stacks_of
stacks_repeat [] rest fits = refl
stacks_repeat (i ∷ is) rest fits =
    let regrouped : stacks (i ∷ is) ++ rest ≡ stack i.witness ++ (stacks is ++ rest) = ap (λ (t : List ℕ). t ++ rest) (flat_map-cons each_stack i is) ∙ append_assoc (stack i.witness) (stacks is) rest in
    ap (stacks_of (bares (i ∷ is))) regrouped ∙ rw (stack_law.again i.witness (stacks is ++ rest) fits.0, stacks_repeat is rest fits.1) refl

-- The witness is no part of an input's own spelling.
spelled_bare : (is : List TxIn) → flat_map input (bares is) ≡ flat_map input is
spelled_bare [] = refl
spelled_bare (i ∷ is) = flat_map-cons input (bare i) (bares is) ∙ ap (λ (t : List ℕ). input i ++ t) (spelled_bare is) ∙ sym (flat_map-cons input i is)

pub length_bare : (is : List TxIn) → length (bares is) ≡ length is
length_bare [] = refl
length_bare (i ∷ is) = ap suc (length_bare is)

pub inputs_bare : (is : List TxIn) → inputs (bares is) ≡ inputs is
inputs_bare is = ap (λ (n : ℕ). compact n ++ flat_map input (bares is)) (length_bare is) ∙ ap (λ (t : List ℕ). compact (length is) ++ t) (spelled_bare is)

pub fits_bare : (is : List TxIn) → AllByRecursion FitsInput is → AllByRecursion FitsBare (bares is)
fits_bare [] fits = tt
fits_bare (i ∷ is) fits = ((record { txid = fits.0.txid; index = fits.0.index; script = fits.0.script; sequence = fits.0.sequence }, refl), fits_bare is fits.1)

pub from_bare : (is : List TxIn) → AllByRecursion FitsBare (bares is) → AllByRecursion FitsInput is
from_bare [] fits = tt
from_bare (i ∷ is) fits = (record { txid = fits.0.0.txid; index = fits.0.0.index; script = fits.0.0.script; sequence = fits.0.0.sequence }, from_bare is fits.1)

-- Inputs as they are read first have no witness.
pub bare_already : (is : List TxIn) → AllByRecursion FitsBare is → bares is ≡ is
bare_already [] fits = refl
bare_already (i ∷ is) fits = ap (λ (w : List (List ℕ)). record i { witness = w } ∷ bares is) (sym fits.0.1) ∙ ap (λ (xs : List TxIn). i ∷ xs) (bare_already is fits.1)

pub none_of_bare : (is : List TxIn) → AllByRecursion FitsBare is → (list_any has_witness is ≡ false) × FitStacks is
none_of_bare [] fits = (refl, tt)
none_of_bare (i ∷ is) fits =
    let others = none_of_bare is fits.1 in
    let no : has_witness i ≡ false = ap (λ (w : List (List ℕ)). ltb 0 (length w)) fits.0.1 in
    let small : FitsStack i.witness = subst FitsStack (sym fits.0.1) (omega arith, tt) in
    (rw no others.0, (small, others.1))

or_false : (a b : Bool) → (a || b) ≡ false → (a ≡ false) × (b ≡ false)
or_false true b e = absurd cc
or_false false b e = (refl, e)

-- Where no input has a witness, nothing is lost without them.
pub bare_if_none : (is : List TxIn) → list_any has_witness is ≡ false → bares is ≡ is
bare_if_none [] none = refl
bare_if_none (i ∷ is) none =
    let no = or_false (has_witness i) (list_any has_witness is) none in
    let empty : i.witness ≡ [] = nil_from_length i.witness (let le : length i.witness ≤ 0 = ltb-false _ _ no.0 in omega arith) in
    ap (λ (w : List (List ℕ)). record i { witness = w } ∷ bares is) (sym empty) ∙ ap (λ (xs : List TxIn). i ∷ xs) (bare_if_none is no.1)

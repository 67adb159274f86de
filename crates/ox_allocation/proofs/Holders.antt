-- The places of the outputs that can hold runes.
use Rattle.std.proofs.Common.{◌≡◌, ◌∙◌, ℕ, ◌+◌, ◌<◌, ◌≤◌, List, [], ◌∷◌, ◌++◌, length, drop, refl, sym, ap, arith, Bool, true, false, append_assoc, append-nil, get_or, subst, Some}
use Rattle.std.specs.Prelude.{slice_get, if◌then◌else◌}
use Rattle.std.specs.List.{AllByRecursion}
use Rattle.ox_block.specs.declared.block.TxOut.{TxOut}
use Rattle.ox_script.specs.Shape.{is_return}
use Rattle.ox_allocation.specs.Gifts.{holders, holders_from}
use Rattle.ox_allocation.proofs.Giving.{drop_next, drop_none}

within_by_test : (b : Bool) (place count : ℕ) (places : List ℕ) → place < count → AllByRecursion (λ p. p < count) places
    → AllByRecursion (λ p. p < count) (if b then places else (place ∷ places))
within_by_test true place count places here rest = rest
within_by_test false place count places here rest = (here, rest)

holders_from_within : (place count : ℕ) (outputs : List TxOut) → place + length outputs ≤ count → AllByRecursion (λ p. p < count) (holders_from place outputs)
unfolding holders_from
holders_from_within place count [] le = tt
holders_from_within place count (output ∷ outputs) le =
    within_by_test (is_return output.script) place count (holders_from (place + 1) outputs) (omega arith) (holders_from_within (place + 1) count outputs (omega arith))

-- they are places of outputs
pub holders_within : (outputs : List TxOut) → AllByRecursion (λ place. place < length outputs) (holders outputs)
holders_within outputs = holders_from_within 0 (length outputs) outputs (omega arith)

pub holders_end : (place : ℕ) → holders_from place [] ≡ []
unfolding holders_from
holders_end place = refl

-- an output that can't hold runes
pub holder_passed : (place : ℕ) (output : TxOut) (outputs : List TxOut) → is_return output.script ≡ true → holders_from place (output ∷ outputs) ≡ holders_from (place + 1) outputs
unfolding holders_from
holder_passed place output outputs is = rw is refl

-- an output that can
pub holder_found : (place : ℕ) (output : TxOut) (outputs : List TxOut) → is_return output.script ≡ false → holders_from place (output ∷ outputs) ≡ place ∷ holders_from (place + 1) outputs
unfolding holders_from
holder_found place output outputs is = rw is refl

-- the loop over the outputs
pub holds_none : (outputs : List TxOut) (k : ℕ) (output : TxOut) (held new all : List ℕ) → k < length outputs → output ≡ get_or outputs k output → is_return output.script ≡ true
    → held ++ holders_from k (drop k outputs) ≡ all → new ≡ held → new ++ holders_from (k + 1) (drop (k + 1) outputs) ≡ all
holds_none outputs k output held new all within is test so more =
    ap (λ places. places ++ holders_from (k + 1) (drop (k + 1) outputs)) more
    ∙ ap (λ places. held ++ places) (sym (ap (holders_from k) (drop_next outputs k output within is) ∙ holder_passed k output (drop (k + 1) outputs) test))
    ∙ so

pub holds_one : (outputs : List TxOut) (k : ℕ) (output : TxOut) (held new all : List ℕ) → k < length outputs → output ≡ get_or outputs k output → is_return output.script ≡ false
    → held ++ holders_from k (drop k outputs) ≡ all → new ≡ held ++ k ∷ [] → new ++ holders_from (k + 1) (drop (k + 1) outputs) ≡ all
holds_one outputs k output held new all within is test so more =
    ap (λ places. places ++ holders_from (k + 1) (drop (k + 1) outputs)) more
    ∙ append_assoc held (k ∷ []) (holders_from (k + 1) (drop (k + 1) outputs))
    ∙ ap (λ places. held ++ places) (sym (ap (holders_from k) (drop_next outputs k output within is) ∙ holder_found k output (drop (k + 1) outputs) test))
    ∙ so

pub holds_all : (outputs : List TxOut) (k : ℕ) (held all : List ℕ) → length outputs ≤ k → held ++ holders_from k (drop k outputs) ≡ all → held ≡ all
holds_all outputs k held all over so =
    sym (append-nil held) ∙ ap (λ places. held ++ places) (sym (ap (holders_from k) (drop_none outputs k over) ∙ holders_end k)) ∙ so

-- the first of them is a place too
pub first_within : (count : ℕ) (places : List ℕ) → AllByRecursion (λ p. p < count) places → (place : ℕ) → slice_get places 0 ≡ Some place → place < count
first_within count [] within place is = absurd (cc is)
first_within count (first ∷ places) within place is = let same : first ≡ place = cc is in subst (λ p. p < count) same within.0

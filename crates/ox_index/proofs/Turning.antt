-- A block's transactions take their turns, one after the other.
use Rattle.std.proofs.Common.{◌≡◌, ◌≢◌, ◌∙◌, ◌≤◌, ◌<◌, ℕ, ◌+◌, List, [], ◌∷◌, length, drop, get_or, refl, sym, ap, arith, inl, inr, ◌⊎◌, Bool, true, false, nat_lt}
use Rattle.std.specs.Prelude.{min}
use Rattle.std.specs.List.{AllByRecursion}
use Rattle.std.proofs.lemmas.Bool.{ltb-false, ltb-true}
use Rattle.std.proofs.lemmas.List.{drop_more, drop_all}
use Rattle.std.proofs.lemmas.List.Elements.{recursion_from_All}
use Rattle.ox_block.specs.declared.block.Tx.{Tx}
use Rattle.ox_sat.specs.declared.profiles.Profile.{Profile}
use Rattle.ox_rules.specs.declared.moved.MovedTx.{MovedTx}
use Rattle.ox_etching.specs.declared.row.RuneRow.{RuneRow}
use Rattle.ox_ledger.specs.Block.{turn_all, turn_at}
use Rattle.ox_ledger.specs.Runes.{Runes}
use Rattle.ox_model.proofs.FreePlaces.{IsOpen}
use Rattle.ox_index.specs.Held.{NoneOf}

-- the turns from a place on
abbrev pub turns_from : Profile → ℕ → ℕ → List Tx → List MovedTx → Runes → Runes
turns_from p height place txs moved state = turn_all p height place (drop place txs) (drop place moved) state

pub turn_more : (p : Profile) (height place : ℕ) (txs : List Tx) (moved : List MovedTx) (tx : Tx) (did : MovedTx) (state : Runes)
    → place < length txs → place < length moved → tx ≡ get_or txs place tx → did ≡ get_or moved place did
    → turns_from p height place txs moved state ≡ turns_from p height (place + 1) txs moved (turn_at p height place tx did state)
unfolding turn_all
turn_more p height place txs moved tx did state more less tx_is did_is =
    let front : drop place txs ≡ tx ∷ drop (place + 1) txs = drop_more txs place tx more ∙ ap (λ (x : Tx). x ∷ drop (place + 1) txs) (sym tx_is) in
    let first : drop place moved ≡ did ∷ drop (place + 1) moved = drop_more moved place did less ∙ ap (λ (x : MovedTx). x ∷ drop (place + 1) moved) (sym did_is) in
    λ i. turn_all p height place (front i) (first i) state

no_txs : (p : Profile) (height place : ℕ) (txs : List Tx) (moved : List MovedTx) (state : Runes) → (txs ≡ []) ⊎ (moved ≡ []) → turn_all p height place txs moved state ≡ state
unfolding turn_all
no_txs p height place [] moved state none = refl
no_txs p height place (tx ∷ txs) [] state none = refl
no_txs p height place (tx ∷ txs) (did ∷ moved) state (inl none) = absurd (cc none)
no_txs p height place (tx ∷ txs) (did ∷ moved) state (inr none) = absurd (cc none)

done_by : (p : Profile) (height place : ℕ) (txs : List Tx) (moved : List MovedTx) (state : Runes) → (length txs ≤ place) ⊎ (length moved ≤ place)
    → turns_from p height place txs moved state ≡ state
done_by p height place txs moved state (inl le) = no_txs p height place (drop place txs) (drop place moved) state (inl (drop_all place txs le))
done_by p height place txs moved state (inr le) = no_txs p height place (drop place txs) (drop place moved) state (inr (drop_all place moved le))

-- none is left where one of the lists ends
pub turn_done : (p : Profile) (height place : ℕ) (txs : List Tx) (moved : List MovedTx) (state : Runes) → min (length txs) (length moved) ≤ place
    → turns_from p height place txs moved state ≡ state
turn_done p height place txs moved state le = by_test (nat_lt place (length txs)) refl where
  by_test : (b : Bool) → nat_lt place (length txs) ≡ b → turns_from p height place txs moved state ≡ state
  by_test true more = done_by p height place txs moved state (inr (omega (arith, le, ltb-true _ _ more)))
  by_test false enough = done_by p height place txs moved state (inl (ltb-false _ _ enough))

-- where no rune is of the height, none was etched at a place of it
none_open : (height : ℕ) (runes : List RuneRow) → AllByRecursion (λ (row : RuneRow). row.id.block ≢ height) runes
    → AllByRecursion (λ (row : RuneRow). row.id.block ≡ height → row.id.tx < 0) runes
none_open height [] none = tt
none_open height (row ∷ runes) none = ((λ same. absurd (none.0 same)), none_open height runes none.1)

pub open_at_first : (p : Profile) (height : ℕ) (runes : List RuneRow) → NoneOf p height runes → IsOpen p height 0 runes
open_at_first p height runes none start =
    none_open height runes (recursion_from_All (λ (row : RuneRow). row.id.block ≢ height) runes (none start))

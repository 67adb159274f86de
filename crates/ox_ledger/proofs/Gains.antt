-- What a step adds to each rune.
use Rattle.std.proofs.Common.{◌≡◌, ◌∙◌, ℕ, ◌+◌, List, [], ◌∷◌, map, refl, sym, ap, arith}
use Rattle.std.specs.List.{AllZip}
use Rattle.ox_block.specs.declared.block.Txid.{Txid}
use Rattle.ox_runestone.specs.declared.stone.RuneId.{RuneId}
use Rattle.ox_allocation.specs.Balances.{Balance, amount_in}
use Rattle.ox_etching.specs.declared.row.RuneRow.{RuneRow}
use Rattle.ox_ledger.specs.Balanced.{amount_held, amount_there}
use Rattle.ox_ledger.specs.Runes.{Placement, Runes, balances_at, burn_of, place, place_all, placements}
use Rattle.ox_ledger.proofs.Held.{amount_held-cons, amount_held_in, held-with_balances}

-- there is so much more of a rune, and nothing else of it changes than what was burned
pub record Gains (gain : RuneId → ℕ) (before after : Runes) (old new : RuneRow) : Type 0 where
  pub stays : new ≡ record old { burned = new.burned }
  pub amount : amount_there after new ≡ amount_there before old + gain old.id

pub all_mapped : {A B : Type 0} (R : A → B → Type 0) (f : A → B) → ((x : A) → R x (f x)) → (xs : List A) → AllZip R xs (map f xs)
all_mapped R f each [] = tt
all_mapped R f each (x ∷ xs) = (each x, all_mapped R f each xs)

pub all_then : {A B C : Type 0} (R : A → B → Type 0) (S : B → C → Type 0) (Q : A → C → Type 0) → ((x : A) (y : B) (z : C) → R x y → S y z → Q x z)
    → (xs : List A) (ys : List B) (zs : List C) → AllZip R xs ys → AllZip S ys zs → AllZip Q xs zs
all_then R S Q join [] [] [] first then = tt
all_then R S Q join [] [] (z ∷ zs) first then = absurd then
all_then R S Q join [] (y ∷ ys) zs first then = absurd first
all_then R S Q join (x ∷ xs) [] zs first then = absurd first
all_then R S Q join (x ∷ xs) (y ∷ ys) [] first then = absurd then
all_then R S Q join (x ∷ xs) (y ∷ ys) (z ∷ zs) first then = (join x y z first.0 then.0, all_then R S Q join xs ys zs first.1 then.1)

pub all_weaker : {A B : Type 0} (R S : A → B → Type 0) → ((x : A) (y : B) → R x y → S x y) → (xs : List A) (ys : List B) → AllZip R xs ys → AllZip S xs ys
all_weaker R S weak [] [] all = tt
all_weaker R S weak [] (y ∷ ys) all = absurd all
all_weaker R S weak (x ∷ xs) [] all = absurd all
all_weaker R S weak (x ∷ xs) (y ∷ ys) all = (weak x y all.0, all_weaker R S weak xs ys all.1)

abbrev pub AllGain : (RuneId → ℕ) → Runes → Runes → Type 0
AllGain gain before after = AllZip (Gains gain before after) before.runes after.runes

one_gains_then : (g h k : RuneId → ℕ) (a b c : Runes) → ((id : RuneId) → g id + h id ≡ k id) → (x y z : RuneRow) → Gains g a b x y → Gains h b c y z → Gains k a c x z
one_gains_then g h k a b c sum x y z first then =
    let id : h y.id ≡ h x.id = ap (λ (row : RuneRow). h row.id) first.stays in
    record {
      stays = then.stays ∙ ap (λ (row : RuneRow). record row { burned = z.burned }) first.stays;
      amount = omega (arith, first.amount, then.amount, id, sum x.id);
    }

pub gain_then : (g h k : RuneId → ℕ) (a b c : Runes) → ((id : RuneId) → g id + h id ≡ k id) → AllGain g a b → AllGain h b c → AllGain k a c
gain_then g h k a b c sum first then = all_then (Gains g a b) (Gains h b c) (Gains k a c) (one_gains_then g h k a b c sum) a.runes b.runes c.runes first then

-- one step: so much more is burned of each rune, and outputs and what is due hold more or less
pub step_gains : (gain burns : RuneId → ℕ) (before after : Runes)
    → ((id : RuneId) → amount_held_in after.bal id + amount_held (map (λ new. new.1) after.due) id + burns id ≡ amount_held_in before.bal id + amount_held (map (λ new. new.1) before.due) id + gain id)
    → (row : RuneRow) → Gains gain before after row (record row { burned = row.burned + burns row.id })
step_gains gain burns before after total row = record { stays = refl; amount = omega (arith, total row.id) }

pub place_gains : (state : Runes) (new : Placement) → AllGain (λ id. amount_in new.1 id) state (place state new)
place_gains state new =
    all_mapped (Gains (λ id. amount_in new.1 id) state (place state new)) (burn_of (balances_at state.bal new.0))
    (step_gains (λ id. amount_in new.1 id) (λ id. amount_in (balances_at state.bal new.0) id) state (place state new) (λ id. omega (arith, held-with_balances state.bal new.0 new.1 id)))
    state.runes

nothing_gained : (state : Runes) (rows : List RuneRow) → AllZip (Gains (λ id. 0) state state) rows rows
nothing_gained state [] = tt
nothing_gained state (row ∷ rows) = (record { stays = refl; amount = omega arith }, nothing_gained state rows)

abbrev pub amount_placed : List Placement → RuneId → ℕ
amount_placed new id = amount_held (map (λ one. one.1) new) id

pub place_all_gains : (state : Runes) (new : List Placement) → AllGain (amount_placed new) state (place_all state new)
unfolding place_all
place_all_gains state [] = nothing_gained state state.runes
place_all_gains state (one ∷ more) =
    gain_then (λ id. amount_in one.1 id) (amount_placed more) (amount_placed (one ∷ more)) state (place state one) (place_all (place state one) more)
    (λ id. sym (amount_held-cons one.1 (map (λ new. new.1) more) id)) (place_gains state one) (place_all_gains (place state one) more)

-- what is given to outputs is what is placed
pub placed-placements : (txid : Txid) (index : ℕ) (given : List (List Balance)) → map (λ new. new.1) (placements txid index given) ≡ given
unfolding placements
placed-placements txid index [] = refl
placed-placements txid index (balances ∷ given) = ap (λ (rest : List (List Balance)). balances ∷ rest) (placed-placements txid (index + 1) given)

-- What the edicts leave, rune by rune.
use Rattle.std.proofs.Common.{◌≡◌, ◌∙◌, ℕ, ◌+◌, ◌-◌, ◌^◌, ◌<◌, ◌≤◌, List, [], ◌∷◌, refl, sym, ap, subst, arith, Bool, true, false, cond, Some}
use Rattle.std.specs.Prelude.{unwrap_or, if◌then◌else◌}
use Rattle.std.specs.BTreeMap.{is_at}
use Rattle.std.specs.List.Sorted.{IsStrictlySortedBy}
use Rattle.std.proofs.lemmas.Map.{lookup-none}
use Rattle.std.proofs.lemmas.Map.Entries.{none_past_head}
use Rattle.std.proofs.lemmas.Map.Keys.{IsDistinct-from_sorted, sorted_tail}
use Rattle.ox_block.specs.declared.block.TxOut.{TxOut}
use Rattle.ox_runestone.specs.declared.stone.RuneId.{RuneId}
use Rattle.ox_allocation.specs.Allocation.{Allocation}
use Rattle.ox_allocation.specs.Balances.{Balance, amount_in, id_cmp, ids_of, is_same, with_more}
use Rattle.ox_allocation.specs.Gifts.{Gift}
use Rattle.ox_allocation.specs.Dealing.{Fits, gifts_for, hand, less, with_all, with_gift, with_gifts}
use Rattle.ox_allocation.proofs.Ids.{ids_equiv, same_id, same_itself, same_turned}
use Rattle.ox_allocation.proofs.Amounts.{amount-with_more, find}
use Rattle.ox_allocation.proofs.Handing.{fits-with_gift, fits_fewer}

-- the first rune isn't among the others
pub first_alone : (e : Balance) (rest : List Balance) → IsStrictlySortedBy id_cmp (ids_of (e ∷ rest)) → amount_in rest e.0 ≡ 0
first_alone e rest rising =
    ap (λ x. unwrap_or x 0) (lookup-none (is_at (id_cmp e.0)) rest (none_past_head ids_equiv e.0 e rest (IsDistinct-from_sorted id_cmp (ids_of (e ∷ rest)) rising) (same_itself e.0)))

pub first_amount : (e : Balance) (rest : List Balance) → amount_in (e ∷ rest) e.0 ≡ e.1
first_amount e rest = ap (λ b. unwrap_or (cond b (Some e.1) (find e.0 rest)) 0) (same_itself e.0)

fewer_by : (e : Balance) (rest : List Balance) (id : RuneId) → amount_in rest e.0 ≡ 0 → (b : Bool) → is_same id e.0 ≡ b
    → amount_in rest id ≤ (if b then unwrap_or (cond b (Some e.1) (find id rest)) 0 - e.1 else unwrap_or (cond b (Some e.1) (find id rest)) 0)
fewer_by e rest id alone true is = let none : amount_in rest id ≡ 0 = ap (amount_in rest) (same_id id e.0 is) ∙ alone in omega arith
fewer_by e rest id alone false is = omega arith

fewer : (e : Balance) (rest : List Balance) → IsStrictlySortedBy id_cmp (ids_of (e ∷ rest)) → (id : RuneId) → amount_in rest id ≤ less (e ∷ rest) e.0 e.1 id
fewer e rest rising id =
    subst (λ b. amount_in rest id ≤ (if b then amount_in (e ∷ rest) id - e.1 else amount_in (e ∷ rest) id)) (same_turned id e.0)
    (fewer_by e rest id (first_alone e rest rising) (is_same id e.0) refl)

abbrev gift_for : ℕ → Balance → Gift
gift_for place e = record { output = place; id = e.0; amount = e.1 }

-- What is still to be handed: with it the hands are as they shall be.
pub record IsHanding (outputs : List TxOut) (place : ℕ) (all : Allocation) (rest : List Balance) (now : Allocation) : Type 0 where
  pub whole : with_gifts outputs now (gifts_for place rest) ≡ all
  pub fits : Fits (amount_in rest) now
  pub rising : IsStrictlySortedBy id_cmp (ids_of rest)

pub hands_on : (outputs : List TxOut) (place : ℕ) (all : Allocation) (e : Balance) (rest : List Balance) (now new : Allocation)
    → IsHanding outputs place all (e ∷ rest) now → new ≡ with_gift outputs now (gift_for place e) → IsHanding outputs place all rest new
unfolding with_gifts
hands_on outputs place all e rest now new is more =
    let enough : e.1 ≤ amount_in (e ∷ rest) e.0 = let f = first_amount e rest in omega arith in
    subst (λ hands. IsHanding outputs place all rest hands) (sym more) (record {
      whole = is.whole;
      fits = fits_fewer (less (e ∷ rest) e.0 e.1) (amount_in rest) _ (fewer e rest is.rising) (fits-with_gift outputs (e ∷ rest) now (gift_for place e) enough is.fits);
      rising = sorted_tail id_cmp e.0 (ids_of rest) is.rising;
    })

pub handed_fits : (outputs : List TxOut) (place : ℕ) (all : Allocation) (e : Balance) (rest : List Balance) (now : Allocation) → IsHanding outputs place all (e ∷ rest) now
    → amount_in (hand now place) e.0 + e.1 < 2 ^ 128
handed_fits outputs place all e rest now is = let f = is.fits.given place e.0 in let a = first_amount e rest in omega arith

pub handed_burned_fits : (outputs : List TxOut) (place : ℕ) (all : Allocation) (e : Balance) (rest : List Balance) (now : Allocation) → IsHanding outputs place all (e ∷ rest) now
    → amount_in now.burned e.0 + e.1 < 2 ^ 128
handed_burned_fits outputs place all e rest now is = let f = is.fits.burned e.0 in let a = first_amount e rest in omega arith

pub hands_all : (outputs : List TxOut) (place : ℕ) (all : Allocation) (now : Allocation) → IsHanding outputs place all [] now → now ≡ all
unfolding with_gifts
hands_all outputs place all now is = is.whole

-- What is still to be burned.
pub record IsBurning (all : List Balance) (rest now : List Balance) : Type 0 where
  pub whole : with_all now rest ≡ all
  pub fits : (id : RuneId) → amount_in now id + amount_in rest id < 2 ^ 128
  pub rising : IsStrictlySortedBy id_cmp (ids_of rest)

burns_still : (b : Bool) (had has left amount rest : ℕ) → has ≡ had + (if b then amount else 0) → (b ≡ true → amount ≤ left) → had + left < 2 ^ 128
    → rest ≤ (if b then left - amount else left) → has + rest < 2 ^ 128
burns_still true had has left amount rest more enough fits few = let e = enough refl in omega arith
burns_still false had has left amount rest more enough fits few = omega arith

pub burns_on : (all : List Balance) (e : Balance) (rest now new : List Balance) → IsBurning all (e ∷ rest) now → new ≡ with_more now e.0 e.1 → IsBurning all rest new
unfolding with_all
burns_on all e rest now new is more =
    subst (λ balances. IsBurning all rest balances) (sym more) (record {
      whole = is.whole;
      fits = λ id.
          let there : is_same e.0 id ≡ true → e.1 ≤ amount_in (e ∷ rest) id = λ same. let f = sym (first_amount e rest) ∙ ap (amount_in (e ∷ rest)) (same_id e.0 id same) in omega arith in
          burns_still (is_same e.0 id) (amount_in now id) _ (amount_in (e ∷ rest) id) e.1 (amount_in rest id) (amount-with_more now e.0 e.1 id) there (is.fits id) (fewer e rest is.rising id);
      rising = sorted_tail id_cmp e.0 (ids_of rest) is.rising;
    })

pub burned_fits : (all : List Balance) (e : Balance) (rest now : List Balance) → IsBurning all (e ∷ rest) now → amount_in now e.0 + e.1 < 2 ^ 128
burned_fits all e rest now is = let f = is.fits e.0 in let a = first_amount e rest in omega arith

pub burns_all : (all now : List Balance) → IsBurning all [] now → now ≡ all
unfolding with_all
burns_all all now is = is.whole

-- Gifts put into hands: what each hand has after them.
use Rattle.std.proofs.Common.{◌≡◌, ◌∙◌, ℕ, ◌+◌, ◌-◌, ◌^◌, ◌<◌, ◌≤◌, List, [], ◌∷◌, ◌++◌, length, append_assoc, refl, sym, ap, subst, arith, Bool, true, false, slice_index_or, slice_set, zero, suc, Some}
use Rattle.std.specs.Prelude.{◌==◌, ◌&&◌, nat_lt, slice_get, replicate, if◌then◌else◌}
use Rattle.std.proofs.lemmas.List.{length-set, get_or-set_same, get_or-set_other, get_or_read, set_past}
use Rattle.std.proofs.lemmas.Bool.Decides.{nat_tests}
use Rattle.std.specs.declared.result.Result.{Result}
use Rattle.std.specs.declared.result.Result.TheVariants.{Ok, Err}
use Rattle.std.specs.Result.{OnOk}
use Rattle.ox_script.specs.Shape.{is_return}
use Rattle.ox_block.specs.declared.block.TxOut.{TxOut}
use Rattle.ox_runestone.specs.declared.stone.RuneId.{RuneId}
use Rattle.ox_allocation.specs.Balances.{Balance, amount_in, is_same, with_more}
use Rattle.ox_allocation.specs.Gifts.{Gift, Left}
use Rattle.ox_allocation.specs.Allocation.{Allocation}
use Rattle.ox_allocation.specs.Dealing.{Fits, burns, empty_hands, hand, less, with_gift, with_gifts}
use Rattle.ox_allocation.proofs.Ids.{same_id}
use Rattle.ox_allocation.proofs.Amounts.{amount-with_more}

-- what a gift gives of a rune, to whomever
abbrev pub gain : Gift → RuneId → ℕ
gain gift id = if is_same gift.id id then gift.amount else 0

pub equal_from : (a b : ℕ) → (a == b) ≡ true → b ≡ a
equal_from a b is = grind (arith, nat_tests)

pub apart_from : (a b : ℕ) → (a == b) ≡ false → b ≡ a → ⊥
apart_from a b is same = grind (arith, nat_tests)

-- what a gift gives of a rune to the output at a place
abbrev pub gain_at : ℕ → Gift → RuneId → ℕ
gain_at place gift id = if gift.output == place && is_same gift.id id then gift.amount else 0

put_at : (hands : Allocation) (gift : Gift) (place : ℕ) (id : RuneId) → gift.output < length hands.given → (b : Bool) → (gift.output == place) ≡ b
    → amount_in (slice_index_or (slice_set hands.given gift.output (with_more (hand hands gift.output) gift.id gift.amount)) place []) id
    ≡ amount_in (hand hands place) id + (if b && is_same gift.id id then gift.amount else 0)
put_at hands gift place id within true is =
    let same : place ≡ gift.output = equal_from gift.output place is in
    rw same (ap (λ balances. amount_in balances id) (get_or-set_same hands.given gift.output (with_more (hand hands gift.output) gift.id gift.amount) [] within)
    ∙ amount-with_more (hand hands gift.output) gift.id gift.amount id)
put_at hands gift place id within false is =
    ap (λ balances. amount_in balances id) (get_or-set_other hands.given gift.output place (with_more (hand hands gift.output) gift.id gift.amount) [] (apart_from gift.output place is))
    ∙ omega arith

given_by_test : (hands : Allocation) (gift : Gift) (place : ℕ) (id : RuneId) (b : Bool) → gift.output < length hands.given
    → amount_in (hand (if b then record hands { burned = with_more hands.burned gift.id gift.amount } else record hands { given = slice_set hands.given gift.output (with_more (hand hands gift.output) gift.id gift.amount) }) place) id
    ≡ amount_in (hand hands place) id + (if b then 0 else gain_at place gift id)
given_by_test hands gift place id true within = omega arith
given_by_test hands gift place id false within = put_at hands gift place id within (gift.output == place) refl

-- what the output at a place has after a gift
pub hand-with_gift : (outputs : List TxOut) (hands : Allocation) (gift : Gift) (place : ℕ) (id : RuneId) → gift.output < length hands.given
    → amount_in (hand (with_gift outputs hands gift) place) id ≡ amount_in (hand hands place) id + (if burns (slice_get outputs gift.output) then 0 else gain_at place gift id)
unfolding with_gift
hand-with_gift outputs hands gift place id within = given_by_test hands gift place id (burns (slice_get outputs gift.output)) within

past_by_test : (hands : Allocation) (gift : Gift) (place : ℕ) (id : RuneId) (burned new : List Balance) (b : Bool) → length hands.given ≤ gift.output
    → amount_in (hand (if b then record hands { burned = burned } else record hands { given = slice_set hands.given gift.output new }) place) id ≡ amount_in (hand hands place) id
past_by_test hands gift place id burned new true past = refl
past_by_test hands gift place id burned new false past = ap (λ (given : List (List Balance)). amount_in (slice_index_or given place []) id) (set_past hands.given gift.output new past)

-- a gift to an output that isn't there changes no hand
hand_past : (outputs : List TxOut) (hands : Allocation) (gift : Gift) (place : ℕ) (id : RuneId) → length hands.given ≤ gift.output
    → amount_in (hand (with_gift outputs hands gift) place) id ≡ amount_in (hand hands place) id
unfolding with_gift
hand_past outputs hands gift place id past = past_by_test hands gift place id _ _ (burns (slice_get outputs gift.output)) past

burned_by_test : (hands : Allocation) (gift : Gift) (id : RuneId) (given : List (List Balance)) (b : Bool)
    → amount_in (if b then record hands { burned = with_more hands.burned gift.id gift.amount } else record hands { given = given }).burned id
    ≡ amount_in hands.burned id + (if b then gain gift id else 0)
burned_by_test hands gift id given true = amount-with_more hands.burned gift.id gift.amount id
burned_by_test hands gift id given false = omega arith

-- what is burned after a gift
pub burned-with_gift : (outputs : List TxOut) (hands : Allocation) (gift : Gift) (id : RuneId)
    → amount_in (with_gift outputs hands gift).burned id ≡ amount_in hands.burned id + (if burns (slice_get outputs gift.output) then gain gift id else 0)
unfolding with_gift
burned-with_gift outputs hands gift id = burned_by_test hands gift id _ (burns (slice_get outputs gift.output))

count_by_test : (hands : Allocation) (place : ℕ) (burned new : List Balance) (b : Bool)
    → length (if b then record hands { burned = burned } else record hands { given = slice_set hands.given place new }).given ≡ length hands.given
count_by_test hands place burned new true = refl
count_by_test hands place burned new false = length-set hands.given place new

-- as many outputs after a gift
pub count-with_gift : (outputs : List TxOut) (hands : Allocation) (gift : Gift) → length (with_gift outputs hands gift).given ≡ length hands.given
unfolding with_gift
count-with_gift outputs hands gift = count_by_test hands gift.output _ _ (burns (slice_get outputs gift.output))

pub on_ok : {A E P Q : Type 0} (r : Result A E) → (P → Q) → OnOk r P → OnOk r Q
on_ok (Ok a) f p = f p
on_ok (Err e) f p = p

pub found_output : (outputs : List TxOut) (place : ℕ) (output : TxOut) → place < length outputs → output ≡ slice_index_or outputs place output → slice_get outputs place ≡ Some output
found_output [] place output within is = absurd (omega arith)
found_output (first ∷ outputs) zero output within is = ap Some (sym is)
found_output (first ∷ outputs) (suc place) output within is = found_output outputs place output (omega arith) is

burns_found : (outputs : List TxOut) (place : ℕ) (output : TxOut) (b : Bool) → place < length outputs → output ≡ slice_index_or outputs place output → is_return output.script ≡ b
    → burns (slice_get outputs place) ≡ b
burns_found outputs place output b within is test = ap burns (found_output outputs place output within is) ∙ test

-- a gift to an output with OP_RETURN
pub gift_burned : (outputs : List TxOut) (place : ℕ) (output : TxOut) (hands : Allocation) (id : RuneId) (amount : ℕ) (burned : List Balance)
    → place < length outputs → output ≡ slice_index_or outputs place output → is_return output.script ≡ true → burned ≡ with_more hands.burned id amount
    → record hands { burned = burned } ≡ with_gift outputs hands (record { output = place; id = id; amount = amount })
unfolding with_gift
gift_burned outputs place output hands id amount burned within is test new =
    rw (burns_found outputs place output true within is test) (ap (λ x. record hands { burned = x }) new)

-- a gift to another output
pub gift_held : (outputs : List TxOut) (place : ℕ) (output : TxOut) (hands : Allocation) (id : RuneId) (amount : ℕ) (old new : List Balance)
    → place < length outputs → length hands.given ≡ length outputs → output ≡ slice_index_or outputs place output → is_return output.script ≡ false
    → old ≡ slice_index_or hands.given place old → new ≡ with_more old id amount
    → record hands { given = slice_set hands.given place new } ≡ with_gift outputs hands (record { output = place; id = id; amount = amount })
unfolding with_gift
gift_held outputs place output hands id amount old new within count is test was more =
    let there : old ≡ hand hands place = get_or_read hands.given place old (omega arith) was [] in
    rw (burns_found outputs place output false within is test) (ap (λ x. record hands { given = slice_set hands.given place x }) (more ∙ ap (λ x. with_more x id amount) there))

pub with_gifts-append : (outputs : List TxOut) (hands : Allocation) (gifts more : List Gift) → with_gifts outputs hands (gifts ++ more) ≡ with_gifts outputs (with_gifts outputs hands gifts) more
unfolding with_gifts
with_gifts-append outputs hands [] more = refl
with_gifts-append outputs hands (gift ∷ gifts) more = with_gifts-append outputs (with_gift outputs hands gift) gifts more

-- ---- amounts stay amounts

given_at_most : (burnt here same : Bool) (amount : ℕ) → (if burnt then 0 else (if here && same then amount else 0)) ≤ (if same then amount else 0)
given_at_most true here same amount = omega arith
given_at_most false true same amount = omega arith
given_at_most false false same amount = omega arith

burned_at_most : (burnt : Bool) (n : ℕ) → (if burnt then n else 0) ≤ n
burned_at_most true n = omega arith
burned_at_most false n = omega arith

fits_still : (b : Bool) (had has left amount : ℕ) → has ≤ had + (if b then amount else 0) → (b ≡ true → amount ≤ left) → had + left < 2 ^ 128
    → has + (if b then left - amount else left) < 2 ^ 128
fits_still true had has left amount more enough fits = let e = enough refl in omega arith
fits_still false had has left amount more enough fits = omega arith

at_most_by_test : (outputs : List TxOut) (hands : Allocation) (gift : Gift) (place : ℕ) (id : RuneId) (b : Bool) → nat_lt gift.output (length hands.given) ≡ b
    → amount_in (hand (with_gift outputs hands gift) place) id ≤ amount_in (hand hands place) id + gain gift id
at_most_by_test outputs hands gift place id true is =
    let e = hand-with_gift outputs hands gift place id (grind (arith, nat_tests)) in
    let m = given_at_most (burns (slice_get outputs gift.output)) (gift.output == place) (is_same gift.id id) gift.amount in
    omega arith
at_most_by_test outputs hands gift place id false is =
    let e = hand_past outputs hands gift place id (grind (arith, nat_tests)) in
    omega arith

-- what the output at a place has after a gift is at most what it had and the gift
hand_at_most : (outputs : List TxOut) (hands : Allocation) (gift : Gift) (place : ℕ) (id : RuneId)
    → amount_in (hand (with_gift outputs hands gift) place) id ≤ amount_in (hand hands place) id + gain gift id
hand_at_most outputs hands gift place id = at_most_by_test outputs hands gift place id (nat_lt gift.output (length hands.given)) refl

pub fits-with_gift : (outputs : List TxOut) (left : List Balance) (hands : Allocation) (gift : Gift)
    → gift.amount ≤ amount_in left gift.id → Fits (amount_in left) hands → Fits (less left gift.id gift.amount) (with_gift outputs hands gift)
fits-with_gift outputs left hands gift enough fits =
    let there : (id : RuneId) → is_same gift.id id ≡ true → gift.amount ≤ amount_in left id = λ id is. subst (λ x. gift.amount ≤ amount_in left x) (same_id gift.id id is) enough in
    record {
      given = λ place id.
          fits_still (is_same gift.id id) (amount_in (hand hands place) id) _ (amount_in left id) gift.amount (hand_at_most outputs hands gift place id) (there id) (fits.given place id);
      burned = λ id.
          let e = burned-with_gift outputs hands gift id in
          let m = burned_at_most (burns (slice_get outputs gift.output)) (gain gift id) in
          fits_still (is_same gift.id id) (amount_in hands.burned id) _ (amount_in left id) gift.amount (omega arith) (there id) (fits.burned id);
    }

-- so is what is left once a gift was given
pub fits_after_gift : (outputs : List TxOut) (left fewer : Left) (hands : Allocation) (gift : Gift) → ((id : RuneId) → fewer id + gain gift id ≤ left id) → Fits left hands
    → Fits fewer (with_gift outputs hands gift)
fits_after_gift outputs left fewer hands gift le fits = record {
  given = λ place id. let h = hand_at_most outputs hands gift place id in let l = le id in let f = fits.given place id in omega arith;
  burned = λ id.
      let e = burned-with_gift outputs hands gift id in
      let m = burned_at_most (burns (slice_get outputs gift.output)) (gain gift id) in
      let l = le id in
      let f = fits.burned id in
      omega arith;
}

pub fits_fewer : (left fewer : Left) (hands : Allocation) → ((id : RuneId) → fewer id ≤ left id) → Fits left hands → Fits fewer hands
fits_fewer left fewer hands le fits = record {
  given = λ place id. let e = fits.given place id in let l = le id in omega arith;
  burned = λ id. let e = fits.burned id in let l = le id in omega arith;
}

pub empty_hand : (count place : ℕ) → slice_index_or {A = List Balance} (replicate count []) place [] ≡ []
empty_hand zero place = refl
empty_hand (suc count) zero = refl
empty_hand (suc count) (suc place) = empty_hand count place

hands_end : (count : ℕ) → replicate {A = List Balance} count [] ++ [] ∷ [] ≡ replicate (suc count) []
hands_end zero = refl
hands_end (suc count) = ap (λ (hands : List (List Balance)). [] ∷ hands) (hands_end count)

-- one more empty hand
pub one_more_hand : (count : ℕ) (given : List (List Balance)) (new : List Balance) → new ≡ [] → given ≡ replicate count [] → given ++ new ∷ [] ≡ replicate (count + 1) []
one_more_hand count given new none so_far =
    let next : count + 1 ≡ suc count = omega arith in
    ap (λ (hands : List (List Balance)). hands ++ new ∷ []) so_far ∙ ap (λ (hand : List Balance). replicate count [] ++ hand ∷ []) none
    ∙ hands_end count ∙ ap (λ n. replicate {A = List Balance} n []) (sym next)

-- what was first in a row is now behind what was taken of it
pub moved_on : {A : Type 0} (taken rest fewer all more : List A) (first last : A) → rest ≡ first ∷ fewer → last ≡ first → more ≡ taken ++ last ∷ [] → taken ++ rest ≡ all → more ++ fewer ≡ all
moved_on taken rest fewer all more first last is same made so_far =
    ap (λ xs. xs ++ fewer) (made ∙ ap (λ x. taken ++ x ∷ []) same) ∙ append_assoc taken (first ∷ []) fewer ∙ ap (λ xs. taken ++ xs) (sym is) ∙ so_far

-- with empty hands all that is left fits
pub fits_at_first : (left : Left) (hands : Allocation) (count : ℕ) → hands ≡ empty_hands count → ((id : RuneId) → left id < 2 ^ 128) → Fits left hands
fits_at_first left hands count is small = rw is (record {
  given = λ place id. let e = ap (λ balances. amount_in balances id) (empty_hand count place) in let s = small id in omega arith;
  burned = λ id. let s = small id in omega arith;
})

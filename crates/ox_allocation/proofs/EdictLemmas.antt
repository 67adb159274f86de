-- Edicts take what is left.
use Rattle.std.proofs.Common.{◌≡◌, ◌∙◌, ◌<◌, ◌+◌, ◌-◌, ◌/◌, ◌%◌, ℕ, Bool, true, false, cond, List, [], ◌∷◌, ◌++◌, length, refl, sym, ap, ap₂, arith, Option, nat_lt, append_assoc}
use Rattle.std.specs.Prelude.{min, ◌==◌}
use Rattle.std.proofs.lemmas.List.{append-nil}
use Rattle.std.proofs.lemmas.Bool.Decides.{nat_tests}
use Rattle.ox_block.specs.declared.block.TxOut.{TxOut}
use Rattle.ox_runestone.specs.declared.stone.RuneId.{RuneId}
use Rattle.ox_runestone.specs.declared.stone.Edict.{Edict}
use Rattle.ox_allocation.specs.Asked.{EdictsGive, asked_of}
use Rattle.ox_allocation.specs.Balances.{is_same}
use Rattle.ox_allocation.specs.Gifts.{Gift, Left, amount_given, given_by, gifts_by, gifts_of, gifts_to, left_after, parts_of, parts_while, even_parts, rune_of, holders}

given-append : (id : RuneId) (x y : List Gift) → amount_given id (x ++ y) ≡ amount_given id x + amount_given id y
unfolding amount_given
given-append id [] y = omega arith
given-append id (gift ∷ x) y = by (is_same gift.id id) (given-append id x y)
  where
    by : (b : Bool) → amount_given id (x ++ y) ≡ amount_given id x + amount_given id y
        → cond b (gift.amount + amount_given id (x ++ y)) (amount_given id (x ++ y)) ≡ cond b (gift.amount + amount_given id x) (amount_given id x) + amount_given id y
    by true e = omega (arith, e)
    by false e = e

left-append : (x y : List Gift) (left : Left) → left_after y (left_after x left) ≡ left_after (x ++ y) left
left-append x y left = λ i id. (let e = given-append id x y in let s : (left id - amount_given id x) - amount_given id y ≡ left id - amount_given id (x ++ y) = omega (arith, e) in s i)

none-left : (left : Left) → left ≡ left_after [] left
unfolding amount_given
none-left left = λ i id. (let s : left id ≡ left id - 0 = omega arith in s i)

pub later : (outputs : List TxOut) (etched : Option RuneId) (first more : List Edict) (left : Left)
    → given_by outputs etched (first ++ more) left
    ≡ given_by outputs etched first left ++ given_by outputs etched more (left_after (given_by outputs etched first left) left)
unfolding given_by
later outputs etched [] more left = ap (given_by outputs etched more) (none-left left)
later outputs etched (edict ∷ first) more left =
    let now = gifts_by outputs edict left (rune_of etched edict.id) in
    let here = left_after now left in
    let then_ = given_by outputs etched first here in
    ap (λ (l : List Gift). now ++ l) (later outputs etched first more here ∙ ap (λ (s : Left). then_ ++ given_by outputs etched more s) (left-append now then_ left))
    ∙ sym (append_assoc now then_ (given_by outputs etched more (left_after (now ++ then_) left)))

-- all of what is left is one even part
one_even : (left : ℕ) → even_parts (left / 1) (left % 1) 1 ≡ left ∷ []
unfolding even_parts
one_even left =
    let whole : left / 1 ≡ left = omega arith in
    let none : left % 1 ≡ 0 = omega arith in
    ap₂ (λ (s e : ℕ). even_parts s e 1) whole none

one_part : (amount left : ℕ) → parts_of amount left 1 ≡ asked_of amount left ∷ []
unfolding parts_while
one_part amount left = by (amount == 0)
  where
    by : (b : Bool) → cond b (even_parts (left / 1) (left % 1) 1) (min amount left ∷ []) ≡ cond b left (min amount left) ∷ []
    by true = one_even left
    by false = refl

by_place : (outputs : List TxOut) (id : RuneId) (amount output left : ℕ) → output < length outputs
    → gifts_of outputs id amount output left ≡ record { output = output; id = id; amount = asked_of amount left } ∷ []
by_place outputs id amount output left lt =
    let test : nat_lt output (length outputs) ≡ true = grind (arith, nat_tests, lt) in
    ap (λ (b : Bool). cond b (gifts_to id (output ∷ []) (parts_of amount left 1)) (gifts_to id (holders outputs) (parts_of amount left (length (holders outputs))))) test
    ∙ ap (gifts_to id (output ∷ [])) (one_part amount left)

pub gives : EdictsGive
unfolding given_by
gives = record {
  one = λ outputs etched edict id left names there.
      append-nil (gifts_by outputs edict left (rune_of etched edict.id))
      ∙ ap (gifts_by outputs edict left) names
      ∙ by_place outputs id edict.amount edict.output (left id) there;
  more = later;
}

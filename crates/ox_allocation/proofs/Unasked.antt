-- A pool that no edict deals.
use Rattle.std.proofs.Common.{◌≡◌, ◌∙◌, ℕ, zero, suc, ◌<◌, List, [], ◌∷◌, length, refl, sym, ap, subst, arith, Bool, true, false, Option, Some, None, slice_index_or, slice_set}
use Rattle.std.specs.Prelude.{slice_get, replicate, if◌then◌else◌}
use Rattle.std.proofs.lemmas.List.{get_or-set_same, length-set}
use Rattle.ox_block.specs.declared.block.TxOut.{TxOut}
use Rattle.ox_runestone.specs.declared.stone.RuneId.{RuneId}
use Rattle.ox_runestone.specs.declared.stone.Edict.{Edict}
use Rattle.ox_allocation.specs.Allocation.{Allocation, gifts_from}
use Rattle.ox_allocation.specs.Balances.{AreBalances, Balance, amount_in, with_more}
use Rattle.ox_allocation.specs.Gifts.{given_by, heir}
use Rattle.ox_allocation.specs.Dealing.{Gives, burns, empty_hands, gifts_for, hand, whole_of, with_all, with_gift, with_gifts, with_rest}
use Rattle.ox_allocation.proofs.Dealt.{IsSaid, dealt_as_said, empty_count, first_stage, heir_within}
use Rattle.ox_allocation.proofs.Gathering.{whole_list}
use Rattle.ox_allocation.proofs.Giving.{gives_nothing}
use Rattle.ox_allocation.proofs.Handing.{empty_hand}

set_twice : {A : Type 0} (xs : List A) (k : ℕ) (x y : A) → slice_set (slice_set xs k x) k y ≡ slice_set xs k y
set_twice [] k x y = refl
set_twice (a ∷ xs) zero x y = refl
set_twice (a ∷ xs) (suc k) x y = ap (λ more. a ∷ more) (set_twice xs k x y)

set_same : {A : Type 0} (xs : List A) (k : ℕ) (d : A) → slice_set xs k (slice_index_or xs k d) ≡ xs
set_same [] k d = refl
set_same (a ∷ xs) zero d = refl
set_same (a ∷ xs) (suc k) d = ap (λ more. a ∷ more) (set_same xs k d)

burned_one : (outputs : List TxOut) (place : ℕ) → burns (slice_get outputs place) ≡ true → (hands : Allocation) (e : Balance)
    → with_gift outputs hands (record { output = place; id = e.0; amount = e.1 }) ≡ record hands { burned = with_more hands.burned e.0 e.1 }
unfolding with_gift
burned_one outputs place is hands e = rw is refl

held_one : (outputs : List TxOut) (place : ℕ) → burns (slice_get outputs place) ≡ false → (hands : Allocation) (e : Balance)
    → with_gift outputs hands (record { output = place; id = e.0; amount = e.1 }) ≡ record hands { given = slice_set hands.given place (with_more (hand hands place) e.0 e.1) }
unfolding with_gift
held_one outputs place is hands e = rw is refl

burns_whole : (outputs : List TxOut) (place : ℕ) → burns (slice_get outputs place) ≡ true → (hands : Allocation) (es : List Balance)
    → with_gifts outputs hands (gifts_for place es) ≡ record hands { burned = with_all hands.burned es }
unfolding with_gifts with_all
burns_whole outputs place is hands [] = refl
burns_whole outputs place is hands (e ∷ es) =
    ap (λ (now : Allocation). with_gifts outputs now (gifts_for place es)) (burned_one outputs place is hands e)
    ∙ burns_whole outputs place is (record hands { burned = with_more hands.burned e.0 e.1 }) es

holds_whole : (outputs : List TxOut) (place : ℕ) → burns (slice_get outputs place) ≡ false → (hands : Allocation) (es : List Balance) → place < length hands.given
    → with_gifts outputs hands (gifts_for place es) ≡ record hands { given = slice_set hands.given place (with_all (hand hands place) es) }
unfolding with_gifts with_all
holds_whole outputs place is hands [] there = ap (λ (given : List (List Balance)). record hands { given = given }) (sym (set_same hands.given place []))
holds_whole outputs place is hands (e ∷ es) there =
    let more = with_more (hand hands place) e.0 e.1 in
    ap (λ (now : Allocation). with_gifts outputs now (gifts_for place es)) (held_one outputs place is hands e)
    ∙ (holds_whole outputs place is (record hands { given = slice_set hands.given place more }) es (let l = length-set hands.given place more in omega arith)
    ∙ ap (λ (given : List (List Balance)). record hands { given = given })
    (ap (λ (held : List Balance). slice_set (slice_set hands.given place more) place (with_all held es)) (get_or-set_same hands.given place more [] there)
    ∙ set_twice hands.given place more (with_all more es)))

rest_by_test : (outputs : List TxOut) (place : ℕ) (pool : List Balance) → AreBalances pool → place < length outputs → (b : Bool) → burns (slice_get outputs place) ≡ b
    → with_gifts outputs (empty_hands (length outputs)) (gifts_for place pool)
    ≡ (if b then record { given = replicate (length outputs) []; burned = pool } else record { given = slice_set (replicate (length outputs) []) place pool; burned = [] })
rest_by_test outputs place pool lawful there true is =
    burns_whole outputs place is (empty_hands (length outputs)) pool
    ∙ ap (λ (burned : List Balance). record (empty_hands (length outputs)) { burned = burned }) (whole_list pool lawful)
rest_by_test outputs place pool lawful there false is =
    holds_whole outputs place is (empty_hands (length outputs)) pool (let c = empty_count (length outputs) in omega arith)
    ∙ ap (λ (held : List Balance). record (empty_hands (length outputs)) { given = slice_set (replicate (length outputs) []) place held })
    (ap (λ (held : List Balance). with_all held pool) (empty_hand (length outputs) place) ∙ whole_list pool lawful)

rest_whole : (outputs : List TxOut) (to : Option ℕ) (pool : List Balance) → AreBalances pool → ((place : ℕ) → to ≡ Some place → place < length outputs)
    → with_rest outputs (empty_hands (length outputs)) to pool ≡ whole_of outputs to pool
rest_whole outputs None pool lawful within = ap (λ (burned : List Balance). record (empty_hands (length outputs)) { burned = burned }) (whole_list pool lawful)
rest_whole outputs (Some place) pool lawful within = rest_by_test outputs place pool lawful (within place refl) (burns (slice_get outputs place)) refl

nothing_given : (outputs : List TxOut) (pool : List Balance) (etched : Option RuneId) → Gives (first_stage outputs pool) (first_stage outputs pool) (given_by outputs etched [] (amount_in pool))
unfolding given_by
nothing_given outputs pool etched = gives_nothing (first_stage outputs pool)

-- without edicts the heir gets all
pub whole_as_said : (outputs : List TxOut) (pool : List Balance) (etched : Option RuneId) (pointer : Option ℕ) → AreBalances pool → ((place : ℕ) → pointer ≡ Some place → place < length outputs)
    → IsSaid outputs pool (gifts_from pool [] etched pointer outputs) (whole_of outputs (heir outputs pointer) pool)
whole_as_said outputs pool etched pointer lawful within =
    let to = heir_within outputs pointer within in
    subst (λ all. IsSaid outputs pool (gifts_from pool [] etched pointer outputs) all) (rest_whole outputs (heir outputs pointer) pool lawful to)
    (dealt_as_said outputs pool [] etched (heir outputs pointer) (first_stage outputs pool) lawful to (nothing_given outputs pool etched))

pub asked_nothing : (outputs : List TxOut) (pool : List Balance) (edicts : List Edict) (etched : Option RuneId) (pointer to : Option ℕ) → length edicts ≡ 0 → to ≡ heir outputs pointer → AreBalances pool
    → ((place : ℕ) → pointer ≡ Some place → place < length outputs) → IsSaid outputs pool (gifts_from pool edicts etched pointer outputs) (whole_of outputs to pool)
asked_nothing outputs pool [] etched pointer to none is lawful within = rw is (whole_as_said outputs pool etched pointer lawful within)
asked_nothing outputs pool (edict ∷ edicts) etched pointer to none is lawful within = absurd (omega arith)

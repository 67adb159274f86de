-- Hands that were given all gifts hold what the allocation says.
use Rattle.std.proofs.Common.{◌≡◌, ◌∙◌, ℕ, zero, suc, ◌+◌, ◌-◌, ◌<◌, ◌≤◌, List, [], ◌∷◌, ◌++◌, length, append-nil, refl, sym, ap, subst, arith, Bool, true, false, Option, Some, None, slice_index_or, slice_set}
use Rattle.std.specs.Prelude.{◌==◌, ◌&&◌, nat_lt, replicate, slice_get, if◌then◌else◌}
use Rattle.std.specs.List.{AllByRecursion}
use Rattle.std.specs.List.Sorted.{IsStrictlySortedBy}
use Rattle.std.specs.declared.cmp.Ordering.TheVariants.{Less}
use Rattle.std.specs.declared.result.Result.{Result}
use Rattle.std.specs.declared.result.Result.TheVariants.{Ok, Err}
use Rattle.std.specs.Result.{IfOk}
use Rattle.std.proofs.lemmas.Bool.Decides.{nat_tests}
use Rattle.std.proofs.lemmas.List.{get_or-set_same, get_or-set_other}
use Rattle.std.proofs.lemmas.Map.Keys.{sorted_head, sorted_tail}
use Rattle.ox_block.specs.declared.block.TxOut.{TxOut}
use Rattle.ox_runestone.specs.declared.stone.RuneId.{RuneId}
use Rattle.ox_runestone.specs.declared.stone.Edict.{Edict}
use Rattle.ox_allocation.specs.Balances.{AreBalances, Balance, amount_in, balances_by, id_cmp, ids_of, is_same, with_more}
use Rattle.ox_allocation.specs.Gifts.{Gift, Left, amount_given, given_by, gifts_by, gifts_of, gifts_to, heir, holders, left_after, parts_of, rest_to, rune_of}
use Rattle.ox_allocation.specs.Allocation.{Allocation, amount_at, amount_burned, amount_in_returns, balances_from, gifts_from}
use Rattle.ox_allocation.specs.Dealing.{AreHands, Gives, Stage, burns, empty_hands, gifts_for, hand, with_all, with_gift, with_gifts, with_rest}
use Rattle.ox_allocation.proofs.BalanceLemmas.{no_balances}
use Rattle.ox_allocation.proofs.Ids.{below_differs, same_id, same_turned}
use Rattle.ox_allocation.proofs.Amounts.{amount-with_more}
use Rattle.ox_allocation.proofs.Counting.{amount_at-cons, amount_at_le, given-rest_to, given_by_le, has, none_at, none_given, none_returns, returns-cons, returns_le, returns_one}
use Rattle.ox_allocation.proofs.Giving.{amount_given-append}
use Rattle.ox_allocation.proofs.Handing.{apart_from, burned-with_gift, count-with_gift, empty_hand, equal_from, gain_at, hand-with_gift, with_gifts-append}
use Rattle.ox_allocation.proofs.Holders.{first_within, holders_within}
use Rattle.ox_allocation.proofs.Rests.{first_alone, first_amount}
use Rattle.ox_allocation.proofs.Sorting.{absent, are_balances_by, lawful-with_more, same_balances}

-- ---- gifts go to outputs that are there

abbrev pub AreWithin : ℕ → List Gift → Type 0
AreWithin count gifts = AllByRecursion (λ gift. gift.output < count) gifts

pub within-append : (count : ℕ) (gifts more : List Gift) → AreWithin count gifts → AreWithin count more → AreWithin count (gifts ++ more)
within-append count [] more these others = others
within-append count (gift ∷ gifts) more these others = (these.0, within-append count gifts more these.1 others)

pub within-gifts_to : (count : ℕ) (id : RuneId) (places parts : List ℕ) → AllByRecursion (λ place. place < count) places → AreWithin count (gifts_to id places parts)
within-gifts_to count id [] parts within = tt
within-gifts_to count id (place ∷ places) [] within = tt
within-gifts_to count id (place ∷ places) (part ∷ parts) within = (within.0, within-gifts_to count id places parts within.1)

pub below_from : (a b : ℕ) → nat_lt a b ≡ true → a < b
below_from a b is = grind (arith, nat_tests)

within-gifts_of : (outputs : List TxOut) (id : RuneId) (amount output left : ℕ) → AreWithin (length outputs) (gifts_of outputs id amount output left)
within-gifts_of outputs id amount output left =
    elim (nat_lt output (length outputs)) as (λ b. nat_lt output (length outputs) ≡ b → AreWithin (length outputs) (if b then gifts_to id (output ∷ []) (parts_of amount left 1) else gifts_to id (holders outputs) (parts_of amount left (length (holders outputs))))) [
      | true ↦ λ is. within-gifts_to (length outputs) id (output ∷ []) (parts_of amount left 1) (below_from output (length outputs) is, tt)
      | false ↦ λ is. within-gifts_to (length outputs) id (holders outputs) (parts_of amount left (length (holders outputs))) (holders_within outputs)
    ] refl

within-gifts_by : (outputs : List TxOut) (edict : Edict) (left : Left) (rune : Option RuneId) → AreWithin (length outputs) (gifts_by outputs edict left rune)
within-gifts_by outputs edict left None = tt
within-gifts_by outputs edict left (Some id) = within-gifts_of outputs id edict.amount edict.output (left id)

pub within-given_by : (outputs : List TxOut) (etched : Option RuneId) (edicts : List Edict) (left : Left) → AreWithin (length outputs) (given_by outputs etched edicts left)
unfolding given_by
within-given_by outputs etched [] left = tt
within-given_by outputs etched (edict ∷ edicts) left =
    within-append (length outputs) (gifts_by outputs edict left (rune_of etched edict.id)) _ (within-gifts_by outputs edict left (rune_of etched edict.id)) (within-given_by outputs etched edicts _)

within-rest_some : (count place : ℕ) (ids : List RuneId) (left : Left) → place < count → AreWithin count (rest_to (Some place) ids left)
within-rest_some count place [] left within = tt
within-rest_some count place (id ∷ ids) left within = (within, within-rest_some count place ids left within)

pub within-rest_to : (count : ℕ) (to : Option ℕ) (ids : List RuneId) (left : Left) → ((place : ℕ) → to ≡ Some place → place < count) → AreWithin count (rest_to to ids left)
within-rest_to count None ids left within = tt
within-rest_to count (Some place) ids left within = within-rest_some count place ids left (within place refl)

-- an heir is an output
pub heir_within : (outputs : List TxOut) (pointer : Option ℕ) → ((place : ℕ) → pointer ≡ Some place → place < length outputs) → (place : ℕ) → heir outputs pointer ≡ Some place → place < length outputs
heir_within outputs (Some pointer) within place is = within place is
heir_within outputs None within place is = first_within (length outputs) (holders outputs) (holders_within outputs) place is

-- ---- what each hand holds

zeros : (c : Bool) (n : ℕ) → (if c then n else n) ≡ n
zeros true n = refl
zeros false n = refl

kept_by_test : (a place : ℕ) (outputs : List TxOut) (same : Bool) (amount : ℕ) → (t : Bool) → (a == place) ≡ t
    → (if burns (slice_get outputs a) then 0 else (if t && same then amount else 0)) ≡ (if burns (slice_get outputs place) then 0 else (if t && same then amount else 0))
kept_by_test a place outputs same amount true is = ap (λ k. if burns (slice_get outputs k) then 0 else (if same then amount else 0)) (sym (equal_from a place is))
kept_by_test a place outputs same amount false is = zeros (burns (slice_get outputs a)) 0 ∙ sym (zeros (burns (slice_get outputs place)) 0)

held_by_test : (burnt : Bool) (old x first rest : ℕ) → x ≡ (if burnt then 0 else first) → old + x + (if burnt then 0 else rest) ≡ old + (if burnt then 0 else (first + rest))
held_by_test true old x first rest is = omega arith
held_by_test false old x first rest is = omega arith

pub hand-with_gifts : (outputs : List TxOut) (hands : Allocation) (gifts : List Gift) (place : ℕ) (id : RuneId) → AreWithin (length hands.given) gifts
    → amount_in (hand (with_gifts outputs hands gifts) place) id ≡ amount_in (hand hands place) id + (if burns (slice_get outputs place) then 0 else amount_at place gifts id)
unfolding with_gifts
hand-with_gifts outputs hands [] place id within = none_held (burns (slice_get outputs place)) (amount_in (hand hands place) id) (amount_at place [] id) (none_at place id) where
  none_held : (b : Bool) (old n : ℕ) → n ≡ 0 → old ≡ old + (if b then 0 else n)
  none_held true old n is = omega arith
  none_held false old n is = omega arith
hand-with_gifts outputs hands (gift ∷ gifts) place id within =
    let count = count-with_gift outputs hands gift in
    let later = hand-with_gifts outputs (with_gift outputs hands gift) gifts place id (subst (λ n. AreWithin n gifts) (sym count) within.1) in
    let now = hand-with_gift outputs hands gift place id within.0 in
    let same = kept_by_test gift.output place outputs (is_same gift.id id) gift.amount (gift.output == place) refl in
    later ∙ ap (λ n. n + (if burns (slice_get outputs place) then 0 else amount_at place gifts id)) now
    ∙ held_by_test (burns (slice_get outputs place)) (amount_in (hand hands place) id) _ (gain_at place gift id) (amount_at place gifts id) same
    ∙ ap (λ n. amount_in (hand hands place) id + (if burns (slice_get outputs place) then 0 else n)) (sym (amount_at-cons place gift gifts id))

pub burned-with_gifts : (outputs : List TxOut) (hands : Allocation) (gifts : List Gift) (id : RuneId)
    → amount_in (with_gifts outputs hands gifts).burned id ≡ amount_in hands.burned id + amount_in_returns 0 outputs gifts id
unfolding with_gifts
burned-with_gifts outputs hands [] id = omega (arith, none_returns outputs 0 id)
burned-with_gifts outputs hands (gift ∷ gifts) id =
    let later = burned-with_gifts outputs (with_gift outputs hands gift) gifts id in
    let now = burned-with_gift outputs hands gift id in
    let one = returns_one outputs 0 gift.output gift id (omega arith) in
    let both = returns-cons outputs 0 gift gifts id in
    omega arith

set_by_test : (hands : Allocation) (at place : ℕ) (new : List Balance) → at < length hands.given → AreBalances new → AreBalances (hand hands place) → (t : Bool) → (at == place) ≡ t
    → AreBalances (slice_index_or (slice_set hands.given at new) place [])
set_by_test hands at place new within are old true is =
    subst AreBalances (sym (ap (λ k. slice_index_or (slice_set hands.given at new) k []) (equal_from at place is) ∙ get_or-set_same hands.given at new [] within)) are
set_by_test hands at place new within are old false is =
    subst AreBalances (sym (get_or-set_other hands.given at place new [] (apart_from at place is))) old

hands_by_test : (hands : Allocation) (gift : Gift) (b : Bool) → gift.output < length hands.given → AreHands hands
    → AreHands (if b then record hands { burned = with_more hands.burned gift.id gift.amount } else record hands { given = slice_set hands.given gift.output (with_more (hand hands gift.output) gift.id gift.amount) })
hands_by_test hands gift true within are = record { given = are.given; burned = lawful-with_more hands.burned gift.id gift.amount are.burned }
hands_by_test hands gift false within are = record {
  given = λ place.
      set_by_test hands gift.output place (with_more (hand hands gift.output) gift.id gift.amount) within (lawful-with_more (hand hands gift.output) gift.id gift.amount (are.given gift.output)) (are.given place)
      (gift.output == place) refl;
  burned = are.burned;
}

pub hands-with_gift : (outputs : List TxOut) (hands : Allocation) (gift : Gift) → gift.output < length hands.given → AreHands hands → AreHands (with_gift outputs hands gift)
unfolding with_gift
hands-with_gift outputs hands gift within are = hands_by_test hands gift (burns (slice_get outputs gift.output)) within are

pub hands-with_gifts : (outputs : List TxOut) (hands : Allocation) (gifts : List Gift) → AreWithin (length hands.given) gifts → AreHands hands → AreHands (with_gifts outputs hands gifts)
unfolding with_gifts
hands-with_gifts outputs hands [] within are = are
hands-with_gifts outputs hands (gift ∷ gifts) within are =
    hands-with_gifts outputs (with_gift outputs hands gift) gifts (subst (λ n. AreWithin n gifts) (sym (count-with_gift outputs hands gift)) within.1) (hands-with_gift outputs hands gift within.0 are)

pub count-with_gifts : (outputs : List TxOut) (hands : Allocation) (gifts : List Gift) → length (with_gifts outputs hands gifts).given ≡ length hands.given
unfolding with_gifts
count-with_gifts outputs hands [] = refl
count-with_gifts outputs hands (gift ∷ gifts) = count-with_gifts outputs (with_gift outputs hands gift) gifts ∙ count-with_gift outputs hands gift

pub empty_count : (count : ℕ) → length (replicate {A = List Balance} count []) ≡ count
empty_count zero = refl
empty_count (suc count) = let e = empty_count count in omega arith

pub empty_lawful : (count : ℕ) → AreHands (empty_hands count)
empty_lawful count = record { given = λ place. subst AreBalances (sym (empty_hand count place)) no_balances; burned = no_balances }

-- ---- the lists of all outputs

abbrev says : List RuneId → List Gift → ℕ → Option TxOut → List Balance
says ids gifts place output = if burns output then [] else balances_by (amount_at place gifts) ids

all_as_said : (outputs : List TxOut) (given : List (List Balance)) (k : ℕ) (ids : List RuneId) (gifts : List Gift) → length given ≡ length outputs
    → ((j : ℕ) → j < length outputs → slice_index_or given j [] ≡ says ids gifts (k + j) (slice_get outputs j)) → given ≡ balances_from k ids gifts outputs
unfolding balances_from
all_as_said [] [] k ids gifts count each = refl
all_as_said [] (balances ∷ given) k ids gifts count each = absurd (omega arith)
all_as_said (output ∷ outputs) [] k ids gifts count each = absurd (omega arith)
all_as_said (output ∷ outputs) (balances ∷ given) k ids gifts count each =
    let zero_more : k + 0 ≡ k = omega arith in
    let first : balances ≡ says ids gifts k (Some output) = each 0 (omega arith) ∙ ap (λ n. says ids gifts n (Some output)) zero_more in
    let others : given ≡ balances_from (k + 1) ids gifts outputs = all_as_said outputs given (k + 1) ids gifts (omega arith) (λ j within.
    let shift : k + suc j ≡ k + 1 + j = omega arith in
    each (suc j) (omega arith) ∙ ap (λ n. says ids gifts n (slice_get outputs j)) shift) in
    λ i. first i ∷ others i

hand_by_test : (pool es : List Balance) (f : RuneId → ℕ) (b : Bool) → AreBalances pool → AreBalances es → ((q : RuneId) → amount_in es q ≡ 0 + (if b then 0 else f q)) → ((q : RuneId) → f q ≤ amount_in pool q)
    → es ≡ (if b then [] else balances_by f (ids_of pool))
hand_by_test pool es f true lawful are is le = same_balances es [] are no_balances (λ q. let e = is q in omega arith)
hand_by_test pool es f false lawful are is le = are_balances_by f pool es lawful are (λ q. let e = is q in omega arith) le

-- what the outputs hold
pub given_as_said : (outputs : List TxOut) (pool : List Balance) (gifts : List Gift) → AreBalances pool → AreWithin (length outputs) gifts → ((q : RuneId) → amount_given q gifts ≤ amount_in pool q)
    → (with_gifts outputs (empty_hands (length outputs)) gifts).given ≡ balances_from 0 (ids_of pool) gifts outputs
given_as_said outputs pool gifts lawful within le =
    let empty = empty_hands (length outputs) in
    let inside : AreWithin (length empty.given) gifts = subst (λ n. AreWithin n gifts) (sym (empty_count (length outputs))) within in
    all_as_said outputs (with_gifts outputs empty gifts).given 0 (ids_of pool) gifts (count-with_gifts outputs empty gifts ∙ empty_count (length outputs)) (λ j there.
    let start : 0 + j ≡ j = omega arith in
    hand_by_test pool (hand (with_gifts outputs empty gifts) j) (amount_at j gifts) (burns (slice_get outputs j)) lawful ((hands-with_gifts outputs empty gifts inside (empty_lawful (length outputs))).given j)
    (λ q. hand-with_gifts outputs empty gifts j q inside ∙ ap (λ n. n + (if burns (slice_get outputs j) then 0 else amount_at j gifts q)) (ap (λ balances. amount_in balances q) (empty_hand (length outputs) j)))
    (λ q. let a = amount_at_le j gifts q in let g = le q in omega arith)
    ∙ ap (λ n. says (ids_of pool) gifts n (slice_get outputs j)) (sym start))

-- what is burned
pub burned_as_said : (outputs : List TxOut) (pool burned : List Balance) (gifts : List Gift) → AreBalances pool → AreBalances burned → ((q : RuneId) → amount_given q gifts ≤ amount_in pool q)
    → ((q : RuneId) → amount_in burned q ≡ amount_burned pool outputs gifts q) → burned ≡ balances_by (amount_burned pool outputs gifts) (ids_of pool)
burned_as_said outputs pool burned gifts lawful are le is =
    are_balances_by (amount_burned pool outputs gifts) pool burned lawful are is (λ q. let r = returns_le outputs gifts q in let g = le q in omega arith)

-- ---- what is left, as gifts

agree : (place : ℕ) (f g : Left) (ids : List RuneId) → AllByRecursion (λ id. f id ≡ g id) ids → rest_to (Some place) ids f ≡ rest_to (Some place) ids g
agree place f g [] same = refl
agree place f g (id ∷ ids) same = λ i. record { output = place; id = id; amount = same.0 i } ∷ agree place f g ids same.1 i

later_same : (e : Balance) (es : List Balance) (ids : List RuneId) → AllByRecursion (λ y. id_cmp e.0 y ≡ Less) ids → AllByRecursion (λ id. amount_in es id ≡ amount_in (e ∷ es) id) ids
later_same e es [] above = tt
later_same e es (id ∷ ids) above =
    (sym (find_past e es id (same_turned id e.0 ∙ below_differs e.0 id above.0)), later_same e es ids above.1) where
      find_past : (e : Balance) (es : List Balance) (id : RuneId) → is_same id e.0 ≡ false → amount_in (e ∷ es) id ≡ amount_in es id
      find_past e es id is = rw is refl

pub gifts_for_left : (place : ℕ) (es : List Balance) → IsStrictlySortedBy id_cmp (ids_of es) → gifts_for place es ≡ rest_to (Some place) (ids_of es) (amount_in es)
gifts_for_left place [] rising = refl
gifts_for_left place (e ∷ es) rising =
    let first = sym (first_amount e es) in
    let others = gifts_for_left place es (sorted_tail id_cmp e.0 (ids_of es) rising) ∙ agree place (amount_in es) (amount_in (e ∷ es)) (ids_of es) (later_same e es (ids_of es) (sorted_head id_cmp e.0 (ids_of es) rising)) in
    λ i. record { output = place; id = e.0; amount = first i } ∷ others i

pub all_by_test : (e : Balance) (es : List Balance) (q : RuneId) (old : ℕ) → amount_in es e.0 ≡ 0 → (t : Bool) → is_same e.0 q ≡ t
    → old + (if t then e.1 else 0) + amount_in es q ≡ old + amount_in (e ∷ es) q
all_by_test e es q old none true is =
    let same = same_id e.0 q is in
    let here = ap (amount_in (e ∷ es)) (sym same) ∙ first_amount e es in
    let gone = ap (amount_in es) (sym same) ∙ none in
    omega arith
all_by_test e es q old none false is =
    let past : amount_in (e ∷ es) q ≡ amount_in es q = rw (same_turned q e.0 ∙ is) refl in
    omega arith

pub amount-with_all : (balances es : List Balance) (q : RuneId) → IsStrictlySortedBy id_cmp (ids_of es) → amount_in (with_all balances es) q ≡ amount_in balances q + amount_in es q
unfolding with_all
amount-with_all balances [] q rising = omega arith
amount-with_all balances (e ∷ es) q rising =
    amount-with_all (with_more balances e.0 e.1) es q (sorted_tail id_cmp e.0 (ids_of es) rising)
    ∙ ap (λ n. n + amount_in es q) (amount-with_more balances e.0 e.1 q)
    ∙ all_by_test e es q (amount_in balances q) (first_alone e es rising) (is_same e.0 q) refl

pub lawful-with_all : (balances es : List Balance) → AreBalances balances → AreBalances (with_all balances es)
unfolding with_all
lawful-with_all balances [] are = are
lawful-with_all balances (e ∷ es) are = lawful-with_all (with_more balances e.0 e.1) es (lawful-with_more balances e.0 e.1 are)

-- ---- all together

-- with an heir nothing is left
rest_by_test : (b : Bool) (given left pool : ℕ) → left ≡ pool - given → given ≤ pool → (b ≡ false → pool ≡ 0) → given + (if b then left else 0) ≡ pool
rest_by_test true given left pool is le none = omega arith
rest_by_test false given left pool is le none = let e = none refl in omega arith

pub all_given : (outputs : List TxOut) (pool : List Balance) (edicts : List Edict) (etched : Option RuneId) (place : ℕ) (q : RuneId) → AreBalances pool
    → amount_given q (given_by outputs etched edicts (amount_in pool) ++ rest_to (Some place) (ids_of pool) (left_after (given_by outputs etched edicts (amount_in pool)) (amount_in pool))) ≡ amount_in pool q
all_given outputs pool edicts etched place q lawful =
    let given = given_by outputs etched edicts (amount_in pool) in
    amount_given-append q given (rest_to (Some place) (ids_of pool) (left_after given (amount_in pool)))
    ∙ ap (λ n. amount_given q given + n) (given-rest_to place (left_after given (amount_in pool)) q (ids_of pool) lawful.rising)
    ∙ rest_by_test (has q (ids_of pool)) (amount_given q given) (left_after given (amount_in pool) q) (amount_in pool q) refl (given_by_le outputs etched edicts (amount_in pool) q) (absent pool q)

-- what gifts give is there
pub gifts_from_le : (outputs : List TxOut) (pool : List Balance) (edicts : List Edict) (etched : Option RuneId) (to : Option ℕ) (q : RuneId) → AreBalances pool
    → amount_given q (given_by outputs etched edicts (amount_in pool) ++ rest_to to (ids_of pool) (left_after (given_by outputs etched edicts (amount_in pool)) (amount_in pool))) ≤ amount_in pool q
gifts_from_le outputs pool edicts etched (Some place) q lawful = let e = all_given outputs pool edicts etched place q lawful in omega arith
gifts_from_le outputs pool edicts etched None q lawful =
    let given = given_by outputs etched edicts (amount_in pool) in
    let e = amount_given-append q given [] in let n = none_given q in let l = given_by_le outputs etched edicts (amount_in pool) q in omega arith

abbrev pub all_gifts : List TxOut → List Balance → List Edict → Option RuneId → Option ℕ → List Gift
all_gifts outputs pool edicts etched to =
    given_by outputs etched edicts (amount_in pool) ++ rest_to to (ids_of pool) (left_after (given_by outputs etched edicts (amount_in pool)) (amount_in pool))

abbrev pub first_stage : List TxOut → List Balance → Stage
first_stage outputs pool = record { outputs = outputs; left = pool; hands = empty_hands (length outputs) }

-- the hands hold what these gifts come to
pub record IsSaid (outputs : List TxOut) (pool : List Balance) (gifts : List Gift) (all : Allocation) : Type 0 where
  pub given : all.given ≡ balances_from 0 (ids_of pool) gifts outputs
  pub burned : all.burned ≡ balances_by (amount_burned pool outputs gifts) (ids_of pool)

hands_some : (outputs : List TxOut) (pool : List Balance) (edicts : List Edict) (etched : Option RuneId) (place : ℕ) (last : Stage) → AreBalances pool
    → Gives (first_stage outputs pool) last (given_by outputs etched edicts (amount_in pool))
    → with_gifts outputs last.hands (gifts_for place last.left) ≡ with_gifts outputs (empty_hands (length outputs)) (all_gifts outputs pool edicts etched (Some place))
hands_some outputs pool edicts etched place last lawful gives =
    let given = given_by outputs etched edicts (amount_in pool) in
    let rising : IsStrictlySortedBy id_cmp (ids_of last.left) = subst (IsStrictlySortedBy id_cmp) (sym gives.ids) lawful.rising in
    let rest =
    gifts_for_left place last.left rising
    ∙ (ap (λ ids. rest_to (Some place) ids (amount_in last.left)) gives.ids
    ∙ ap (λ (left : Left). rest_to (Some place) (ids_of pool) left) gives.left)
    in
    ap (λ hands. with_gifts outputs hands (gifts_for place last.left)) gives.hands
    ∙ (sym (with_gifts-append outputs (empty_hands (length outputs)) given (gifts_for place last.left))
    ∙ ap (λ gifts. with_gifts outputs (empty_hands (length outputs)) (given ++ gifts)) rest)

pub all_inside : (outputs : List TxOut) (pool : List Balance) (edicts : List Edict) (etched : Option RuneId) (to : Option ℕ) → ((place : ℕ) → to ≡ Some place → place < length outputs)
    → AreWithin (length outputs) (all_gifts outputs pool edicts etched to)
all_inside outputs pool edicts etched to within =
    within-append (length outputs) (given_by outputs etched edicts (amount_in pool)) _ (within-given_by outputs etched edicts (amount_in pool)) (within-rest_to (length outputs) to (ids_of pool) _ within)

lawful_hands : (outputs : List TxOut) (gifts : List Gift) → AreWithin (length outputs) gifts → AreHands (with_gifts outputs (empty_hands (length outputs)) gifts)
lawful_hands outputs gifts within =
    hands-with_gifts outputs (empty_hands (length outputs)) gifts (subst (λ n. AreWithin n gifts) (sym (empty_count (length outputs))) within) (empty_lawful (length outputs))

said_some : (outputs : List TxOut) (pool : List Balance) (edicts : List Edict) (etched : Option RuneId) (place : ℕ) → AreBalances pool → place < length outputs
    → IsSaid outputs pool (all_gifts outputs pool edicts etched (Some place)) (with_gifts outputs (empty_hands (length outputs)) (all_gifts outputs pool edicts etched (Some place)))
said_some outputs pool edicts etched place lawful there =
    let gifts = all_gifts outputs pool edicts etched (Some place) in
    let within = all_inside outputs pool edicts etched (Some place) (λ p is. let e : place ≡ p = cc is in omega arith) in
    let le : (q : RuneId) → amount_given q gifts ≤ amount_in pool q = λ q. gifts_from_le outputs pool edicts etched (Some place) q lawful in
    record {
      given = given_as_said outputs pool gifts lawful within le;
      burned = burned_as_said outputs pool (with_gifts outputs (empty_hands (length outputs)) gifts).burned gifts lawful (lawful_hands outputs gifts within).burned le (λ q.
          let b = burned-with_gifts outputs (empty_hands (length outputs)) gifts q in
          let a = all_given outputs pool edicts etched place q lawful in
          omega arith);
    }

said_none : (outputs : List TxOut) (pool : List Balance) (edicts : List Edict) (etched : Option RuneId) (last : Stage) → AreBalances pool
    → Gives (first_stage outputs pool) last (given_by outputs etched edicts (amount_in pool))
    → IsSaid outputs pool (given_by outputs etched edicts (amount_in pool)) (record last.hands { burned = with_all last.hands.burned last.left })
said_none outputs pool edicts etched last lawful gives =
    let gifts = given_by outputs etched edicts (amount_in pool) in
    let within = within-given_by outputs etched edicts (amount_in pool) in
    let le : (q : RuneId) → amount_given q gifts ≤ amount_in pool q = λ q. given_by_le outputs etched edicts (amount_in pool) q in
    let rising : IsStrictlySortedBy id_cmp (ids_of last.left) = subst (IsStrictlySortedBy id_cmp) (sym gives.ids) lawful.rising in
    let burned : AreBalances last.hands.burned = subst (λ (hands : Allocation). AreBalances hands.burned) (sym gives.hands) (lawful_hands outputs gifts within).burned in
    record {
      given = ap (λ (hands : Allocation). hands.given) gives.hands ∙ given_as_said outputs pool gifts lawful within le;
      burned = burned_as_said outputs pool (with_all last.hands.burned last.left) gifts lawful (lawful-with_all last.hands.burned last.left burned) le (λ q.
          let w = amount-with_all last.hands.burned last.left q rising in
          let h = ap (λ (hands : Allocation). amount_in hands.burned q) gives.hands in
          let b = burned-with_gifts outputs (empty_hands (length outputs)) gifts q in
          let l = ap (λ (left : Left). left q) gives.left in
          omega arith);
    }

-- what is dealt is what the allocation says
pub dealt_as_said : (outputs : List TxOut) (pool : List Balance) (edicts : List Edict) (etched : Option RuneId) (to : Option ℕ) (last : Stage) → AreBalances pool
    → ((place : ℕ) → to ≡ Some place → place < length outputs)
    → Gives (first_stage outputs pool) last (given_by outputs etched edicts (amount_in pool))
    → IsSaid outputs pool (all_gifts outputs pool edicts etched to) (with_rest outputs last.hands to last.left)
dealt_as_said outputs pool edicts etched (Some place) last lawful within gives =
    subst (λ all. IsSaid outputs pool (all_gifts outputs pool edicts etched (Some place)) all) (sym (hands_some outputs pool edicts etched place last lawful gives)) (said_some outputs pool edicts etched place lawful (within place refl))
dealt_as_said outputs pool edicts etched None last lawful within gives =
    subst (λ gifts. IsSaid outputs pool gifts (record last.hands { burned = with_all last.hands.burned last.left })) (sym (append-nil (given_by outputs etched edicts (amount_in pool)))) (said_none outputs pool edicts etched last lawful gives)

-- with the heir that the definition names
pub allocated_as_said : (outputs : List TxOut) (pool : List Balance) (edicts : List Edict) (etched : Option RuneId) (pointer to : Option ℕ) (first last : Stage) (hands : Allocation) → AreBalances pool
    → ((place : ℕ) → pointer ≡ Some place → place < length outputs) → to ≡ heir outputs pointer
    → first.outputs ≡ outputs → first.left ≡ pool → first.hands ≡ empty_hands (length outputs)
    → Gives first last (given_by first.outputs etched edicts (amount_in first.left)) → hands ≡ with_rest last.outputs last.hands to last.left
    → IsSaid outputs pool (gifts_from pool edicts etched pointer outputs) hands
allocated_as_said outputs pool edicts etched pointer to first last hands lawful within is same_outputs left empty gives rest =
    let same : first ≡ first_stage outputs pool = λ i. record { outputs = same_outputs i; left = left i; hands = empty i } in
    let begun = subst (λ (stage : Stage). Gives stage last (given_by stage.outputs etched edicts (amount_in stage.left))) same gives in
    subst (λ all. IsSaid outputs pool (gifts_from pool edicts etched pointer outputs) all) (sym (rest ∙ ap (λ (o : List TxOut). with_rest o last.hands to last.left) (gives.outputs ∙ same_outputs) ∙ ap (λ x. with_rest outputs last.hands x last.left) is))
    (dealt_as_said outputs pool edicts etched (heir outputs pointer) last lawful (heir_within outputs pointer within) begun)

pub if_ok : {A E : Type 0} {P Q : A → Type 0} (r : Result A E) → ((a : A) → P a → Q a) → IfOk r P → IfOk r Q
if_ok (Ok a) f p = f a p
if_ok (Err e) f p = p

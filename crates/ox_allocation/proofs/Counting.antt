-- How much gifts give of a rune: never more than there is.
use Rattle.std.proofs.Common.{◌≡◌, ◌∙◌, ℕ, zero, suc, ◌+◌, ◌<◌, ◌≤◌, List, [], ◌∷◌, length, refl, sym, ap, arith, Bool, true, false, sum, Option, Some, None}
use Rattle.std.specs.Prelude.{◌==◌, ◌&&◌, nat_lt, slice_get, if◌then◌else◌}
use Rattle.std.specs.List.{AllByRecursion}
use Rattle.std.specs.List.Sorted.{IsStrictlySortedBy}
use Rattle.std.specs.declared.cmp.Ordering.TheVariants.{Less}
use Rattle.std.proofs.lemmas.Bool.Decides.{nat_tests}
use Rattle.std.proofs.lemmas.Map.Keys.{sorted_head, sorted_tail}
use Rattle.ox_block.specs.declared.block.TxOut.{TxOut}
use Rattle.ox_runestone.specs.declared.stone.RuneId.{RuneId}
use Rattle.ox_runestone.specs.declared.stone.Edict.{Edict}
use Rattle.ox_script.specs.Shape.{is_return}
use Rattle.ox_allocation.specs.Balances.{id_cmp, is_same}
use Rattle.ox_allocation.specs.Gifts.{Gift, Left, amount_given, given_by, gifts_by, gifts_of, gifts_to, holders, left_after, parts_of, rest_to, rune_of}
use Rattle.ox_allocation.specs.Allocation.{amount_at, amount_in_returns}
use Rattle.ox_allocation.specs.Dealing.{burns}
use Rattle.ox_allocation.proofs.Ids.{same_id, same_turned, below_differs}
use Rattle.ox_allocation.proofs.PartLemmas.{sum-cons, sum-parts_of}
use Rattle.ox_allocation.proofs.Giving.{amount_given-append, amount_given-cons}
use Rattle.ox_allocation.proofs.Handing.{gain, gain_at}

-- ---- what is given is there

pub none_given : (id : RuneId) → amount_given id [] ≡ 0
unfolding amount_given
none_given id = refl

to_by_test : (same : Bool) (part rest total : ℕ) → rest ≤ (if same then total else 0) → (if same then part else 0) + rest ≤ (if same then part + total else 0)
to_by_test true part rest total le = omega arith
to_by_test false part rest total le = omega arith

at_least_nothing : (b : Bool) (n : ℕ) → 0 ≤ (if b then n else 0)
at_least_nothing b n = omega arith

-- parts to outputs give no more than the parts are
pub given-gifts_to : (q id : RuneId) (places parts : List ℕ) → amount_given q (gifts_to id places parts) ≤ (if is_same id q then sum parts else 0)
given-gifts_to q id [] parts = omega (arith, none_given q)
given-gifts_to q id (place ∷ places) [] = omega (arith, none_given q)
given-gifts_to q id (place ∷ places) (part ∷ parts) =
    let e = amount_given-cons q (record { output = place; id = id; amount = part }) (gifts_to id places parts) in
    let m = to_by_test (is_same id q) part (amount_given q (gifts_to id places parts)) (sum parts) (given-gifts_to q id places parts) in
    let s = ap (λ n. if is_same id q then n else 0) (sum-cons part parts) in
    omega arith

of_by_test : (same : Bool) (given total left mine : ℕ) → given ≤ (if same then total else 0) → total ≤ mine → (same ≡ true → mine ≡ left) → given ≤ left
of_by_test true given total left mine le most is = let e = is refl in omega arith
of_by_test false given total left mine le most is = omega arith

either_gifts : (P : List Gift → Type 0) (b : Bool) (one all : List Gift) → P one → P all → P (if b then one else all)
either_gifts P true one all p q = p
either_gifts P false one all p q = q

gifts_of_le : (outputs : List TxOut) (q id : RuneId) (amount output : ℕ) (left : Left) → amount_given q (gifts_of outputs id amount output (left id)) ≤ left q
gifts_of_le outputs q id amount output left =
    let mine : is_same id q ≡ true → left id ≡ left q = λ same. ap left (same_id id q same) in
    either_gifts (λ (gifts : List Gift). amount_given q gifts ≤ left q) (nat_lt output (length outputs)) _ _
    (of_by_test (is_same id q) _ _ (left q) (left id) (given-gifts_to q id (output ∷ []) (parts_of amount (left id) 1)) (sum-parts_of amount (left id) 1) mine)
    (of_by_test (is_same id q) _ _ (left q) (left id) (given-gifts_to q id (holders outputs) (parts_of amount (left id) (length (holders outputs)))) (sum-parts_of amount (left id) (length (holders outputs))) mine)

pub gifts_by_le : (outputs : List TxOut) (edict : Edict) (left : Left) (rune : Option RuneId) (q : RuneId) → amount_given q (gifts_by outputs edict left rune) ≤ left q
gifts_by_le outputs edict left None q = omega (arith, none_given q)
gifts_by_le outputs edict left (Some id) q = gifts_of_le outputs q id edict.amount edict.output left

-- edicts give no more than there is
pub given_by_le : (outputs : List TxOut) (etched : Option RuneId) (edicts : List Edict) (left : Left) (q : RuneId) → amount_given q (given_by outputs etched edicts left) ≤ left q
unfolding given_by
given_by_le outputs etched [] left q = omega (arith, none_given q)
given_by_le outputs etched (edict ∷ edicts) left q =
    let gifts = gifts_by outputs edict left (rune_of etched edict.id) in
    let first = gifts_by_le outputs edict left (rune_of etched edict.id) q in
    let others = given_by_le outputs etched edicts (left_after gifts left) q in
    let both = amount_given-append q gifts (given_by outputs etched edicts (left_after gifts left)) in
    omega arith

-- ---- the rest

no_rest : (place : ℕ) (left : Left) (q : RuneId) (ids : List RuneId) → AllByRecursion (λ id. is_same id q ≡ false) ids → amount_given q (rest_to (Some place) ids left) ≡ 0
no_rest place left q [] none = none_given q
no_rest place left q (id ∷ ids) none =
    let e = amount_given-cons q (record { output = place; id = id; amount = left id }) (rest_to (Some place) ids left) in
    let n : (if is_same id q then left id else 0) ≡ 0 = ap (λ b. if b then left id else 0) none.0 in
    let r = no_rest place left q ids none.1 in
    omega arith

above_all : (x q : RuneId) (ids : List RuneId) → x ≡ q → AllByRecursion (λ y. id_cmp x y ≡ Less) ids → AllByRecursion (λ y. is_same y q ≡ false) ids
above_all x q [] same above = tt
above_all x q (y ∷ ids) same above =
    ((same_turned y q ∙ ap (λ z. is_same z y) (sym same) ∙ below_differs x y above.0), above_all x q ids same above.1)

abbrev pub has : RuneId → List RuneId → Bool
has q [] = false
has q (id ∷ ids) = if is_same id q then true else has q ids

rest_by_test : (place : ℕ) (left : Left) (q id : RuneId) (ids : List RuneId) → IsStrictlySortedBy id_cmp (id ∷ ids) → (b : Bool) → is_same id q ≡ b
    → amount_given q (rest_to (Some place) ids left) ≡ (if has q ids then left q else 0)
    → (if b then left id else 0) + amount_given q (rest_to (Some place) ids left) ≡ (if (if b then true else has q ids) then left q else 0)
rest_by_test place left q id ids rising true is later =
    let none = no_rest place left q ids (above_all id q ids (same_id id q is) (sorted_head id_cmp id ids rising)) in
    let same = ap left (same_id id q is) in
    omega arith
rest_by_test place left q id ids rising false is later = omega arith

-- an heir gets all that is left
pub given-rest_to : (place : ℕ) (left : Left) (q : RuneId) (ids : List RuneId) → IsStrictlySortedBy id_cmp ids → amount_given q (rest_to (Some place) ids left) ≡ (if has q ids then left q else 0)
given-rest_to place left q [] rising = none_given q
given-rest_to place left q (id ∷ ids) rising =
    amount_given-cons q (record { output = place; id = id; amount = left id }) (rest_to (Some place) ids left)
    ∙ rest_by_test place left q id ids rising (is_same id q) refl (given-rest_to place left q ids (sorted_tail id_cmp id ids rising))

-- ---- at one output, and at those with OP_RETURN

at_by_test : (b : Bool) (amount rest : ℕ) → (if b then amount + rest else rest) ≡ (if b then amount else 0) + rest
at_by_test true amount rest = refl
at_by_test false amount rest = omega arith

pub none_at : (place : ℕ) (q : RuneId) → amount_at place [] q ≡ 0
unfolding amount_at
none_at place q = refl

pub amount_at-cons : (place : ℕ) (gift : Gift) (gifts : List Gift) (q : RuneId) → amount_at place (gift ∷ gifts) q ≡ gain_at place gift q + amount_at place gifts q
unfolding amount_at
amount_at-cons place gift gifts q = at_by_test (gift.output == place && is_same gift.id q) gift.amount (amount_at place gifts q)

returns_by_test : (b : Bool) (x y z : ℕ) → x ≡ y + z → (if b then x else 0) ≡ (if b then y else 0) + (if b then z else 0)
returns_by_test true x y z is = is
returns_by_test false x y z is = refl

pub returns-cons : (outputs : List TxOut) (k : ℕ) (gift : Gift) (gifts : List Gift) (q : RuneId)
    → amount_in_returns k outputs (gift ∷ gifts) q ≡ amount_in_returns k outputs (gift ∷ []) q + amount_in_returns k outputs gifts q
unfolding amount_in_returns
returns-cons [] k gift gifts q = refl
returns-cons (output ∷ outputs) k gift gifts q =
    let here : amount_at k (gift ∷ gifts) q ≡ amount_at k (gift ∷ []) q + amount_at k gifts q = omega (arith, amount_at-cons k gift gifts q, amount_at-cons k gift [] q, none_at k q) in
    let head = returns_by_test (is_return output.script) (amount_at k (gift ∷ gifts) q) (amount_at k (gift ∷ []) q) (amount_at k gifts q) here in
    let tail = returns-cons outputs (k + 1) gift gifts q in
    omega arith

pub none_returns : (outputs : List TxOut) (k : ℕ) (q : RuneId) → amount_in_returns k outputs [] q ≡ 0
unfolding amount_in_returns
none_returns [] k q = refl
none_returns (output ∷ outputs) k q =
    let e = none_returns outputs (k + 1) q in
    let n = nothing_by_test (is_return output.script) (amount_at k [] q) (none_at k q) in
    omega arith where
      nothing_by_test : (b : Bool) (n : ℕ) → n ≡ 0 → (if b then n else 0) ≡ 0
      nothing_by_test true n is = is
      nothing_by_test false n is = refl

other_place : (a b : ℕ) → (a ≡ b → ⊥) → (a == b) ≡ false
other_place a b apart = grind (arith, nat_tests)

same_place : (a b : ℕ) → a ≡ b → (a == b) ≡ true
same_place a b same = grind (arith, nat_tests)

pub gain_elsewhere : (place : ℕ) (gift : Gift) (q : RuneId) → (gift.output ≡ place → ⊥) → gain_at place gift q ≡ 0
gain_elsewhere place gift q apart = ap (λ b. if b && is_same gift.id q then gift.amount else 0) (other_place gift.output place apart)

pub gain_here : (place : ℕ) (gift : Gift) (q : RuneId) → gift.output ≡ place → gain_at place gift q ≡ gain gift q
gain_here place gift q same = ap (λ b. if b && is_same gift.id q then gift.amount else 0) (same_place gift.output place same)

none_by_test : (b : Bool) (n : ℕ) → n ≡ 0 → (if b then n else 0) ≡ 0
none_by_test true n is = is
none_by_test false n is = refl

pub returns_past : (outputs : List TxOut) (k : ℕ) (gift : Gift) (q : RuneId) → gift.output < k → amount_in_returns k outputs (gift ∷ []) q ≡ 0
unfolding amount_in_returns
returns_past [] k gift q past = refl
returns_past (output ∷ outputs) k gift q past =
    let none : amount_at k (gift ∷ []) q ≡ 0 = omega (arith, amount_at-cons k gift [] q, none_at k q, gain_elsewhere k gift q (λ same. omega arith)) in
    let head = none_by_test (is_return output.script) (amount_at k (gift ∷ []) q) none in
    let tail = returns_past outputs (k + 1) gift q (omega arith) in
    omega arith

same_by_test : (b : Bool) (m n : ℕ) → m ≡ n → (if b then m else 0) ≡ (if b then n else 0)
same_by_test true m n is = is
same_by_test false m n is = refl

-- a gift is in the returns where its output has OP_RETURN
pub returns_one : (outputs : List TxOut) (k j : ℕ) (gift : Gift) (q : RuneId) → gift.output ≡ k + j
    → amount_in_returns k outputs (gift ∷ []) q ≡ (if burns (slice_get outputs j) then gain gift q else 0)
unfolding amount_in_returns
returns_one [] k j gift q at = refl
returns_one (output ∷ outputs) k zero gift q at =
    let here : amount_at k (gift ∷ []) q ≡ gain gift q = omega (arith, amount_at-cons k gift [] q, none_at k q, gain_here k gift q (omega arith)) in
    let head = same_by_test (is_return output.script) (amount_at k (gift ∷ []) q) (gain gift q) here in
    let tail = returns_past outputs (k + 1) gift q (omega arith) in
    omega arith
returns_one (output ∷ outputs) k (suc j) gift q at =
    let none : amount_at k (gift ∷ []) q ≡ 0 = omega (arith, amount_at-cons k gift [] q, none_at k q, gain_elsewhere k gift q (λ same. omega arith)) in
    let head = none_by_test (is_return output.script) (amount_at k (gift ∷ []) q) none in
    let tail = returns_one outputs (k + 1) j gift q (omega arith) in
    omega arith

gain_le : (b : Bool) (n : ℕ) → (if b then n else 0) ≤ n
gain_le true n = omega arith
gain_le false n = omega arith

at_le : (here same : Bool) (n : ℕ) → (if here && same then n else 0) ≤ (if same then n else 0)
at_le true same n = omega arith
at_le false same n = omega arith

-- an output is given no more than all are
pub amount_at_le : (place : ℕ) (gifts : List Gift) (q : RuneId) → amount_at place gifts q ≤ amount_given q gifts
amount_at_le place [] q = omega (arith, none_at place q)
amount_at_le place (gift ∷ gifts) q =
    let e = amount_at-cons place gift gifts q in
    let g = amount_given-cons q gift gifts in
    let l = at_le (gift.output == place) (is_same gift.id q) gift.amount in
    let i = amount_at_le place gifts q in
    omega arith

pub returns_le : (outputs : List TxOut) (gifts : List Gift) (q : RuneId) → amount_in_returns 0 outputs gifts q ≤ amount_given q gifts
returns_le outputs [] q = omega (arith, none_returns outputs 0 q)
returns_le outputs (gift ∷ gifts) q =
    let c = returns-cons outputs 0 gift gifts q in
    let o = returns_one outputs 0 gift.output gift q (omega arith) in
    let g = amount_given-cons q gift gifts in
    let l = gain_le (burns (slice_get outputs gift.output)) (gain gift q) in
    let i = returns_le outputs gifts q in
    omega arith

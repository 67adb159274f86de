-- What outputs are owed, beside what is in their hands.
use Rattle.std.proofs.Common.{◌≡◌, ◌∙◌, ℕ, ◌+◌, ◌-◌, ◌*◌, ◌^◌, ◌<◌, ◌≤◌, List, [], ◌∷◌, ◌++◌, length, drop, drop-cons, get_or, suc, zero, refl, sym, ap, subst, arith, Bool, true, false, sum, min}
use Rattle.std.specs.Prelude.{◌==◌, ◌&&◌, slice_get, if◌then◌else◌}
use Rattle.std.specs.List.{AllByRecursion}
use Rattle.std.specs.List.Sorted.{IsStrictlySortedBy}
use Rattle.std.proofs.lemmas.Bool.Decides.{nat_tests}
use Rattle.std.proofs.lemmas.List.{ext_get_or}
use Rattle.std.proofs.lemmas.Map.Keys.{sorted_tail}
use Rattle.ox_block.specs.declared.block.TxOut.{TxOut}
use Rattle.ox_runestone.specs.declared.stone.RuneId.{RuneId}
use Rattle.ox_script.specs.Shape.{is_return}
use Rattle.ox_allocation.specs.Allocation.{Allocation, amount_at, amount_in_returns}
use Rattle.ox_allocation.specs.Balances.{AreBalances, Balance, amount_in, id_cmp, ids_of, is_same, with_more}
use Rattle.ox_allocation.specs.Gifts.{Gift, Left, amount_given, gifts_of_all, gifts_to, holders, left_after, parts_of, parts_while}
use Rattle.ox_allocation.specs.Dealing.{AreHands, Fits, Gives, Held, IsDealt, Stage, burns, empty_hands, hand, less, owed_to, same_to, with_gift, with_gifts, with_owed}
use Rattle.ox_allocation.proofs.Amounts.{amount-with_more, ext}
use Rattle.ox_allocation.proofs.BalanceLemmas.{no_balances}
use Rattle.ox_allocation.proofs.Counting.{amount_at-cons, amount_at_le, given-gifts_to, none_at, none_given}
use Rattle.ox_allocation.proofs.Dealt.{AreWithin, all_by_test, burned-with_gifts, count-with_gifts, empty_count, empty_lawful, hand-with_gifts, hands-with_gift, hands-with_gifts, within-append, within-gifts_to}
use Rattle.ox_allocation.proofs.Giving.{amount_given-append, amount_given-cons, drop_none}
use Rattle.ox_allocation.proofs.Handing.{count-with_gift, fits_after_gift, fits_fewer, with_gifts-append}
use Rattle.ox_allocation.proofs.Holders.{holders_within}
use Rattle.ox_allocation.proofs.Ids.{same_id, same_itself}
use Rattle.ox_allocation.proofs.PartLemmas.{sum-parts_of}
use Rattle.ox_allocation.proofs.Rests.{first_alone}
use Rattle.ox_allocation.proofs.Sorting.{lawful-with_more, same_balances}

-- ---- gifts that come to the same

returned_by_test : (b : Bool) (m n : ℕ) → m ≡ n → (if b then m else 0) ≡ (if b then n else 0)
returned_by_test true m n is = is
returned_by_test false m n is = refl

same_returns : (outputs : List TxOut) (k : ℕ) (these those : List Gift) (q : RuneId) → ((place : ℕ) → amount_at place these q ≡ amount_at place those q)
    → amount_in_returns k outputs these q ≡ amount_in_returns k outputs those q
unfolding amount_in_returns
same_returns [] k these those q same = refl
same_returns (output ∷ outputs) k these those q same =
    let here = returned_by_test (is_return output.script) (amount_at k these q) (amount_at k those q) (same k) in
    let others = same_returns outputs (k + 1) these those q same in
    omega arith

-- hands are the same where each output gets the same of each rune
pub same_gifts : (outputs : List TxOut) (hands : Allocation) (these those : List Gift) → AreHands hands → AreWithin (length hands.given) these → AreWithin (length hands.given) those
    → ((place : ℕ) (q : RuneId) → amount_at place these q ≡ amount_at place those q) → with_gifts outputs hands these ≡ with_gifts outputs hands those
same_gifts outputs hands these those are within within' same =
    let are_these = hands-with_gifts outputs hands these within are in
    let are_those = hands-with_gifts outputs hands those within' are in
    let given : (with_gifts outputs hands these).given ≡ (with_gifts outputs hands those).given =
    ext_get_or [] (with_gifts outputs hands these).given (with_gifts outputs hands those).given (count-with_gifts outputs hands these ∙ sym (count-with_gifts outputs hands those)) (λ place there.
    same_balances (hand (with_gifts outputs hands these) place) (hand (with_gifts outputs hands those) place) (are_these.given place) (are_those.given place) (λ q.
    hand-with_gifts outputs hands these place q within
    ∙ ap (λ n. amount_in (hand hands place) q + (if burns (slice_get outputs place) then 0 else n)) (same place q)
    ∙ sym (hand-with_gifts outputs hands those place q within')))
    in
    let burned : (with_gifts outputs hands these).burned ≡ (with_gifts outputs hands those).burned =
    same_balances (with_gifts outputs hands these).burned (with_gifts outputs hands those).burned are_these.burned are_those.burned (λ q.
    burned-with_gifts outputs hands these q
    ∙ ap (λ n. amount_in hands.burned q + n) (same_returns outputs 0 these those q (λ place. same place q))
    ∙ sym (burned-with_gifts outputs hands those q))
    in
    λ i. record { given = given i; burned = burned i }

pub at-append : (place : ℕ) (these those : List Gift) (q : RuneId) → amount_at place (these ++ those) q ≡ amount_at place these q + amount_at place those q
at-append place [] those q = let n = none_at place q in omega arith
at-append place (gift ∷ these) those q =
    let c = amount_at-cons place gift (these ++ those) q in
    let d = amount_at-cons place gift these q in
    let i = at-append place these those q in
    omega arith

-- a gift beside others may come before them or behind
pub gift_beside : (outputs : List TxOut) (hands : Allocation) (gift : Gift) (others : List Gift) → AreHands hands → gift.output < length hands.given → AreWithin (length hands.given) others
    → with_gifts outputs (with_gift outputs hands gift) others ≡ with_gift outputs (with_gifts outputs hands others) gift
unfolding with_gifts
gift_beside outputs hands gift others are there within =
    same_gifts outputs hands (gift ∷ others) (others ++ gift ∷ []) are (there, within) (within-append (length hands.given) others (gift ∷ []) within (there, tt)) (λ place q.
    let c = amount_at-cons place gift others q in
    let d = amount_at-cons place gift [] q in
    let n = none_at place q in
    let a = at-append place others (gift ∷ []) q in
    omega arith)
    ∙ with_gifts-append outputs hands others (gift ∷ [])

-- ---- so much at each place, or at some

abbrev pub among : (ℕ → Bool) → List ℕ → ℕ → ℕ
among here [] n = 0
among here (place ∷ places) n = (if here place then n else 0) + among here places n

among_nothing : (here : ℕ → Bool) (places : List ℕ) → among here places 0 ≡ 0
among_nothing here [] = refl
among_nothing here (place ∷ places) = let i = among_nothing here places in by_test (here place) (among here places 0) i where
  by_test : (b : Bool) (n : ℕ) → n ≡ 0 → (if b then 0 else 0) + n ≡ 0
  by_test true n is = omega arith
  by_test false n is = omega arith

sum_by_test : (b : Bool) (m n : ℕ) → (if b then m + n else 0) ≡ (if b then m else 0) + (if b then n else 0)
sum_by_test true m n = refl
sum_by_test false m n = refl

among_sum : (here : ℕ → Bool) (places : List ℕ) (m n : ℕ) → among here places (m + n) ≡ among here places m + among here places n
among_sum here [] m n = refl
among_sum here (place ∷ places) m n = let i = among_sum here places m n in let t = sum_by_test (here place) m n in omega arith

-- at all places
abbrev pub all_among : List ℕ → ℕ → ℕ
all_among places n = among (λ place. true) places n

one_more : (count n : ℕ) → suc count * n ≡ n + count * n
one_more count n = grind arith

pub all_together : (places : List ℕ) (n : ℕ) → all_among places n ≡ length places * n
all_together [] n = omega arith
all_together (place ∷ places) n = let i = all_together places n in let o = one_more (length places) n in omega arith

at_by_test : (here same : Bool) (amount : ℕ) → (if here && same then amount else 0) ≡ (if here then (if same then amount else 0) else 0)
at_by_test true same amount = refl
at_by_test false same amount = refl

pub at-same_to : (place : ℕ) (id : RuneId) (amount : ℕ) (places : List ℕ) (q : RuneId) → amount_at place (same_to id amount places) q ≡ among (λ p. p == place) places (if is_same id q then amount else 0)
at-same_to place id amount [] q = none_at place q
at-same_to place id amount (p ∷ places) q =
    let c = amount_at-cons place (record { output = p; id = id; amount = amount }) (same_to id amount places) q in
    let t = at_by_test (p == place) (is_same id q) amount in
    let i = at-same_to place id amount places q in
    omega arith

pub given-same_to : (id : RuneId) (amount : ℕ) (places : List ℕ) (q : RuneId) → amount_given q (same_to id amount places) ≡ all_among places (if is_same id q then amount else 0)
given-same_to id amount [] q = none_given q
given-same_to id amount (p ∷ places) q =
    let c = amount_given-cons q (record { output = p; id = id; amount = amount }) (same_to id amount places) in
    let i = given-same_to id amount places q in
    omega arith

first_of : (e : Balance) (es : List Balance) (q : RuneId) → IsStrictlySortedBy id_cmp (ids_of (e ∷ es)) → (if is_same e.0 q then e.1 else 0) + amount_in es q ≡ amount_in (e ∷ es) q
first_of e es q rising = let a = all_by_test e es q 0 (first_alone e es rising) (is_same e.0 q) refl in omega arith

-- what is owed at a place
at-owed_to : (place : ℕ) (places : List ℕ) (owed : List Balance) (q : RuneId) → IsStrictlySortedBy id_cmp (ids_of owed) → amount_at place (owed_to places owed) q ≡ among (λ p. p == place) places (amount_in owed q)
unfolding owed_to
at-owed_to place places [] q rising = none_at place q ∙ sym (among_nothing (λ p. p == place) places)
at-owed_to place places (e ∷ owed) q rising =
    let a = at-append place (same_to e.0 e.1 places) (owed_to places owed) q in
    let s = at-same_to place e.0 e.1 places q in
    let i = at-owed_to place places owed q (sorted_tail id_cmp e.0 (ids_of owed) rising) in
    let b = among_sum (λ p. p == place) places (if is_same e.0 q then e.1 else 0) (amount_in owed q) in
    let f = ap (among (λ p. p == place) places) (first_of e owed q rising) in
    omega arith

-- what is owed in all
given-owed_to : (places : List ℕ) (owed : List Balance) (q : RuneId) → IsStrictlySortedBy id_cmp (ids_of owed) → amount_given q (owed_to places owed) ≡ all_among places (amount_in owed q)
unfolding owed_to
given-owed_to places [] q rising = none_given q ∙ sym (among_nothing (λ p. true) places)
given-owed_to places (e ∷ owed) q rising =
    let a = amount_given-append q (same_to e.0 e.1 places) (owed_to places owed) in
    let s = given-same_to e.0 e.1 places q in
    let i = given-owed_to places owed q (sorted_tail id_cmp e.0 (ids_of owed) rising) in
    let b = among_sum (λ p. true) places (if is_same e.0 q then e.1 else 0) (amount_in owed q) in
    let f = ap (all_among places) (first_of e owed q rising) in
    omega arith

-- ---- what is owed goes to outputs that are there

pub within-same_to : (count : ℕ) (id : RuneId) (amount : ℕ) (places : List ℕ) → AllByRecursion (λ place. place < count) places → AreWithin count (same_to id amount places)
within-same_to count id amount [] within = tt
within-same_to count id amount (place ∷ places) within = (within.0, within-same_to count id amount places within.1)

pub within-owed_to : (count : ℕ) (places : List ℕ) (owed : List Balance) → AllByRecursion (λ place. place < count) places → AreWithin count (owed_to places owed)
unfolding owed_to
within-owed_to count places [] within = tt
within-owed_to count places (e ∷ owed) within = within-append count (same_to e.0 e.1 places) (owed_to places owed) (within-same_to count e.0 e.1 places within) (within-owed_to count places owed within)

-- ---- where there is enough for all

while_enough : (id : RuneId) (amount left : ℕ) (places : List ℕ) → all_among places amount ≤ left → gifts_to id places (parts_while amount left (length places)) ≡ same_to id amount places
unfolding parts_while
while_enough id amount left [] enough = refl
while_enough id amount left (place ∷ places) enough =
    let one : min amount left ≡ amount = omega arith in
    let others = while_enough id amount (left - amount) places (omega arith) in
    λ i. record { output = place; id = id; amount = one i } ∷ others i

-- each gets the same
pub parts_enough : (id : RuneId) (amount left : ℕ) (places : List ℕ) → 0 < amount → all_among places amount ≤ left → gifts_to id places (parts_of amount left (length places)) ≡ same_to id amount places
parts_enough id amount left [] some enough = refl
parts_enough id amount left (place ∷ places) some enough =
    let test : (amount == 0) ≡ false = grind (arith, nat_tests, some) in
    rw test (while_enough id amount left (place ∷ places) enough)

some_amount : (count amount sum : ℕ) → sum ≡ count * amount → 0 < sum → 0 < amount
some_amount count zero sum is some = absurd (let z : count * 0 ≡ 0 = grind arith in omega arith)
some_amount count (suc amount) sum is some = omega arith

some_count : (count amount sum : ℕ) → sum ≡ count * amount → 0 < sum → amount ≤ sum
some_count zero amount sum is some = absurd (let z : 0 * amount ≡ 0 = grind arith in omega arith)
some_count (suc count) amount sum is some = let o = one_more count amount in omega arith

-- the stage that contracts see
abbrev pub stage_of : Held → List Balance → List ℕ → List Balance → Stage
stage_of held left places owed = record { outputs = held.outputs; left = left; hands = with_gifts held.outputs held.hands (owed_to places owed) }

places_within : (held : Held) (left : Left) (places : List ℕ) (owed : List Balance) → IsDealt left held places owed → AllByRecursion (λ place. place < length held.hands.given) places
places_within held left places owed is = rw (is.can_hold, is.counted) (holders_within held.outputs)

pub owed_within : (held : Held) (left : Left) (places : List ℕ) (owed : List Balance) → IsDealt left held places owed → AreWithin (length held.hands.given) (owed_to places owed)
owed_within held left places owed is = within-owed_to (length held.hands.given) places owed (places_within held left places owed is)

-- ---- at first

pub nothing_owed : (held : Held) (left : List Balance) (places : List ℕ) (owed : List Balance) → owed ≡ [] → stage_of held left places owed ≡ record { outputs = held.outputs; left = left; hands = held.hands }
unfolding with_gifts owed_to
nothing_owed held left places owed none = rw none refl

pub dealt_at_first : (held : Held) (left : Left) (places : List ℕ) (owed : List Balance) → held.hands ≡ empty_hands (length held.outputs) → places ≡ holders held.outputs → owed ≡ [] → Fits left held.hands
    → IsDealt left held places owed
unfolding owed_to
dealt_at_first held left places owed empty can none fits =
    rw none (record {
      fits = fits_fewer left (with_owed left []) held.hands (λ q. let n = none_given q in omega arith) fits;
      can_hold = can;
      counted = ap (λ (hands : Allocation). length hands.given) empty ∙ empty_count (length held.outputs);
      lawful = rw empty (empty_lawful (length held.outputs));
      owed_lawful = no_balances;
    })

-- ---- a gift of its own

less_by : (b : Bool) (left amount : ℕ) → (b ≡ true → amount ≤ left) → (if b then left - amount else left) + (if b then amount else 0) ≡ left
less_by true left amount enough = let e = enough refl in omega arith
less_by false left amount enough = omega arith

less_gain : (left : List Balance) (id : RuneId) (amount : ℕ) (q : RuneId) → amount ≤ amount_in left id → less left id amount q + (if is_same id q then amount else 0) ≡ amount_in left q
less_gain left id amount q enough = less_by (is_same id q) (amount_in left q) amount (λ same. subst (λ x. amount ≤ amount_in left x) (same_id id q same) enough)

pub dealt_after_gift : (held new : Held) (left fewer : List Balance) (places : List ℕ) (owed : List Balance) (gift : Gift) → IsDealt (amount_in left) held places owed
    → gift.output < length held.outputs → gift.amount ≤ amount_in left gift.id
    → new ≡ record held { hands = with_gift held.outputs held.hands gift } → amount_in fewer ≡ less left gift.id gift.amount
    → IsDealt (amount_in fewer) new places owed
dealt_after_gift held new left fewer places owed gift is there enough given spent =
    rw (given, spent) (record {
      fits = fits_after_gift held.outputs (with_owed (amount_in left) (owed_to places owed)) (with_owed (less left gift.id gift.amount) (owed_to places owed)) held.hands gift (λ q. let l = less_gain left gift.id gift.amount q enough in omega arith) is.fits;
      can_hold = is.can_hold;
      counted = count-with_gift held.outputs held.hands gift ∙ is.counted;
      lawful = hands-with_gift held.outputs held.hands gift (rw is.counted there) is.lawful;
      owed_lawful = is.owed_lawful;
    })

pub hands_after_gift : (held new : Held) (left : Left) (places : List ℕ) (owed : List Balance) (gift : Gift) → IsDealt left held places owed → gift.output < length held.outputs
    → new ≡ record held { hands = with_gift held.outputs held.hands gift }
    → with_gifts new.outputs new.hands (owed_to places owed) ≡ with_gift held.outputs (with_gifts held.outputs held.hands (owed_to places owed)) gift
hands_after_gift held new left places owed gift is there given =
    rw given (gift_beside held.outputs held.hands gift (owed_to places owed) is.lawful (rw is.counted there) (owed_within held left places owed is))

-- ---- so much more is owed

given_all_by : (places : List ℕ) (amount sum : ℕ) (b : Bool) → sum ≡ all_among places amount → all_among places (if b then amount else 0) ≡ (if b then sum else 0)
given_all_by places amount sum true is = sym is
given_all_by places amount sum false is = among_nothing (λ place. true) places

-- all gets are what is spent
pub owes_within : (places : List ℕ) (owed more left : List Balance) (id : RuneId) (amount sum : ℕ) (q : RuneId) → AreBalances owed → more ≡ with_more owed id amount → sum ≡ length places * amount → sum ≤ amount_in left id
    → less left id sum q + amount_given q (owed_to places more) ≡ amount_in left q + amount_given q (owed_to places owed)
owes_within places owed more left id amount sum q are is all enough =
    let lawful : AreBalances more = rw is (lawful-with_more owed id amount are) in
    let m = given-owed_to places more q lawful.rising in
    let o = given-owed_to places owed q are.rising in
    let w = ap (all_among places) (ap (λ balances. amount_in balances q) is ∙ amount-with_more owed id amount q) in
    let s = among_sum (λ place. true) places (amount_in owed q) (if is_same id q then amount else 0) in
    let g = given_all_by places amount sum (is_same id q) (all ∙ sym (all_together places amount)) in
    let l = less_gain left id sum q enough in
    omega arith

pub dealt_once_owed : (held : Held) (left fewer : List Balance) (places : List ℕ) (owed more : List Balance) (id : RuneId) (amount sum : ℕ) → IsDealt (amount_in left) held places owed
    → more ≡ with_more owed id amount → amount_in fewer ≡ less left id sum → sum ≡ length (holders held.outputs) * amount → sum ≤ amount_in left id
    → IsDealt (amount_in fewer) held places more
dealt_once_owed held left fewer places owed more id amount sum is owes spent all enough =
    rw spent (record {
      fits = fits_fewer (with_owed (amount_in left) (owed_to places owed)) (with_owed (less left id sum) (owed_to places more)) held.hands
          (λ q. let w = owes_within places owed more left id amount sum q is.owed_lawful owes (all ∙ ap (λ p. length p * amount) (sym is.can_hold)) enough in omega arith) is.fits;
      can_hold = is.can_hold;
      counted = is.counted;
      lawful = is.lawful;
      owed_lawful = rw owes (lawful-with_more owed id amount is.owed_lawful);
    })

-- more of a rune is owed than 128 bits hold at no time
pub owed_fits : (held : Held) (left : List Balance) (places : List ℕ) (owed : List Balance) (id : RuneId) (amount sum : ℕ) → IsDealt (amount_in left) held places owed
    → sum ≡ length (holders held.outputs) * amount → 0 < sum → sum ≤ amount_in left id → amount_in owed id + amount < 2 ^ 128
owed_fits held left places owed id amount sum is all some enough =
    let count : sum ≡ length places * amount = all ∙ ap (λ p. length p * amount) (sym is.can_hold) in
    let f = is.fits.burned id in
    let o = given-owed_to places owed id is.owed_lawful.rising in
    let t = all_together places (amount_in owed id) in
    let a = some_count (length places) amount sum count some in
    let b = at_least (length places) amount sum (amount_in owed id) count some in
    omega arith where
      at_least : (count amount sum n : ℕ) → sum ≡ count * amount → 0 < sum → n ≤ count * n
      at_least zero amount sum n is some = absurd (let z : 0 * amount ≡ 0 = grind arith in omega arith)
      at_least (suc count) amount sum n is some = let o = one_more count n in omega arith

left_over : (left fewer given : ℕ) → fewer + given ≡ left → fewer ≡ left - given
left_over left fewer given is = omega arith

pub gives_owed : (held : Held) (left fewer : List Balance) (places : List ℕ) (owed more : List Balance) (id : RuneId) (amount sum : ℕ) → IsDealt (amount_in left) held places owed
    → more ≡ with_more owed id amount → amount_in fewer ≡ less left id sum → ids_of fewer ≡ ids_of left
    → sum ≡ length (holders held.outputs) * amount → 0 < sum → sum ≤ amount_in left id
    → Gives (stage_of held left places owed) (stage_of held fewer places more) (gifts_of_all held.outputs id amount (amount_in left id))
gives_owed held left fewer places owed more id amount sum is owes spent ids all some enough =
    let count : sum ≡ length places * amount = all ∙ ap (λ p. length p * amount) (sym is.can_hold) in
    let together = all_together places amount in
    let same : gifts_of_all held.outputs id amount (amount_in left id) ≡ same_to id amount places =
    ap (λ p. gifts_to id p (parts_of amount (amount_in left id) (length p))) (sym is.can_hold)
    ∙ parts_enough id amount (amount_in left id) places (some_amount (length places) amount sum count some) (omega arith)
    in
    let lawful : AreBalances more = rw owes (lawful-with_more owed id amount is.owed_lawful) in
    let there = places_within held (amount_in left) places owed is in
    let here = within-owed_to (length held.hands.given) places owed there in
    rw same (record {
      outputs = refl;
      hands =
          same_gifts held.outputs held.hands (owed_to places more) (owed_to places owed ++ same_to id amount places) is.lawful (within-owed_to (length held.hands.given) places more there)
          (within-append (length held.hands.given) (owed_to places owed) (same_to id amount places) here (within-same_to (length held.hands.given) id amount places there)) (λ place q.
          let m = at-owed_to place places more q lawful.rising in
          let o = at-owed_to place places owed q is.owed_lawful.rising in
          let w = ap (among (λ p. p == place) places) (ap (λ balances. amount_in balances q) owes ∙ amount-with_more owed id amount q) in
          let s = among_sum (λ p. p == place) places (amount_in owed q) (if is_same id q then amount else 0) in
          let t = at-same_to place id amount places q in
          let a = at-append place (owed_to places owed) (same_to id amount places) q in
          omega arith)
          ∙ with_gifts-append held.outputs held.hands (owed_to places owed) (same_to id amount places);
      left = spent ∙ ext (less left id sum) (left_after (same_to id amount places) (amount_in left)) (λ q.
          let g = given-same_to id amount places q in
          let b = given_all_by places amount sum (is_same id q) (count ∙ sym together) in
          let l = less_gain left id sum q enough in
          left_over (amount_in left q) (less left id sum q) (amount_given q (same_to id amount places)) (omega arith));
      ids = ids;
    })

-- ---- of nothing that is left nothing is given

none_by_test : (same : Bool) (given total left mine : ℕ) → given ≤ (if same then total else 0) → total ≤ mine → mine ≡ 0 → given ≡ 0
none_by_test true given total left mine le most none = omega arith
none_by_test false given total left mine le most none = omega arith

no_gifts : (outputs : List TxOut) (hands : Allocation) → hands ≡ with_gifts outputs hands []
unfolding with_gifts
no_gifts outputs hands = refl

pub gives_none_left : (held : Held) (left : List Balance) (places : List ℕ) (owed : List Balance) (id : RuneId) (amount : ℕ) → IsDealt (amount_in left) held places owed → amount_in left id ≡ 0
    → Gives (stage_of held left places owed) (stage_of held left places owed) (gifts_of_all held.outputs id amount (amount_in left id))
gives_none_left held left places owed id amount is none =
    let all = holders held.outputs in
    let gifts = gifts_of_all held.outputs id amount (amount_in left id) in
    let hands = with_gifts held.outputs held.hands (owed_to places owed) in
    let inside = owed_within held (amount_in left) places owed is in
    let count : length hands.given ≡ length held.outputs = count-with_gifts held.outputs held.hands (owed_to places owed) ∙ is.counted in
    let nothing : (q : RuneId) → amount_given q gifts ≡ 0 = λ q.
    none_by_test (is_same id q) _ (sum (parts_of amount (amount_in left id) (length all))) 0 (amount_in left id) (given-gifts_to q id all (parts_of amount (amount_in left id) (length all))) (sum-parts_of amount (amount_in left id) (length all)) none
    in
    record {
      outputs = refl;
      hands =
          no_gifts held.outputs hands
          ∙ same_gifts held.outputs hands [] gifts (hands-with_gifts held.outputs held.hands (owed_to places owed) inside is.lawful) tt
          (rw count (within-gifts_to (length held.outputs) id all (parts_of amount (amount_in left id) (length all)) (holders_within held.outputs))) (λ place q.
          let n = none_at place q in
          let a = amount_at_le place gifts q in
          let z = nothing q in
          omega arith);
      left = ext (amount_in left) (left_after gifts (amount_in left)) (λ q. let z = nothing q in omega arith);
      ids = refl;
    }

-- ---- what is owed is given

-- What is still to be given: with it the hands are as they shall be.
pub record IsPaying (outputs : List TxOut) (all : Allocation) (rest : List Gift) (now : Allocation) : Type 0 where
  pub whole : with_gifts outputs now rest ≡ all
  pub fits : Fits (λ id. amount_given id rest) now

pub pays_on : (outputs : List TxOut) (all : Allocation) (gift : Gift) (rest : List Gift) (now new : Allocation) → IsPaying outputs all (gift ∷ rest) now → new ≡ with_gift outputs now gift → IsPaying outputs all rest new
unfolding with_gifts
pays_on outputs all gift rest now new is given =
    rw given (record {
      whole = is.whole;
      fits = fits_after_gift outputs (λ id. amount_given id (gift ∷ rest)) (λ id. amount_given id rest) now gift (λ id. let c = amount_given-cons id gift rest in omega arith) is.fits;
    })

pub pays_some : (outputs : List TxOut) (all : Allocation) (these rest : List Gift) (now new : Allocation) → IsPaying outputs all (these ++ rest) now → new ≡ with_gifts outputs now these → IsPaying outputs all rest new
unfolding with_gifts
pays_some outputs all [] rest now new is given = rw given is
pays_some outputs all (gift ∷ these) rest now new is given = pays_some outputs all these rest (with_gift outputs now gift) new (pays_on outputs all gift (these ++ rest) now (with_gift outputs now gift) is refl) given

pub pays_all : (outputs : List TxOut) (all now : Allocation) → IsPaying outputs all [] now → now ≡ all
unfolding with_gifts
pays_all outputs all now is = is.whole

here_given : (gift : Gift) (rest : List Gift) → gift.amount ≤ amount_given gift.id (gift ∷ rest)
here_given gift rest =
    let c = amount_given-cons gift.id gift rest in
    let s = ap (λ b. if b then gift.amount else 0) (same_itself gift.id) in
    omega arith

pub paid_fits : (outputs : List TxOut) (all : Allocation) (gift : Gift) (rest : List Gift) (now : Allocation) → IsPaying outputs all (gift ∷ rest) now → amount_in (hand now gift.output) gift.id + gift.amount < 2 ^ 128
paid_fits outputs all gift rest now is = let f = is.fits.given gift.output gift.id in let h = here_given gift rest in omega arith

pub paid_burned_fits : (outputs : List TxOut) (all : Allocation) (gift : Gift) (rest : List Gift) (now : Allocation) → IsPaying outputs all (gift ∷ rest) now → amount_in now.burned gift.id + gift.amount < 2 ^ 128
paid_burned_fits outputs all gift rest now is = let f = is.fits.burned gift.id in let h = here_given gift rest in omega arith

next_place : (places : List ℕ) (k : ℕ) → k < length places → drop k places ≡ get_or places k 0 ∷ drop (k + 1) places
next_place places k there = let next : suc k ≡ k + 1 = omega arith in drop-cons places k 0 there ∙ ap (λ n. get_or places k 0 ∷ drop n places) next

pub within_next : (count : ℕ) (places : List ℕ) (k : ℕ) → k < length places → AllByRecursion (λ place. place < count) (drop k places) → AllByRecursion (λ place. place < count) (get_or places k 0 ∷ drop (k + 1) places)
within_next count places k there within = subst (AllByRecursion (λ place. place < count)) (next_place places k there) within

pub pays_next : (outputs : List TxOut) (all : Allocation) (id : RuneId) (amount : ℕ) (places : List ℕ) (k : ℕ) (now : Allocation) → k < length places → IsPaying outputs all (same_to id amount (drop k places)) now
    → IsPaying outputs all (record { output = get_or places k 0; id = id; amount = amount } ∷ same_to id amount (drop (k + 1) places)) now
pays_next outputs all id amount places k now there is = subst (λ rest. IsPaying outputs all (same_to id amount rest) now) (next_place places k there) is

pub pays_last : (outputs : List TxOut) (all : Allocation) (id : RuneId) (amount : ℕ) (places : List ℕ) (k : ℕ) (now : Allocation) → length places ≤ k → IsPaying outputs all (same_to id amount (drop k places)) now → now ≡ all
pays_last outputs all id amount places k now over is = pays_all outputs all now (subst (λ rest. IsPaying outputs all (same_to id amount rest) now) (drop_none places k over) is)

pub pays_rune : (outputs : List TxOut) (all : Allocation) (places : List ℕ) (e : Balance) (rest runes : List Balance) (now new : Allocation) → runes ≡ e ∷ rest → IsPaying outputs all (owed_to places runes) now
    → new ≡ with_gifts outputs now (same_to e.0 e.1 places) → IsPaying outputs all (owed_to places rest) new
unfolding owed_to
pays_rune outputs all places e rest runes now new first is given =
    pays_some outputs all (same_to e.0 e.1 places) (owed_to places rest) now new (subst (λ balances. IsPaying outputs all (owed_to places balances) now) first is) given

pub rune_fits : (outputs : List TxOut) (all : Allocation) (places : List ℕ) (e : Balance) (rest runes : List Balance) (now : Allocation) → runes ≡ e ∷ rest → IsPaying outputs all (owed_to places runes) now
    → Fits (λ id. amount_given id (same_to e.0 e.1 places)) now
unfolding owed_to
rune_fits outputs all places e rest runes now first is =
    fits_fewer (λ id. amount_given id (same_to e.0 e.1 places ++ owed_to places rest)) (λ id. amount_given id (same_to e.0 e.1 places)) now
    (λ id. let a = amount_given-append id (same_to e.0 e.1 places) (owed_to places rest) in omega arith)
    (subst (λ balances. IsPaying outputs all (owed_to places balances) now) first is).fits

pub pays_end : (outputs : List TxOut) (all : Allocation) (places : List ℕ) (runes : List Balance) (now : Allocation) → runes ≡ [] → IsPaying outputs all (owed_to places runes) now → now ≡ all
unfolding owed_to
pays_end outputs all places runes now none is = pays_all outputs all now (subst (λ balances. IsPaying outputs all (owed_to places balances) now) none is)

-- all that is owed fits
pub owed_all_fits : (held : Held) (left : Left) (places : List ℕ) (owed : List Balance) → IsDealt left held places owed → Fits (λ id. amount_given id (owed_to places owed)) held.hands
owed_all_fits held left places owed is = fits_fewer (with_owed left (owed_to places owed)) (λ id. amount_given id (owed_to places owed)) held.hands (λ id. omega arith) is.fits

-- what is paid leaves what is left
pub fits_once_paid : (outputs : List TxOut) (left : Left) (hands : Allocation) (gifts : List Gift) → Fits (with_owed left gifts) hands → Fits left (with_gifts outputs hands gifts)
unfolding with_gifts
fits_once_paid outputs left hands [] fits = fits_fewer (with_owed left []) left hands (λ id. omega arith) fits
fits_once_paid outputs left hands (gift ∷ gifts) fits =
    fits_once_paid outputs left (with_gift outputs hands gift) gifts (fits_after_gift outputs (with_owed left (gift ∷ gifts)) (with_owed left gifts) hands gift (λ id. let c = amount_given-cons id gift gifts in omega arith) fits)

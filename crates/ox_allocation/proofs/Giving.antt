-- Gifts of what is left, one after the other.
use Rattle.std.proofs.Common.{◌≡◌, ◌∙◌, ℕ, suc, ◌+◌, ◌-◌, ◌^◌, ◌<◌, ◌≤◌, List, [], ◌∷◌, ◌++◌, length, refl, sym, ap, subst, arith, Bool, true, false, Option, sum, zero, drop, drop-cons, get_or}
use Rattle.std.specs.Prelude.{if◌then◌else◌}
use Rattle.std.specs.List.{AllByRecursion}
use Rattle.ox_block.specs.declared.block.TxOut.{TxOut}
use Rattle.ox_runestone.specs.declared.stone.RuneId.{RuneId}
use Rattle.ox_runestone.specs.declared.stone.Edict.{Edict}
use Rattle.ox_allocation.specs.declared.parts.Parts.{Parts}
use Rattle.ox_allocation.specs.Balances.{Balance, amount_in, ids_of, is_same}
use Rattle.ox_allocation.specs.Gifts.{Gift, Left, amount_given, gifts_by, gifts_to, given_by, rune_of, left_after, parts_of}
use Rattle.ox_allocation.specs.Dealing.{Gives, Stage, less, next_parts, with_gift, with_gifts}
use Rattle.ox_allocation.proofs.Amounts.{ext}
use Rattle.ox_allocation.proofs.Handing.{with_gifts-append}
use Rattle.ox_allocation.proofs.PartLemmas.{first_part, sum-cons, sum-parts_of}

more_by_test : (b : Bool) (amount rest : ℕ) → (if b then amount + rest else rest) ≡ (if b then amount else 0) + rest
more_by_test true amount rest = refl
more_by_test false amount rest = omega arith

pub amount_given-cons : (id : RuneId) (gift : Gift) (gifts : List Gift) → amount_given id (gift ∷ gifts) ≡ (if is_same gift.id id then gift.amount else 0) + amount_given id gifts
unfolding amount_given
amount_given-cons id gift gifts = more_by_test (is_same gift.id id) gift.amount (amount_given id gifts)

pub amount_given-append : (id : RuneId) (gifts more : List Gift) → amount_given id (gifts ++ more) ≡ amount_given id gifts + amount_given id more
unfolding amount_given
amount_given-append id [] more = omega arith
amount_given-append id (gift ∷ gifts) more =
    omega (arith, amount_given-cons id gift (gifts ++ more), amount_given-cons id gift gifts, amount_given-append id gifts more)

pub left_after-append : (gifts more : List Gift) (left : Left) → left_after (gifts ++ more) left ≡ left_after more (left_after gifts left)
left_after-append gifts more left = ext (left_after (gifts ++ more) left) (left_after more (left_after gifts left)) (λ id. omega (arith, amount_given-append id gifts more))

nothing_less : (id : RuneId) → amount_given id [] ≡ 0
unfolding amount_given
nothing_less id = refl

pub left_after-nothing : (left : Left) → left ≡ left_after [] left
left_after-nothing left = ext left (left_after [] left) (λ id. omega (arith, nothing_less id))

-- nothing is given
pub gives_nothing : (stage : Stage) → Gives stage stage []
unfolding with_gifts
gives_nothing stage = record { outputs = refl; hands = refl; left = left_after-nothing (amount_in stage.left); ids = refl }

-- gifts and then others
pub gives_then : (old mid new : Stage) (gifts more : List Gift) → Gives old mid gifts → Gives mid new more → Gives old new (gifts ++ more)
gives_then old mid new gifts more first later = record {
  outputs = later.outputs ∙ first.outputs;
  hands = later.hands ∙ ap (λ outputs. with_gifts outputs mid.hands more) first.outputs ∙ ap (λ hands. with_gifts old.outputs hands more) first.hands ∙ sym (with_gifts-append old.outputs old.hands gifts more);
  left = later.left ∙ ap (left_after more) first.left ∙ sym (left_after-append gifts more (amount_in old.left));
  ids = later.ids ∙ first.ids;
}

less_by_test : (b : Bool) (left amount : ℕ) → (if b then left - amount else left) ≡ left - (if b then amount else 0)
less_by_test true left amount = refl
less_by_test false left amount = omega arith

left_after-one : (left : List Balance) (gift : Gift) → less left gift.id gift.amount ≡ left_after (gift ∷ []) (amount_in left)
left_after-one left gift = ext (less left gift.id gift.amount) (left_after (gift ∷ []) (amount_in left)) (λ id.
    omega (arith, less_by_test (is_same gift.id id) (amount_in left id) gift.amount, amount_given-cons id gift [], nothing_less id))

-- one gift
pub gives_one : (old new : Stage) (gift : Gift) → new.outputs ≡ old.outputs → new.hands ≡ with_gift old.outputs old.hands gift → amount_in new.left ≡ less old.left gift.id gift.amount
    → ids_of new.left ≡ ids_of old.left → Gives old new (gift ∷ [])
unfolding with_gifts
gives_one old new gift outputs hands left ids = record {
  outputs = outputs;
  hands = hands;
  left = left ∙ left_after-one old.left gift;
  ids = ids;
}

-- no outputs get nothing
pub gives_none : (stage : Stage) (id : RuneId) (places parts : List ℕ) → length places ≡ 0 → Gives stage stage (gifts_to id places parts)
gives_none stage id [] parts none = gives_nothing stage
gives_none stage id (place ∷ places) parts none = absurd (omega arith)

-- the next of what is left of a list
pub drop_next : {A : Type 0} (xs : List A) (k : ℕ) (x : A) → k < length xs → x ≡ get_or xs k x → drop k xs ≡ x ∷ drop (k + 1) xs
drop_next xs k x within is =
    let next : suc k ≡ k + 1 = omega arith in
    drop-cons xs k x within ∙ ap (λ y. y ∷ drop (suc k) xs) (sym is) ∙ ap (λ n. x ∷ drop n xs) next

pub drop_none : {A : Type 0} (xs : List A) (k : ℕ) → length xs ≤ k → drop k xs ≡ []
drop_none [] zero le = refl
drop_none [] (suc k) le = refl
drop_none (x ∷ xs) zero le = absurd (omega arith)
drop_none (x ∷ xs) (suc k) le = drop_none xs k (omega arith)

-- ---- parts of a rune to outputs, one after the other

-- What is still to be dealt: once these outputs have the parts that are to come, all gifts have been given.
pub record IsDealing (id : RuneId) (first : Stage) (all : List Gift) (rest : List ℕ) (parts : Parts) (now : Stage) : Type 0 where
  pub whole : (new : Stage) → Gives now new (gifts_to id rest (next_parts parts (length rest))) → Gives first new all
  pub enough : sum (next_parts parts (length rest)) ≤ amount_in now.left id
  pub small : amount_in now.left id < 2 ^ 128
  pub within : AllByRecursion (λ place. place < length now.outputs) rest

abbrev gift_to : ℕ → RuneId → ℕ → Gift
gift_to place id part = record { output = place; id = id; amount = part }

spends : (old new : Stage) (place : ℕ) (id : RuneId) (part : ℕ) → Gives old new (gift_to place id part ∷ []) → (same : is_same id id ≡ true)
    → amount_in new.left id ≡ amount_in old.left id - part
spends old new place id part gives same =
    ap (λ (left : Left). left id) gives.left ∙ ap (λ n. amount_in old.left id - n) (amount_given-cons id (gift_to place id part) [] ∙ rw same (omega (arith, nothing_less id)))

-- none has been dealt yet
pub deals_from : (id : RuneId) (first : Stage) (amount : ℕ) (places : List ℕ) (parts : Parts)
    → next_parts parts (length places) ≡ parts_of amount (amount_in first.left id) (length places)
    → amount_in first.left id < 2 ^ 128 → AllByRecursion (λ place. place < length first.outputs) places
    → IsDealing id first (gifts_to id places (parts_of amount (amount_in first.left id) (length places))) places parts first
deals_from id first amount places parts is small within = record {
  whole = λ end gives. rw (sym is) gives;
  enough = rw is (sum-parts_of amount (amount_in first.left id) (length places));
  small = small;
  within = within;
}

-- the next part is small enough to be reckoned
pub part_fits : (id : RuneId) (first : Stage) (all : List Gift) (place : ℕ) (rest : List ℕ) (parts : Parts) (now : Stage)
    → IsDealing id first all (place ∷ rest) parts now → sum (next_parts parts 1) < 2 ^ 128
part_fits id first all place rest parts now is = let e = is.enough in let s = is.small in let f = first_part parts (length rest) in omega arith

-- the next part is there
pub part_is_left : (id : RuneId) (first : Stage) (all : List Gift) (place : ℕ) (rest : List ℕ) (parts more : Parts) (part : ℕ) (now : Stage)
    → ((count : ℕ) → next_parts parts (suc count) ≡ part ∷ next_parts more count) → IsDealing id first all (place ∷ rest) parts now → part ≤ amount_in now.left id
part_is_left id first all place rest parts more part now next is =
    let total = ap sum (next (length rest)) ∙ sum-cons part (next_parts more (length rest)) in
    let e = is.enough in
    omega arith

pub deals_on : (id : RuneId) (first : Stage) (all : List Gift) (place : ℕ) (rest : List ℕ) (parts more : Parts) (part : ℕ) (now new : Stage)
    → is_same id id ≡ true
    → ((count : ℕ) → next_parts parts (suc count) ≡ part ∷ next_parts more count)
    → IsDealing id first all (place ∷ rest) parts now
    → Gives now new (gift_to place id part ∷ [])
    → IsDealing id first all rest more new
deals_on id first all place rest parts more part now new same next is gives =
    let split : next_parts parts (suc (length rest)) ≡ part ∷ next_parts more (length rest) = next (length rest) in
    record {
      whole = λ end later. is.whole end (rw split (gives_then now new end (gift_to place id part ∷ []) (gifts_to id rest (next_parts more (length rest))) gives later));
      enough =
          let total = ap sum split ∙ sum-cons part (next_parts more (length rest)) in
          let less = spends now new place id part gives same in
          let was = is.enough in
          omega arith;
      small = let less = spends now new place id part gives same in let was = is.small in omega arith;
      within = subst (λ (outputs : List TxOut). AllByRecursion (λ place. place < length outputs) rest) (sym gives.outputs) is.within.1;
    }

pub deals_all : (id : RuneId) (first : Stage) (all : List Gift) (parts : Parts) (now : Stage) → IsDealing id first all [] parts now → Gives first now all
deals_all id first all parts now is = is.whole now (gives_nothing now)

pub deals_next : (id : RuneId) (first : Stage) (all : List Gift) (places : List ℕ) (k : ℕ) (parts : Parts) (now : Stage) → k < length places
    → IsDealing id first all (drop k places) parts now → IsDealing id first all (get_or places k 0 ∷ drop (k + 1) places) parts now
deals_next id first all places k parts now within is =
    let next : suc k ≡ k + 1 = omega arith in
    subst (λ rest. IsDealing id first all rest parts now) (drop-cons places k 0 within ∙ ap (λ n. get_or places k 0 ∷ drop n places) next) is

pub deals_end : (id : RuneId) (first : Stage) (all : List Gift) (places : List ℕ) (k : ℕ) (parts : Parts) (now : Stage) → length places ≤ k
    → IsDealing id first all (drop k places) parts now → Gives first now all
deals_end id first all places k parts now over is =
    deals_all id first all parts now (subst (λ rest. IsDealing id first all rest parts now) (drop_none places k over) is)

-- ---- edicts, one after the other

-- What is still to be done: once these edicts are followed, all have been.
pub record IsFollowing (etched : Option RuneId) (first : Stage) (all : List Gift) (rest : List Edict) (now : Stage) : Type 0 where
  pub whole : (new : Stage) → Gives now new (given_by now.outputs etched rest (amount_in now.left)) → Gives first new all

pub follows_from : (etched : Option RuneId) (first : Stage) (edicts : List Edict)
    → IsFollowing etched first (given_by first.outputs etched edicts (amount_in first.left)) edicts first
follows_from etched first edicts = record { whole = λ new gives. gives }

pub follows_on : (etched : Option RuneId) (first : Stage) (all : List Gift) (edict : Edict) (rest : List Edict) (now new : Stage)
    → IsFollowing etched first all (edict ∷ rest) now → Gives now new (gifts_by now.outputs edict (amount_in now.left) (rune_of etched edict.id))
    → IsFollowing etched first all rest new
unfolding given_by
follows_on etched first all edict rest now new is gives = record {
  whole = λ end later. is.whole end (gives_then now new end (gifts_by now.outputs edict (amount_in now.left) (rune_of etched edict.id)) _ gives
      (subst (λ (left : Left). Gives new end (given_by now.outputs etched rest left)) gives.left
      (subst (λ (outputs : List TxOut). Gives new end (given_by outputs etched rest (amount_in new.left))) gives.outputs later)));
}

pub follows_all : (etched : Option RuneId) (first : Stage) (all : List Gift) (now : Stage) → IsFollowing etched first all [] now → Gives first now all
unfolding given_by
follows_all etched first all now is = is.whole now (gives_nothing now)

pub follows_next : (etched : Option RuneId) (first : Stage) (all : List Gift) (edicts : List Edict) (k : ℕ) (d : Edict) (now : Stage) → k < length edicts
    → IsFollowing etched first all (drop k edicts) now → IsFollowing etched first all (get_or edicts k d ∷ drop (k + 1) edicts) now
follows_next etched first all edicts k d now within is =
    let next : suc k ≡ k + 1 = omega arith in
    subst (λ rest. IsFollowing etched first all rest now) (drop-cons edicts k d within ∙ ap (λ n. get_or edicts k d ∷ drop n edicts) next) is

pub follows_end : (etched : Option RuneId) (first : Stage) (all : List Gift) (edicts : List Edict) (k : ℕ) (now : Stage) → length edicts ≤ k
    → IsFollowing etched first all (drop k edicts) now → Gives first now all
follows_end etched first all edicts k now over is =
    follows_all etched first all now (subst (λ rest. IsFollowing etched first all rest now) (drop_none edicts k over) is)

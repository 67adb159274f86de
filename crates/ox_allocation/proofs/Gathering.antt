-- Pools that are gathered: runes that come by rising ids.
use Rattle.std.proofs.Common.{◌≡◌, ◌∙◌, ℕ, suc, ◌+◌, ◌-◌, ◌^◌, ◌<◌, ◌≤◌, List, [], ◌∷◌, ◌++◌, length, drop, drop-cons, get_or, refl, sym, ap, subst, arith, false, cond, Some}
use Rattle.std.specs.Prelude.{◌==◌, slice_get, unwrap_or, if◌then◌else◌}
use Rattle.std.specs.BTreeMap.{insert_entry}
use Rattle.std.specs.Ordering.{match_ordering, ordering_reverse}
use Rattle.std.specs.declared.cmp.Ordering.TheVariants.{Less, Greater}
use Rattle.std.specs.List.{AllByRecursion}
use Rattle.std.specs.List.Sorted.{IsStrictlySortedBy}
use Rattle.std.proofs.lemmas.Bool.Decides.{nat_tests}
use Rattle.std.proofs.lemmas.Map.Keys.{sorted_head, sorted_tail}
use Rattle.ox_runestone.specs.declared.stone.RuneId.{RuneId}
use Rattle.ox_allocation.specs.Balances.{AreBalances, Balance, amount_in, id_cmp, ids_of, is_same, with_more}
use Rattle.ox_allocation.specs.Dealing.{with_all}
use Rattle.ox_allocation.proofs.Amounts.{find}
use Rattle.ox_allocation.proofs.BalanceLemmas.{no_balances}
use Rattle.ox_allocation.proofs.Dealt.{amount-with_all, lawful-with_all}
use Rattle.ox_allocation.proofs.Giving.{drop_none}
use Rattle.ox_allocation.proofs.Ids.{below_differs, ids_total, same_turned}
use Rattle.ox_allocation.proofs.Rests.{IsBurning, burned_fits, burns_all, burns_on}
use Rattle.ox_allocation.proofs.Sorting.{same_balances}

-- all ids are below another
abbrev pub AreBelow : RuneId → List Balance → Type 0
AreBelow id runes = AllByRecursion (λ other. id_cmp other id ≡ Less) (ids_of runes)

-- what is above the last is above all
pub all_below : (es : List Balance) (k : RuneId) (last : Balance) → IsStrictlySortedBy id_cmp (ids_of es) → slice_get es (length es - 1) ≡ Some last → id_cmp last.0 k ≡ Less → AreBelow k es
all_below [] k last rising is below = tt
all_below (e ∷ []) k last rising is below =
    let first : slice_get (e ∷ []) 0 ≡ Some last = is in
    let same : e ≡ last = cc first in
    (ap (λ (x : Balance). id_cmp x.0 k) same ∙ below, tt)
all_below (e ∷ f ∷ es) k last rising is below =
    let shift : suc (length (f ∷ es) - 1) ≡ length (e ∷ f ∷ es) - 1 = omega arith in
    let rest = all_below (f ∷ es) k last (sorted_tail id_cmp e.0 (ids_of (f ∷ es)) rising) (ap (slice_get (e ∷ f ∷ es)) shift ∙ is) below in
    (ids_total.trans e.0 f.0 k (sorted_head id_cmp e.0 (ids_of (f ∷ es)) rising).0 rest.0, rest)

inserted_behind : (es : List Balance) (k : RuneId) (v : ℕ) → AreBelow k es → insert_entry id_cmp es k v ≡ es ++ (k, v) ∷ []
inserted_behind [] k v below = refl
inserted_behind (e ∷ es) k v below =
    let above : id_cmp k e.0 ≡ Greater = ids_total.antisymm k e.0 ∙ ap ordering_reverse below.0 in
    ap (λ r. match_ordering r ((k, v) ∷ e ∷ es) ((e.0, v) ∷ es) (e ∷ insert_entry id_cmp es k v)) above
    ∙ ap (λ (more : List Balance). e ∷ more) (inserted_behind es k v below.1)

none_yet : (es : List Balance) (k : RuneId) → AreBelow k es → amount_in es k ≡ 0
none_yet [] k below = refl
none_yet (e ∷ es) k below =
    let differs : is_same k e.0 ≡ false = same_turned k e.0 ∙ below_differs e.0 k below.0 in
    ap (λ b. unwrap_or (cond b (Some e.1) (find k es)) 0) differs ∙ none_yet es k below.1

-- a rune behind the others is put there
pub more_behind : (es : List Balance) (k : RuneId) (v : ℕ) → 0 < v → AreBelow k es → es ++ (k, v) ∷ [] ≡ with_more es k v
more_behind es k v some below =
    let test : (v == 0) ≡ false = grind (arith, nat_tests, some) in
    let whole : amount_in es k + v ≡ v = let n = none_yet es k below in omega arith in
    sym (ap (λ b. if b then es else insert_entry id_cmp es k (amount_in es k + v)) test ∙ (ap (insert_entry id_cmp es k) whole ∙ inserted_behind es k v below))

-- balances added one by one to nothing
pub whole_list : (runes : List Balance) → AreBalances runes → with_all [] runes ≡ runes
whole_list runes lawful =
    same_balances (with_all [] runes) runes (lawful-with_all [] runes no_balances) lawful (λ q. let e = amount-with_all [] runes q lawful.rising in omega arith)

abbrev IsPutting : List Balance → List Balance → List Balance → Type 0
IsPutting runes rest now = IsBurning (with_all [] runes) rest now

next_rune : (runes : List Balance) (now : List Balance) (k : ℕ) (d : Balance) → k < length runes → IsPutting runes (drop k runes) now → IsPutting runes (get_or runes k d ∷ drop (k + 1) runes) now
next_rune runes now k d there is =
    let next : suc k ≡ k + 1 = omega arith in
    subst (λ rest. IsPutting runes rest now) (drop-cons runes k d there ∙ ap (λ n. get_or runes k d ∷ drop n runes) next) is

pub put_fits : (runes now : List Balance) (k : ℕ) (d : Balance) → k < length runes → IsBurning (with_all [] runes) (drop k runes) now → amount_in now (get_or runes k d).0 + (get_or runes k d).1 < 2 ^ 128
put_fits runes now k d there is = burned_fits (with_all [] runes) (get_or runes k d) (drop (k + 1) runes) now (next_rune runes now k d there is)

pub put_on : (runes now new : List Balance) (k : ℕ) (d : Balance) → k < length runes → IsBurning (with_all [] runes) (drop k runes) now → new ≡ with_more now (get_or runes k d).0 (get_or runes k d).1
    → IsBurning (with_all [] runes) (drop (k + 1) runes) new
put_on runes now new k d there is more = burns_on (with_all [] runes) (get_or runes k d) (drop (k + 1) runes) now new (next_rune runes now k d there is) more

pub put_all : (runes now : List Balance) (k : ℕ) → length runes ≤ k → AreBalances runes → IsBurning (with_all [] runes) (drop k runes) now → now ≡ runes
put_all runes now k over lawful is =
    burns_all (with_all [] runes) now (subst (λ rest. IsPutting runes rest now) (drop_none runes k over) is) ∙ whole_list runes lawful

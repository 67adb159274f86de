-- What outputs hold of runes: that ids rise, that runes are there, and what all that comes to.
use Rattle.std.proofs.Common.{◌≡◌, ◌≢◌, ◌∙◌, ℕ, zero, suc, ◌+◌, ◌*◌, ◌<◌, ◌≤◌, ◌^◌, ap₂, Bool, true, false, cond, List, [], ◌∷◌, ◌++◌, length, get_or, drop, map, refl, sym, ap, subst, arith, Option, Some, None, Ordering}
use Rattle.std.specs.Prelude.{◌&&◌, ◌==◌, ◌↔◌, nat_le, nat_lt, if◌then◌else◌, is_some, IsTrue, unwrap_or, slice_get, Decides}
use Rattle.std.specs.BTreeMap.{BTreeMap, get as kept_at, is_at}
use Rattle.std.specs.FinMap.{entries, get, values}
use Rattle.std.specs.List.{AllByRecursion, list_all}
use Rattle.std.specs.List.Sorted.{IsStrictlySortedBy}
use Rattle.std.specs.Map.{keys_of, lookup, values_of}
use Rattle.std.specs.Option.{option_map}
use Rattle.std.specs.Ordering.{is_eq, is_lt}
use Rattle.std.specs.declared.cmp.Ordering.TheVariants.{Less, Equal, Greater}
use Rattle.std.proofs.lemmas.Bool.{and_from, and_parts, cond-false, cond-true, false≢true, leb-true, lt-ltb, ltb-true}
use Rattle.std.proofs.lemmas.Bool.Decides.{Decides-eqb, same_from_decides}
use Rattle.std.proofs.lemmas.List.{drop_more, length-drop}
use Rattle.std.proofs.lemmas.List.Elements.{All-from_recursion, recursion_from_All}
use Rattle.std.proofs.lemmas.List.Sums.{get_or-le-sum_by, sum_by-cons}
use Rattle.std.proofs.lemmas.Option.{get_or_from_slice_get, slice_get-get_or, slice_get_within}
use Rattle.std.proofs.lemmas.List.Folds.{list_all-append, list_all_at}
use Rattle.std.proofs.Math.Nat.{mul-le-mul_right}
use Rattle.ox_runestone.specs.declared.stone.RuneId.{RuneId}
use Rattle.ox_allocation.specs.Balances.{Balance, amount_in, id_cmp, ids_of, is_same}
use Rattle.ox_allocation.proofs.Ids.{ids_total, same_id, same_itself, same_turned}
use Rattle.ox_etching.specs.declared.row.RuneRow.{RuneRow}
use Rattle.ox_ledger.specs.Balanced.{AreDistinct, AreKnown, amount_held, amount_per_mint, cap_in, made_of}
use Rattle.ox_ledger.specs.Runes.{BalanceMap, Placement, by_id}
use Rattle.ox_allocation.proofs.Amounts.{ext}
use Rattle.ox_block.specs.declared.block.OutPoint.{OutPoint}
use Rattle.ox_rules.specs.Outputs.{Outputs, outpoint_cmp}
use Rattle.ox_rules.specs.declared.rows.OutRow.{OutRow}
use Rattle.ox_sound.specs.Amounts.{AreAmounts, as_amount, balances_in, burned_in, is_among, outputs_in, sum_held, sum_of}
use Rattle.ox_sound.specs.Rows.{are_amounts, are_held, are_known, are_settled, has_right_name, has_right_supply, has_small_numbers, ids_differ, is_amount, is_bounded, is_held, rise}
use Rattle.ox_sound.proofs.AmountLemmas.{amount_is, is_there, small_amount}
use Rattle.ox_sound.proofs.TableLemmas.{entries_back, get_back}
use Rattle.ox_sound.proofs.DifferLemmas.{Decides-ids, all_by_place, each_passes}

-- ---- ids that rise

pairs : (balances : List Balance) (i j : ℕ) (d : Balance) → j ≡ i + 1 → j < length balances → drop i balances ≡ get_or balances i d ∷ get_or balances j d ∷ drop (j + 1) balances
pairs balances i j d next h =
    drop_more balances i d (omega (arith, h, next)) ∙ ap (λ (n : ℕ). get_or balances i d ∷ drop n balances) (sym next) ∙ ap (λ (bs : List Balance). get_or balances i d ∷ bs) (drop_more balances j d h)

pub rise_stop : (balances : List Balance) (i j : ℕ) (d : Balance) → j ≡ i + 1 → j < length balances → is_lt (id_cmp (get_or balances i d).0 (get_or balances j d).0) ≡ false → rise (drop i balances) ≡ false
unfolding rise
rise_stop balances i j d next h not_less = ap rise (pairs balances i j d next h) ∙ ap (λ (b : Bool). b && rise (get_or balances j d ∷ drop (j + 1) balances)) not_less

pub rise_on : (balances : List Balance) (i j : ℕ) (d : Balance) → j ≡ i + 1 → j < length balances → is_lt (id_cmp (get_or balances i d).0 (get_or balances j d).0) ≡ true → rise (drop i balances) ≡ rise (drop j balances)
unfolding rise
rise_on balances i j d next h less =
    ap rise (pairs balances i j d next h) ∙ ap (λ (b : Bool). b && rise (get_or balances j d ∷ drop (j + 1) balances)) less ∙ sym (ap rise (drop_more balances j d h))

short_rises : (balances : List Balance) → length balances ≤ 1 → rise balances ≡ true
unfolding rise
short_rises [] h = refl
short_rises (b ∷ []) h = refl
short_rises (b ∷ next ∷ more) h = absurd (omega (arith, h))

pub rise_end : (balances : List Balance) (i : ℕ) → length balances ≤ i + 1 → rise (drop i balances) ≡ true
rise_end balances i h = short_rises (drop i balances) (simp length-drop (omega (arith, h)))

less_from : (r : Ordering) → is_lt r ≡ true → r ≡ Less
less_from Less is = refl
less_from Equal is = absurd (false≢true is)
less_from Greater is = absurd (false≢true is)

above : (x y : RuneId) (ids : List RuneId) → id_cmp x y ≡ Less → AllByRecursion (λ (k : RuneId). id_cmp y k ≡ Less) ids → AllByRecursion (λ (k : RuneId). id_cmp x k ≡ Less) ids
above x y [] less all = tt
above x y (k ∷ ids) less all = (ids_total.trans x y k less all.0, above x y ids less all.1)

pub rising_from : (balances : List Balance) → rise balances ≡ true → IsStrictlySortedBy id_cmp (ids_of balances)
unfolding rise IsStrictlySortedBy
rising_from [] is = tt
rising_from (b ∷ []) is = (tt, tt)
rising_from (b ∷ next ∷ more) is =
    let parts = and_parts (is_lt (id_cmp b.0 next.0)) (rise (next ∷ more)) is in
    let less : id_cmp b.0 next.0 ≡ Less = less_from (id_cmp b.0 next.0) parts.0 in
    let rest = rising_from (next ∷ more) parts.1 in
    ((less, above b.0 next.0 (ids_of more) less rest.0), rest)

rise_from : (balances : List Balance) → IsStrictlySortedBy id_cmp (ids_of balances) → rise balances ≡ true
unfolding rise IsStrictlySortedBy
rise_from [] sorted = refl
rise_from (b ∷ []) sorted = refl
rise_from (b ∷ next ∷ more) sorted = and_from (is_lt (id_cmp b.0 next.0)) (rise (next ∷ more)) (ap is_lt sorted.0.0) (rise_from (next ∷ more) sorted.1)

-- ---- the amount of a rune

sum-cons : (b : Balance) (balances : List Balance) (id : RuneId) → sum_of (b ∷ balances) id ≡ (if is_same b.0 id then b.1 else 0) + sum_of balances id
sum-cons b balances id = sum_by-cons (λ (balance : Balance). if is_same balance.0 id then balance.1 else 0) b balances

none_above : (id : RuneId) (balances : List Balance) → AllByRecursion (λ (k : RuneId). id_cmp id k ≡ Less) (ids_of balances) → sum_of balances id ≡ 0
none_above id [] all = refl
none_above id (b ∷ balances) all =
    let differs : is_same b.0 id ≡ false = same_turned b.0 id ∙ ap is_eq all.0 in
    let here : ◌≡◌ {A = ℕ} (if is_same b.0 id then b.1 else 0) 0 = cond-false (is_same b.0 id) b.1 0 differs in
    let rest : sum_of balances id ≡ 0 = none_above id balances all.1 in
    sum-cons b balances id ∙ omega (arith, here, rest)

sum_sorted : (balances : List Balance) (id : RuneId) → IsStrictlySortedBy id_cmp (ids_of balances) → sum_of balances id ≡ amount_in balances id
unfolding IsStrictlySortedBy
sum_sorted [] id sorted = refl
sum_sorted (b ∷ balances) id sorted = sum-cons b balances id ∙ by_test (sum_sorted balances id sorted.1) (is_same b.0 id) refl where
  by_test : sum_of balances id ≡ amount_in balances id → (t : Bool) → is_same b.0 id ≡ t → (if t then b.1 else 0) + sum_of balances id ≡ amount_in (b ∷ balances) id
  by_test rest true is =
      let none : sum_of balances id ≡ 0 = none_above id balances (subst (λ (q : RuneId). AllByRecursion (λ (k : RuneId). id_cmp q k ≡ Less) (ids_of balances)) (same_id b.0 id is) sorted.0) in
      let at : is_same id b.0 ≡ true = same_turned id b.0 ∙ is in
      let here : amount_in (b ∷ balances) id ≡ b.1 = ap (λ (t : Bool). unwrap_or (cond t (Some b.1) (lookup (is_at (id_cmp id)) balances)) 0) at in
      omega (arith, none, here)
  by_test rest false is =
      let at : is_same id b.0 ≡ false = same_turned id b.0 ∙ is in
      let behind : amount_in (b ∷ balances) id ≡ amount_in balances id = ap (λ (t : Bool). unwrap_or (cond t (Some b.1) (lookup (is_at (id_cmp id)) balances)) 0) at in
      omega (arith, rest, behind)

pub sum_is_amount : (balances : List Balance) (id : RuneId) → rise balances ≡ true → sum_of balances id ≡ amount_in balances id
sum_is_amount balances id is = sum_sorted balances id (rising_from balances is)

-- ---- balances of runes that are there

known_id : (known : RuneId → Bool) (balances : List Balance) (id : RuneId) → list_all (is_amount known) balances ≡ true → amount_in balances id ≢ 0 → known id ≡ true
known_id known [] id all some = absurd (some refl)
known_id known (b ∷ balances) id all some = by_test (λ rest is. known_id known balances id rest is) (is_same id b.0) refl where
  parts : (is_amount known b ≡ true) × (list_all (is_amount known) balances ≡ true)
  parts = and_parts (is_amount known b) (list_all (is_amount known) balances) all

  by_test : (list_all (is_amount known) balances ≡ true → amount_in balances id ≢ 0 → known id ≡ true) → (t : Bool) → is_same id b.0 ≡ t → known id ≡ true
  by_test later true is = ap known (same_id id b.0 is) ∙ (and_parts (nat_lt 0 b.1) (known b.0) parts.0).1
  by_test later false is =
      let behind : amount_in (b ∷ balances) id ≡ amount_in balances id = ap (λ (t : Bool). unwrap_or (cond t (Some b.1) (lookup (is_at (id_cmp id)) balances)) 0) is in
      later parts.1 (λ none. some (behind ∙ none))

some_from : (known : RuneId → Bool) (balances : List Balance) → list_all (is_amount known) balances ≡ true → AllByRecursion (λ (n : ℕ). 0 < n) (values_of balances)
some_from known [] all = tt
some_from known (b ∷ balances) all =
    let parts = and_parts (is_amount known b) (list_all (is_amount known) balances) all in
    (ltb-true 0 b.1 (and_parts (nat_lt 0 b.1) (known b.0) parts.0).0, some_from known balances parts.1)

some_each : (balances : List Balance) → AllByRecursion (λ (n : ℕ). 0 < n) (values_of balances) → (k : ℕ) (d : Balance) → k < length balances → 0 < (get_or balances k d).1
some_each [] all k d h = absurd (omega (arith, h))
some_each (b ∷ balances) all zero d h = all.0
some_each (b ∷ balances) all (suc k) d h = some_each balances all.1 k d (omega (arith, h))

abbrev pub Known : List RuneRow → List Balance → Type 0
Known runes balances = (balances ≢ []) × AreKnown runes balances

some_in : (b : Balance) (balances : List Balance) → 0 < length (b ∷ balances)
some_in b balances = omega arith

known_from : (runes : List RuneRow) (balances : List Balance) → are_known runes balances ≡ true → Known runes balances
unfolding are_known
known_from runes balances is = (
  λ none. absurd (false≢true (ap (λ (bs : List Balance). nat_lt 0 (length bs)) (sym none) ∙ parts.0)),
  record {
    proper = record {
      rising = rising_from balances parts.1.0;
      some = All-from_recursion (λ (n : ℕ). 0 < n) (values_of balances) (some_from (λ (id : RuneId). is_some (by_id runes id)) balances parts.1.1);
    };
    known = λ id some. known_id (λ (q : RuneId). is_some (by_id runes q)) balances id parts.1.1 some;
  },
) where
  whole : Bool
  whole = list_all (is_amount (λ (id : RuneId). is_some (by_id runes id))) balances

  parts : (nat_lt 0 (length balances) ≡ true) × ((rise balances ≡ true) × (whole ≡ true))
  parts =
      let outer = and_parts (nat_lt 0 (length balances) && rise balances) whole is in
      let inner = and_parts (nat_lt 0 (length balances)) (rise balances) outer.0 in
      (inner.0, (inner.1, outer.1))

to_known : (runes : List RuneRow) (balances : List Balance) → Known runes balances → are_known runes balances ≡ true
unfolding are_known
to_known runes [] known = absurd (known.0 refl)
to_known runes (b ∷ more) known =
    let balances = b ∷ more in
    and_from (nat_lt 0 (length balances) && rise balances) (list_all (is_amount (λ (id : RuneId). is_some (by_id runes id))) balances)
    (and_from (nat_lt 0 (length balances)) (rise balances) (lt-ltb 0 (length balances) (some_in b more)) (rise_from balances known.1.proper.rising))
    (all_by_place (is_amount (λ (id : RuneId). is_some (by_id runes id))) balances b each)
  where
    each : (k : ℕ) → k < length (b ∷ more) → is_amount (λ (id : RuneId). is_some (by_id runes id)) (get_or (b ∷ more) k b) ≡ true
    each k h =
        let one = get_or (b ∷ more) k b in
        let some : 0 < one.1 = some_each (b ∷ more) (recursion_from_All (λ (n : ℕ). 0 < n) (values_of (b ∷ more)) known.1.proper.some) k b h in
        let own : ◌≡◌ {A = ℕ} (if is_same one.0 one.0 then one.1 else 0) one.1 = cond-true (is_same one.0 one.0) one.1 0 (same_itself one.0) in
        let within : (if is_same one.0 one.0 then one.1 else 0) ≤ sum_of (b ∷ more) one.0 = get_or-le-sum_by (λ (balance : Balance). if is_same balance.0 one.0 then balance.1 else 0) (b ∷ more) k b h in
        let is : sum_of (b ∷ more) one.0 ≡ amount_in (b ∷ more) one.0 = sum_sorted (b ∷ more) one.0 known.1.proper.rising in
        and_from (nat_lt 0 one.1) (is_some (by_id runes one.0)) (lt-ltb 0 one.1 some) (known.1.known one.0 (λ none. absurd (omega (arith, some, own, within, is, none))))

pub Decides-known : (runes : List RuneRow) (balances : List Balance) → Decides (are_known runes balances) (Known runes balances)
Decides-known runes balances = (known_from runes balances, to_known runes balances)

-- ---- what there is of a rune

pub found_own : (runes : List RuneRow) → AreDistinct (λ row. row.id) runes → (i : ℕ) (row : RuneRow) → slice_get runes i ≡ Some row → by_id runes row.id ≡ Some row
unfolding by_id
found_own [] distinct i row there = let none : None ≡ Some row = there in absurd (cc none)
found_own (first ∷ runes) distinct zero row there =
    let here : first ≡ row = cc there in
    cond-true (is_same first.id row.id) (Some first) (by_id runes row.id) (ap (λ (r : RuneRow). is_same r.id row.id) here ∙ same_itself row.id) ∙ ap Some here
found_own (first ∷ runes) distinct (suc i) row there =
    by_test (found_own runes (λ a b x y p q e. let both : suc a ≡ suc b = distinct (suc a) (suc b) x y p q e in omega (arith, both)) i row there) (is_same first.id row.id) refl
  where
    by_test : by_id runes row.id ≡ Some row → (b : Bool) → is_same first.id row.id ≡ b → (if b then Some first else by_id runes row.id) ≡ Some row
    by_test later true is = let never : 0 ≡ suc i = distinct 0 (suc i) first row refl there (same_id first.id row.id is) in absurd (omega (arith, never))
    by_test later false is = later

pub is_settled : (amounts : BTreeMap RuneId (Option ℕ)) (runes : List RuneRow) (held : RuneId → ℕ) (row : RuneRow) (r : Bool) → AreAmounts amounts (burned_in runes) held → by_id runes row.id ≡ Some row
    → made_of row < 2 ^ 128 → (IsTrue r ↔ (kept_at id_cmp amounts row.id ≡ Some (Some (made_of row)))) → r ≡ (held row.id + row.burned == made_of row)
is_settled amounts runes held row r are found small iff =
    same_from_decides r (held row.id + row.burned == made_of row) (to, from) (Decides-eqb (held row.id + row.burned) (made_of row)) where
      at : kept_at id_cmp amounts row.id ≡ Some (as_amount (row.burned + held row.id))
      at = are.at row.id ∙ ap (λ (o : Option RuneRow). option_map (λ n. as_amount (n + held row.id)) (option_map (λ (one : RuneRow). one.burned) o)) found

      to : r ≡ true → held row.id + row.burned ≡ made_of row
      to is =
          let some : Some (as_amount (row.burned + held row.id)) ≡ Some (Some (made_of row)) = sym at ∙ iff.0 is in
          let amount : as_amount (row.burned + held row.id) ≡ Some (made_of row) = cc some in
          let equal : row.burned + held row.id ≡ made_of row = (amount_is (row.burned + held row.id) (made_of row) amount).0 in
          omega (arith, equal)

      from : held row.id + row.burned ≡ made_of row → r ≡ true
      from equal =
          let turned : row.burned + held row.id ≡ made_of row = omega (arith, equal) in
          iff.1 (at ∙ ap (λ n. Some (as_amount n)) turned ∙ ap Some (small_amount (made_of row) small))

-- ---- what was made of a rune

mints_within : (row : RuneRow) → is_bounded row ≡ true → row.premine + row.mints * amount_per_mint row.terms < 2 ^ 128
unfolding is_bounded
mints_within row is =
    let outer = and_parts (has_small_numbers row && has_right_name row) (has_right_supply row) is in
    let parts = and_parts (nat_lt (row.premine + cap_in row.terms * amount_per_mint row.terms) (2 ^ 128)) (nat_le row.mints (cap_in row.terms)) outer.1 in
    let supply : row.premine + cap_in row.terms * amount_per_mint row.terms < 2 ^ 128 = ltb-true (row.premine + cap_in row.terms * amount_per_mint row.terms) (2 ^ 128) parts.0 in
    let mints : row.mints ≤ cap_in row.terms = leb-true row.mints (cap_in row.terms) parts.1 in
    let most : row.mints * amount_per_mint row.terms ≤ cap_in row.terms * amount_per_mint row.terms = mul-le-mul_right (amount_per_mint row.terms) mints in
    omega (arith, supply, most)

pub made_fits : (row : RuneRow) (amount : ℕ) → is_bounded row ≡ true → amount ≡ amount_per_mint row.terms → row.premine + row.mints * amount < 2 ^ 128
made_fits row amount is same = subst (λ (n : ℕ). row.premine + row.mints * n < 2 ^ 128) (sym same) (mints_within row is)

pub made_test : (amounts : BTreeMap RuneId (Option ℕ)) (runes : List RuneRow) (held : RuneId → ℕ) (i : ℕ) (d : RuneRow) (r : Bool) → i < length runes → list_all is_bounded runes ≡ true → ids_differ runes ≡ true
    → AreAmounts amounts (burned_in runes) held → (IsTrue r ↔ (kept_at id_cmp amounts (get_or runes i d).id ≡ Some (Some (made_of (get_or runes i d)))))
    → r ≡ (held (get_or runes i d).id + (get_or runes i d).burned == made_of (get_or runes i d))
made_test amounts runes held i d r h bounded differ are iff =
    let row = get_or runes i d in
    is_settled amounts runes held row r are (found_own runes ((Decides-ids runes).0 differ) i row (slice_get-get_or runes i d h)) (made_fits row (amount_per_mint row.terms) (each_passes is_bounded runes d bounded i h) refl) iff

-- ---- outputs one by one

got_fails : {X : Type 0} (p : X → Bool) (xs : List X) (i : ℕ) (x : X) → slice_get xs i ≡ Some x → p x ≡ false → list_all p xs ≡ false
got_fails p xs i x there fails =
    list_all_at p xs i x (slice_get_within xs i x there) (ap p (get_or_from_slice_get xs i x x there) ∙ fails)

-- what is known by the amounts is known by the runes
pub same_known : (amounts : BTreeMap RuneId (Option ℕ)) (runes : List RuneRow) (held : RuneId → ℕ) (balances : List Balance) → AreAmounts amounts (burned_in runes) held
    → are_amounts (is_among amounts) balances ≡ are_known runes balances
unfolding are_known
same_known amounts runes held balances are =
    ap (λ (known : RuneId → Bool). are_amounts known balances) (ext (is_among amounts) (λ (id : RuneId). is_some (by_id runes id)) (λ id. is_there amounts runes held id are))

pub one_fails : (runes : List RuneRow) (outs : Outputs) (bal : BTreeMap OutPoint (List Balance)) (i : ℕ) (one : Placement) → IsStrictlySortedBy outpoint_cmp (keys_of bal.entries)
    → slice_get bal.entries i ≡ Some one → is_held runes outs one ≡ false → are_held runes outs (balances_in bal) ≡ false
unfolding are_held
one_fails runes outs bal i one rising there fails =
    ap (list_all (is_held runes outs)) (entries_back bal.entries rising) ∙ got_fails (is_held runes outs) bal.entries i one there fails

pub all_held : (runes : List RuneRow) (outs : Outputs) (bal : BTreeMap OutPoint (List Balance)) (done : List Placement) → IsStrictlySortedBy outpoint_cmp (keys_of bal.entries)
    → done ≡ bal.entries → list_all (is_held runes outs) done ≡ true → are_held runes outs (balances_in bal) ≡ true
unfolding are_held
all_held runes outs bal done rising whole all = ap (list_all (is_held runes outs)) (entries_back bal.entries rising ∙ sym whole) ∙ all

pub more_held : (runes : List RuneRow) (outs : Outputs) (done : List Placement) (one : Placement) → list_all (is_held runes outs) done ≡ true → is_held runes outs one ≡ true
    → list_all (is_held runes outs) (done ++ one ∷ []) ≡ true
more_held runes outs done one before here =
    list_all-append (is_held runes outs) done (one ∷ []) ∙ and_from (list_all (is_held runes outs) done) (is_held runes outs one && true) before (and_from (is_held runes outs one) true here refl)

pub held_is : (outs : BTreeMap OutPoint OutRow) (runes : List RuneRow) (at : OutPoint) (balances : List Balance) (a b : Bool) → a ≡ is_some (lookup (is_at (outpoint_cmp at)) outs.entries) → b ≡ are_known runes balances
    → is_held runes (outputs_in outs) (at, balances) ≡ (a && b)
held_is outs runes at balances a b there known =
    ap (λ (o : Option OutRow). is_some o && are_known runes balances) (get_back outs.entries at) ∙ ap (λ (x : Bool). x && are_known runes balances) (sym there) ∙ ap (λ (y : Bool). a && y) (sym known)

-- where outputs hold balances, their sums are the amounts
sums_same : (runes : List RuneRow) (outs : Outputs) (es : List Placement) (id : RuneId) → list_all (is_held runes outs) es ≡ true → sum_held (map (λ (e : Placement). e.1) es) id ≡ amount_held (map (λ (e : Placement). e.1) es) id
unfolding are_known
sums_same runes outs [] id all = refl
sums_same runes outs (e ∷ es) id all =
    let parts = and_parts (is_held runes outs e) (list_all (is_held runes outs) es) all in
    let known = (and_parts (is_some (get outs e.0)) (are_known runes e.1) parts.0).1 in
    let some = (and_parts (nat_lt 0 (length e.1) && rise e.1) (list_all (is_amount (λ (q : RuneId). is_some (by_id runes q))) e.1) known).0 in
    let rises = (and_parts (nat_lt 0 (length e.1)) (rise e.1) some).1 in
    sum_by-cons (λ (balances : List Balance). sum_of balances id) e.1 (map (λ (x : Placement). x.1) es)
    ∙ ap₂ (λ (a b : ℕ). a + b) (sum_is_amount e.1 id rises) (sums_same runes outs es id parts.1)
    ∙ sym (sum_by-cons (λ (balances : List Balance). amount_in balances id) e.1 (map (λ (x : Placement). x.1) es))

pub sums_settle : (runes : List RuneRow) (outs : Outputs) (bal : BalanceMap) → are_held runes outs bal ≡ true
    → list_all (λ (row : RuneRow). 0 + sum_held (values bal) row.id + row.burned == made_of row) runes ≡ are_settled runes bal
unfolding are_held are_settled
sums_settle runes outs bal held =
    ap (λ (f : RuneId → ℕ). list_all (λ (row : RuneRow). f row.id + row.burned == made_of row) runes)
    (ext (λ (id : RuneId). 0 + sum_held (values bal) id) (λ (id : RuneId). amount_held (values bal) id) (λ id. let same : sum_held (values bal) id ≡ amount_held (values bal) id = sums_same runes outs (entries bal) id held in omega (arith, same)))

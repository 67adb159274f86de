-- Sums by runes' ids, one balance after another.
use Rattle.std.proofs.Common.{◌≡◌, ◌∙◌, ℕ, ◌+◌, ◌<◌, ◌≤◌, ◌^◌, Bool, true, false, cond, List, [], ◌∷◌, ◌++◌, length, get_or, take, refl, sym, ap, subst, arith, inl, inr, Option, Some, None}
use Rattle.std.specs.Prelude.{◌||◌, nat_lt, if◌then◌else◌, is_some, sum_by, SomeIff}
use Rattle.std.specs.BTreeMap.{BTreeMap, get}
use Rattle.std.specs.List.{list_any}
use Rattle.std.specs.Option.{option_map}
use Rattle.std.proofs.lemmas.Bool.{cases_lt, cases_Bool, cond-false, cond-true, false≢true, le-ltb, lt-ltb}
use Rattle.std.proofs.lemmas.List.{take_more}
use Rattle.std.proofs.lemmas.List.Sums.{sum_by_more, sum_by_push}
use Rattle.ox_runestone.specs.declared.stone.RuneId.{RuneId}
use Rattle.ox_allocation.specs.Balances.{Balance, id_cmp, is_same}
use Rattle.ox_allocation.proofs.Ids.{same_id, same_itself}
use Rattle.ox_etching.specs.declared.row.RuneRow.{RuneRow}
use Rattle.ox_ledger.specs.Runes.{by_id}
use Rattle.ox_sound.specs.Rows.{ids_differ}
use Rattle.ox_sound.proofs.DifferLemmas.{differ_more, not_alone}
use Rattle.ox_sound.specs.Amounts.{AreAmounts, as_amount, burned_in, sum_held, sum_of}

-- ---- numbers of 128 bits

pub small_amount : (n : ℕ) → n < 2 ^ 128 → as_amount n ≡ Some n
small_amount n h = cond-true (nat_lt n (2 ^ 128)) (Some n) None (lt-ltb n (2 ^ 128) h)

pub great_amount : (n : ℕ) → 2 ^ 128 ≤ n → as_amount n ≡ None
great_amount n h = cond-false (nat_lt n (2 ^ 128)) (Some n) None (le-ltb n (2 ^ 128) h)

pub amount_is : (n s : ℕ) → as_amount n ≡ Some s → (n ≡ s) × (n < 2 ^ 128)
amount_is n s is =
    elim (cases_lt n (2 ^ 128)) [
      | inl small ↦ let same : Some n ≡ Some s = sym (small_amount n small) ∙ is in (cc same, small)
      | inr great ↦ let none : None ≡ Some s = sym (great_amount n great) ∙ is in absurd (cc none)
    ]

pub no_amount : (n : ℕ) → as_amount n ≡ None → 2 ^ 128 ≤ n
no_amount n is =
    elim (cases_lt n (2 ^ 128)) [
      | inl small ↦ let some : Some n ≡ None = sym (small_amount n small) ∙ is in absurd (cc some)
      | inr great ↦ great
    ]

pub none_more : (n amount : ℕ) → None ≡ as_amount n → None ≡ as_amount (n + amount)
none_more n amount is = sym (great_amount (n + amount) (let great : 2 ^ 128 ≤ n = no_amount n (sym is) in omega arith))

pub some_more : (n s amount : ℕ) (r : Option ℕ) → Some s ≡ as_amount n → SomeIff r (s + amount < 2 ^ 128) (s + amount) → r ≡ as_amount (n + amount)
some_more n s amount None is iff =
    let same : (n ≡ s) × (n < 2 ^ 128) = amount_is n s (sym is) in
    let equal : n ≡ s = same.0 in
    elim (cases_lt (s + amount) (2 ^ 128)) [
      | inl small ↦ absurd (iff small)
      | inr great ↦ sym (great_amount (n + amount) (omega (arith, great, equal)))
    ]
some_more n s amount (Some m) is iff =
    let same : (n ≡ s) × (n < 2 ^ 128) = amount_is n s (sym is) in
    let equal : n ≡ s = same.0 in
    let total : m ≡ n + amount = let sum : m ≡ s + amount = iff.1 in omega (arith, equal, sum) in
    let fits : n + amount < 2 ^ 128 = let below : s + amount < 2 ^ 128 = iff.0 in omega (arith, below, equal) in
    ap Some total ∙ sym (small_amount (n + amount) fits)

-- ---- one more balance

pub same_held : (amounts : BTreeMap RuneId (Option ℕ)) (there : RuneId → Option ℕ) (f g : RuneId → ℕ) → ((id : RuneId) → f id ≡ g id) → AreAmounts amounts there f → AreAmounts amounts there g
same_held amounts there f g same are = record { at = λ id. are.at id ∙ ap (λ h. option_map (λ n. as_amount (n + h)) (there id)) (same id) }

-- nothing is added to a rune that isn't there
pub none_added : (amounts : BTreeMap RuneId (Option ℕ)) (id : RuneId) (amount : ℕ) (there : RuneId → Option ℕ) (held : RuneId → ℕ) → AreAmounts amounts there held → get id_cmp amounts id ≡ None
    → AreAmounts amounts there (λ other. held other + (if is_same id other then amount else 0))
none_added amounts id amount there held are none =
    record { at = λ other. are.at other ∙ by_rune other (there other) refl (is_same id other) refl } where
      by_rune : (other : RuneId) (t : Option ℕ) → there other ≡ t → (b : Bool) → is_same id other ≡ b
          → option_map (λ n. as_amount (n + held other)) t ≡ option_map (λ n. as_amount (n + (held other + (if b then amount else 0)))) t
      by_rune other None is b like = refl
      by_rune other (Some n) is true like =
          let some : None ≡ Some (as_amount (n + held other)) = sym none ∙ ap (get id_cmp amounts) (same_id id other like) ∙ are.at other ∙ ap (option_map (λ m. as_amount (m + held other))) is in
          absurd (cc some)
      by_rune other (Some n) is false like = ap (λ m. Some (as_amount m)) (omega arith)

pub one_added : (amounts new : BTreeMap RuneId (Option ℕ)) (id : RuneId) (amount : ℕ) (sum w : Option ℕ) (there : RuneId → Option ℕ) (held : RuneId → ℕ) → AreAmounts amounts there held → get id_cmp amounts id ≡ Some sum
    → ((n : ℕ) → sum ≡ as_amount n → w ≡ as_amount (n + amount)) → ((other : RuneId) → get id_cmp new other ≡ cond (is_same id other) (Some w) (get id_cmp amounts other))
    → AreAmounts new there (λ other. held other + (if is_same id other then amount else 0))
one_added amounts new id amount sum w there held are found more written =
    record { at = λ other. written other ∙ by_rune other (there other) refl (is_same id other) refl } where
      by_rune : (other : RuneId) (t : Option ℕ) → there other ≡ t → (b : Bool) → is_same id other ≡ b
          → cond b (Some w) (get id_cmp amounts other) ≡ option_map (λ n. as_amount (n + (held other + (if b then amount else 0)))) t
      by_rune other None is true like =
          let none : Some sum ≡ None = sym found ∙ ap (get id_cmp amounts) (same_id id other like) ∙ are.at other ∙ ap (option_map (λ m. as_amount (m + held other))) is in
          absurd (cc none)
      by_rune other (Some n) is true like =
          let some : Some sum ≡ Some (as_amount (n + held other)) = sym found ∙ ap (get id_cmp amounts) (same_id id other like) ∙ are.at other ∙ ap (option_map (λ m. as_amount (m + held other))) is in
          let was : sum ≡ as_amount (n + held other) = cc some in
          ap Some (more (n + held other) was) ∙ ap (λ m. Some (as_amount m)) (omega arith)
      by_rune other None is false like = are.at other ∙ ap (option_map (λ m. as_amount (m + held other))) is
      by_rune other (Some n) is false like =
          are.at other ∙ ap (option_map (λ m. as_amount (m + held other))) is ∙ ap (λ m. Some (as_amount m)) (omega arith)

-- the sum of some balances and one more
pub sum_more : (balances : List Balance) (i : ℕ) (d : Balance) (id : RuneId) (held : ℕ) → i < length balances
    → held + sum_of (take i balances) id + (if is_same (get_or balances i d).0 id then (get_or balances i d).1 else 0) ≡ held + sum_of (take (i + 1) balances) id
sum_more balances i d id held h =
    let f : Balance → ℕ = λ (balance : Balance). if is_same balance.0 id then balance.1 else 0 in
    let more : sum_by f (take (i + 1) balances) ≡ sum_by f (take i balances) + f (get_or balances i d) = sum_by_more f balances i d h in
    omega (arith, more)

-- the sum of some outputs' balances and one's more
pub held_more : (done : List (List Balance)) (balances : List Balance) (id : RuneId) (held : ℕ) → held + sum_held done id + sum_of balances id ≡ held + sum_held (done ++ balances ∷ []) id
held_more done balances id held =
    let more : sum_held (done ++ balances ∷ []) id ≡ sum_held done id + sum_of balances id = sum_by_push (λ (one : List Balance). sum_of one id) done balances in
    omega (arith, more)

-- ---- what was burned

-- a rune with an id is found exactly where some has it
pub found_some : (runes : List RuneRow) (id : RuneId) → is_some (by_id runes id) ≡ list_any (λ (other : RuneRow). is_same other.id id) runes
unfolding by_id
found_some [] id = refl
found_some (row ∷ runes) id = by_test (found_some runes id) (is_same row.id id) where
  by_test : is_some (by_id runes id) ≡ list_any (λ (other : RuneRow). is_same other.id id) runes → (b : Bool)
      → is_some (if b then Some row else by_id runes id) ≡ (b || list_any (λ (other : RuneRow). is_same other.id id) runes)
  by_test rest true = refl
  by_test rest false = rest

pub found_push : (runes : List RuneRow) (row : RuneRow) (id : RuneId) → is_some (by_id runes row.id) ≡ false → by_id (runes ++ row ∷ []) id ≡ cond (is_same row.id id) (Some row) (by_id runes id)
unfolding by_id
found_push [] row id none = refl
found_push (first ∷ runes) row id none = by_test (λ none. found_push runes row id none) (is_same first.id row.id) refl none (is_same first.id id) refl where
  by_test : (is_some (by_id runes row.id) ≡ false → by_id (runes ++ row ∷ []) id ≡ cond (is_same row.id id) (Some row) (by_id runes id)) → (b : Bool) → is_same first.id row.id ≡ b → is_some (if b then Some first else by_id runes row.id) ≡ false → (a : Bool) → is_same first.id id ≡ a
      → (if a then Some first else by_id (runes ++ row ∷ []) id) ≡ cond (is_same row.id id) (Some row) (if a then Some first else by_id runes id)
  by_test later true is none a like = absurd (false≢true (sym none))
  by_test later false is none true like =
      let differs : is_same row.id id ≡ false = elim (cases_Bool (is_same row.id id)) [
        | inl same ↦ absurd (false≢true (sym is ∙ ap (is_same first.id) (same_id row.id id same) ∙ like))
        | inr other ↦ other
      ] in
      sym (cond-false (is_same row.id id) (Some row) (Some first) differs)
  by_test later false is none false like = later none

pub nothing_burned : (amounts : BTreeMap RuneId (Option ℕ)) → ((id : RuneId) → get id_cmp amounts id ≡ None) → AreAmounts amounts (burned_in []) (λ id. 0)
unfolding by_id
nothing_burned amounts none = record { at = none }

pub one_burned : (runes : List RuneRow) (row : RuneRow) (burned : Option ℕ) (amounts new : BTreeMap RuneId (Option ℕ)) → AreAmounts amounts (burned_in runes) (λ id. 0) → is_some (by_id runes row.id) ≡ false
    → burned ≡ as_amount row.burned → ((id : RuneId) → get id_cmp new id ≡ cond (is_same row.id id) (Some burned) (get id_cmp amounts id))
    → AreAmounts new (burned_in (runes ++ row ∷ [])) (λ id. 0)
one_burned runes row burned amounts new are none begins written = record { at = λ id. written id ∙ by_test id (is_same row.id id) refl } where
  zero_more : as_amount (row.burned + 0) ≡ burned
  zero_more = ap as_amount (omega arith) ∙ sym begins

  by_test : (id : RuneId) (b : Bool) → is_same row.id id ≡ b → cond b (Some burned) (get id_cmp amounts id) ≡ option_map (λ n. as_amount (n + 0)) (burned_in (runes ++ row ∷ []) id)
  by_test id true like =
      let found : by_id (runes ++ row ∷ []) id ≡ Some row = found_push runes row id none ∙ cond-true (is_same row.id id) (Some row) (by_id runes id) like in
      sym (ap (λ (r : Option RuneRow). option_map (λ n. as_amount (n + 0)) (option_map (λ (one : RuneRow). one.burned) r)) found ∙ ap Some zero_more)
  by_test id false like =
      let found : by_id (runes ++ row ∷ []) id ≡ by_id runes id = found_push runes row id none ∙ cond-false (is_same row.id id) (Some row) (by_id runes id) like in
      are.at id ∙ sym (ap (λ (r : Option RuneRow). option_map (λ n. as_amount (n + 0)) (option_map (λ (one : RuneRow). one.burned) r)) found)

-- a rune that is among the amounts is found among the runes
pub is_there : (amounts : BTreeMap RuneId (Option ℕ)) (runes : List RuneRow) (held : RuneId → ℕ) (id : RuneId) → AreAmounts amounts (burned_in runes) held → is_some (get id_cmp amounts id) ≡ is_some (by_id runes id)
is_there amounts runes held id are = ap is_some (are.at id) ∙ by_rune (by_id runes id) where
  by_rune : (r : Option RuneRow) → is_some (option_map (λ n. as_amount (n + held id)) (option_map (λ (row : RuneRow). row.burned) r)) ≡ is_some r
  by_rune None = refl
  by_rune (Some row) = refl

-- ---- what was burned of one rune after another

pub id_met : (runes : List RuneRow) (i : ℕ) (d : RuneRow) (amounts : BTreeMap RuneId (Option ℕ)) (old : Option (Option ℕ)) → i < length runes → AreAmounts amounts (burned_in (take i runes)) (λ id. 0)
    → old ≡ get id_cmp amounts (get_or runes i d).id → is_some old ≡ true → ids_differ runes ≡ false
unfolding ids_differ
id_met runes i d amounts old h are is some =
    let id = (get_or runes i d).id in
    not_alone (λ (row : RuneRow). row.id) is_same same_id same_itself runes i d h
    (sym (found_some (take i runes) id) ∙ sym (is_there amounts (take i runes) (λ q. 0) id are) ∙ ap is_some (sym is) ∙ some)

is_new : (runes : List RuneRow) (i : ℕ) (d : RuneRow) (amounts : BTreeMap RuneId (Option ℕ)) (old : Option (Option ℕ)) → AreAmounts amounts (burned_in (take i runes)) (λ id. 0)
    → old ≡ get id_cmp amounts (get_or runes i d).id → is_some old ≡ false → is_some (by_id (take i runes) (get_or runes i d).id) ≡ false
is_new runes i d amounts old are is none = sym (is_there amounts (take i runes) (λ q. 0) (get_or runes i d).id are) ∙ ap is_some (sym is) ∙ none

pub id_new : (runes : List RuneRow) (i : ℕ) (d : RuneRow) (amounts : BTreeMap RuneId (Option ℕ)) (old : Option (Option ℕ)) → i < length runes → AreAmounts amounts (burned_in (take i runes)) (λ id. 0)
    → old ≡ get id_cmp amounts (get_or runes i d).id → is_some old ≡ false → ids_differ (take i runes) ≡ true → ids_differ (take (i + 1) runes) ≡ true
unfolding ids_differ
id_new runes i d amounts old h are is none before =
    differ_more (λ (row : RuneRow). row.id) is_same same_id same_itself runes i d h before
    (sym (found_some (take i runes) (get_or runes i d).id) ∙ is_new runes i d amounts old are is none)

pub id_burned : (runes : List RuneRow) (i : ℕ) (d : RuneRow) (burned : Option ℕ) (amounts new : BTreeMap RuneId (Option ℕ)) (old : Option (Option ℕ)) → i < length runes → AreAmounts amounts (burned_in (take i runes)) (λ id. 0)
    → old ≡ get id_cmp amounts (get_or runes i d).id → is_some old ≡ false → burned ≡ as_amount (get_or runes i d).burned
    → ((id : RuneId) → get id_cmp new id ≡ cond (is_same (get_or runes i d).id id) (Some burned) (get id_cmp amounts id))
    → AreAmounts new (burned_in (take (i + 1) runes)) (λ id. 0)
id_burned runes i d burned amounts new old h are is none begins written =
    subst (λ (rs : List RuneRow). AreAmounts new (burned_in rs) (λ id. 0)) (sym (take_more runes i d h))
    (one_burned (take i runes) (get_or runes i d) burned amounts new are (is_new runes i d amounts old are is none) begins written)

-- what stands in a slice past its end
abbrev pub no_rune : RuneRow
no_rune = record {
  id = record { block = 0; tx = 0 };
  name = 0;
  spacers = 0;
  divisibility = 0;
  symbol = None;
  premine = 0;
  terms = None;
  mints = 0;
  burned = 0;
  etching = record { 0 = [] };
}

abbrev pub no_balance : Balance
no_balance = (record { block = 0; tx = 0 }, 0)

-- Once a transaction is done, runes are settled again, and within their bounds.
use Rattle.std.proofs.Common.{◌≡◌, ◌∙◌, ℕ, suc, ◌+◌, ◌*◌, ◌<◌, ◌≤◌, Bool, true, false, List, [], ◌∷◌, ◌++◌, refl, sym, ap, subst, arith, add-mul, one-mul, zero-mul, Option, Some, None}
use Rattle.std.specs.Prelude.{slice_get, unwrap_or, nat_lt, option_and_then, if◌then◌else◌}
use Rattle.std.specs.List.{AllByRecursion, AllZip}
use Rattle.std.proofs.lemmas.Bool.{and_parts, ltb-true}
use Rattle.ox_runestone.specs.declared.stone.RuneId.{RuneId}
use Rattle.ox_runestone.specs.declared.stone.Terms.{Terms}
use Rattle.ox_rules.specs.Transfer.{as_list}
use Rattle.ox_allocation.specs.Balances.{Balance, amount_in, is_same}
use Rattle.ox_allocation.proofs.Ids.{same_id, same_turned}
use Rattle.ox_etching.specs.Minted.{is_open, is_within, minted, minted_by}
use Rattle.ox_etching.specs.declared.row.RuneRow.{RuneRow}
use Rattle.ox_ledger.specs.Balanced.{AreDistinct, IsSettled, amount_per_mint, cap_in}
use Rattle.ox_ledger.specs.Runes.{Runes, by_id, mint_at}
use Rattle.ox_ledger.specs.Turn.{Adds, Begins, Grows, mints_in}
use Rattle.ox_ledger.proofs.Fresh.{some_mapped, some_then}
use Rattle.ox_ledger.proofs.TurnLemmas.{one_balance}

-- ---- what a mint pays

-- an open mint gives the terms' amount, and there were fewer than the cap
record Opens (row : RuneRow) (amount : ℕ) : Type 0 where
  per : amount ≡ amount_per_mint row.terms
  room : row.mints < cap_in row.terms

opens_by : (row : RuneRow) (height amount : ℕ) (terms : Option Terms) → minted_by row height terms ≡ Some amount → (amount ≡ amount_per_mint terms) × (row.mints < cap_in terms)
opens_by row height amount None is = let none : None ≡ Some amount = is in absurd (cc none)
opens_by row height amount (Some terms) is = by_test (is_open row terms height) refl is where
  by_test : (b : Bool) → is_open row terms height ≡ b → (if b then Some (unwrap_or terms.amount 0) else None) ≡ Some amount
      → (amount ≡ amount_per_mint (Some terms)) × (row.mints < cap_in (Some terms))
  by_test true opened given =
      let some : Some (unwrap_or terms.amount 0) ≡ Some amount = given in
      let same : unwrap_or terms.amount 0 ≡ amount = cc some in
      (sym same, ltb-true row.mints (unwrap_or terms.cap 0) (and_parts (nat_lt row.mints (unwrap_or terms.cap 0)) (is_within terms row.id.block height) opened).0)
  by_test false opened given = let none : None ≡ Some amount = given in absurd (cc none)

opens : (row : RuneRow) (height amount : ℕ) → minted row height ≡ Some amount → Opens row amount
opens row height amount is = let both = opens_by row height amount row.terms is in record { per = both.0; room = both.1 }

-- the row that is found by an id stands at a place
pub record Stands (runes : List RuneRow) (id : RuneId) (row : RuneRow) : Type 0 where
  pub place : ℕ
  pub there : slice_get runes place ≡ Some row
  pub same : row.id ≡ id

stands_behind : (first : RuneRow) (runes : List RuneRow) (id : RuneId) (row : RuneRow) → Stands runes id row → Stands (first ∷ runes) id row
stands_behind first runes id row stands = record { place = suc stands.place; there = stands.there; same = stands.same }

pub stands : (runes : List RuneRow) (id : RuneId) (row : RuneRow) → by_id runes id ≡ Some row → Stands runes id row
unfolding by_id
stands [] id row is = let none : None ≡ Some row = is in absurd (cc none)
stands (first ∷ runes) id row is = by_test (stands runes id row) (is_same first.id id) refl is where
  by_test : (by_id runes id ≡ Some row → Stands runes id row) → (b : Bool) → is_same first.id id ≡ b
      → (if b then Some first else by_id runes id) ≡ Some row → Stands (first ∷ runes) id row
  by_test later true same given =
      let some : Some first ≡ Some row = given in
      let here : first ≡ row = cc some in
      record { place = 0; there = given; same = ap (λ (r : RuneRow). r.id) (sym here) ∙ same_id first.id id same }
  by_test later false same given = stands_behind first runes id row (later given)

-- what the mint of a transaction gives of a rune is what its terms say, and within the cap
pub record Pays (mint : Option Balance) (row : RuneRow) : Type 0 where
  pub amount : amount_in (as_list mint) row.id ≡ mints_in mint row.id * amount_per_mint row.terms
  pub room : row.mints ≤ cap_in row.terms → row.mints + mints_in mint row.id ≤ cap_in row.terms

pays_nothing : (mint : Balance) (row : RuneRow) → is_same row.id mint.0 ≡ false → Pays (Some mint) row
pays_nothing mint row other =
    let count : mints_in (Some mint) row.id ≡ 0 = ap (λ (b : Bool). if b then 1 else 0) other in
    let none : amount_in (as_list (Some mint)) row.id ≡ 0 = one_balance mint row.id ∙ ap (λ (b : Bool). if b then mint.1 else 0) (same_turned mint.0 row.id ∙ other) in
    record {
      amount = none ∙ sym (ap (λ n. n * amount_per_mint row.terms) count ∙ zero-mul (amount_per_mint row.terms));
      room = λ room. omega (arith, count);
    }

pays_its : (mint : Balance) (row : RuneRow) → is_same row.id mint.0 ≡ true → Opens row mint.1 → Pays (Some mint) row
pays_its mint row same opened =
    let count : mints_in (Some mint) row.id ≡ 1 = ap (λ (b : Bool). if b then 1 else 0) same in
    let some : amount_in (as_list (Some mint)) row.id ≡ mint.1 = one_balance mint row.id ∙ ap (λ (b : Bool). if b then mint.1 else 0) (same_turned mint.0 row.id ∙ same) in
    let below = opened.room in
    record {
      amount = some ∙ opened.per ∙ sym (ap (λ n. n * amount_per_mint row.terms) count ∙ one-mul (amount_per_mint row.terms));
      room = λ room. omega (arith, count);
    }

pays_at : (height : ℕ) (runes : List RuneRow) (id : Option RuneId) → AreDistinct (λ row. row.id) runes
    → (place : ℕ) (row : RuneRow) → slice_get runes place ≡ Some row → Pays (mint_at height runes id) row
pays_at height runes None distinct place row there = record { amount = omega arith; room = λ room. omega arith }
pays_at height runes (Some id) distinct place row there = by_mint (mint_at height runes (Some id)) refl where
  by_test : (mint : Balance) (other : RuneRow) (b : Bool) → is_same row.id mint.0 ≡ b → id ≡ mint.0 → Stands runes id other → Opens other mint.1 → Pays (Some mint) row
  by_test mint other true same mint_id stood opened =
      let ids : row.id ≡ other.id = same_id row.id mint.0 same ∙ sym mint_id ∙ sym stood.same in
      let places : place ≡ stood.place = distinct place stood.place row other there stood.there ids in
      let rows : Some row ≡ Some other = sym there ∙ ap (slice_get runes) places ∙ stood.there in
      let one : row ≡ other = cc rows in
      pays_its mint row same (subst (λ (r : RuneRow). Opens r mint.1) (sym one) opened)
  by_test mint other false same mint_id stood opened = pays_nothing mint row same

  by_mint : (mint : Option Balance) → mint_at height runes (Some id) ≡ mint → Pays mint row
  by_mint None is = record { amount = omega arith; room = λ room. omega arith }
  by_mint (Some mint) is =
      let gives = some_mapped (λ (amount : ℕ). (id, amount)) (option_and_then (λ row. minted row height) (by_id runes id)) mint is in
      let found = some_then (λ row. minted row height) (by_id runes id) gives.0 gives.1 in
      let mint_id : id ≡ mint.0 = ap (λ (m : Balance). m.0) gives.2 in
      let amount : gives.0 ≡ mint.1 = ap (λ (m : Balance). m.1) gives.2 in
      let stood = stands runes id found.0 found.1 in
      let opened : Opens found.0 mint.1 = subst (Opens found.0) amount (opens found.0 height gives.0 found.2) in
      by_test mint (found.0) (is_same row.id mint.0) refl mint_id stood opened

all_places : (P : RuneRow → Type 0) (rows : List RuneRow) → ((place : ℕ) (row : RuneRow) → slice_get rows place ≡ Some row → P row) → AllByRecursion P rows
all_places P [] each = tt
all_places P (row ∷ rows) each = (each 0 row refl, all_places P rows (λ place other there. each (suc place) other there))

pub all_pay : (height : ℕ) (runes : List RuneRow) (id : Option RuneId) → AreDistinct (λ row. row.id) runes → AllByRecursion (Pays (mint_at height runes id)) runes
all_pay height runes id distinct = all_places (Pays (mint_at height runes id)) runes (pays_at height runes id distinct)

-- ---- settled again

settled_one : (before after : Runes) (mint : Option Balance) (old new : RuneRow) → Pays mint old → IsSettled before old → Grows mint before after old new → IsSettled after new
settled_one before after mint old new pays settled grows =
    let premine : new.premine ≡ old.premine = ap (λ (r : RuneRow). r.premine) grows.stays in
    let per : amount_per_mint new.terms ≡ amount_per_mint old.terms = ap (λ (r : RuneRow). amount_per_mint r.terms) grows.stays in
    let mints : new.mints * amount_per_mint new.terms ≡ old.mints * amount_per_mint old.terms + mints_in mint old.id * amount_per_mint old.terms =
    ap (λ n. new.mints * n) per ∙ ap (λ n. n * amount_per_mint old.terms) grows.mints ∙ add-mul old.mints (mints_in mint old.id) (amount_per_mint old.terms) in
    let amount = grows.amount in
    let paid = pays.amount in
    omega (arith, premine, mints, amount, paid, settled)

settled_all : (before after : Runes) (mint : Option Balance) (xs zs : List RuneRow) → AllByRecursion (Pays mint) xs → AllByRecursion (IsSettled before) xs
    → AllZip (Grows mint before after) xs zs → AllByRecursion (IsSettled after) zs
settled_all before after mint [] [] pays settled grows = tt
settled_all before after mint [] (z ∷ zs) pays settled grows = absurd grows
settled_all before after mint (x ∷ xs) [] pays settled grows = absurd grows
settled_all before after mint (x ∷ xs) (z ∷ zs) pays settled grows =
    (settled_one before after mint x z pays.0 settled.0 grows.0, settled_all before after mint xs zs pays.1 settled.1 grows.1)

settled_new : (after : Runes) (etched new : RuneRow) → Begins after etched new → IsSettled after new
settled_new after etched new begins =
    let premine : new.premine ≡ etched.premine = ap (λ (r : RuneRow). r.premine) begins.stays in
    let none : new.mints * amount_per_mint new.terms ≡ 0 = ap (λ n. n * amount_per_mint new.terms) begins.mints ∙ zero-mul (amount_per_mint new.terms) in
    let amount = begins.amount in
    omega (arith, premine, none, amount)

settled_last : (after : Runes) (etching : List RuneRow) (zs : List RuneRow) → AllZip (Begins after) etching zs → AllByRecursion (IsSettled after) zs
settled_last after [] [] begins = tt
settled_last after [] (z ∷ zs) begins = absurd begins
settled_last after (e ∷ es) [] begins = absurd begins
settled_last after (e ∷ es) (z ∷ zs) begins = (settled_new after e z begins.0, settled_last after es zs begins.1)

pub all_append : (P : RuneRow → Type 0) (xs ys : List RuneRow) → AllByRecursion P xs → AllByRecursion P ys → AllByRecursion P (xs ++ ys)
all_append P [] ys first second = second
all_append P (x ∷ xs) ys first second = (first.0, all_append P xs ys first.1 second)

-- what a transaction adds leaves all runes settled
pub stays_settled : (mint : Option Balance) (etching : Option RuneRow) (before after : Runes) → Adds mint etching before after
    → AllByRecursion (Pays mint) before.runes → AllByRecursion (IsSettled before) before.runes → AllByRecursion (IsSettled after) after.runes
stays_settled mint etching before after adds pays settled =
    subst (λ (runes : List RuneRow). AllByRecursion (IsSettled after) runes) (sym adds.runes)
    (all_append (IsSettled after) adds.earlier adds.last (settled_all before after mint before.runes adds.earlier pays settled adds.grows)
    (settled_last after (as_list etching) adds.last adds.begins))

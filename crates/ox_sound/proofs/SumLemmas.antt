-- Sums of runes' amounts, as a table keeps them.
use Rattle.std.proofs.Common.{◌≡◌, ◌∙◌, ℕ, ◌+◌, ◌<◌, ◌++◌, ◌∷◌, [], Bool, true, false, cond, List, get_or, length, map, refl, ap, take, arith, Some}
use Rattle.std.specs.Prelude.{if◌then◌else◌, sum_by, unwrap_or}
use Rattle.std.specs.BTreeMap.{BTreeMap, get}
use Rattle.std.proofs.lemmas.List.{map-append, take_more}
use Rattle.std.proofs.lemmas.List.Sums.{sum_by_more, sum_by_push}
use Rattle.ox_runestone.specs.declared.stone.RuneId.{RuneId}
use Rattle.ox_allocation.specs.Balances.{Balance, id_cmp, is_same}
use Rattle.ox_allocation.proofs.Ids.{same_id}
use Rattle.ox_etching.specs.declared.row.RuneRow.{RuneRow}
use Rattle.ox_sound.specs.Amounts.{amount_at}
use Rattle.ox_ledger.specs.declared.part.CountChange.{CountChange}
use Rattle.ox_ledger.specs.Runes.{Placement}
use Rattle.ox_sound.specs.Keeps.{amount_placed, counted_of, sum_counted, sum_new}
use Rattle.ox_sound.specs.Amounts.{sum_held, sum_of}

-- one more amount in a table
pub added : (old new : BTreeMap RuneId ℕ) (id : RuneId) (before amount sum : ℕ) → before ≡ amount_at old id → sum ≡ before + amount
    → ((other : RuneId) → get id_cmp new other ≡ cond (is_same id other) (Some sum) (get id_cmp old other))
    → (other : RuneId) → amount_at new other ≡ amount_at old other + (if is_same id other then amount else 0)
added old new id before amount sum was is written other = ap (λ (found : _). unwrap_or found 0) (written other) ∙ by_test (is_same id other) refl where
  by_test : (b : Bool) → is_same id other ≡ b → unwrap_or (cond b (Some sum) (get id_cmp old other)) 0 ≡ amount_at old other + (if b then amount else 0)
  by_test true same =
      let here : amount_at old id ≡ amount_at old other = ap (amount_at old) (same_id id other same) in
      let total : sum ≡ amount_at old other + amount = omega (arith, is, was, here) in
      total
  by_test false same = let none : amount_at old other ≡ amount_at old other + 0 = omega arith in none

-- one more new rune
pub new_more : (of : RuneRow → ℕ) (rows : List RuneRow) (i : ℕ) (d : RuneRow) (id : RuneId) (held : ℕ) → i < length rows
    → held + sum_new of (take i rows) id + (if is_same (get_or rows i d).id id then of (get_or rows i d) else 0) ≡ held + sum_new of (take (i + 1) rows) id
new_more of rows i d id held h =
    let f : RuneRow → ℕ = λ (row : RuneRow). if is_same row.id id then of row else 0 in
    let more : sum_by f (take (i + 1) rows) ≡ sum_by f (take i rows) + f (get_or rows i d) = sum_by_more f rows i d h in
    omega (arith, more)

-- a change of no rune, in place of one past the last
abbrev pub no_change : CountChange
no_change = record { place = 0; before = record { mints = 0; burned = 0 }; after = record { mints = 0; burned = 0 } }

-- one more changed count
pub counted_more : (of : CountChange → RuneRow → ℕ) (runes : List RuneRow) (counts : List CountChange) (i : ℕ) (d : CountChange) (id : RuneId) (held : ℕ) → i < length counts
    → held + sum_counted of runes (take i counts) id + counted_of of runes id (get_or counts i d) ≡ held + sum_counted of runes (take (i + 1) counts) id
counted_more of runes counts i d id held h =
    let more : sum_by (counted_of of runes id) (take (i + 1) counts) ≡ sum_by (counted_of of runes id) (take i counts) + counted_of of runes id (get_or counts i d) = sum_by_more (counted_of of runes id) counts i d h in
    omega (arith, more)

placed_last : (rows : List Placement) (row : Placement) (id : RuneId) → amount_placed (rows ++ row ∷ []) id ≡ amount_placed rows id + sum_of row.1 id
placed_last rows row id =
    ap (λ (all : List (List Balance)). sum_held all id) (map-append (λ (one : Placement). one.1) rows (row ∷ []))
    ∙ sum_by_push (λ (balances : List Balance). sum_of balances id) (map (λ (one : Placement). one.1) rows) row.1

-- one more output's balances
pub placed_more : (rows : List Placement) (i : ℕ) (row : Placement) (id : RuneId) (held : ℕ) → i < length rows → row ≡ get_or rows i row
    → held + amount_placed (take i rows) id + sum_of row.1 id ≡ held + amount_placed (take (i + 1) rows) id
placed_more rows i row id held h is =
    let last : amount_placed (take i rows ++ get_or rows i row ∷ []) id ≡ amount_placed (take i rows) id + sum_of (get_or rows i row).1 id = placed_last (take i rows) (get_or rows i row) id in
    let all : amount_placed (take (i + 1) rows) id ≡ amount_placed (take i rows ++ get_or rows i row ∷ []) id = ap (λ (some : List Placement). amount_placed some id) (take_more rows i row h) in
    let same : sum_of row.1 id ≡ sum_of (get_or rows i row).1 id = ap (λ (one : Placement). sum_of one.1 id) is in
    omega (arith, last, all, same)

-- What a shelf of inscriptions shows, and the numbers that are kept by key.
use Rattle.std.specs.Prelude.{◌≡◌, ℕ, ◌+◌, ◌-◌, ◌*◌, ◌/◌, ◌^◌, ◌<◌, ◌≤◌, ◌==◌, Bool}
use Rattle.std.specs.Prelude.{true, false, ◌&&◌, nat_lt, List, [], ◌∷◌, ◌++◌, length, take, drop}
use Rattle.std.specs.Prelude.{map, count_by, slice_get, slice_index_or, Option, Some, None}
use Rattle.std.specs.Prelude.{unwrap_or, if◌then◌else◌, ◌⊎◌}
use Rattle.std.specs.List.{list_any}
use Rattle.std.specs.Option.{option_map_or}
use Rattle.std.specs.BTreeMap.{BTreeMap, get}
use Rattle.std.specs.Ordering.{is_eq, nat_cmp, ordering_then}
use Rattle.std.specs.declared.cmp.Ordering.{Ordering}
use Rattle.std.specs.Cmp.Lexicographic.{slice_cmp}
use Rattle.std.specs.Simd.Lanes.{mask_l}
use Rattle.ox_envelope.specs.declared.id.InsId.{InsId}
use Rattle.ox_inscribe.specs.Inscriptions.{find, has_parent, numbers_where, on}
use Rattle.ox_inscribe.specs.Signed.{is_cursed}
use Rattle.ox_inscribe.specs.declared.cursed_bits.Cursed.{Cursed}
use Rattle.ox_inscribe.specs.declared.keys.Keys.{Keys}
use Rattle.ox_inscribe.specs.declared.row.InsRow.{InsRow}
use Rattle.ox_shards.specs.Shards.{value_at}

-- the rows, those at the mark, if one is set, and the jubilee by which rows are numbered
pub record Shelved : Type 0 where
  pub rows : List InsRow
  pub mark : Option (List InsRow)
  pub jubilee : ℕ

-- rows in order, and the jubilee by which they are numbered
pub record Numbered : Type 0 where
  pub rows : List InsRow
  pub jubilee : ℕ

-- ids by the bytes of their txid, and then by index
abbrev pub id_cmp : InsId → InsId → Ordering
id_cmp a b = ordering_then (slice_cmp nat_cmp a.txid b.txid) (nat_cmp a.index b.index)

-- the numbers that a map has at a key
abbrev pub at : {K : Type 0} → (K → K → Ordering) → BTreeMap K (List ℕ) → K → List ℕ
at cmp map key = unwrap_or (get cmp map key) []

-- this key is among these
abbrev pub is_key : {K : Type 0} → (K → K → Ordering) → List K → K → Bool
is_key cmp keys key = list_any (λ one. is_eq (cmp one key)) keys

-- this number is the last of them
abbrev pub ends_with : ℕ → List ℕ → Bool
ends_with number numbers =
    option_map_or (λ n. n == number) (slice_get numbers (length numbers - 1)) false

-- numbers with this one behind them, unless it is the last already
abbrev pub with_last : ℕ → List ℕ → List ℕ
with_last number numbers =
    if ends_with number numbers then numbers else numbers ++ number ∷ []

-- numbers without this one, if it is the last
abbrev pub without_last : ℕ → List ℕ → List ℕ
without_last number numbers =
    if ends_with number numbers then take (length numbers - 1) numbers else numbers

abbrev pub with_last_if : Bool → ℕ → List ℕ → List ℕ
with_last_if is_it number numbers = if is_it then with_last number numbers else numbers

abbrev pub without_last_if : Bool → ℕ → List ℕ → List ℕ
without_last_if is_it number numbers = if is_it then without_last number numbers else numbers

-- it is one of two
abbrev pub IsEither : {A : Type 0} → A → A → A → Type 0
IsEither one other it = (it ≡ one) ⊎ (it ≡ other)

-- the first of these numbers is below an end
abbrev pub starts_below : ℕ → List ℕ → Bool
starts_below end numbers = option_map_or (λ n. nat_lt n end) (slice_get numbers 0) false

-- a satoshi that the map has and the numbers at it; the satoshi passes a test, and each that does
-- and is less has none
pub record IsLeastOf (sats : BTreeMap ℕ (List ℕ)) (Passes : ℕ → Type 0) (found : ℕ × List ℕ)
    : Type 0 where
  pub passes : Passes found.0
  pub numbers : found.1 ≡ at nat_cmp sats found.0
  pub first : (sat : ℕ) → Passes sat → sat < found.0 → at nat_cmp sats sat ≡ []

-- that satoshi and those numbers; nothing where each that passes has none
abbrev pub IsNextOf : BTreeMap ℕ (List ℕ) → (ℕ → Type 0) → Option (ℕ × List ℕ) → Type 0
IsNextOf sats Passes None = (sat : ℕ) → Passes sat → at nat_cmp sats sat ≡ []
IsNextOf sats Passes (Some found) = IsLeastOf sats Passes found

-- a satoshi from a number up and the numbers at it, of which the first is below an end; there is
-- no such satoshi between
pub record IsLeastBelow (sats : BTreeMap ℕ (List ℕ)) (low end : ℕ) (found : ℕ × List ℕ)
    : Type 0 where
  pub from : low ≤ found.0
  pub numbers : found.1 ≡ at nat_cmp sats found.0
  pub starts : starts_below end found.1 ≡ true
  pub first :
      (sat : ℕ) → low ≤ sat → sat < found.0 → starts_below end (at nat_cmp sats sat) ≡ false

-- that satoshi and those numbers; nothing where there is none from there up
abbrev pub IsNextBelow : BTreeMap ℕ (List ℕ) → ℕ → ℕ → Option (ℕ × List ℕ) → Type 0
IsNextBelow sats low end None =
    (sat : ℕ) → low ≤ sat → starts_below end (at nat_cmp sats sat) ≡ false
IsNextBelow sats low end (Some found) = IsLeastBelow sats low end found

-- what an id has once a number is put there that stays behind one which it has, if this is the id
abbrev pub first_if : Bool → ℕ → Option ℕ → Option ℕ
first_if is_it number first = if is_it then Some (unwrap_or first number) else first

abbrev pub is_first : ℕ → Option ℕ → Bool
is_first number first = option_map_or (λ n. n == number) first false

-- what it has once that number is taken away there, if this is the id
abbrev pub none_if : Bool → ℕ → Option ℕ → Option ℕ
none_if is_it number first = if is_it && is_first number first then None else first

-- the maps say where these rows are
pub record AreKeys (rows : List InsRow) (keys : Keys) : Type 0 where
  pub firsts : (id : InsId) → value_at id_cmp keys.ids id ≡ find rows id
  pub sats : (sat : ℕ) → at nat_cmp keys.sats sat ≡ on rows sat
  pub parents : (id : InsId) → at id_cmp keys.parents id ≡ numbers_where (has_parent id) 0 rows

-- at each key the maps say where these rows are, or where these and one more are
pub record AreKeysUpTo (rows : List InsRow) (row : InsRow) (keys : Keys) : Type 0 where
  pub firsts :
      (id : InsId) → IsEither (find rows id) (find (rows ++ row ∷ []) id)
      (value_at id_cmp keys.ids id)
  pub sats :
      (sat : ℕ) → IsEither (on rows sat) (on (rows ++ row ∷ []) sat) (at nat_cmp keys.sats sat)
  pub parents :
      (id : InsId) → IsEither (numbers_where (has_parent id) 0 rows)
      (numbers_where (has_parent id) 0 (rows ++ row ∷ [])) (at id_cmp keys.parents id)

-- the rows, of these, that the word with a number tells of: 64, and fewer at the end
abbrev pub rows_of_word : List InsRow → ℕ → List InsRow
rows_of_word rows n = take 64 (drop (n * 64) rows)

-- each 64 rows have a word, and in it a bit for each that passes, the first row's the lowest;
-- beside it stands how many rows before them pass
pub record AreWordsOf (passes : InsRow → Bool) (rows : List InsRow) (words counts : List ℕ)
    : Type 0 where
  pub enough : length words ≡ (length rows + 63) / 64
  pub each : length counts ≡ length words
  pub bits :
      (n : ℕ) → n < length words
      → slice_index_or words n 0 ≡ mask_l (map passes (rows_of_word rows n))
  pub before :
      (n : ℕ) → n < length words → slice_index_or counts n 0 ≡ count_by passes (take (n * 64) rows)

-- the words and counts say which of these rows are cursed
abbrev pub AreCursed : List InsRow → Cursed → Type 0
AreCursed rows cursed =
    AreWordsOf (is_cursed cursed.jubilee) rows cursed.words.items cursed.counts.items

-- these rows are found by the maps and noted where they are cursed, and numbers of 32 bits tell of
-- them
pub record AreRows (rows : List InsRow) (keys : Keys) (cursed : Cursed) : Type 0 where
  pub found : AreKeys rows keys
  pub noted : AreCursed rows cursed
  pub small : length rows < 2 ^ 32

-- so many of these rows are shown, and so many stood at the mark: rows are hidden only where no row
-- came since
pub record IsShelf (rows : List InsRow) (shown : ℕ) (mark : Option ℕ) : Type 0 where
  pub fits : shown ≤ length rows
  pub marked : unwrap_or mark 0 ≤ length rows
  pub hidden : shown < length rows → mark ≡ Some (length rows)

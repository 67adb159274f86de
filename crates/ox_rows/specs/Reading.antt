-- Reading values from left to right: the value and the bytes behind it, or the number of bytes left
-- where the field at fault begins.
use Rattle.std.specs.Prelude.{ℕ, zero, suc, ◌+◌, ◌-◌, ◌<◌, ◌≤◌, Bool, true, false, not, ◌||◌}
use Rattle.std.specs.Prelude.{List, [], ◌∷◌, ◌++◌, length, Option, Some, None, Ok, Err, nat_lt}
use Rattle.std.specs.Prelude.{◌==◌, if◌then◌else◌}
use Rattle.std.specs.Int.{w32, w64}
use Rattle.std.specs.Ordering.{is_lt}
use Rattle.std.specs.declared.cmp.Ordering.{Ordering}
use Rattle.ox_bytes.specs.Reading.{◌>>=◌, Reader, number_at, run_at as bytes_at, reading_map}
use Rattle.ox_bytes.specs.Reading.{counted_list, unless}
use Rattle.ox_block.specs.Spelling.{most_value}
use Rattle.ox_range.specs.declared.runs.Run.{Run}
use Rattle.ox_range.specs.Numbers.{numbers_from}
use Rattle.ox_range.specs.Runs.{end_of}

-- ---- readers of readers

-- nothing is read yet of what is made of fields
abbrev pub made : {A : Type 0} → A → Reader A
made make bytes = Ok (make, bytes)

-- the next field
infixl 20 ◌<*>◌
abbrev pub ◌<*>◌ : {A B : Type 0} → Reader (A → B) → Reader A → Reader B
(front <*> field) bytes = front bytes >>= λ f. field f.1 >>= λ x. Ok (f.0 x.0, x.1)

abbrev pub four : {A B C D : Type 0} → A → B → C → D → A × B × C × D
four a b c d = (a, b, c, d)

-- four values, one after the other
unfoldable pub four_at : {A B C D : Type 0} → Reader A → Reader B → Reader C → Reader D
    → Reader (A × B × C × D)
four_at a b c d bytes = (made four <*> a <*> b <*> c <*> d) bytes

-- a list: how many in 4 bytes, and the items
abbrev pub list_at : {A : Type 0} → Reader A → Reader (List A)
list_at item = counted_list (number_at w32) item

-- bytes: how many in 4 bytes, and these are two fields
unfoldable pub text_at : Reader (List ℕ)
text_at bytes = number_at w32 bytes >>= λ n. bytes_at n.0 n.1

-- whether a value follows: 0 or 1
unfoldable pub flag_at : Reader Bool
flag_at [] = Err 0
flag_at (flag ∷ rest) =
    if flag == 0 then Ok (false, rest) else
    if flag == 1 then Ok (true, rest) else
    Err (length rest + 1)

abbrev pub maybe_at : {A : Type 0} → Bool → Reader A → Reader (Option A)
maybe_at false value bytes = Ok (None, bytes)
maybe_at true value bytes = reading_map Some value bytes

abbrev pub optional_at : {A : Type 0} → Reader A → Reader (Option A)
optional_at value bytes = flag_at bytes >>= λ flag. maybe_at flag.0 value flag.1

-- a key isn't behind the one before
abbrev pub falls : {K : Type 0} → (K → K → Ordering) → Option K → K → Bool
falls cmp None key = false
falls cmp (Some last) key = not (is_lt (cmp last key))

-- That many items by rising keys. A key that doesn't rise is at fault before its value is read.
unfoldable pub rising_at : {K X : Type 0} → (K → K → Ordering) → Reader K → Reader X → Option K → ℕ
    → Reader (List (K × X))
rising_at cmp key value last zero bytes = Ok ([], bytes)
rising_at cmp key value last (suc n) bytes = do
  at ← unless (falls cmp last) key bytes
  row ← value at.1
  rows ← rising_at cmp key value (Some at.0) n row.1
  Ok ((at.0, row.0) ∷ rows.0, rows.1)

-- ---- satoshis

-- this number is the one behind a run
abbrev pub goes_on : Option ℕ → ℕ → Bool
goes_on None first = false
goes_on (Some end) first = first == end

-- the count of a run is 0, or it brings a number or the sum of the counts above the most
abbrev pub is_wrong_count : ℕ → ℕ → ℕ → Bool
is_wrong_count spare first count =
    count == 0 || nat_lt most_value (first + count) || nat_lt spare count

-- neither is so
pub record IsRight (spare first count : ℕ) : Type 0 where
  pub some : 0 < count
  pub within : first + count ≤ most_value
  pub few : count ≤ spare

-- a run that doesn't go on at an end, of a spare number of satoshis at most
unfoldable pub run_at : ℕ → Option ℕ → Reader Run
run_at spare end bytes = do
  first ← unless (goes_on end) (number_at w64) bytes
  count ← unless (is_wrong_count spare first.0) (number_at w64) first.1
  Ok (record { first = first.0; count = count.0 }, count.1)

-- the numbers of that many runs, of so many numbers together at most
unfoldable pub runs_at : ℕ → Option ℕ → ℕ → Reader (List ℕ)
runs_at spare end zero bytes = Ok ([], bytes)
runs_at spare end (suc n) bytes = do
  run ← run_at spare end bytes
  more ← runs_at (spare - run.0.count) (Some (end_of run.0)) n run.1
  Ok (numbers_from run.0.first run.0.count ++ more.0, more.1)

unfoldable pub sats_at : Reader (List ℕ)
sats_at bytes = number_at w32 bytes >>= λ n. runs_at most_value None n.0 n.1

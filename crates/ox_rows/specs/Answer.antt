-- What the readers of rows answer.
use Rattle.std.specs.Prelude.{◌≡◌, ℕ, ◌-◌, List, ◌++◌, length, drop, Result, Ok, Err}
use Rattle.ox_bytes.specs.Reading.{Reader}
use Rattle.ox_rows.specs.declared.fault.RowsFault.{RowsFault}
use Rattle.ox_rows.specs.declared.fault.RowsFault.TheVariants.{Memory, NotRows}

-- how many bytes a value takes, or the place of the first byte of the field at fault
abbrev pub with_places : {A : Type 0} → ℕ → Result (A × List ℕ) ℕ → Result (A × ℕ) ℕ
with_places all (Ok x) = Ok (x.0, all - length x.1)
with_places all (Err left) = Err (all - left)

-- what a reader gives of bytes of which it takes the first ones
abbrev pub front_of : {A : Type 0} → Reader A → List ℕ → Result (A × ℕ) ℕ
front_of read bytes = with_places (length bytes) (read bytes)

-- The call answered what the reading gives, unless memory ran out.
abbrev pub Answers : {X Y : Type 0} → (X → Y) → Result X RowsFault → Result Y ℕ → Type 0
Answers view (Ok x) read = read ≡ Ok (view x)
Answers view (Err Memory) read = Unit {0}
Answers view (Err (NotRows at)) read = read ≡ Err at

-- the bytes begin with the spelling of this value, which has one and takes so many of them
pub record BeginWith {A : Type 0} (Fits : A → Type 0) (spelling : A → List ℕ) (bytes : List ℕ)
    (x : A × ℕ) : Type 0 where
  pub fits : Fits x.0
  pub taken : x.1 ≡ length (spelling x.0)
  pub begin : bytes ≡ spelling x.0 ++ drop x.1 bytes

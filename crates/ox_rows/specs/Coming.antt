-- What is ahead of a reader that has only a window: the window's bytes, and behind them those that
-- still come of a source.
use Rattle.std.specs.Prelude.{◌≡◌, ◌==◌, ◌<◌, ℕ, List, [], ◌++◌, length, Bool, false, true}
use Rattle.std.specs.Prelude.{Result, Ok, Err}
use Rattle.ox_bytes.specs.Reading.{Fails, Reader}
use Rattle.ox_rows.specs.declared.next.NextFault.{NextFault}
use Rattle.ox_rows.specs.declared.next.NextFault.TheVariants as faults

-- These bytes are ahead: those of the window, and the rest, which is still to come.
pub record IsAhead (Comes : List ℕ → Type 0) (window bytes : List ℕ) : Type 0 where
  pub rest : List ℕ
  pub comes : Comes rest
  pub is : bytes ≡ window ++ rest

-- Behind a call of a source the same bytes are ahead as before it, where the rest was to come.
-- More came exactly where something was to come.
pub record ComesOn (Comes : List ℕ → Type 0) (old rest : List ℕ) (came : Bool) (new : List ℕ)
    : Type 0 where
  pub behind : List ℕ
  pub comes : Comes behind
  pub same : old ++ rest ≡ new ++ behind
  pub none : came ≡ false → rest ≡ []
  pub some : came ≡ true → 0 < length rest

-- Why nothing was read is what reading gives, unless memory ran out, or the source failed.
abbrev pub Stops : {Y F : Type 0} → NextFault F → Result (Y × List ℕ) ℕ → Type 0
Stops (faults.Read e) read = Fails e read
Stops (faults.Source fault) read = Unit {0}

-- What was read next is what reading gives of the bytes that were ahead, and what reading leaves of
-- these is ahead now.
abbrev pub GivesNext : {X Y F : Type 0} → (X → Y) → (List ℕ → Type 0) → Result X (NextFault F)
    → Result (Y × List ℕ) ℕ → Type 0
GivesNext view ahead (Ok x) read = (after : List ℕ) × ahead after × (read ≡ Ok (view x, after))
GivesNext view ahead (Err fault) read = Stops fault read

-- Calls of a source, of which the last failed where it is the source's fault, and none else.
abbrev pub CallsUntil : {S W F : Type 0} → (S → W → S → W → Type 0)
    → (S → W → F → S → W → Type 0) → S → W → NextFault F → S → W → Type 0
CallsUntil went ended s w (faults.Read e) t v = went s w t v
CallsUntil went ended s w (faults.Source fault) t v = ended s w fault t v

-- Calls of a source, of which none failed where a value was read.
abbrev pub Calls : {X S W F : Type 0} → (S → W → S → W → Type 0) → (S → W → F → S → W → Type 0)
    → S → W → Result X (NextFault F) → S → W → Type 0
Calls went ended s w (Ok x) t v = went s w t v
Calls went ended s w (Err fault) t v = CallsUntil went ended s w fault t v

-- The same bytes are ahead as before, where the window may be longer. Where none came, they were
-- all of them in the window; and else they are some.
pub record Lengthens (Comes : List ℕ → Type 0) (old bytes : List ℕ) (came : Bool) (new : List ℕ)
    : Type 0 where
  pub ahead : IsAhead Comes new bytes
  pub none : came ≡ false → bytes ≡ old
  pub some : came ≡ true → 0 < length bytes

-- whether nothing is ahead, of which nothing is taken
abbrev pub end_at : Reader Bool
end_at bytes = Ok (length bytes == 0, bytes)

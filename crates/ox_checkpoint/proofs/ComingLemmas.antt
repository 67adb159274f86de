-- A body that is read as its bytes come.
use Rattle.std.proofs.Common.{◌≡◌, ◌∙◌, ℕ, suc, Bool, true, false, List, [], ◌∷◌, ◌++◌, length, refl, sym, ap, arith, Some, None}
use Rattle.std.specs.Prelude.{◌==◌, Option, Result, Ok, Err}
use Rattle.std.specs.Result.{IfOk}
use Rattle.std.proofs.lemmas.Bool.{eqb-true}
use Rattle.ox_bytes.specs.declared.fault.ReadError.TheVariants as errors
use Rattle.ox_rows.specs.Coming.{IsAhead, Stops, end_at}
use Rattle.ox_rows.specs.declared.next.NextFault.{NextFault}
use Rattle.ox_rows.specs.declared.next.NextFault.TheVariants as nexts
use Rattle.ox_files.specs.Body.{Body, whole}
use Rattle.ox_checkpoint.specs.Coming.{SpellsNone}

pub no_body : {T E : Type 0} (r : Result T E) (e : E) (P : T → Type 0) → r ≡ Err e → IfOk r P
no_body (Ok x) e P is = absurd (cc is)
no_body (Err f) e P is = tt

-- before anything is asked for, what is to come is ahead
pub is_ahead : (Comes : List ℕ → Type 0) (window bytes : List ℕ) → window ≡ [] → Comes bytes → IsAhead Comes window bytes
is_ahead Comes window bytes none comes = record { rest = bytes; comes = comes; is = sym (ap (λ (w : List ℕ). w ++ bytes) none) }

-- ---- the end

pub at_end : (after : List ℕ) → (length after == 0) ≡ true → after ≡ []
at_end [] is = refl
at_end (b ∷ rest) is = let none : suc (length rest) ≡ 0 = eqb-true (suc (length rest)) 0 is in absurd (omega (arith, none))

abbrev ends_of : Result (Bool × List ℕ) ℕ → Bool
ends_of (Ok x) = x.0
ends_of (Err left) = false

pub ends_so : (after left : List ℕ) (ends : Bool) → end_at after ≡ Ok (ends, left) → (length after == 0) ≡ ends
ends_so after left ends is = ap ends_of is

pub is_whole : (read : Result (Body × List ℕ) ℕ) (body : Body) (after : List ℕ) → read ≡ Ok (body, after) → after ≡ [] → Some body ≡ whole read
is_whole read body after is none = sym (ap whole (is ∙ ap (λ (rest : List ℕ). Ok (body, rest)) none))

more_behind : (body : Body) (after : List ℕ) → (length after == 0) ≡ false → whole (Ok (body, after)) ≡ None
more_behind body [] some = absurd (cc some)
more_behind body (b ∷ rest) some = refl

pub is_not_whole : (read : Result (Body × List ℕ) ℕ) (body : Body) (after : List ℕ) → read ≡ Ok (body, after) → (length after == 0) ≡ false → None ≡ whole read
is_not_whole read body after is some = sym (ap whole is ∙ more_behind body after some)

-- ---- faults

pub spells_none : {F : Type 0} (fault : NextFault F) (read : Result (Body × List ℕ) ℕ) → Stops fault read → SpellsNone (whole read) fault
spells_none (nexts.Read errors.Memory) read is = tt
spells_none (nexts.Read (errors.Fault fault)) read is = ap whole is
spells_none (nexts.Source fault) read is = tt

-- the end is no field that could fail
pub never_stops : {F : Type 0} (fault : NextFault F) (after : List ℕ) (spelled : Option Body) → Stops fault (end_at after) → SpellsNone spelled fault
never_stops (nexts.Read errors.Memory) after spelled is = tt
never_stops (nexts.Read (errors.Fault fault)) after spelled is = absurd (cc is)
never_stops (nexts.Source fault) after spelled is = tt

-- What calls promise that read of a window and ask a source for more: of the window before and
-- after, of the source, and of the world.
use Rattle.std.specs.Prelude.{◌<◌, ℕ, List, Bool, Result, IfErr, IfOk, IsTrue, OnOk}
use Rattle.ox_bytes.specs.Reading.{Reader}
use Rattle.ox_rows.specs.Coming.{Calls, GivesNext, IsAhead, Lengthens}
use Rattle.ox_rows.specs.declared.next.NextFault.{NextFault}
use Rattle.ox_rows.specs.declared.source.Source.{Ghosts as Meanings}

-- A call that asks for more behind the window.
pub record LengthenPromises {S W F : Type 0} (means : Meanings S W F) (result : Result Bool F)
    (old new : List ℕ) (s t : S) (w v : W) : Type 0 where
  pub ahead : (all : List ℕ) → IsAhead (means.comes s w) old all
      → IfOk result (λ came. Lengthens (means.comes t v) old all came new)
  pub falls : IfOk result (λ came. IsTrue came → means.left t < means.left s)
  pub ready : OnOk result (means.ready t v)
  pub went : OnOk result (means.went s w t v)
  pub ended : IfErr result (λ fault. means.ended s w fault t v)

-- A call that reads what is next, as this reader does on lists.
pub record NextPromises {X Y S W F : Type 0} (means : Meanings S W F) (view : X → Y)
    (reader : Reader Y) (result : Result X (NextFault F)) (old new : List ℕ) (s t : S) (w v : W)
    : Type 0 where
  pub read : (bytes : List ℕ) → IsAhead (means.comes s w) old bytes
      → GivesNext view (IsAhead (means.comes t v) new) result (reader bytes)
  pub ready : OnOk result (means.ready t v)
  pub calls : Calls means.went means.ended s w result t v

-- What the body of a checkpoint stands for: an index, and the changes of its newest blocks, by
-- which these can be taken back.
use Rattle.std.specs.Prelude.{ℕ, Bool, ◌&&◌, List, [], ◌∷◌, ◌++◌, length, Option, Some, None}
use Rattle.std.specs.Prelude.{Result, Ok, Err, nat_le, if◌then◌else◌}
use Rattle.ox_bytes.specs.Reading.{Reader}
use Rattle.ox_sat.specs.declared.profiles.Profile.{Profile}
use Rattle.ox_model.specs.Change.{undone}
use Rattle.ox_model.specs.Ends.{older_by}
use Rattle.ox_model.specs.Index.{Index}
use Rattle.ox_model.specs.Stack.{Stack}
use Rattle.ox_model.specs.declared.change.Change.{Change}
use Rattle.ox_plain.specs.Ends.{ends_in}
use Rattle.ox_rows.specs.Fits.{FitsList}
use Rattle.ox_rows.specs.Reading.{made, ◌<*>◌, list_at}
use Rattle.ox_rows.specs.RowFits.{FitsChange, FitsIndex}
use Rattle.ox_rows.specs.RowReading.{change_at, index_at}
use Rattle.ox_rows.specs.RowSpelling.{change_rows, index_rows}
use Rattle.ox_rows.specs.Spelling.{list}
use Rattle.ox_sound.specs.Sound.{sound}

pub record Body : Type 0 where
  pub index : Index
  -- of the kept blocks, the newest first
  pub changes : List Change

abbrev pub body_of : Index → List Change → Body
body_of index changes = record { index = index; changes = changes }

-- how a body is spelled: the rows of its index, and the list of those of its changes
unfoldable pub body_rows : Body → List ℕ
body_rows body = index_rows body.index ++ list change_rows body.changes

-- a body that has a spelling
pub record FitsBody (body : Body) : Type 0 where
  pub index : FitsIndex body.index
  pub changes : FitsList FitsChange body.changes

unfoldable pub body_at : Reader Body
body_at bytes = (made body_of <*> index_at <*> list_at change_at) bytes

-- what was read, where nothing is left behind it
abbrev pub whole : {A : Type 0} → Result (A × List ℕ) ℕ → Option A
whole (Ok (x, [])) = Some x
whole (Ok (x, b ∷ rest)) = None
whole (Err left) = None

-- each index is sound, and each change ends in the one that those before it leave
abbrev pub leads_down : Profile → Index → List Change → Bool
leads_down p index [] = sound p index
leads_down p index (change ∷ changes) =
    sound p index && (ends_in index change && leads_down p (undone index change) changes)

-- the stack of an index and of the changes that lead down from it
abbrev pub stack_of : Profile → ℕ → Body → Stack
stack_of p depth body = record {
  profile = p;
  depth = depth;
  index = body.index;
  older = older_by body.index body.changes;
}

-- at most so many changes as may be kept lead down to sound indexes
abbrev pub is_kept : Profile → ℕ → Body → Bool
is_kept p depth body =
    nat_le (length body.changes) depth && leads_down p body.index body.changes

-- the stack of a body, if it stands for one
abbrev pub stack_in : Profile → ℕ → Option Body → Option Stack
stack_in p depth None = None
stack_in p depth (Some body) =
    if is_kept p depth body then Some (stack_of p depth body) else None

-- the stack of a body's bytes
abbrev pub stack_in_body : Profile → ℕ → List ℕ → Option Stack
stack_in_body p depth bytes = stack_in p depth (whole (body_at bytes))

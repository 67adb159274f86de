-- Changes at whose ends indexes are sound, and the older indexes that are had by undoing changes.
use Rattle.std.specs.Prelude.{List, [], ◌∷◌}
use Rattle.ox_sat.specs.declared.profiles.Profile.{Profile}
use Rattle.ox_model.specs.Change.{IsChange, redone, undone}
use Rattle.ox_model.specs.Index.{Index}
use Rattle.ox_model.specs.Sound.{IsSound}
use Rattle.ox_model.specs.declared.change.Change.{Change}

-- the change ends in this index, and the one before it is sound
pub record EndsIn (p : Profile) (index : Index) (change : Change) : Type 0 where
  pub leads : IsChange (undone index change) index change
  pub sound : IsSound p (undone index change)

-- the change begins in this index, and the one after it is sound
pub record BeginsIn (p : Profile) (index : Index) (change : Change) : Type 0 where
  pub leads : IsChange index (redone index change) change
  pub sound : IsSound p (redone index change)

-- each change, the newest first, ends where those before it are undone
abbrev pub AllEnd : Profile → Index → List Change → Type 0
AllEnd p index [] = Unit {0}
AllEnd p index (change ∷ changes) =
    EndsIn p index change × AllEnd p (undone index change) changes

-- the older indexes, one by undoing each of them
abbrev pub older_by : Index → List Change → List Index
older_by index [] = []
older_by index (change ∷ changes) = undone index change ∷ older_by (undone index change) changes

-- each change leads from the next older index to the newer one
abbrev pub LeadDown : Index → List Index → List Change → Type 0
LeadDown index [] [] = Unit {0}
LeadDown index (before ∷ older) (change ∷ changes) =
    IsChange before index change × LeadDown before older changes
LeadDown index _ _ = ⊥

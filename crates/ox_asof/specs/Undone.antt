-- The index before some changes.
use Rattle.std.specs.Prelude.{List, [], ◌∷◌}
use Rattle.ox_model.specs.Change.{undone}
use Rattle.ox_model.specs.Index.{Index}
use Rattle.ox_model.specs.declared.change.Change.{Change}

-- had by undoing each of them, the newest first
abbrev pub undone_by : Index → List Change → Index
undone_by index [] = index
undone_by index (change ∷ changes) = undone_by (undone index change) changes

-- Which channels have broken, as steps come.
use Rattle.std.specs.Prelude.{Bool, true, List, [], ◌∷◌, slice_set}
use Rattle.ox_memsite.specs.declared.step.Step.{Step}
use Rattle.ox_memsite.specs.declared.step.Step.TheVariants.{Broke}

abbrev pub flags_with : Step → List Bool → List Bool
flags_with (Broke channel) flags = slice_set flags channel true
flags_with step flags = flags

abbrev pub flags_after : List Step → List Bool → List Bool
flags_after [] flags = flags
flags_after (step ∷ steps) flags = flags_after steps (flags_with step flags)

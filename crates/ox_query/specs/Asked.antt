-- What is asked of a view.
use Rattle.ox_replies.specs.Asked.{Asked}
use Rattle.ox_model.specs.Index.{Index}
use Rattle.ox_model.specs.declared.about.About.{About}
use Rattle.ox_sat.specs.declared.profiles.Profile.{Profile}

-- a chain's profile and index, and what is said of its blocks
abbrev pub asked_of : Profile → Index → About → Asked
asked_of p index about =
    record { profile = p; index = index; depth = about.depth; kept = about.kept }

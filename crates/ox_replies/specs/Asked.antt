-- What is asked.
use Rattle.std.specs.Prelude.{ℕ}
use Rattle.ox_sat.specs.declared.profiles.Profile.{Profile}
use Rattle.ox_model.specs.Index.{Index}

-- What is asked: a chain's profile and index, how many of its blocks may be taken back, and how
-- many can be.
pub record Asked : Type 0 where
  pub profile : Profile
  pub index : Index
  pub depth : ℕ
  pub kept : ℕ

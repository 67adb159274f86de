-- What can stand as plain data: a sound index, and changes that lead down from it, no more than may
-- be kept.
use Rattle.std.specs.Prelude.{ℕ, ◌≤◌, length}
use Rattle.ox_sat.specs.Profiles.{IsProfile}
use Rattle.ox_sat.specs.declared.profiles.Profile.{Profile}
use Rattle.ox_model.specs.Ends.{AllEnd}
use Rattle.ox_model.specs.Sound.{IsSound}
use Rattle.ox_files.specs.Body.{Body}

pub record CanStand (p : Profile) (depth : ℕ) (body : Body) : Type 0 where
  pub known : IsProfile p
  pub some : 1 ≤ depth
  pub most : depth ≤ 1000
  pub few : length body.changes ≤ depth
  pub sound : IsSound p body.index
  pub end : AllEnd p body.index body.changes

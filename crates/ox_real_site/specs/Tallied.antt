-- What a real site has counted.
use Rattle.std.specs.Prelude.{◌≡◌}
use Rattle.ox_real_site.specs.declared.real.RealSite.{RealSite}

-- nothing more was counted
pub record SameTally {C : Type 0} (old new : RealSite C) : Type 0 where
  pub disk : new.disk_faults ≡ old.disk_faults
  pub door : new.door_faults ≡ old.door_faults
  pub hear : new.hear_faults ≡ old.hear_faults
  pub link_hear : new.link_hear_faults ≡ old.link_hear_faults
  pub show : new.show_faults ≡ old.show_faults
  pub link_show : new.link_show_faults ≡ old.link_show_faults
  pub not_yets : new.not_yets ≡ old.not_yets
  pub public : new.public_idles ≡ old.public_idles
  pub operator : new.operator_idles ≡ old.operator_idles

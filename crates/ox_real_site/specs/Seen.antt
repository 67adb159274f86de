-- What a caller sees of a real site.
use Rattle.ox_outside.specs.Counts.{Counts}
use Rattle.ox_real_site.specs.Faults.{faults_of}
use Rattle.ox_real_site.specs.Idles.{idles_of}
use Rattle.ox_real_site.specs.declared.real.RealSite.{RealSite}

-- how often each kind of call has failed or had nothing to give
abbrev pub counts_of : {C : Type 0} → RealSite C → Counts
counts_of site = record {
  disk = site.disk_faults;
  door = site.door_faults;
  hear = faults_of site.hear_faults site.link_hear_faults;
  show = faults_of site.show_faults site.link_show_faults;
  not_yets = λ _. site.not_yets;
  door_idles = idles_of site.public_idles site.operator_idles;
}

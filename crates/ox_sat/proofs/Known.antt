-- A profile has one name.
use Rattle.std.proofs.Common.{◌≡◌, ◌∙◌, sym, ap, refl}
use mathlib.Core.HLevel.{Σ_prop_path}
use Rattle.std.proofs.Props.{props}
use Rattle.ox_sat.specs.declared.profiles.Profile.{Profile}
use Rattle.ox_sat.specs.declared.profiles.ProfileName.{ProfileName}
use Rattle.ox_sat.specs.declared.profiles.ProfileName.TheVariants.{Mainnet, Regtest, Lab}
use Rattle.ox_sat.specs.Profiles.{profile_named, IsProfile}

one_name : (m n : ProfileName) → (profile_named m).byte ≡ (profile_named n).byte → m ≡ n
one_name Mainnet Mainnet is = refl
one_name Mainnet Regtest is = absurd (cc is)
one_name Mainnet Lab is = absurd (cc is)
one_name Regtest Mainnet is = absurd (cc is)
one_name Regtest Regtest is = refl
one_name Regtest Lab is = absurd (cc is)
one_name Lab Mainnet is = absurd (cc is)
one_name Lab Regtest is = absurd (cc is)
one_name Lab Lab is = refl

profiles_set : IsSet Profile
profiles_set = hlevel props

pub IsProfile-prop : (p : Profile) → IsProp (IsProfile p)
IsProfile-prop p a b =
    let same : a.name ≡ b.name = one_name a.name b.name (ap (λ (q : Profile). q.byte) (sym a.is ∙ b.is)) in
    let pairs : ◌≡◌ {A = (n : ProfileName) × (p ≡ profile_named n)} (a.name, a.is) (b.name, b.is) = Σ_prop_path (λ n. profiles_set p (profile_named n)) same in
    λ i. record { name = (pairs i).0; is = (pairs i).1 }

use Rattle.std.specs.Prelude.{◌≡◌, ℕ, List, true, false, codes, ◌==◌, if◌then◌else◌}
use Rattle.ox_sat.specs.declared.profiles.Profile.{Profile}
use Rattle.ox_sat.specs.declared.profiles.ProfileName.{ProfileName}
use Rattle.ox_sat.specs.declared.profiles.ProfileName.TheVariants.{Mainnet, Regtest, Lab}

-- the numbers by which each chain counts
abbrev pub profile_named : ProfileName → Profile
profile_named Mainnet = record {
  byte = 0;
  halving = 210000;
  period = 2016;
  cycle = 1260000;
  supply = 2099999997690000;
  rune_start = 840000;
  interval = 17500;
  first_rune = true;
  jubilee = 824544;
  commitment = 481824;
  last = 4000000000;
}
profile_named Regtest = record {
  byte = 1;
  halving = 210000;
  period = 2016;
  cycle = 1260000;
  supply = 2099999997690000;
  rune_start = 0;
  interval = 17500;
  first_rune = false;
  jubilee = 110;
  commitment = 0;
  last = 4000000000;
}
profile_named Lab = record {
  byte = 2;
  halving = 10;
  period = 12;
  cycle = 60;
  supply = 99999999890;
  rune_start = 2;
  interval = 1;
  first_rune = false;
  jubilee = 6;
  commitment = 30;
  last = 40;
}

-- the word that names a profile
abbrev pub profile_word : ProfileName → List ℕ
profile_word Mainnet = codes "mainnet"
profile_word Regtest = codes "regtest"
profile_word Lab = codes "lab"

-- the byte that stands for a profile in a file's head
abbrev pub profile_byte : ProfileName → ℕ
profile_byte Mainnet = 0
profile_byte Regtest = 1
profile_byte Lab = 2

-- the profile for which a head's byte stands; a head's byte is at most 2
abbrev pub name_at : ℕ → ProfileName
name_at byte = if byte == 0 then Mainnet else if byte == 1 then Regtest else Lab

-- Each profile has a byte and a word of its own, and its table has its byte.
pub record AreTold : Type 0 where
  pub byte : (name : ProfileName) → (profile_named name).byte ≡ profile_byte name
  pub name : (name : ProfileName) → name_at (profile_byte name) ≡ name
  pub word : (a b : ProfileName) → profile_word a ≡ profile_word b → a ≡ b

-- it is the profile of some name
pub record IsProfile (p : Profile) : Type 0 where
  pub name : ProfileName
  pub is : p ≡ profile_named name

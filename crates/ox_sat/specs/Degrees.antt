use Rattle.std.specs.Prelude.{ℕ, ◌-◌, ◌/◌, ◌%◌, ◌==◌, ◌&&◌, not, if◌then◌else◌}
use Rattle.ox_sat.specs.declared.profiles.Profile.{Profile}
use Rattle.ox_sat.specs.declared.degrees.Degree.{Degree}
use Rattle.ox_sat.specs.declared.degrees.Rarity.{Rarity}
use Rattle.ox_sat.specs.declared.degrees.Rarity.TheVariants.{Common, Uncommon, Rare, Epic}
use Rattle.ox_sat.specs.declared.degrees.Rarity.TheVariants.{Legendary, Mythic}
use Rattle.ox_sat.specs.Heights.{first_at, height_minting}

-- the satoshi's place in the cycle, in the halving epoch, in the difficulty period and in its block
abbrev pub degree_at : Profile → ℕ → Degree
degree_at p sat = let height = height_minting p sat in record {
  hour = height / p.cycle;
  minute = height % p.halving;
  second = height % p.period;
  third = sat - first_at p height;
}

-- the first of all satoshis; the first of a cycle, of a halving epoch, of a difficulty period, of a
-- block; and any other
abbrev pub rarity_by : Degree → Rarity
rarity_by d =
    if not (d.third == 0) then Common
    else if (d.hour == 0) && (d.minute == 0) && (d.second == 0) then Mythic
    else if (d.minute == 0) && (d.second == 0) then Legendary
    else if d.minute == 0 then Epic
    else if d.second == 0 then Rare
    else Uncommon

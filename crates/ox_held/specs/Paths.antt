-- Paths that name an address.
use Rattle.std.specs.Prelude.{ℕ, List, length, drop, codes, Option, Some, None}
use Rattle.std.specs.Prelude.{if◌then◌else◌}
use Rattle.std.specs.Str.{is_utf8}
use Rattle.ox_sat.specs.Profiles.{name_at}
use Rattle.ox_sat.specs.declared.profiles.Profile.{Profile}
use Rattle.ox_sat.specs.declared.profiles.ProfileName.{ProfileName}
use Rattle.ox_sat.specs.declared.profiles.ProfileName.TheVariants.{Mainnet, Regtest, Lab}
use Rattle.ox_routes.specs.Table.{Row, takes, with_part}

-- The human-readable part of a chain's addresses: `bc` on the main chain (BIP 173, "Segwit address
-- format"), `bcrt` on regtest (Bitcoin Core), and `lab` on lab, our own.
abbrev pub hrp_of : ProfileName → List ℕ
hrp_of Mainnet = codes "bc"
hrp_of Regtest = codes "bcrt"
hrp_of Lab = codes "lab"

-- the same by the numbers by which a chain counts
abbrev pub hrp_in : Profile → List ℕ
hrp_in p = hrp_of (name_at p.byte)

-- such paths, as a row of the table of routes has its own
abbrev pub address_row : Row
address_row = with_part (codes "/address/")

-- the part of a path behind the row's text
abbrev pub part_behind : List ℕ → Option (List ℕ)
part_behind path =
    if takes address_row path then Some (drop (length address_row.text) path) else None

-- the part of a path that stands for an address; none where the path isn't UTF-8
abbrev pub address_part : List ℕ → Option (List ℕ)
address_part path = if is_utf8 path then part_behind path else None

-- Etchings that stand: Runes specification, "Etching" and "Cenotaphs".
pub use Rattle.ox_etching.specs.declared.spot.Spot.{Spot}
use Rattle.std.specs.Prelude.{ℕ, Bool, false, not, ◌&&◌, Option, Some, None, unwrap_or, List}
use Rattle.std.specs.Prelude.{nat_le, option_and_then, if◌then◌else◌}
use Rattle.std.specs.Option.{option_map}
use Rattle.ox_block.specs.declared.block.Tx.{Tx}
use Rattle.ox_block.specs.declared.block.Txid.{Txid}
use Rattle.ox_name.specs.Unlock.{first_reserved, least_name, reserved_name}
use Rattle.ox_runestone.specs.declared.stone.Artifact.{Artifact}
use Rattle.ox_runestone.specs.declared.stone.Artifact.TheVariants.{Stone, Cenotaph}
use Rattle.ox_runestone.specs.declared.stone.Etching.{Etching}
use Rattle.ox_runestone.specs.declared.stone.RuneId.{RuneId}
use Rattle.ox_sat.specs.declared.profiles.Profile.{Profile}
use Rattle.ox_rules.specs.declared.rows.OutRow.{OutRow}
use Rattle.ox_etching.specs.Commitment.{commits}
use Rattle.ox_etching.specs.declared.row.RuneRow.{RuneRow}

-- a name may be given at a height: it is at least the least name of the height, and not reserved
abbrev pub may_be_given : Profile → ℕ → ℕ → Bool
may_be_given p height name =
    nat_le (least_name p.rune_start p.interval height) name && not (nat_le first_reserved name)

-- a name that is given stands: it may be given, is not taken, and is committed to
abbrev pub may_stand : Spot → Tx → List OutRow → Bool → ℕ → Bool
may_stand at body spent is_taken name =
    may_be_given at.profile at.height name && not is_taken && commits body spent name at.height

-- the name of an etching: the given one, if it stands; without one the reserved name of its place
abbrev pub name_of : Spot → Tx → List OutRow → Bool → Option ℕ → Option ℕ
name_of at body spent is_taken None = Some (reserved_name at.height at.tx)
name_of at body spent is_taken (Some name) =
    if may_stand at body spent is_taken name then Some name else None

-- where a transaction etches, which is the id of its rune
abbrev pub id_of : Spot → RuneId
id_of at = record { block = at.height; tx = at.tx }

-- a rune that is new, with what its etching says
abbrev pub row_of : RuneId → Txid → Etching → ℕ → RuneRow
row_of id txid etching name = record {
  id = id;
  name = name;
  spacers = unwrap_or etching.spacers 0;
  divisibility = unwrap_or etching.divisibility 0;
  symbol = etching.symbol;
  premine = unwrap_or etching.premine 0;
  terms = etching.terms;
  mints = 0;
  burned = 0;
  etching = txid;
}

-- all that a cenotaph's etching says: its name
abbrev pub name_alone : ℕ → Etching
name_alone name = record {
  name = Some name;
  spacers = None;
  divisibility = None;
  symbol = None;
  premine = None;
  terms = None;
  turbo = false;
}

-- what an artifact etches; of a cenotaph a name that is given is etched, and nothing else of it
abbrev pub etching_of : Artifact → Option Etching
etching_of (Stone stone) = stone.etching
etching_of (Cenotaph mint name) = option_map name_alone name

-- the row of an etching whose name stands
abbrev pub row_where : Spot → Tx → List OutRow → Bool → Etching → Option RuneRow
row_where at body spent is_taken etching =
    option_map (row_of (id_of at) at.txid etching) (name_of at body spent is_taken etching.name)

-- The new rune of a transaction with this artifact, given whether the name that it etches is taken;
-- nothing where it etches none or its etching is ignored.
abbrev pub etched : Spot → Tx → List OutRow → Artifact → Bool → Option RuneRow
etched at body spent artifact is_taken =
    option_and_then (row_where at body spent is_taken) (etching_of artifact)

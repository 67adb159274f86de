-- Whether an index is sound, as a function: `IsSound` by tests over what is there.
use Rattle.std.specs.Prelude.{ℕ, ◌+◌, Bool, true, ◌&&◌, ◌++◌, length, Option, nat_lt, nat_le}
use Rattle.std.specs.List.{list_all}
use Rattle.std.specs.FinMap.{values}
use Rattle.std.specs.Option.{option_map_or}
use Rattle.ox_sat.specs.declared.profiles.Profile.{Profile}
use Rattle.ox_sat.specs.Heights.{first_at}
use Rattle.ox_rules.specs.Outputs.{sats_held}
use Rattle.ox_rules.specs.declared.rows.OutRow.{OutRow}
use Rattle.ox_inscribe.specs.declared.row.InsRow.{InsRow}
use Rattle.ox_etching.specs.declared.row.RuneRow.{RuneRow}
use Rattle.ox_model.specs.Index.{Index}
use Rattle.ox_model.specs.Sound.{is_of_chain}
use Rattle.ox_sound.specs.Once.{stand_once}
use Rattle.ox_sound.specs.Rows.{are_held, are_settled, ids_differ, is_bounded, names_differ}

-- no block stands above the last height
unfoldable pub heights_pass : Profile → Index → Bool
heights_pass p index = nat_le (length index.hashes) (p.last + 1)

-- each output comes from a block of the chain
unfoldable pub outputs_pass : Index → Bool
outputs_pass index =
    list_all (λ (row : OutRow). nat_lt row.height (length index.hashes)) (values index.outs)

-- each satoshi that a block could claim so far is in one place, and no other is
unfoldable pub sats_pass : Profile → Index → Bool
sats_pass p index =
    stand_once (first_at p (length index.hashes)) (sats_held index.outs ++ index.lost)

-- a satoshi, if any, is below a number
abbrev pub is_minted : ℕ → Option ℕ → Bool
is_minted first sat = option_map_or (λ n. nat_lt n first) sat true

-- the inscription comes from one of so many blocks, and its satoshi, if any, is below a number
abbrev pub is_revealed : ℕ → ℕ → InsRow → Bool
is_revealed blocks first row = nat_lt row.height blocks && is_minted first row.sat

unfoldable pub inscriptions_pass : Profile → Index → Bool
inscriptions_pass p index =
    let blocks = length index.hashes in
    list_all (is_revealed blocks (first_at p blocks)) index.inscriptions

-- the rune comes from one of so many blocks or is there from the start, and its numbers are within
-- their bounds
abbrev pub is_etched : Profile → ℕ → RuneRow → Bool
is_etched p blocks row = is_of_chain p blocks row && is_bounded row

unfoldable pub runes_pass : Profile → Index → Bool
runes_pass p index =
    let runes = index.runes in
    ids_differ runes && names_differ runes && list_all (is_etched p (length index.hashes)) runes
    && are_held runes index.outs index.bal && are_settled runes index.bal

-- all that holds of the index of every chain holds of this one
unfoldable pub sound : Profile → Index → Bool
sound p index =
    heights_pass p index && outputs_pass index && sats_pass p index && inscriptions_pass p index
    && runes_pass p index

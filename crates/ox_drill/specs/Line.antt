-- What a drill says.
use Rattle.std.specs.Prelude.{ℕ, List, ◌++◌, length, codes, decimal, sum_by}
use Rattle.ox_sat.specs.Profiles.{profile_named}
use Rattle.ox_sat.specs.declared.profiles.ProfileName.TheVariants.{Regtest}
use Rattle.ox_model.specs.Audit.{audit_of}
use Rattle.ox_model.specs.Index.{Index}
use Rattle.ox_model.specs.declared.audit.RuneAudit.{RuneAudit}
use Rattle.ox_drill.specs.declared.line.Counts.{Counts}

-- what the mints of all runes gave, and what was burned of all runes
abbrev pub minted_in : List RuneAudit → ℕ
minted_in runes = sum_by (λ rune. rune.minted) runes

abbrev pub burned_in : List RuneAudit → ℕ
burned_in runes = sum_by (λ rune. rune.burned) runes

-- what the audit of regtest's index counts
abbrev pub counts_of : Index → Counts
counts_of index =
    let audit = audit_of (profile_named Regtest) index in
    record {
      claimable = audit.claimable;
      lost = audit.lost;
      inscriptions = length index.inscriptions;
      runes = length index.runes;
      minted = minted_in audit.runes;
      burned = burned_in audit.runes;
    }

-- the parts of the line of a drill of so many blocks
abbrev pub satoshis_part : ℕ → Counts → List ℕ
satoshis_part n counts =
    codes "drill " ++ decimal n ++ codes " claimable " ++ decimal counts.claimable
    ++ codes " lost " ++ decimal counts.lost

abbrev pub numbers_part : Counts → List ℕ
numbers_part counts = decimal counts.inscriptions ++ codes " runes " ++ decimal counts.runes

abbrev pub amounts_part : Counts → List ℕ
amounts_part counts = decimal counts.minted ++ codes " burned " ++ decimal counts.burned

unfoldable pub counts_line : ℕ → Counts → List ℕ
counts_line n counts =
    satoshis_part n counts ++ codes " inscriptions " ++ numbers_part counts
    ++ codes " minted " ++ amounts_part counts ++ codes "\n"

-- by the index then
abbrev pub drill_line : ℕ → Index → List ℕ
drill_line n index = counts_line n (counts_of index)

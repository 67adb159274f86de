-- Fields by what one pass keeps.
use Rattle.std.specs.Prelude.{◌≡◌, ℕ, ◌+◌, ◌^◌, Bool, List, Option, Some, None, unwrap_or, nat_lt}
use Rattle.std.specs.Prelude.{if◌then◌else◌}
use Rattle.ox_runestone.specs.declared.message.Fields.{Fields}
use Rattle.ox_runestone.specs.declared.stone.Etching.{Etching}
use Rattle.ox_runestone.specs.Message.{Field}
use Rattle.ox_runestone.specs.ValuesKept.{first_kept, second_kept, values_at, IsKeptOf}
use Rattle.ox_runestone.specs.Tags.{mint_tag}
use Rattle.ox_runestone.specs.declared.stone.RuneId.{RuneId}
use Rattle.ox_runestone.specs.Fields.{mint_of, Firsts, first_of, mintable, leaves_even}
use Rattle.ox_runestone.specs.declared.stone.Edict.{Edict}
use Rattle.ox_runestone.specs.declared.stone.Artifact.{Artifact}
use Rattle.ox_runestone.specs.Artifact.{mint_in, are_flawed, cenotaph_of, artifact_from}

-- the mint by the first two values of its tag
abbrev pub mint_kept : Fields → Option RuneId
mint_kept fields =
    mint_of (first_kept (values_at fields mint_tag)) (second_kept (values_at fields mint_tag))

abbrev pub firsts_in : Fields → Firsts
firsts_in fields tag = first_kept (values_at fields tag)

-- what an etching gives in all, if that is an amount
abbrev pub supply_of : Etching → Option ℕ
supply_of etching =
    let supply = unwrap_or etching.premine 0 + mintable etching.terms in
    if nat_lt supply (2 ^ 128) then Some supply else None

-- the answer whether a value of an even tag isn't taken, of whatever list the fields hold
abbrev pub SaysWhatIsLeft : Fields → ℕ → Bool → Type 0
SaysWhatIsLeft fields outputs answer =
    (list : List Field) → IsKeptOf fields list
    → answer ≡ leaves_even (first_of list) (mint_in list) outputs list

-- of whatever list the fields hold, the answer whether it is flawed, its cenotaph, and its artifact
abbrev pub SaysWhetherFlawed : Fields → ℕ → Bool → Type 0
SaysWhetherFlawed fields outputs answer =
    (list : List Field) → IsKeptOf fields list → answer ≡ are_flawed outputs list

abbrev pub IsCenotaphOf : Fields → Artifact → Type 0
IsCenotaphOf fields artifact =
    (list : List Field) → IsKeptOf fields list → artifact ≡ cenotaph_of list

abbrev pub IsArtifactOf : Fields → Bool → Option (List Edict) → ℕ → Artifact → Type 0
IsArtifactOf fields lone edicts outputs artifact =
    (list : List Field) → IsKeptOf fields list → artifact ≡ artifact_from outputs list lone edicts

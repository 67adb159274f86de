-- The artifact of a runestone's script: Runes specification, "Cenotaphs" and "Runestones".
use Rattle.std.specs.Prelude.{ℕ, Bool, List, Option, Some, None, option_and_then, slice_get, ◌||◌}
use Rattle.std.specs.Prelude.{if◌then◌else◌}
use Rattle.ox_runestone.specs.declared.stone.RuneId.{RuneId}
use Rattle.ox_runestone.specs.declared.stone.Etching.{Etching}
use Rattle.ox_runestone.specs.declared.stone.Edict.{Edict}
use Rattle.ox_runestone.specs.declared.stone.Artifact.{Artifact}
use Rattle.ox_runestone.specs.declared.stone.Artifact.TheVariants.{Stone, Cenotaph}
use Rattle.ox_runestone.specs.Payload.{payload_of, integers_of}
use Rattle.ox_runestone.specs.Message.{Field, Message, message_of, edicts_of, values}
use Rattle.ox_runestone.specs.Tags.{mint_tag, pointer_tag}
use Rattle.ox_runestone.specs.Fields.{first_of, field_of, mint_of, etching_of, has_strange_flag}
use Rattle.ox_runestone.specs.Fields.{leaves_even, overflows}

abbrev pub mint_in : List Field → Option RuneId
mint_in fields =
    mint_of (slice_get (values fields mint_tag) 0) (slice_get (values fields mint_tag) 1)

-- the name of an etching, where there is one
abbrev pub name_in : Option Etching → Option ℕ
name_in None = None
name_in (Some etching) = etching.name

-- a flag or a value isn't taken, or more is etched than an amount can be
abbrev pub are_flawed : ℕ → List Field → Bool
are_flawed outputs fields =
    has_strange_flag (first_of fields)
    || (leaves_even (first_of fields) (mint_in fields) outputs fields
    || overflows (etching_of (first_of fields)))

abbrev pub cenotaph_of : List Field → Artifact
cenotaph_of fields = Cenotaph (mint_in fields) (name_in (etching_of (first_of fields)))

abbrev pub artifact_from : ℕ → List Field → Bool → Option (List Edict) → Artifact
artifact_from outputs fields lone None = cenotaph_of fields
artifact_from outputs fields lone (Some edicts) =
    if lone || are_flawed outputs fields then cenotaph_of fields
    else Stone (record {
      etching = etching_of (first_of fields);
      mint = mint_in fields;
      pointer = field_of (first_of fields) outputs pointer_tag;
      edicts = edicts;
    })

abbrev pub of_message : ℕ → Message → Artifact
of_message outputs message =
    artifact_from outputs message.fields message.lone (edicts_of outputs message.body)

-- without integers there is neither an etching nor a mint
abbrev pub of_integers : ℕ → Option (List ℕ) → Artifact
of_integers outputs None = Cenotaph None None
of_integers outputs (Some integers) = of_message outputs (message_of integers)

-- the artifact of a runestone's script in a transaction with so many outputs
unfoldable pub artifact_of : List ℕ → ℕ → Artifact
artifact_of script outputs = of_integers outputs (option_and_then integers_of (payload_of script))

-- What a part of a path names: an inscription by its id, a rune by its id or its name.
use Rattle.std.specs.Prelude.{ℕ, zero, suc, ◌^◌, ◌&&◌, ◌==◌, nat_eq, nat_lt, List, [], ◌∷◌, ◌++◌}
use Rattle.std.specs.Prelude.{codes, decimal, bytes_eq, Option, Some, None, if◌then◌else◌}
use Rattle.std.specs.List.{before_first, after_first, starts_with}
use Rattle.std.specs.Option.{option_and_then, option_or}
use Rattle.std.specs.Str.Parse.{digits_value}
use Rattle.ox_name.specs.Spaced.{bullet, name_in}
use Rattle.ox_envelope.specs.Id.{id_of_text}
use Rattle.ox_runestone.specs.declared.stone.RuneId.{RuneId}
use Rattle.ox_inscribe.specs.Inscriptions.{find}
use Rattle.ox_inscribe.specs.declared.row.InsRow.{InsRow}
use Rattle.ox_etching.specs.declared.row.RuneRow.{RuneRow}
use Rattle.ox_model.specs.Found.{by_id, by_name}

-- the sequence of the first inscription with the id that a text spells, if there is one
abbrev pub inscription_named : List InsRow → List ℕ → Option ℕ
inscription_named rows text = option_and_then (find rows) (id_of_text text)

-- a rune's id as it is printed: the height, a colon and the place of the transaction
abbrev pub rune_id_text : RuneId → List ℕ
rune_id_text id = decimal id.block ++ codes ":" ++ decimal id.tx

-- the rune's id that a text spells, if any: what is read on both sides of the first colon counts
-- where it is an id that is written so
abbrev pub rune_id_in : List ℕ → Option RuneId
rune_id_in text =
    let block = digits_value 10 (before_first (λ c. c == 58) text) in
    let tx = digits_value 10 (after_first (λ c. c == 58) text) in
    let id : RuneId = record { block = block; tx = tx } in
    let fits = nat_lt block (2 ^ 64) && nat_lt tx (2 ^ 32) in
    if fits && bytes_eq text (rune_id_text id) then Some id else None

-- the text behind so many bytes, with U+2022 for each `%E2%80%A2`
unfoldable pub unescaped_past : ℕ → List ℕ → List ℕ
unescaped_past passed [] = []
unescaped_past (suc passed) (c ∷ cs) = unescaped_past passed cs
unescaped_past zero (c ∷ cs) =
    if starts_with nat_eq (c ∷ cs) (codes "%E2%80%A2") then bullet ++ unescaped_past 8 cs
    else c ∷ unescaped_past 0 cs

-- the text with U+2022 for each `%E2%80%A2`
abbrev pub without_escapes : List ℕ → List ℕ
without_escapes text = unescaped_past 0 text

-- the number of the rune with the id or the name that a text spells, if there is one; the spacers
-- of the text aren't compared
abbrev pub rune_named : List RuneRow → List ℕ → Option ℕ
rune_named runes text =
    option_or (option_and_then (by_id runes) (rune_id_in text))
    (option_and_then (λ named. by_name runes named.name) (name_in (without_escapes text)))

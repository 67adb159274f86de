use Rattle.std.proofs.Common.{◌≡◌, ◌∙◌, ℕ, ℤ, List, [], ◌∷◌, map, sym, ap, rules, Option, Some, option_map, slice_get, w64, FitsSigned}
use Rattle.std.proofs.lemmas.Int.{to_z-of_z}
use Rattle.std.proofs.lemmas.Option.{slice_get_within}
use Rattle.json.specs.Token.{boolean}
use Rattle.serde_json.specs.Data.{array}
use Rattle.serde_json.specs.View.{items_of}
use Rattle.ox_replies.specs.Inscriptions.{id_tree}
use Rattle.ox_replies.specs.Values.{count, integer, place_tree}
use Rattle.ox_inscribe.specs.Signed.{is_cursed, is_vindicated, number_at, number_of}
use Rattle.ox_inscribe.specs.declared.row.InsRow.{InsRow}
use Rattle.ox_sat.specs.declared.profiles.Profile.{Profile}
use Rattle.ox_query.specs.Written.{tokens_of}
use Rattle.ox_query.proofs.Steps.{same, ◌▸◌}
use Rattle.ox_query.proofs.inscription.write_inscription.Goals as goal

pub write_children-requires : goal.write_children-requires
write_children-requires g c = slice_get_within (g.V.View.index c.args.live.now).inscriptions c.args.n c.args.row.now c.requires

pub number-requires : goal.number-requires
number-requires g c = slice_get_within (g.V.View.index c.args.live.now).inscriptions c.args.n c.args.row.now c.requires

-- the number of a row that is there
number_is : (jubilee : ℕ) (rows : List InsRow) (n : ℕ) (row : InsRow) (z : ℤ) → slice_get rows n ≡ Some row → number_at jubilee rows n ≡ Some z → z ≡ number_of jubilee rows n row
number_is jubilee rows n row z there numbered = value_of (sym numbered ∙ ap (λ (found : Option InsRow). option_map (number_of jubilee rows n) found) there)
  where
    value_of : {x y : ℤ} → Some x ≡ Some y → x ≡ y
    value_of e = cc e

pub returns : goal.returns
returns g c =
    let p = g.V.View.chain c.args.live.now in
    let rows = (g.V.View.index c.args.live.now).inscriptions in
    let row = c.args.row.now in
    let fits : FitsSigned w64 c.number.result = search rules in
    c.begin_object.ensures
    ▸ c.key.ensures ▸ c.write_children.ensures
    ▸ c.key-2.ensures ▸ c.write_length_or_null.ensures
    ▸ c.key-3.ensures ▸ c.write_text_or_null.ensures
    ▸ c.key-4.ensures ▸ same (λ b. boolean b ∷ []) (c.is_cursed.ensures ∙ ap (λ (q : Profile). is_cursed q.jubilee row) c.profile.ensures) c.boolean.ensures
    ▸ c.key-5.ensures ▸ c.write_id_or_null.ensures
    ▸ c.key-6.ensures ▸ c.write_text_or_null-2.ensures
    ▸ c.key-7.ensures ▸ same (λ n. tokens_of (count n)) c.from.ensures c.u64.ensures
    ▸ c.key-8.ensures ▸ c.write_id.ensures
    ▸ c.key-9.ensures ▸ c.write_marks.ensures
    ▸ c.key-10.ensures ▸ c.write_hex_or_null.ensures
    ▸ c.key-11.ensures ▸ c.write_text_or_null-3.ensures
    ▸ c.key-12.ensures ▸ same (λ z. tokens_of (integer z)) (to_z-of_z w64 c.number.result fits ∙ number_is p.jubilee rows c.args.n row c.number.result c.requires c.number.ensures) c.i64.ensures
    ▸ c.key-13.ensures ▸ same (λ ids. tokens_of (array (items_of (map id_tree ids)))) c.as_slice.ensures c.write_id_list.ensures
    ▸ c.key-14.ensures ▸ same (λ p. tokens_of (place_tree p)) c.place_on.ensures c.write_place.ensures
    ▸ c.key-15.ensures ▸ c.write_count_or_null.ensures
    ▸ c.key-16.ensures ▸ same (λ n. tokens_of (count n)) c.from-2.ensures c.u64-2.ensures
    ▸ c.key-17.ensures ▸ same (λ b. boolean b ∷ []) (c.is_vindicated.ensures ∙ ap (λ (q : Profile). is_vindicated q.jubilee row) c.profile.ensures) c.boolean-2.ensures
    ▸ c.end_object.ensures

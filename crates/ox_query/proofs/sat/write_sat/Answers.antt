use Rattle.std.proofs.Common.{[], ◌∷◌, ap, sym, subst, ◌∙◌}
use Rattle.json.specs.Token.{string}
use Rattle.ox_sat.specs.Degrees.{degree_at, rarity_by}
use Rattle.ox_sat.specs.Names.{name_of}
use Rattle.ox_sat.specs.Profiles.{IsProfile}
use Rattle.ox_sat.specs.declared.profiles.Profile.{Profile}
use Rattle.ox_replies.specs.Texts.{decimal_text, degree_text, rarity_text}
use Rattle.ox_replies.specs.Values.{place_tree}
use Rattle.ox_query.specs.Written.{tokens_of}
use Rattle.ox_query.proofs.Steps.{same, ◌▸◌}
use Rattle.ox_query.proofs.sat.write_sat.Goals as goal

pub write_sat_name-requires-clause-known : goal.write_sat_name-requires-clause-known
write_sat_name-requires-clause-known g c = subst IsProfile (sym c.profile-p.ensures) (g.met.V.View.known c.args.live.now)

pub write_decimal-requires-clause-known : goal.write_decimal-requires-clause-known
write_decimal-requires-clause-known g c = subst IsProfile (sym c.profile-p.ensures) (g.met.V.View.known c.args.live.now)

pub returns : goal.returns
returns g c =
    let degree = c.degree_of-degree.ensures ∙ ap (λ (p : Profile). degree_at p c.args.sat) c.profile-p.ensures in
    let rarity = c.rarity_word.ensures ∙ ap rarity_text (c.rarity_of.ensures ∙ ap rarity_by degree) in
    c.begin_object.ensures
    ▸ c.key.ensures ▸ same (λ (p : Profile). string (decimal_text p c.args.sat) ∷ []) c.profile-p.ensures c.write_decimal.ensures
    ▸ c.key-2.ensures ▸ same (λ degree. string (degree_text degree) ∷ []) degree c.write_degree.ensures
    ▸ c.key-3.ensures ▸ c.write_ids_on.ensures
    ▸ c.key-4.ensures ▸ same (λ (p : Profile). string (name_of p c.args.sat) ∷ []) c.profile-p.ensures c.write_sat_name.ensures
    ▸ c.key-5.ensures ▸ c.u64.ensures
    ▸ c.key-6.ensures ▸ same (λ place. tokens_of (place_tree place)) c.locate.ensures c.write_place.ensures
    ▸ c.key-7.ensures ▸ same (λ text. string text ∷ []) rarity c.string.ensures
    ▸ c.end_object.ensures

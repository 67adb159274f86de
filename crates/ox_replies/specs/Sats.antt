-- The tree of a satoshi.
use Rattle.std.specs.Prelude.{ℕ, codes}
use Rattle.serde_json.specs.Data.{Data, string, object, no_members, member}
use Rattle.ox_sat.specs.declared.profiles.Profile.{Profile}
use Rattle.ox_sat.specs.Degrees.{degree_at, rarity_by}
use Rattle.ox_sat.specs.Names.{name_of}
use Rattle.ox_inscribe.specs.Inscriptions.{on}
use Rattle.ox_model.specs.Index.{Index}
use Rattle.ox_model.specs.Where.{where_is}
use Rattle.ox_replies.specs.Inscriptions.{ids_tree}
use Rattle.ox_replies.specs.Texts.{decimal_text, degree_text, rarity_text}
use Rattle.ox_replies.specs.Values.{count, place_tree}

abbrev pub sat_tree : Profile → Index → ℕ → Data
sat_tree p index sat = object (
    member (codes "decimal") (string (decimal_text p sat)) (
    member (codes "degree") (string (degree_text (degree_at p sat))) (
    member (codes "inscriptions") (ids_tree index.inscriptions (on index.inscriptions sat)) (
    member (codes "name") (string (name_of p sat)) (
    member (codes "number") (count sat) (
    member (codes "place") (place_tree (where_is index sat)) (
    member (codes "rarity") (string (rarity_text (rarity_by (degree_at p sat)))) no_members)))))))

-- The table of routes, and which route a path takes.
use Rattle.std.specs.Prelude.{ℕ, Bool, true, false, not, ◌&&◌, ◌==◌, List, [], ◌∷◌, Option, None}
use Rattle.std.specs.Prelude.{length, drop, codes, if◌then◌else◌}
use Rattle.std.specs.Prelude.{nat_eq}
use Rattle.std.specs.List.{find, list_any, starts_with}
use Rattle.std.specs.Option.{option_map}
use Rattle.std.specs.Str.{is_utf8}
use Rattle.ox_http.specs.declared.Method.{Method}
use Rattle.ox_http.specs.declared.Method.TheVariants.{Get, Post}
use Rattle.ox_routes.specs.declared.route.Route.{Route}
use Rattle.ox_routes.specs.declared.route.Route.TheVariants.{Audit, BlockHash, Connect, Content}
use Rattle.ox_routes.specs.declared.route.Route.TheVariants.{Disconnect, Inscription, Inscriptions}
use Rattle.ox_routes.specs.declared.route.Route.TheVariants.{Output, Rune, Runes, Sat, Status}

-- A row of the table: a text, whether a part of the asker's choice stands behind it, and the method
-- that the route has.
pub record Row : Type 0 where
  pub text : List ℕ
  pub has_part : Bool
  pub method : Method

abbrev pub plain : List ℕ → Row
plain text = record { text = text; has_part = false; method = Get }

abbrev pub with_part : List ℕ → Row
with_part text = record { text = text; has_part = true; method = Get }

abbrev pub command : List ℕ → Row
command text = record { text = text; has_part = false; method = Post }

abbrev pub row_of : Route → Row
row_of Audit = plain (codes "/audit")
row_of BlockHash = with_part (codes "/blockhash/")
row_of Connect = command (codes "/connect")
row_of Content = with_part (codes "/content/")
row_of Disconnect = command (codes "/disconnect")
row_of Inscription = with_part (codes "/inscription/")
row_of Inscriptions = with_part (codes "/inscriptions/")
row_of Output = with_part (codes "/output/")
row_of Rune = with_part (codes "/rune/")
row_of Runes = with_part (codes "/runes/")
row_of Sat = with_part (codes "/sat/")
row_of Status = plain (codes "/status")

-- all routes
abbrev pub routes : List Route
routes =
    Audit ∷ BlockHash ∷ Connect ∷ Content ∷ Disconnect ∷ Inscription ∷ Inscriptions ∷ Output
    ∷ Rune ∷ Runes ∷ Sat ∷ Status ∷ []

-- one or more bytes without a slash
abbrev pub is_part : List ℕ → Bool
is_part [] = false
is_part (b ∷ bytes) = not (list_any (λ c. c == 47) (b ∷ bytes))

-- what a path has behind a row's text is a part, or nothing where the row has none
abbrev pub fits : Bool → List ℕ → Bool
fits true rest = is_part rest
fits false [] = true
fits false (b ∷ rest) = false

-- whether a row takes a path
abbrev pub takes : Row → List ℕ → Bool
takes row path = starts_with nat_eq path row.text && fits row.has_part (drop (length row.text) path)

-- the route whose row takes a path
unfoldable pub route_taken : List ℕ → Option Route
route_taken path = find (λ route. takes (row_of route) path) routes

-- the route that a path takes, and what stands behind its row's text; none where the path isn't
-- UTF-8
abbrev pub route_and_part : List ℕ → Option (Route × List ℕ)
route_and_part path = if is_utf8 path
    then option_map (λ route. (route, drop (length (row_of route).text) path)) (route_taken path)
    else None

-- The table's rows as a router's.
use Rattle.std.specs.Prelude.{◌≡◌, None, Result, Ok, Err, ℕ, Bool, true, false, List, [], ◌∷◌, ◌++◌}
use Rattle.matchit.specs.Rows.{param_token, RowsOf}
use Rattle.matchit.specs.Route.{Scan}
use Rattle.matchit.specs.Router.{RouteOf, nearest}
use Rattle.matchit.specs.declared.error.InsertError.{InsertError}
use Rattle.ox_routes.specs.declared.route.Route.{Route}
use Rattle.ox_routes.specs.Table.{row_of}

-- the tokens of a row's part
abbrev pub part_tokens : Bool → List ℕ
part_tokens true = param_token ∷ []
part_tokens false = []

-- the pattern of a route's row, with the route
abbrev pub entry : Route → List ℕ × Route
entry route = ((row_of route).text ++ part_tokens (row_of route).has_part, route)

-- a router's row, without the names of its parameters
abbrev pub row_shown : List ℕ × RouteOf Route → List ℕ × Route
row_shown row = (row.0, row.1.value)

-- a route's text reads as a pattern that none of a router's rows clashes with
abbrev pub MayJoin : Result Scan InsertError → RowsOf (RouteOf Route) → Type 0
MayJoin (Ok scan) rows = nearest scan.pattern rows ≡ None
MayJoin (Err e) rows = ⊥

-- Which requests are commands: the POSTs to the two routes of commands, on a link of the operator's
-- door.
use Rattle.std.specs.Prelude.{ℕ, Bool, true, List, Option, Some, None}
use Rattle.std.specs.Option.{option_and_then}
use Rattle.ox_feed.specs.declared.command.Command.{Command}
use Rattle.ox_feed.specs.declared.command.Command.TheVariants as commands
use Rattle.ox_http.specs.declared.Method.{Method}
use Rattle.ox_http.specs.declared.Method.TheVariants.{Post}
use Rattle.ox_http.specs.declared.Request.{Request}
use Rattle.ox_routes.specs.declared.route.Route.{Route}
use Rattle.ox_routes.specs.declared.route.Route.TheVariants.{Connect, Disconnect}
use Rattle.ox_routes.specs.Table.{route_and_part}

-- the command that a route carries out: it connects the block that is the body, or takes the newest
-- block off, whatever the body is
abbrev pub command_with : List ℕ → Route → Option Command
command_with body Connect = Some (commands.Connect body)
command_with body Disconnect = Some commands.Disconnect
command_with body route = None

-- the command of a path and a body
abbrev pub command_at : List ℕ → List ℕ → Option Command
command_at path body =
    option_and_then (λ (at : Route × List ℕ). command_with body at.0) (route_and_part path)

-- the command of a request with this method; whether its link is the operator's
abbrev pub command_by : Bool → Method → Request → Option Command
command_by true Post request = command_at request.path request.body
command_by operator method request = None

-- the command of a request, if it has one
abbrev pub command_of : Bool → Request → Option Command
command_of operator request = command_by operator request.method request

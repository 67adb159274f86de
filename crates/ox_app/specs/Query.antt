-- What a query shows.
use Rattle.std.specs.Prelude.{ℕ, false, List}
use Rattle.ox_model.specs.Stack.{Stack}
use Rattle.ox_asof.specs.Reply.{get_of}
use Rattle.ox_desk.specs.Asked.{asked_on}
use Rattle.ox_desk.specs.Queries.{query_reply}

-- the body of the reply to a GET of a path
unfoldable pub query_body : List ℕ → Stack → List ℕ
query_body path stack = (query_reply (asked_on stack) (get_of path false)).body
